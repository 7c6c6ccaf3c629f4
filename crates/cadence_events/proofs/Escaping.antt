-- Escaped texts, cut at a newline or at a colon.
use Rattle.std.proofs.Common.{suc, ◌≡◌, ◌≢◌, ℕ, ◌+◌, ◌-◌, ◌<◌, List, [], ◌∷◌, ◌++◌, length, take, get_or, refl, sym, ap, ap₂, ◌∙◌, arith, Bool, true, false}
use Rattle.std.specs.Prelude.{All, codes, ◌==◌, ◌&&◌, if◌then◌else◌}
use Rattle.std.specs.List.{AllByRecursion}
use Rattle.std.proofs.lemmas.Bool.{cond-false, ne_eqb}
use Rattle.std.proofs.lemmas.List.{append-nil, append_assoc, length-append, take_more}
use Rattle.std.proofs.lemmas.List.Concat.{flat_map-append}
use Rattle.std.proofs.lemmas.List.Elements.{recursion_from_All}
use Rattle.cadence_events.specs.Escapes.{escaped, escaped_byte, escaped_message, between, marked}

pub escaped-append : (a b : List ℕ) → escaped (a ++ b) ≡ escaped a ++ escaped b
unfolding escaped
escaped-append a b = flat_map-append escaped_byte a b

plain_byte : (b : ℕ) → b ≢ 10 → escaped_byte b ≡ b ∷ []
plain_byte b h = cond-false (b == 10) (codes "\\n") (b ∷ []) (ne_eqb b 10 h)

plain_text : (text : List ℕ) → AllByRecursion (λ b. b ≢ 10) text → escaped text ≡ text
unfolding escaped
plain_text [] h = refl
plain_text (b ∷ text) h = ap₂ (λ x y. x ++ y) (plain_byte b h.0) (plain_text text h.1)

-- The escaped form of a text without a newline is the text itself.
pub escaped_plain : (text : List ℕ) → All (λ b. b ≢ 10) text → escaped text ≡ text
escaped_plain text h = plain_text text (recursion_from_All (λ b. b ≢ 10) text h)

-- A text that is cut at its first newline.
pub escaped_cut : (text front rest : List ℕ) → text ≡ front ++ 10 ∷ rest → All (λ b. b ≢ 10) front → escaped text ≡ front ++ (codes "\\n" ++ escaped rest)
unfolding escaped
escaped_cut text front rest e h =
    ap escaped e ∙ escaped-append front (10 ∷ rest) ∙ ap (λ t. t ++ escaped (10 ∷ rest)) (escaped_plain front h)

one_more : (text : List ℕ) (i : ℕ) → i < length text → escaped (take (i + 1) text) ≡ escaped (take i text) ++ escaped_byte (get_or text i 0)
unfolding escaped
one_more text i below =
    ap escaped (take_more text i 0 below) ∙ escaped-append (take i text) (get_or text i 0 ∷ [])
    ∙ ap (λ x. escaped (take i text) ++ x) (append-nil (escaped_byte (get_or text i 0)))

-- The length of an escaped text is the length of the text and the number of its newlines.
pub newline_counted : (text : List ℕ) (i n : ℕ) → i < length text → get_or text i 0 ≡ 10 → length (escaped (take i text)) ≡ i + n
    → length (escaped (take (i + 1) text)) ≡ (i + 1) + (n + 1)
newline_counted text i n below newline before =
    omega (
      arith,
      before,
      ap length (one_more text i below ∙ ap (λ x. escaped (take i text) ++ x) (ap escaped_byte newline)),
      length-append (escaped (take i text)) (codes "\\n"),
    )

pub plain_counted : (text : List ℕ) (i n : ℕ) → i < length text → get_or text i 0 ≢ 10 → length (escaped (take i text)) ≡ i + n
    → length (escaped (take (i + 1) text)) ≡ (i + 1) + n
plain_counted text i n below plain before =
    omega (
      arith,
      before,
      ap length (one_more text i below ∙ ap (λ x. escaped (take i text) ++ x) (plain_byte (get_or text i 0) plain)),
      length-append (escaped (take i text)) (get_or text i 0 ∷ []),
    )

-- the last byte of a text, and 0 if the text is empty
abbrev pub last_byte : List ℕ → ℕ
last_byte text = get_or text (length text - 1) 0

last_later : (a b : ℕ) (text : List ℕ) → last_byte (b ∷ text) ≡ last_byte (a ∷ b ∷ text)
last_later a b text =
    let next : length (a ∷ b ∷ text) - 1 ≡ suc (length (b ∷ text) - 1) = omega arith in
    sym (ap (λ n. get_or (a ∷ b ∷ text) n 0) next)

-- Before a byte that is no colon, nothing more is written.
unmarked : (m : Bool) → (if (m && false) then codes "\\" else []) ≡ []
unmarked true = refl
unmarked false = refl

no_mark : (a b : ℕ) → b ≢ 58 → between a b ≡ []
no_mark a b other = ap (λ t. if (a == 109 && t) then codes "\\" else []) (ne_eqb b 58 other) ∙ unmarked (a == 109)

colon_first : (rest : List ℕ) → marked (58 ∷ rest) ≡ 58 ∷ marked rest
colon_first [] = refl
colon_first (b ∷ rest) = refl

-- A message is cut at its first colon.
marked_cut : (front rest : List ℕ) → AllByRecursion (λ b. b ≢ 58) front
    → marked (front ++ 58 ∷ rest) ≡ front ++ (between (last_byte front) 58 ++ 58 ∷ marked rest)
marked_cut [] rest h = colon_first rest
marked_cut (a ∷ []) rest h = ap (λ t. a ∷ (between a 58 ++ t)) (colon_first rest)
marked_cut (a ∷ b ∷ front) rest h =
    ap₂ (λ s t. a ∷ (s ++ t)) (no_mark a b h.1.0) (marked_cut (b ∷ front) rest h.1)
    ∙ ap (λ l. a ∷ b ∷ (front ++ (between l 58 ++ 58 ∷ marked rest))) (last_later a b front)

marked_plain : (text : List ℕ) → AllByRecursion (λ b. b ≢ 58) text → marked text ≡ text
marked_plain [] h = refl
marked_plain (a ∷ []) h = refl
marked_plain (a ∷ b ∷ text) h = ap₂ (λ s t. a ∷ (s ++ t)) (no_mark a b h.1.0) (marked_plain (b ∷ text) h.1)

escaped_mark : (m : Bool) → escaped (if m then codes "\\" else []) ≡ (if m then codes "\\" else [])
unfolding escaped
escaped_mark true = refl
escaped_mark false = refl

pub message_cut : (text front rest : List ℕ) → text ≡ front ++ 58 ∷ rest → All (λ b. b ≢ 58) front
    → escaped_message text ≡ escaped front ++ (between (last_byte front) 58 ++ 58 ∷ escaped_message rest)
unfolding escaped escaped_message
message_cut text front rest e h =
    let mark = between (last_byte front) 58 in
    ap escaped_message e ∙ ap escaped (marked_cut front rest (recursion_from_All (λ b. b ≢ 58) front h))
    ∙ escaped-append front (mark ++ 58 ∷ marked rest)
    ∙ ap (λ t. escaped front ++ t) (escaped-append mark (58 ∷ marked rest)
    ∙ ap (λ t. t ++ escaped (58 ∷ marked rest)) (escaped_mark (last_byte front == 109 && true)))

pub message_plain : (text : List ℕ) → All (λ b. b ≢ 58) text → escaped_message text ≡ escaped text
unfolding escaped_message
message_plain text h = ap escaped (marked_plain text (recursion_from_All (λ b. b ≢ 58) text h))

mark_first : (rest : List ℕ) → marked (95 ∷ rest) ≡ 95 ∷ marked rest
mark_first [] = refl
mark_first (b ∷ rest) = refl

-- An underscore (95) belongs to no escape, so the texts on both sides of it are escaped alone.
marked_sides : (front rest : List ℕ) → marked (front ++ 95 ∷ rest) ≡ marked front ++ 95 ∷ marked rest
marked_sides [] rest = mark_first rest
marked_sides (a ∷ []) rest = ap₂ (λ s t. a ∷ (s ++ t)) (no_mark a 95 (λ e. omega (arith, e))) (mark_first rest)
marked_sides (a ∷ b ∷ front) rest =
    ap (λ t. a ∷ (between a b ++ t)) (marked_sides (b ∷ front) rest)
    ∙ ap (λ t. a ∷ t) (sym (append_assoc (between a b) (marked (b ∷ front)) (95 ∷ marked rest)))

pub message_sides : (front rest : List ℕ) → escaped_message (front ++ 95 ∷ rest) ≡ escaped_message front ++ 95 ∷ escaped_message rest
unfolding escaped escaped_message
message_sides front rest = ap escaped (marked_sides front rest) ∙ escaped-append (marked front) (95 ∷ marked rest)
