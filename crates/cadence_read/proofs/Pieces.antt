-- Texts that are split at each mark, and the values that are read from the pieces.
use Rattle.std.proofs.Common.{◌≡◌, ◌≢◌, ℕ, ◌<◌, List, [], ◌∷◌, ◌++◌, length, map, get_or, refl, sym, ap, ◌∙◌, subst, arith, eqb, false}
use Rattle.std.proofs.Common.{Option, Some, None}
use Rattle.std.specs.List.{All, AllByRecursion, join_with_byte, slice_split}
use Rattle.std.proofs.lemmas.Bool.{ne_eqb, eq-eqb}
use Rattle.std.proofs.lemmas.List.{append_assoc, append-nil, length-append, map-append}
use Rattle.std.proofs.lemmas.List.Elements.{All-from_recursion, All-push, recursion_from_All}
use Rattle.std.proofs.lemmas.List.Splits.{slice_split_none, slice_split_at, slice_split-cons_no, join_with_byte-slice_split, length-slice_split}
use Rattle.cadence_value.proofs.lists.SplitTexts.{Lacks, each_append}
use Rattle.cadence_read.specs.LineTexts.{pieces_left}
use Rattle.cadence_value.specs.Finds.{HasNone}
use Rattle.cadence_read.specs.Reads.{PrintsAs}

-- the pieces of a text, split at each such byte
abbrev pub pieces : ℕ → List ℕ → List (List ℕ)
pieces c text = slice_split (λ b. eqb b c) text

none_is : (c : ℕ) (xs : List ℕ) → All (λ b. b ≢ c) xs → All (λ b. eqb b c ≡ false) xs
none_is c xs h k d inside = ne_eqb (get_or xs k d) c (h k d inside)

-- A text without the byte is one piece.
pub pieces-none : (c : ℕ) (xs : List ℕ) → All (λ b. b ≢ c) xs → pieces c xs ≡ xs ∷ []
pieces-none c xs h = slice_split_none (λ b. eqb b c) xs (none_is c xs h)

-- The first piece of a text ends at the first byte that cuts it.
pub pieces-at : (c : ℕ) (xs ys : List ℕ) → All (λ b. b ≢ c) xs → pieces c (xs ++ c ∷ ys) ≡ xs ∷ pieces c ys
pieces-at c xs ys h = slice_split_at (λ b. eqb b c) xs c ys (none_is c xs h) (eq-eqb c c refl)

-- Pieces without the byte, joined by it and then split at it, are the same pieces.
pub pieces-joined : (c : ℕ) (x : List ℕ) (xs : List (List ℕ)) → AllByRecursion (Lacks c) (x ∷ xs) → pieces c (join_with_byte c (x ∷ xs)) ≡ x ∷ xs
pieces-joined c x [] (h, hs) = pieces-none c x (All-from_recursion (λ b. b ≢ c) x h)
pieces-joined c x (y ∷ ys) (h, hs) =
    pieces-at c x (join_with_byte c (y ∷ ys)) (All-from_recursion (λ b. b ≢ c) x h) ∙ ap (λ ps. x ∷ ps) (pieces-joined c y ys hs)

-- A mark without the byte, put before a text, is at the front of the first piece.
pub pieces-marked : (c : ℕ) (mark text first : List ℕ) (rest : List (List ℕ)) → Lacks c mark → pieces c text ≡ first ∷ rest
    → pieces c (mark ++ text) ≡ (mark ++ first) ∷ rest
pieces-marked c [] text first rest h e = e
pieces-marked c (m ∷ mark) text first rest (h, hs) e =
    let other : eqb m c ≡ false = ne_eqb m c h in
    let later : pieces c (mark ++ text) ≡ (mark ++ first) ∷ rest = pieces-marked c mark text first rest hs e in
    slice_split-cons_no (λ b. eqb b c) m (mark ++ text) other ∙ rw later refl

joined-front : (c : ℕ) (mark first : List ℕ) (rest : List (List ℕ))
    → join_with_byte c ((mark ++ first) ∷ rest) ≡ mark ++ join_with_byte c (first ∷ rest)
joined-front c mark first [] = refl
joined-front c mark first (next ∷ rest) = append_assoc mark first (c ∷ join_with_byte c (next ∷ rest))

-- If the first piece of a text begins with a mark, then the text begins with it.
pub marked_front : (c : ℕ) (text mark first : List ℕ) (rest : List (List ℕ)) → pieces c text ≡ (mark ++ first) ∷ rest
    → text ≡ mark ++ join_with_byte c (first ∷ rest)
marked_front c text mark first rest e = sym (join_with_byte-slice_split c text) ∙ ap (join_with_byte c) e ∙ joined-front c mark first rest

-- One more value is read: it is a good one, and it prints as the next piece.
pub read_more : {C Y : Type 0} (Good : Y → Type 0) (shown : Y → List ℕ) (view : C → Y) (read more : List C) (c : C) (piece : List ℕ)
    (later all left : List (List ℕ))
    → more ≡ read ++ c ∷ [] → map shown (map view read) ++ left ≡ all → left ≡ piece ∷ later → All Good (map view read)
    → Good (view c) × (shown (view c) ≡ piece) → (map shown (map view more) ++ later ≡ all) × All Good (map view more)
read_more Good shown view read more c piece later all left e before next each (good, here) =
    let views : map view more ≡ map view read ++ view c ∷ [] = ap (map view) e ∙ map-append view read (c ∷ []) in
    let texts : map shown (map view more) ≡ map shown (map view read) ++ piece ∷ [] = ap (map shown) views
    ∙ map-append shown (map view read) (view c ∷ []) ∙ ap (λ t. map shown (map view read) ++ t ∷ []) here in (
      ap (λ ts. ts ++ later) texts ∙ append_assoc (map shown (map view read)) (piece ∷ []) later
          ∙ ap (λ ts. map shown (map view read) ++ ts) (sym next) ∙ before,
      subst (All Good) (sym views) (All-push Good (map view read) (view c) each good),
    )

-- If no good value prints as one of the pieces, then the pieces are not those of good values.
refused_in : {Y : Type 0} (Good : Y → Type 0) (shown : Y → List ℕ) (ys : List Y) (before later : List (List ℕ)) (piece : List ℕ)
    → HasNone (PrintsAs Good shown piece) → AllByRecursion Good ys → map shown ys ≡ before ++ piece ∷ later → ⊥
refused_in Good shown [] before later piece none good e = absurd (omega (arith, ap (λ l. length l) e, length-append before (piece ∷ later)))
refused_in Good shown (y ∷ ys) [] later piece none (good, goods) e = let here : shown y ≡ piece = cc in none y (good, here)
refused_in Good shown (y ∷ ys) (b ∷ before) later piece none (good, goods) e =
    let rest : map shown ys ≡ before ++ piece ∷ later = cc in refused_in Good shown ys before later piece none goods rest

pub refused_at : {Y : Type 0} (Good : Y → Type 0) (shown : Y → List ℕ) (ys : List Y) (before left later all : List (List ℕ)) (piece : List ℕ)
    → before ++ left ≡ all → left ≡ piece ∷ later → HasNone (PrintsAs Good shown piece) → All Good ys → map shown ys ≡ all → ⊥
refused_at Good shown ys before left later all piece so_far next none good e =
    refused_in Good shown ys before later piece none (recursion_from_All Good ys good) (e ∙ sym so_far ∙ ap (λ ts. before ++ ts) next)

-- If no text is left, then all pieces were read.
pub read_all : (read all : List (List ℕ)) (mark : ℕ) (left : Option (List ℕ)) → left ≡ None → read ++ pieces_left mark left ≡ all → read ≡ all
read_all read all mark left none e = sym (append-nil read) ∙ ap (λ o. read ++ pieces_left mark o) (sym none) ∙ e

-- A text that is split at each mark has a first piece.
pub first_piece : (c : ℕ) (text : List ℕ) → (piece : List ℕ) × (later : List (List ℕ)) × (pieces c text ≡ piece ∷ later)
first_piece c text = at (pieces c text) (omega (arith, length-slice_split (λ b. eqb b c) text)) refl
  where
    at : (ps : List (List ℕ)) → 0 < length ps → pieces c text ≡ ps → (piece : List ℕ) × (later : List (List ℕ)) × (pieces c text ≡ piece ∷ later)
    at [] some e = absurd (omega arith)
    at (p ∷ ps) some e = (p, ps, e)

-- A name and a colon, put before a text, are at the front of its first piece.
pub pieces-named : (c : ℕ) (name rest first : List ℕ) (others : List (List ℕ)) → Lacks c name → 58 ≢ c → pieces c rest ≡ first ∷ others
    → pieces c (name ++ 58 ∷ rest) ≡ (name ++ 58 ∷ first) ∷ others
pieces-named c name rest first others plain other e =
    let both : Lacks c (name ++ 58 ∷ []) = each_append (λ b. b ≢ c) name (58 ∷ []) plain (other, tt) in
    ap (pieces c) (sym (append_assoc name (58 ∷ []) rest)) ∙ pieces-marked c (name ++ 58 ∷ []) rest first others both e
    ∙ ap (λ t. t ∷ others) (append_assoc name (58 ∷ []) first)

-- If a name and a colon are at the front of the first piece, then they are at the front of the text.
pub named_front : (c : ℕ) (text name first : List ℕ) (others : List (List ℕ)) → pieces c text ≡ (name ++ 58 ∷ first) ∷ others
    → text ≡ name ++ 58 ∷ join_with_byte c (first ∷ others)
named_front c text name first others e =
    marked_front c text (name ++ 58 ∷ []) first others (e ∙ ap (λ t. t ∷ others) (sym (append_assoc name (58 ∷ []) first)))
    ∙ append_assoc name (58 ∷ []) (join_with_byte c (first ∷ others))

-- If the text that is left begins with a name and a colon, then so does its first piece.
pub next_named : (c : ℕ) (left : Option (List ℕ)) (text name rest first : List ℕ) (later : List (List ℕ)) → left ≡ Some text
    → text ≡ name ++ 58 ∷ rest → Lacks c name → 58 ≢ c → pieces c rest ≡ first ∷ later → pieces_left c left ≡ (name ++ 58 ∷ first) ∷ later
next_named c left text name rest first later some whole plain other e =
    ap (pieces_left c) some ∙ ap (pieces c) whole ∙ pieces-named c name rest first later plain other e
