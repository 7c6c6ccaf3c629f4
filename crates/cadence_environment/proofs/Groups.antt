-- The lines of a text, and the bytes of an id.
use Rattle.std.proofs.Common.{◌≡◌, ◌≢◌, ◌==◌, ◌&&◌, ◌||◌, ◌<◌, ◌≤◌, ◌-◌, ◌∙◌, ◌∷◌, ◌++◌, [], ℕ, Bool, true, false, List, Option, None, Some, if◌then◌else◌, ap, refl, subst, arith}
use Rattle.std.specs.Prelude.{All, codes, length, take}
use Rattle.std.specs.Char.{is_ascii, is_ascii_digit}
use Rattle.std.specs.List.{list_all, slice_split}
use Rattle.std.specs.Option.{option_or}
use Rattle.std.specs.Str.{IsUtf8}
use Rattle.std.proofs.Math.Dec.{leb}
use Rattle.std.proofs.lemmas.Bool.{leb-true, lt-ltb, ltb-true, ne_eqb}
use Rattle.std.proofs.lemmas.List.Splits.{slice_split_at, slice_split_none}
use Rattle.std.proofs.lemmas.List.Sums.{AllPass-from_list_all}
use Rattle.std.proofs.lemmas.Option.{none-some, same_Some}
use Rattle.std.proofs.lemmas.Str.{IsUtf8-from_ascii}
use Rattle.std.proofs.lemmas.Str.Ascii.{IsAscii-from_all}
use Rattle.cadence_environment.specs.Containers.{container_of, fits, has_shape, id_at_end, id_of_line, id_of_lines, is_id, is_scope}

-- A line without a newline, and what comes after its newline.
pub first_line : (line rest : List ℕ) → All (λ b. b ≢ 10) line
    → container_of (line ++ 10 ∷ rest) ≡ option_or (id_of_line line) (container_of rest)
first_line line rest free =
    ap id_of_lines (slice_split_at (λ b. b == 10) line 10 rest (λ k d inside. ne_eqb _ 10 (free k d inside)) refl)

or_none : (o : Option (List ℕ)) → option_or o None ≡ o
or_none None = refl
or_none (Some x) = refl

-- A text of one line.
pub one_line : (line : List ℕ) → All (λ b. b ≢ 10) line → container_of line ≡ id_of_line line
one_line line free =
    ap id_of_lines (slice_split_none (λ b. b == 10) line (λ k d inside. ne_eqb _ 10 (free k d inside))) ∙ or_none (id_of_line line)

-- Tests that hold together, and one of two.
left : (x y : Bool) → (x && y) ≡ true → x ≡ true
left true y h = refl
left false y h = h

right : (x y : Bool) → (x && y) ≡ true → y ≡ true
right true y h = h
right false y h = absurd cc

both : (x y : Bool) → x ≡ true → y ≡ true → (x && y) ≡ true
both true y h g = g
both false y h g = absurd cc

either : (x y : Bool) (goal : Bool) → (x ≡ true → goal ≡ true) → (y ≡ true → goal ≡ true) → (x || y) ≡ true → goal ≡ true
either true y goal f g h = f refl
either false y goal f g h = g h

choice : (x y z : Bool) (goal : Bool) → (y ≡ true → goal ≡ true) → (z ≡ true → goal ≡ true) → (if x then y else z) ≡ true → goal ≡ true
choice true y z goal f g h = f h
choice false y z goal f g h = g h

digit_ascii : (b : ℕ) → is_ascii_digit b ≡ true → is_ascii b ≡ true
digit_ascii b h =
    let below : b ≤ 57 = leb-true b 57 (right (leb 48 b) (leb b 57) h) in
    let less : b < 128 = omega arith in lt-ltb b 128 less

digits_ascii : (text : List ℕ) → list_all is_ascii_digit text ≡ true → list_all is_ascii text ≡ true
digits_ascii [] h = refl
digits_ascii (b ∷ bs) h = both _ _ (digit_ascii b (left _ _ h)) (digits_ascii bs (right _ _ h))

-- A text with a shape is ASCII.
shape_ascii : (shape text : List ℕ) → has_shape shape text ≡ true → list_all is_ascii text ≡ true
shape_ascii [] [] h = refl
shape_ascii [] (b ∷ bs) h = absurd cc
shape_ascii (s ∷ ss) [] h = refl
shape_ascii (s ∷ ss) (b ∷ bs) h =
    choice (s == 43) _ _ (list_all is_ascii (b ∷ bs)) (digits_ascii (b ∷ bs))
    (λ g. both _ _ (left _ _ (left (fits s b) _ g)) (shape_ascii ss bs (right (fits s b) _ g))) h

id_ascii : (text : List ℕ) (is_last : Bool) → is_id text is_last ≡ true → list_all is_ascii text ≡ true
id_ascii text is_last =
    let digits = codes "hhhhhhhhhhhhhhhhhhhhhhhhhhhhhhhhhhhhhhhhhhhhhhhhhhhhhhhhhhhhhhhh" in
    let task = codes "hhhhhhhhhhhhhhhhhhhhhhhhhhhhhhhh-+" in
    let uuid = codes "hhhhhhhh_hhhh_hhhh_hhhh_hhhhhhhhhhhh" in
    let garden = codes "hhhhhhhh-hhhh-hhhh-hhhh-hhhh" in
    let last = is_last && has_shape garden text in
    let goal = list_all is_ascii text in
    either (has_shape digits text) (has_shape task text || (has_shape uuid text || last)) goal (shape_ascii digits text)
    (either (has_shape task text) (has_shape uuid text || last) goal (shape_ascii task text)
    (either (has_shape uuid text) last goal (shape_ascii uuid text)
    (λ h. shape_ascii garden text (right is_last (has_shape garden text) h))))

-- An option that is one of two has the bytes of one of them.
pick : (b : Bool) (whole id : List ℕ) (rest : Option (List ℕ)) → (b ≡ true → list_all is_ascii whole ≡ true)
    → (rest ≡ Some id → list_all is_ascii id ≡ true) → (if b then Some whole else rest) ≡ Some id → list_all is_ascii id ≡ true
pick true whole id rest f g h = subst (λ t. list_all is_ascii t ≡ true) (same_Some whole id h) (f refl)
pick false whole id rest f g h = g h

pick_line : (b : Bool) (x y : Option (List ℕ)) (id : List ℕ) → (x ≡ Some id → list_all is_ascii id ≡ true)
    → (y ≡ Some id → list_all is_ascii id ≡ true) → (if b then x else y) ≡ Some id → list_all is_ascii id ≡ true
pick_line true x y id f g h = f h
pick_line false x y id f g h = g h

pick_first : (x y : Option (List ℕ)) (id : List ℕ) → (x ≡ Some id → list_all is_ascii id ≡ true)
    → (y ≡ Some id → list_all is_ascii id ≡ true) → option_or x y ≡ Some id → list_all is_ascii id ≡ true
pick_first None y id f g h = g h
pick_first (Some x) y id f g h = f h

end_ascii : (text : List ℕ) (is_last : Bool) (id : List ℕ) → id_at_end text is_last ≡ Some id → list_all is_ascii id ≡ true
end_ascii [] is_last id h = absurd (none-some id h)
end_ascii (c ∷ cs) is_last id h = pick (is_id (c ∷ cs) is_last) (c ∷ cs) id _ (id_ascii (c ∷ cs) is_last) (end_ascii cs is_last id) h

line_ascii : (line id : List ℕ) → id_of_line line ≡ Some id → list_all is_ascii id ≡ true
line_ascii line id =
    let unit = take (length line - 6) line in
    pick_line (is_scope line) (id_at_end unit false) (id_at_end line true) id (end_ascii unit false id) (end_ascii line true id)

lines_ascii : (lines : List (List ℕ)) (id : List ℕ) → id_of_lines lines ≡ Some id → list_all is_ascii id ≡ true
lines_ascii [] id h = absurd (none-some id h)
lines_ascii (line ∷ lines) id h = pick_first (id_of_line line) (id_of_lines lines) id (line_ascii line id) (lines_ascii lines id) h

-- The container that a text says is UTF-8.
pub container_utf8 : (text id : List ℕ) → container_of text ≡ Some id → IsUtf8 id
container_utf8 text id h =
    let lines = slice_split (λ b. b == 10) text in
    IsUtf8-from_ascii id (IsAscii-from_all id (λ k d inside. ltb-true _ 128 (AllPass-from_list_all is_ascii id (lines_ascii lines id h) k d inside)))
