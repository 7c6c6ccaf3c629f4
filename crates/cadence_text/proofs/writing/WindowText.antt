-- A window on a text: which bytes it stores, and what two windows with the same bytes imply about the texts.
use Rattle.std.proofs.Common.{◌≡◌, ℕ, ◌+◌, ◌-◌, ◌<◌, ◌≤◌, min, List, [], ◌++◌, length, take, drop, sym, ap, ap₂, ◌∙◌, arith, inl, inr, ◌⊎◌}
use Rattle.std.proofs.lemmas.List.{append-nil, append_assoc, take_all, take-append-le, length-take, length-drop}
use Rattle.std.proofs.lemmas.Bool.{cases_lt}
use Rattle.std.proofs.Math.Seq.{drop-append-add, drop-nil, take-add, take-append-add, take-nil}

-- Skipping a text as a whole leaves fewer bytes of the rest to be skipped.
pub passed : (text rest : List ℕ) (skip : ℕ) → length text ≤ skip → drop (skip - length text) rest ≡ drop skip (text ++ rest)
passed text rest skip whole =
    let e : length text + (skip - length text) ≡ skip = omega arith in
    sym (drop-append-add text rest (skip - length text)) ∙ ap (λ n. drop n (text ++ rest)) e

-- A window with room for `room` more bytes stores the first `count` bytes of a text.
pub shown_more : (text rest : List ℕ) (room count : ℕ) → (count ≡ length text) ⊎ (count ≡ room) → count ≤ length text → count ≤ room
    → take count text ++ take (room - count) rest ≡ take room (text ++ rest)
shown_more text rest room count (inl whole) within fits =
    let e : length text + (room - count) ≡ room = omega arith in
    ap (λ t. t ++ take (room - count) rest) (take_all count text (omega arith)) ∙ sym (take-append-add text rest (room - count))
    ∙ ap (λ n. take n (text ++ rest)) e
shown_more text rest room count (inr full) within fits =
    let none : room - count ≡ 0 = omega arith in
    ap (λ n. take count text ++ take n rest) none ∙ append-nil (take count text) ∙ ap (λ n. take n text) full
    ∙ sym (take-append-le room text rest (omega arith))

pub window_shows : (bytes changed text rest : List ℕ) (shown count skip : ℕ) → skip ≡ 0 → shown ≤ 512
    → count ≡ min (length text) (512 - shown) → take (shown + count) changed ≡ take shown bytes ++ take count text
    → take (shown + count) changed ++ take (512 - (shown + count)) (drop skip rest) ≡ take shown bytes ++ take (512 - shown)
    (drop skip (text ++ rest))
window_shows bytes changed text rest shown count skip none within least written =
    let all : (xs : List ℕ) → drop skip xs ≡ xs = λ xs. ap (λ k. drop k xs) none in
    let room : 512 - (shown + count) ≡ (512 - shown) - count = omega arith in
    let which : (count ≡ length text) ⊎ (count ≡ 512 - shown) = least_is (length text) (512 - shown) count least in
    ap₂ (λ s t. s ++ t) written (ap₂ (λ k xs. take k xs) room (all rest))
    ∙ append_assoc (take shown bytes) (take count text) (take ((512 - shown) - count) rest)
    ∙ ap (λ t. take shown bytes ++ t) (shown_more text rest (512 - shown) count which (omega arith) (omega arith)
    ∙ ap (λ xs. take (512 - shown) xs) (sym (all (text ++ rest))))
  where
    least_is : (a b c : ℕ) → c ≡ min a b → (c ≡ a) ⊎ (c ≡ b)
    least_is a b c e = elim (cases_lt a b) [ inl h ↦ inl (omega arith) | inr h ↦ inr (omega arith) ]

-- Two texts that are equal up to n, and in what a window stores after that, are equal up to the end of the window.
pub alike_further : (a b : List ℕ) (n w : ℕ) → take n a ≡ take n b → take w (drop n a) ≡ take w (drop n b) → take (n + w) a ≡ take (n + w) b
alike_further a b n w before here = take-add n w a ∙ ap₂ (λ s t. s ++ t) before here ∙ sym (take-add n w b)

-- If the window is not full, the text has no bytes after it.
pub alike_whole : (a b : List ℕ) (n w : ℕ) → take n a ≡ take n b → take w (drop n a) ≡ take w (drop n b) → length (take w (drop n a)) < w → a ≡ b
alike_whole a b n w before here short =
    let more = alike_further a b n w before here in
    let end_a : length a ≤ n + w = omega (arith, length-take w (drop n a), length-drop n a) in
    let end_b : length b ≤ n + w = omega (arith, ap length here, length-take w (drop n b), length-drop n b) in
    sym (take_all (n + w) a end_a) ∙ more ∙ take_all (n + w) b end_b

-- A window that was empty has stored the first 512 bytes of the line after the skipped ones.
pub window_whole : (begun shown line : List ℕ) (before after_room skip asked left : ℕ) → begun ≡ [] → before ≡ 0 → skip ≡ asked
    → shown ++ take after_room (drop left []) ≡ begun ++ take (512 - before) (drop skip (line ++ [])) → shown ≡ take 512 (drop asked line)
window_whole begun shown line before after_room skip asked left none zero same taken =
    let nothing : take after_room (drop left []) ≡ [] = ap (λ t. take after_room t) (drop-nil left) ∙ take-nil after_room in
    sym (append-nil shown) ∙ ap (λ t. shown ++ t) (sym nothing) ∙ taken
    ∙ ap₂ (λ b n. b ++ take (512 - n) (drop skip (line ++ []))) none zero
    ∙ ap₂ (λ k l. take 512 (drop k l)) same (append-nil line)

-- If two windows store the same bytes, the two lines are equal in these bytes.
pub windows_alike : (a b w v s t : List ℕ) (n : ℕ) → w ≡ take 512 (drop n a) → v ≡ take 512 (drop n b) → s ≡ w → t ≡ v → s ≡ t
    → take 512 (drop n a) ≡ take 512 (drop n b)
windows_alike a b w v s t n of_a of_b shown_a shown_b same = sym of_a ∙ sym shown_a ∙ same ∙ shown_b ∙ of_b
