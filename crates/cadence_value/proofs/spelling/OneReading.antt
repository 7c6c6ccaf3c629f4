-- A text says at most one number.
use Rattle.std.proofs.Common.{◌≡◌, ◌≢◌, ◌⊎◌, ℕ, zero, suc, ◌+◌, ◌*◌, ◌^◌, ◌<◌, Bool, true, false, Bor, Option, Some, None, cond, not, ℤ, pos, List, [], ◌∷◌, ◌++◌}
use Rattle.std.proofs.Common.{length, drop, refl, sym, ap, ap₂, ◌∙◌, subst, inl, inr, eqb, lit<, arith}
use Rattle.std.specs.Prelude.{All, ◌||◌}
use Rattle.std.specs.Char.{digit_value}
use Rattle.std.specs.Int.{w32}
use Rattle.std.specs.Int.RustNames.{FitsSigned}
use Rattle.std.specs.List.{AllByRecursion}
use Rattle.std.specs.Str.{IsAscii, IsUtf8}
use Rattle.std.specs.Str.Parse.{AllDigits, IsNumeral, digits_value, signed_digits_value, starts_with_minus, without_leading_sign}
use Rattle.std.proofs.lemmas.Bool.{ne_eqb, eq-eqb}
use Rattle.std.proofs.lemmas.Bool.Decides.{eqb_tells}
use Rattle.std.proofs.lemmas.Fmt.{IsAscii-from_digits}
use Rattle.std.proofs.lemmas.List.{append-nil}
use Rattle.std.proofs.lemmas.List.Elements.{All-from_recursion, recursion_from_All}
use Rattle.std.proofs.lemmas.Str.{IsUtf8-from_ascii}
use Rattle.cadence_value.proofs.reading.DigitsRead.{digit_byte, numeral_utf8}
use Rattle.cadence_value.proofs.lists.SplitTexts.{Lacks, Stops, cut_at, cut_once, each_append, each_weaker}
use Rattle.cadence_value.specs.Digits.{signed_integer}
use Rattle.cadence_value.specs.Finds.{Finds}
use Rattle.cadence_value.specs.Number.{IsDecimal, Number}
use Rattle.cadence_value.specs.SpelledNumber.{IsDotted, IsMark, IsOfDigits, IsRaised, SaysNumber, SaysUnsigned, lowered_by, raised_by}
use Rattle.cadence_value.proofs.reading.DigitRuns.{digits_split}
use Rattle.cadence_value.proofs.spelling.Lowest.{lowest_once}

-- Digits with a sign before them are in UTF-8.
after_sign : (c : ℕ) (cs : List ℕ) → c < 128 → IsNumeral 10 cs → IsUtf8 (c ∷ cs)
after_sign c cs low h = IsUtf8-from_ascii (c ∷ cs) ascii
  where
    ascii : IsAscii (c ∷ cs)
    ascii zero = low
    ascii (suc i) = IsAscii-from_digits cs h.1 i

pub signed_utf8 : (text : List ℕ) → IsNumeral 10 (without_leading_sign text) → IsUtf8 text
signed_utf8 [] h = absurd (omega (arith, h.0))
signed_utf8 (c ∷ cs) h = by_sign (eqb_tells c 45) (eqb_tells c 43)
  where
    rest : Bool → Bool → List ℕ
    rest minus plus = cond minus cs (drop (cond plus 1 0) (c ∷ cs))

    by_sign : ((eqb c 45 ≡ true) × (c ≡ 45)) ⊎ ((eqb c 45 ≡ false) × (c ≢ 45)) → ((eqb c 43 ≡ true) × (c ≡ 43)) ⊎ ((eqb c 43 ≡ false) × (c ≢ 43))
        → IsUtf8 (c ∷ cs)
    by_sign (inl (is, e)) plus = after_sign c cs (omega (arith, e)) (subst (IsNumeral 10) (ap (λ b. rest b (eqb c 43)) is) h)
    by_sign (inr (other, e)) (inl (is, k)) = after_sign c cs (omega (arith, k)) (subst (IsNumeral 10) (ap₂ rest other is) h)
    by_sign (inr (other, e)) (inr (none, k)) = numeral_utf8 (c ∷ cs) (subst (IsNumeral 10) (ap₂ rest other none) h)

-- whether a byte is no mark of an exponent
abbrev pub is_plain : ℕ → Bool
is_plain b = not (eqb b 101 || eqb b 69)

abbrev pub NoMark : ℕ → Type 0
NoMark b = (b ≢ 101) × (b ≢ 69)

passes : (b : ℕ) → NoMark b → is_plain b ≡ true
passes b (e, f) = ap₂ (λ x y. not (x || y)) (ne_eqb b 101 e) (ne_eqb b 69 f)

stops : (b : ℕ) → IsMark b → is_plain b ≡ false
stops b (inl e) = ap (λ x. not (x || eqb b 69)) (eq-eqb b 101 e)
stops b (inr e) = ap is_plain e

-- what comes after the front: nothing, or a mark and an exponent
data Tail (text front : List ℕ) (e : ℤ) : Type 0 where
  bare : text ≡ front ++ [] → e ≡ pos 0 → Tail text front e
  marked : (mark : ℕ) (rest : List ℕ) → IsMark mark → text ≡ front ++ mark ∷ rest → e ≡ signed_digits_value 10 rest → Tail text front e

tail_of : (text front : List ℕ) (e : ℤ) → IsRaised text front e → Tail text front e
tail_of text front e (inl h) = marked h.mark h.rest h.marks h.whole h.is.says
tail_of text front e (inr (same, none)) = bare (same ∙ sym (append-nil front)) none

pub raised_once : (text a b : List ℕ) (d e : ℤ) → IsRaised text a d → AllByRecursion NoMark a → IsRaised text b e → AllByRecursion NoMark b
    → (a ≡ b) × (d ≡ e)
raised_once text a b d e h free k plain = by_tails (tail_of text a d h) (tail_of text b e k)
  where
    cut : (s t : List ℕ) → Stops is_plain s → Stops is_plain t → a ++ s ≡ b ++ t → (a ≡ b) × (s ≡ t)
    cut s t = cut_once is_plain a b s t (each_weaker NoMark (λ x. is_plain x ≡ true) passes a free)
        (each_weaker NoMark (λ x. is_plain x ≡ true) passes b plain)

    by_tails : Tail text a d → Tail text b e → (a ≡ b) × (d ≡ e)
    by_tails (bare p n) (bare q m) = ((cut [] [] tt tt (sym p ∙ q)).0, n ∙ sym m)
    by_tails (bare p n) (marked mark rest is q m) = absurd (let (_, s) = cut [] (mark ∷ rest) tt (stops mark is) (sym p ∙ q) in cc)
    by_tails (marked mark rest is p n) (bare q m) = absurd (let (_, s) = cut (mark ∷ rest) [] (stops mark is) tt (sym p ∙ q) in cc)
    by_tails (marked mark rest is p n) (marked mark' rest' is' q m) =
        let (same, tails) = cut (mark ∷ rest) (mark' ∷ rest') (stops mark is) (stops mark' is') (sym p ∙ q) in
        let rests : rest ≡ rest' = cc in
        (same, n ∙ ap (signed_digits_value 10) rests ∙ sym m)

-- If the text after a mark says no exponent, the whole text has no exponent after that mark.
pub exponent_none : (text front rest : List ℕ) (mark : ℕ) (b : List ℕ) (e : ℤ) → IsMark mark → text ≡ front ++ mark ∷ rest
    → AllByRecursion NoMark front → (IsNumeral 10 (without_leading_sign rest) × FitsSigned w32 (signed_digits_value 10 rest) → ⊥) → IsRaised text b e
    → AllByRecursion NoMark b → ⊥
exponent_none text front rest mark b e is whole free none (inl h) plain =
    let (_, tails) = cut_once is_plain front b (mark ∷ rest) (h.mark ∷ h.rest) (each_weaker NoMark (λ x. is_plain x ≡ true) passes front free)
    (each_weaker NoMark (λ x. is_plain x ≡ true) passes b plain) (stops mark is) (stops h.mark h.marks) (sym whole ∙ h.whole) in
    let rests : h.rest ≡ rest = cc in
    none (subst (λ t. IsNumeral 10 (without_leading_sign t) × FitsSigned w32 (signed_digits_value 10 t)) rests
    (h.is.digits, subst (FitsSigned w32) h.is.says h.is.fits))
exponent_none text front rest mark b e is whole free none (inr (same, level)) plain =
    absurd (let (_, tails) = cut_once is_plain front b (mark ∷ rest) [] (each_weaker NoMark (λ x. is_plain x ≡ true) passes front free)
    (each_weaker NoMark (λ x. is_plain x ≡ true) passes b plain) (stops mark is) tt (sym whole ∙ same ∙ sym (append-nil b)) in cc)

-- A digit is neither a dot nor a mark.
pub digits_lack : (P : ℕ → Type 0) → ((v : ℕ) → v < 10 → P (48 + v)) → (ds : List ℕ) → AllDigits 10 ds → AllByRecursion P ds
digits_lack P each [] h = tt
digits_lack P each (d ∷ ds) (h, hs) = (subst P (digit_byte d h) (each (digit_value d) h), digits_lack P each ds hs)

pub no_dots : (ds : List ℕ) → AllDigits 10 ds → Lacks 46 ds
no_dots ds = digits_lack (λ b. b ≢ 46) (λ v small e. omega (arith, e)) ds

no_marks : (ds : List ℕ) → AllDigits 10 ds → AllByRecursion NoMark ds
no_marks ds = digits_lack NoMark (λ v small. (λ e. omega (arith, small, e), λ e. omega (arith, small, e))) ds

dot_no_mark : NoMark 46
dot_no_mark = (λ e. omega (arith, e), λ e. omega (arith, e))

-- The digits before an exponent, with a dot among them, have no mark.
pub front_plain : (front w f : List ℕ) → IsDotted front w f → AllDigits 10 (w ++ f) → AllByRecursion NoMark front
front_plain front w f (inl is) digits =
    let (left, right) = digits_split w f digits in
    subst (AllByRecursion NoMark) (sym is) (each_append NoMark w (46 ∷ f) (no_marks w left) (dot_no_mark, no_marks f right))
front_plain front w f (inr (is, none)) digits = subst (AllByRecursion NoMark) (sym is) (no_marks w (digits_split w f digits).0)

-- The digits before and after a dot are determined by their text.
pub dotted_once : (text w f v g : List ℕ) → IsDotted text w f → Lacks 46 w → IsDotted text v g → Lacks 46 v → (w ≡ v) × (f ≡ g)
dotted_once text w f v g (inl p) hw (inl q) hv =
    let (same, tails) = cut_at 46 w v (46 ∷ f) (46 ∷ g) hw hv refl refl (sym p ∙ q) in
    (same, cc)
dotted_once text w f v g (inl p) hw (inr (q, none)) hv = absurd (let (_, s) = cut_at 46 w v (46 ∷ f) [] hw hv refl tt (sym p ∙ q ∙ sym (append-nil v)) in cc)
dotted_once text w f v g (inr (p, none)) hw (inl q) hv = absurd (let (_, s) = cut_at 46 w v [] (46 ∷ g) hw hv tt refl (append-nil w ∙ sym p ∙ q) in cc)
dotted_once text w f v g (inr (p, none)) hw (inr (q, empty)) hv = (sym p ∙ q, none ∙ sym empty)

-- The parts of a text that says a number are those into which it is split.
pub parts_once : (below : Bool) (text front w f : List ℕ) (e : ℤ) (n : Number) → IsRaised text front e → AllByRecursion NoMark front
    → IsDotted front w f → Lacks 46 w → SaysUnsigned below text n → IsOfDigits below w f e n
parts_once below text front w f e n raised plain dotted lacks h =
    let (fronts, powers) = raised_once text h.front front h.exponent e h.raised (front_plain h.front h.whole h.fraction h.dotted h.is.digits) raised plain in
    let (wholes, fractions) = dotted_once front h.whole h.fraction w f (subst (λ t. IsDotted t h.whole h.fraction) fronts h.dotted)
    (no_dots h.whole (digits_split h.whole h.fraction h.is.digits).0) dotted lacks in
    subst (λ k. IsOfDigits below w f k n) powers
    (subst (λ x. IsOfDigits below w x h.exponent n) fractions (subst (λ x. IsOfDigits below x h.fraction h.exponent n) wholes h.is))

same_number : (below : Bool) (w f : List ℕ) (e : ℤ) (a b : Number) → IsOfDigits below w f e a → IsOfDigits below w f e b → a ≡ b
same_number below w f e a b h k =
    lowest_once (signed_integer below (digits_value 10 (w ++ f) * 10 ^ raised_by e)) (length f + lowered_by e) a b h.is k.is

pub number_once : (text : List ℕ) (a b : Number) → SaysNumber text a → SaysNumber text b → a ≡ b
number_once text a b h k =
    same_number (starts_with_minus text) k.whole k.fraction k.exponent a b
    (parts_once (starts_with_minus text) (without_leading_sign text) k.front k.whole k.fraction k.exponent a k.raised
    (front_plain k.front k.whole k.fraction k.dotted k.is.digits) k.dotted (no_dots k.whole (digits_split k.whole k.fraction k.is.digits).0) h)
    k.is

-- If a text is split into no front and exponent, it says no number.
pub none_split : (below : Bool) (text : List ℕ) (b : Bor (List ℕ)) (n : Number)
    → ((r : Bor (List ℕ) × ℤ) → IsRaised text r.0.now r.1 × All NoMark r.0.now → ⊥) → SaysUnsigned below text n → ⊥
none_split below text b n none h =
    none (record b { now = h.front }, h.exponent) (
      h.raised,
      All-from_recursion NoMark h.front
          (front_plain h.front h.whole h.fraction h.dotted h.is.digits),
    )

-- The parts into which a text is split say the number that the text says.
pub found_split : (below : Bool) (text front w f : List ℕ) (e : ℤ) (r : Option Number) → IsRaised text front e × All NoMark front
    → IsDotted front w f → All (λ b. b ≢ 46) w → Finds (λ n. IsDecimal n × IsOfDigits below w f e n) r
    → Finds (λ n. IsDecimal n × SaysUnsigned below text n) r
found_split below text front w f e (Some n) raised dotted lacks h =
    (h.0, record { front = front; whole = w; fraction = f; exponent = e; raised = raised.0; dotted = dotted; is = h.1 })
found_split below text front w f e None raised dotted lacks h = λ n k.
    h n (
      k.0,
      parts_once below text front w f e n raised.0 (recursion_from_All NoMark front raised.1) dotted
          (recursion_from_All (λ b. b ≢ 46) w lacks) k.1,
    )

-- The exponent of a text fits 32 bits.
pub raised_fits : (text front : List ℕ) (e : ℤ) → IsRaised text front e → FitsSigned w32 e
raised_fits text front e (inl h) = h.is.fits
raised_fits text front e (inr (same, none)) = subst (FitsSigned w32) (sym none) (record { sfits = lit< tt })
