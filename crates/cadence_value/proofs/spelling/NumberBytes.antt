-- Which bytes the text of a number has, in any spelling.
use Rattle.std.proofs.Common.{◌≡◌, ◌≢◌, ◌⊎◌, inl, inr, ℕ, ◌+◌, ◌<◌, ℤ, Bool, true, false, cond, List, [], ◌∷◌, ◌++◌, drop, sym, ap, ap₂, subst, eqb, arith}
use Rattle.std.specs.List.{AllByRecursion}
use Rattle.std.specs.Str.Parse.{AllDigits, without_leading_sign}
use Rattle.std.proofs.lemmas.Bool.Decides.{eqb_tells}
use Rattle.cadence_value.proofs.lists.SplitTexts.{Lacks, each_append}
use Rattle.cadence_value.proofs.spelling.OneReading.{digits_lack}
use Rattle.cadence_value.proofs.reading.DigitRuns.{digits_split}
use Rattle.cadence_value.specs.Number.{Number}
use Rattle.cadence_value.specs.SpelledNumber.{IsDotted, IsRaised, SaysNumber}

module _ (P : ℕ → Type 0) (digit : (v : ℕ) → v < 10 → P (48 + v)) (plus : P 43) (minus : P 45) (dot : P 46) (small : P 101) (large : P 69) where
  digits_are : (ds : List ℕ) → AllDigits 10 ds → AllByRecursion P ds
  digits_are ds h = digits_lack P digit ds h

  dotted_are : (text w f : List ℕ) → IsDotted text w f → AllDigits 10 (w ++ f) → AllByRecursion P text
  dotted_are text w f (inl is) digits =
      let (left, right) = digits_split w f digits in
      subst (AllByRecursion P) (sym is) (each_append P w (46 ∷ f) (digits_are w left) (dot, digits_are f right))
  dotted_are text w f (inr (is, none)) digits = subst (AllByRecursion P) (sym is) (digits_are w (digits_split w f digits).0)

  signed_are : (text : List ℕ) → AllByRecursion P (without_leading_sign text) → AllByRecursion P text
  signed_are [] h = tt
  signed_are (c ∷ cs) h = by_sign (eqb_tells c 45) (eqb_tells c 43)
    where
      rest : Bool → Bool → List ℕ
      rest minus plus = cond minus cs (drop (cond plus 1 0) (c ∷ cs))

      by_sign : ((eqb c 45 ≡ true) × (c ≡ 45)) ⊎ ((eqb c 45 ≡ false) × (c ≢ 45)) → ((eqb c 43 ≡ true) × (c ≡ 43)) ⊎ ((eqb c 43 ≡ false) × (c ≢ 43))
          → AllByRecursion P (c ∷ cs)
      by_sign (inl (is, e)) other = (subst P (sym e) minus, subst (AllByRecursion P) (ap (λ b. rest b (eqb c 43)) is) h)
      by_sign (inr (other, e)) (inl (is, k)) = (subst P (sym k) plus, subst (AllByRecursion P) (ap₂ rest other is) h)
      by_sign (inr (other, e)) (inr (none, k)) = subst (AllByRecursion P) (ap₂ rest other none) h

  raised_are : (text front : List ℕ) (e : ℤ) → IsRaised text front e → AllByRecursion P front → AllByRecursion P text
  raised_are text front e (inl h) each =
      let rest : AllByRecursion P h.rest = signed_are h.rest (digits_are (without_leading_sign h.rest) h.is.digits.1) in
      subst (AllByRecursion P) (sym h.whole) (each_append P front (h.mark ∷ h.rest) each (marked h.marks, rest))
    where
      marked : {m : ℕ} → (m ≡ 101) ⊎ (m ≡ 69) → P m
      marked (inl e) = subst P (sym e) small
      marked (inr e) = subst P (sym e) large
  raised_are text front e (inr (same, level)) each = subst (AllByRecursion P) (sym same) each

  -- The text of a number has only digits, signs, a dot and a mark of an exponent.
  pub number_bytes_are : (text : List ℕ) (n : Number) → SaysNumber text n → AllByRecursion P text
  number_bytes_are text n h =
      signed_are text (raised_are (without_leading_sign text) h.front h.exponent h.raised (dotted_are h.front h.whole h.fraction h.dotted h.is.digits))

-- A byte that is in no number is not in the text of one.
pub number_lacks : (c : ℕ) → ((v : ℕ) → v < 10 → 48 + v ≢ c) → (43 ≢ c) → (45 ≢ c) → (46 ≢ c) → (101 ≢ c) → (69 ≢ c)
    → (text : List ℕ) (n : Number) → SaysNumber text n → Lacks c text
number_lacks c digit plus minus dot small large = number_bytes_are (λ b. b ≢ c) digit plus minus dot small large
