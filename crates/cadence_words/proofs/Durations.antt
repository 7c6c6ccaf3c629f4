-- There is one way to split a word into a number and a unit.
use Rattle.std.proofs.Common.{◌≡◌, ℕ, ◌<◌, ◌≤◌, ◌*◌, ◌^◌, ◌-◌, Bool, List, [], ◌∷◌, ◌++◌, Option, Some, None, get_or, refl, sym}
use Rattle.std.proofs.Common.{◌∙◌, ap, subst, ltb, true, arith, pos}
use Rattle.std.specs.Prelude.{All}
use Rattle.std.proofs.lemmas.Bool.{le-ltb, lt-ltb}
use Rattle.std.proofs.lemmas.List.{append-nil}
use Rattle.std.proofs.lemmas.List.Elements.{recursion_from_All}
use Rattle.cadence_words.specs.Duration.{CountsNanos, IsDurationWord, IsNanos, IsTimeWord, unit_tens, unit_text}
use Rattle.cadence_value.specs.Finds.{Finds}
use Rattle.cadence_text.specs.declared.line.MetricType.{MetricType}
use Rattle.cadence_text.specs.declared.line.MetricType.TheVariants.{Counter, Timer, Gauge, Meter, Histogram, Set, Distribution}
use Rattle.cadence_words.specs.declared.duration.Unit.{Unit}
use Rattle.cadence_words.specs.declared.duration.Unit.TheVariants.{Second, Milli, Micro, Nano}
use Rattle.cadence_value.proofs.lists.SplitTexts.{cut_once, each_weaker, Passes, Stops}
use Rattle.cadence_value.proofs.digits.NumberText.{IsNumberByte}
use Rattle.cadence_value.specs.DenotedNumber.{Denotes}
use Rattle.cadence_value.proofs.spelling.Lowest.{said_bytes, says_once}
use Rattle.cadence_value.specs.Number.{IsDecimal, Number}

first : {xs ys : List ℕ} → xs ≡ ys → get_or xs 0 0 ≡ get_or ys 0 0
first e = ap (λ t. get_or t 0 0) e

-- whether a byte is at most the digit 9
abbrev up_to_digits : ℕ → Bool
up_to_digits b = ltb b 58

digits_pass : (digits : List ℕ) (n : Number) → Denotes digits n → Passes up_to_digits digits
digits_pass digits n h = each_weaker IsNumberByte (λ b. up_to_digits b ≡ true) (λ b h. lt-ltb b 58 h.1) digits (said_bytes digits n h)

front_passes : (front : List ℕ) → All (λ b. b ≤ 57) front → Passes up_to_digits front
front_passes front h =
    each_weaker (λ b. b ≤ 57) (λ b. up_to_digits b ≡ true) (λ b low. lt-ltb b 58 (omega (arith, low))) front
    (recursion_from_All (λ b. b ≤ 57) front h)

unit_stops : (u : Unit) → Stops up_to_digits (unit_text u)
unit_stops Second = refl
unit_stops Milli = refl
unit_stops Micro = refl
unit_stops Nano = refl

rest_stops : (rest : List ℕ) → 57 < get_or rest 0 0 → Stops up_to_digits rest
rest_stops [] h = tt
rest_stops (b ∷ rest) h = le-ltb b 58 (omega (arith, h))

-- If a word is a number and a unit, then they are the two parts of the word before and after the first byte above the
-- digits.
pub parts_once : (digits : List ℕ) (n : Number) (u : Unit) (front rest word : List ℕ) → All (λ b. b ≤ 57) front → 57 < get_or rest 0 0
    → word ≡ front ++ rest → Denotes digits n → digits ++ unit_text u ≡ word → (digits ≡ front) × (unit_text u ≡ rest)
parts_once digits n u front rest word low high cut says text =
    cut_once up_to_digits digits front (unit_text u) rest (digits_pass digits n says) (front_passes front low) (unit_stops u)
    (rest_stops rest high) (text
    ∙ cut)

unit_some : (u : Unit) → unit_text u ≡ [] → ⊥
unit_some Second e = absurd (omega (arith, first e))
unit_some Milli e = absurd (omega (arith, first e))
unit_some Micro e = absurd (omega (arith, first e))
unit_some Nano e = absurd (omega (arith, first e))

-- A word without a byte above the digits has no unit, and so it is no duration.
pub no_unit : (digits : List ℕ) (n : Number) (u : Unit) (word : List ℕ) → All (λ b. b ≤ 57) word → Denotes digits n → digits ++ unit_text u ≡ word → ⊥
no_unit digits n u word low says text =
    unit_some u (cut_once up_to_digits digits word (unit_text u) [] (digits_pass digits n says) (front_passes word low) (unit_stops u) tt (text
    ∙ sym (append-nil word))).1

-- Two units with one text are one unit.
unit_once : (a b : Unit) → unit_text a ≡ unit_text b → a ≡ b
unit_once Second Second e = refl
unit_once Second Milli e = absurd (omega (arith, first e))
unit_once Second Micro e = absurd (omega (arith, first e))
unit_once Second Nano e = absurd (omega (arith, first e))
unit_once Milli Second e = absurd (omega (arith, first e))
unit_once Milli Milli e = refl
unit_once Milli Micro e = absurd (omega (arith, first e))
unit_once Milli Nano e = absurd (omega (arith, first e))
unit_once Micro Second e = absurd (omega (arith, first e))
unit_once Micro Milli e = absurd (omega (arith, first e))
unit_once Micro Micro e = refl
unit_once Micro Nano e = absurd (omega (arith, first e))
unit_once Nano Second e = absurd (omega (arith, first e))
unit_once Nano Milli e = absurd (omega (arith, first e))
unit_once Nano Micro e = absurd (omega (arith, first e))
unit_once Nano Nano e = refl

-- A word that is a number and a unit says the nanoseconds of that number of units.
pub nanos_found : (word front rest : List ℕ) (n : Number) (u : Unit) (r : Option ℕ) → All (λ b. b ≤ 57) front → 57 < get_or rest 0 0
    → word ≡ front ++ rest → IsDecimal n → Denotes front n → unit_text u ≡ rest → Finds (λ nanos. IsNanos n u nanos × (nanos < 2 ^ 128)) r
    → Finds (λ nanos. IsTimeWord word nanos × (nanos < 2 ^ 128)) r
nanos_found word front rest n u (Some nanos) low high cut good says unit h =
    (record { digits = front; number = n; unit = u; decimal = good; says = says; text = ap (λ b. front ++ b) unit ∙ sym cut; is = h.0 }, h.1)
nanos_found word front rest n u None low high cut good says unit h = λ nanos t.
    let (same, units) = parts_once t.0.digits t.0.number t.0.unit front rest word low high cut t.0.says t.0.text in
    h nanos (
      subst (λ m. IsNanos m u nanos) (says_once front t.0.number n (subst (λ ds. Denotes ds t.0.number) same t.0.says) says)
          (subst (λ v. IsNanos t.0.number v nanos) (unit_once t.0.unit u (units ∙ sym unit)) t.0.is),
      t.1,
    )

size_once : (a b : ℕ) → pos a ≡ pos b → a ≡ b
size_once a b e = cc

nanos_same : (n : Number) (u : Unit) (a b : ℕ) → IsNanos n u a → IsNanos n u b → a ≡ b
nanos_same n u a b h k = h.same ∙ ap (λ s. s * 10 ^ (unit_tens u - n.places)) (size_once h.size k.size (sym h.signless ∙ k.signless)) ∙ sym k.same

-- A word says at most one duration.
pub nanos_once : (word : List ℕ) (a b : ℕ) → IsTimeWord word a → IsTimeWord word b → a ≡ b
nanos_once word a b h k =
    let (texts, units) =
    cut_once up_to_digits h.digits k.digits (unit_text h.unit) (unit_text k.unit) (digits_pass h.digits h.number h.says)
    (digits_pass k.digits k.number k.says) (unit_stops h.unit) (unit_stops k.unit) (h.text
    ∙ sym k.text) in
    nanos_same k.number k.unit a b
    (subst (λ m. IsNanos m k.unit a) (says_once k.digits h.number k.number (subst (λ ds. Denotes ds h.number) texts h.says) k.says)
    (subst (λ v. IsNanos h.number v a) (unit_once h.unit k.unit units) h.is))
    k.is

-- Nanoseconds that a kind counts fit 128 bits.
pub few_nanos : (kind : MetricType) (nanos : ℕ) (n : Number) → CountsNanos kind nanos n → nanos < 2 ^ 128
few_nanos Counter nanos n h = absurd h
few_nanos Timer nanos n h = omega (arith, h.1)
few_nanos Gauge nanos n h = absurd h
few_nanos Meter nanos n h = absurd h
few_nanos Histogram nanos n h = omega (arith, h.1)
few_nanos Set nanos n h = absurd h
few_nanos Distribution nanos n h = absurd h

-- A word that says a duration says the count of it.
pub duration_found : (kind : MetricType) (word : List ℕ) (nanos : ℕ) (r : Option Number) → IsTimeWord word nanos
    → Finds (CountsNanos kind nanos) r → Finds (IsDurationWord kind word) r
duration_found kind word nanos (Some n) written h = record { nanos = nanos; written = written; counts = h }
duration_found kind word nanos None written h = λ n d.
    h n (subst (λ m. CountsNanos kind m n) (nanos_once word d.nanos nanos d.written written) d.counts)
