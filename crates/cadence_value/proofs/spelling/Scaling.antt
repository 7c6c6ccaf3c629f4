-- A number with zeros after it, divided by a power of ten, has one lowest form.
use Rattle.std.proofs.Common.{◌≡◌, ◌≢◌, ℕ, zero, suc, ◌+◌, ◌-◌, ◌*◌, ◌%◌, ◌^◌, ◌<◌, ◌≤◌, Bool, true, false, not, ℤ, pos, negsuc, neg_ℤ, ◌*ℤ◌}
use Rattle.std.proofs.Common.{unsigned_abs, refl, sym, ap, ap₂, ◌∙◌, subst, lit<, arith}
use Rattle.std.specs.Prelude.{◌||◌}
use Rattle.std.proofs.lemmas.Bool.{ne_eqb}
use Rattle.std.proofs.lemmas.Nat.{pow-add}
use Rattle.std.proofs.Math.Nat.{mul_assoc, pow-le-pow_right}
use Rattle.std.specs.Int.RustNames.{FitsSigned}
use mir.Syntax.{w128}
use Rattle.cadence_value.proofs.reading.NumberRead.{fits_size}
use Rattle.cadence_value.proofs.digits.PowersOfTen.{neg_product}
use Rattle.cadence_value.proofs.reading.SignedDigits.{abs_signed}
use Rattle.cadence_value.specs.Digits.{signed_integer}
use Rattle.cadence_value.specs.Number.{IsDecimal, IsLowestForm, Number, is_lowest, number}
use Rattle.cadence_value.proofs.spelling.Lowest.{lowest_once}

times : (z : ℤ) (x y : ℕ) → z *ℤ pos x *ℤ pos y ≡ z *ℤ pos (x * y)
times (pos a) x y = ap pos (mul_assoc a x y)
times (negsuc a) x y = neg_product (suc a * x) y ∙ ap (λ k. neg_ℤ (pos k)) (mul_assoc (suc a) x y)

signed_times : (below : Bool) (n y : ℕ) → signed_integer below (n * y) ≡ signed_integer below n *ℤ pos y
signed_times false n y = refl
signed_times true n y = sym (neg_product n y)

-- If the numerator and the denominator get the same zeros, the lowest form stays the same.
lowest_more : (m : ℤ) (p j : ℕ) (n : Number) → IsLowestForm m p n → IsLowestForm (m *ℤ pos (10 ^ j)) (p + j) n
lowest_more m p j n h = record {
  fewer = omega (arith, h.fewer);
  same = ap (λ z. z *ℤ pos (10 ^ j)) h.same ∙ times n.mantissa (10 ^ (p - n.places)) (10 ^ j)
      ∙ ap (λ k. n.mantissa *ℤ pos k) (sym (pow-add 10 (p - n.places) j)
      ∙ ap (λ k. 10 ^ k) (omega (arith, h.fewer)));
  lowest = h.lowest;
}

module _ (below : Bool) (size a q : ℕ) where
  -- the number without the zeros that it shares with its denominator
  abbrev pub reduced : ℤ
  reduced = signed_integer below (size * 10 ^ (a - q))

  zeros_back : size * 10 ^ (a - q) * 10 ^ (a - (a - q)) ≡ size * 10 ^ a
  zeros_back = mul_assoc size (10 ^ (a - q)) (10 ^ (a - (a - q))) ∙ ap (λ k. size * k) (sym (pow-add 10 (a - q) (a - (a - q)))
      ∙ ap (λ k. 10 ^ k) (omega arith))

  numerator : reduced *ℤ pos (10 ^ (a - (a - q))) ≡ signed_integer below (size * 10 ^ a)
  numerator = sym (signed_times below (size * 10 ^ (a - q)) (10 ^ (a - (a - q)))) ∙ ap (signed_integer below) zeros_back

  denominator : q - a + (a - (a - q)) ≡ q
  denominator = omega arith

  -- The lowest form of the reduced number is that of the number.
  pub found : (n : Number) → IsLowestForm reduced (q - a) n → IsLowestForm (signed_integer below (size * 10 ^ a)) q n
  found n h =
      subst (λ m. IsLowestForm m q n) numerator
      (subst (λ p. IsLowestForm (reduced *ℤ pos (10 ^ (a - (a - q)))) p n) denominator (lowest_more reduced (q - a) (a - (a - q)) n h))

  last_digit : size % 10 ≢ 0 → is_lowest reduced (q - a) ≡ true
  last_digit some = by_places (q - a) (λ more. let none : a - q ≡ 0 = omega (arith, more) in ap (λ k. 10 ^ k) none)
    where
      by_places : (p : ℕ) → (0 < p → 10 ^ (a - q) ≡ 1) → is_lowest reduced p ≡ true
      by_places zero one = refl
      by_places (suc p) one =
          let alone : size * 1 ≡ size = omega arith in
          let power : 10 ^ (a - q) ≡ 1 = one (omega arith) in
          let same : unsigned_abs reduced % 10 ≡ size % 10 = ap (λ k. k % 10) (abs_signed below (size * 10 ^ (a - q))
          ∙ ap (λ k. size * k) power ∙ alone) in
          ap₂ (λ x y. x || not y) (ne_eqb (suc p) 0 (λ e. omega (arith, e))) (ne_eqb (unsigned_abs reduced % 10) 0 (λ e. some (sym same ∙ e)))

  own : size % 10 ≢ 0 → IsLowestForm reduced (q - a) (number reduced (q - a))
  own some = record {
    fewer = omega arith;
    same = times_one reduced (q - a - (q - a)) (omega arith);
    lowest = last_digit some;
  }
    where
      times_one : (z : ℤ) (k : ℕ) → k ≡ 0 → z ≡ z *ℤ pos (10 ^ k)
      times_one z k e = one z ∙ ap (λ j. z *ℤ pos (10 ^ j)) (sym e)
        where
          one : (z : ℤ) → z ≡ z *ℤ pos (10 ^ 0)
          one (pos m) = let alone : m ≡ m * 1 = omega arith in ap pos alone
          one (negsuc m) = let alone : suc m ≡ suc m * 1 = omega arith in ap (λ x. neg_ℤ (pos x)) alone

  -- If the number does not end in a zero, the reduced number is its lowest form.
  pub only : (n : Number) → size % 10 ≢ 0 → IsLowestForm (signed_integer below (size * 10 ^ a)) q n → n ≡ number reduced (q - a)
  only n some h = lowest_once (signed_integer below (size * 10 ^ a)) q n (number reduced (q - a)) h
      (found (number reduced (q - a)) (own some))

  -- A decimal that the number is has the mantissa and the places of the reduced number.
  fits_reduced : (n : Number) → size % 10 ≢ 0 → IsDecimal n → IsLowestForm (signed_integer below (size * 10 ^ a)) q n → IsDecimal (number reduced (q - a))
  fits_reduced n some good h = subst IsDecimal (only n some h) good

  pub signed_fits : (n : Number) → size % 10 ≢ 0 → IsDecimal n × IsLowestForm (signed_integer below (size * 10 ^ a)) q n → FitsSigned w128 reduced
  signed_fits n some h = (fits_reduced n some h.0 h.1).mantissa

  pub few_places : (n : Number) → size % 10 ≢ 0 → IsDecimal n × IsLowestForm (signed_integer below (size * 10 ^ a)) q n → q - a ≤ 30
  few_places n some h = (fits_reduced n some h.0 h.1).places

  pub size_fits : (n : Number) → size % 10 ≢ 0 → IsDecimal n × IsLowestForm (signed_integer below (size * 10 ^ a)) q n → size * 10 ^ (a - q) ≤ 2 ^ 127
  size_fits n some h = omega (arith, fits_size reduced (signed_fits n some h), abs_signed below (size * 10 ^ (a - q)))

  pub few_zeros : (n : Number) → size % 10 ≢ 0 → IsDecimal n × IsLowestForm (signed_integer below (size * 10 ^ a)) q n → 38 < a - q → ⊥
  few_zeros n some h many = at_least size (10 ^ (a - q)) (λ e. some (ap (λ k. k % 10) e))
      (omega (arith, pow-le-pow_right {n = 10} (lit< tt) {i = 39} {j = a - q} many)) (size_fits n some h)
    where
      at_least : (s k : ℕ) → s ≢ 0 → 2 ^ 127 < k → s * k ≤ 2 ^ 127 → ⊥
      at_least zero k other large fits = other refl
      at_least (suc s) k other large fits = omega (arith, large, fits)

  -- The decimal that has the reduced number as its lowest form is the number.
  pub good : (n : Number) → size % 10 ≢ 0 → FitsSigned w128 reduced → q - a ≤ 30 → IsLowestForm reduced (q - a) n
      → IsDecimal n × IsLowestForm (signed_integer below (size * 10 ^ a)) q n
  good n some fits few h =
      let same : n ≡ number reduced (q - a) = lowest_once reduced (q - a) n (number reduced (q - a)) h (own some) in
      (subst IsDecimal (sym same) (record { mantissa = fits; places = few; lowest = last_digit some }), found n h)
