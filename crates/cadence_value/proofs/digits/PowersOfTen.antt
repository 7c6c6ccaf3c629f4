-- Powers of ten, and division of a whole number by ten.
use Rattle.std.proofs.Common.{◌≡◌, ℕ, zero, suc, ◌*◌, ◌/◌, ◌%◌, ◌^◌, ◌<◌, ◌≤◌, ℤ, pos, negsuc, neg_ℤ, ◌*ℤ◌, int_div, int_rem, refl, ◌∙◌, ap}
use Rattle.std.proofs.Common.{lit<, arith}
use Rattle.std.proofs.Math.Nat.{one-le-pow, pow-le-pow_right, pow-succ', mul_assoc, zero-mul}

pub ten_to_pos : (k : ℕ) → 0 < 10 ^ k
ten_to_pos k = omega (arith, one-le-pow k 10 (lit< tt))

pub ten_to_fits : (k : ℕ) → k ≤ 30 → 10 ^ k < 2 ^ 128
ten_to_fits k h = omega (arith, pow-le-pow_right {n = 10} (lit< tt) {i = k} {j = 30} h)

pub neg_product : (q y : ℕ) → neg_ℤ (pos q) *ℤ pos y ≡ neg_ℤ (pos (q * y))
neg_product zero y = rw zero-mul
neg_product (suc q) y = refl

neg_zero : (n : ℕ) → neg_ℤ (pos n) ≡ pos 0 → n ≡ 0
neg_zero zero h = refl
neg_zero (suc n) h = cc

product_of_tenth : (a x : ℕ) → a % 10 ≡ 0 → a * x ≡ a / 10 * (10 * x)
product_of_tenth a x h = let e : a ≡ a / 10 * 10 = omega arith in ap (λ n. n * x) e ∙ mul_assoc (a / 10) 10 x

-- A multiple of ten divided by a power of ten is a tenth of it divided by the next lower power.
pub tenth_is : (m : ℤ) (d e : ℕ) → e ≡ suc d → int_rem m (pos 10) ≡ pos 0 → m *ℤ pos (10 ^ d) ≡ int_div m (pos 10) *ℤ pos (10 ^ e)
tenth_is (pos a) d e s h = let h' : a % 10 ≡ 0 = cc in
    rw (s, pow-succ' 10 d) (ap pos (product_of_tenth a (10 ^ d) h'))
tenth_is (negsuc a) d e s h = let h' : suc a % 10 ≡ 0 = neg_zero (suc a % 10) h in
    rw (s, pow-succ' 10 d, neg_product) (ap (λ n. neg_ℤ (pos n)) (product_of_tenth (suc a) (10 ^ d) h'))
