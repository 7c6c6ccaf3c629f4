-- The decimal of digits and a power of ten: when it doesn't fit, and how it is rounded.
use Rattle.std.proofs.Common.{◌≡◌, ℕ, zero, suc, ◌+◌, ◌-◌, ◌*◌, ◌^◌, ◌<◌, ◌≤◌, refl, sym, ap, ◌∙◌, subst, arith, lit<, inl, inr, Option, Some, None, Bool, List, [], ◌++◌, length}
use Rattle.std.specs.Prelude.{◌⊎◌, codes, if◌then◌else◌, IfNone}
use Rattle.std.proofs.lemmas.List.{length-append}
use Rattle.std.proofs.lemmas.Nat.{pow-add}
use Rattle.std.proofs.Math.Nat.{mul_assoc, mul-le-mul_left, mul-le-mul_right, pow-le-pow_right}
use Rattle.cadence_value.proofs.digits.PowersOfTen.{ten_to_pos}
use Rattle.cadence_float.specs.Worth.{AreNearest, IsUnfit}

no_factor : (n k : ℕ) → 0 < k → n * k ≡ 0 → n ≡ 0
no_factor zero k some e = refl
no_factor (suc n) k some e = absurd (omega (arith, some, e, mul-le-mul_right {m = 1} {n = suc n} k (omega arith)))

-- Digits with zeros behind them that make 0 or pass 127 bits are unfit.
pub unfit_of : (digits up down size : ℕ) → down ≤ up → size ≡ digits * 10 ^ (up - down) → (size ≡ 0) ⊎ (2 ^ 127 ≤ size) → IsUnfit digits up down
unfit_of digits up down size few is (inl none) = inl (no_factor digits (10 ^ (up - down)) (ten_to_pos (up - down)) (sym is ∙ none))
unfit_of digits up down size few is (inr large) =
    let split : 10 ^ up ≡ 10 ^ (up - down) * 10 ^ down = ap (λ k. 10 ^ k) (omega arith) ∙ pow-add 10 (up - down) down in
    let whole : size * 10 ^ down ≡ digits * 10 ^ up = ap (λ k. k * 10 ^ down) is ∙ mul_assoc digits (10 ^ (up - down)) (10 ^ down) ∙ ap (λ k. digits * k) (sym split) in
    inr (subst (λ k. 2 ^ 127 * 10 ^ down ≤ k) whole (mul-le-mul_right (10 ^ down) large))

-- Digits with more than 38 zeros behind them are unfit.
pub unfit_past : (digits up down : ℕ) → down ≤ up → 38 < up - down → IsUnfit digits up down
unfit_past zero up down few past = inl refl
unfit_past (suc d) up down few past =
    let zeros = up - down in
    let power : 10 ^ 39 ≤ 10 ^ zeros = pow-le-pow_right {n = 10} (lit< tt) {i = 39} {j = zeros} (omega (arith, past)) in
    let once : 1 * 10 ^ zeros ≤ suc d * 10 ^ zeros = mul-le-mul_right {m = 1} {n = suc d} (10 ^ zeros) (omega arith) in
    unfit_of (suc d) up down (suc d * 10 ^ zeros) few refl (inr (omega (arith, power, once)))

-- More than 30 zeros leave nothing of fewer than 26 digits.
pub nothing_left : (digits cut : ℕ) → digits < 10 ^ 25 → 30 < cut → AreNearest digits cut 0
nothing_left digits cut few past =
    let power : 10 ^ 31 ≤ 10 ^ cut = pow-le-pow_right {n = 10} (lit< tt) {i = 31} {j = cut} (omega (arith, past)) in
    record { above = omega arith; below = omega (arith, few, power) }

pub power_fits : (n most : ℕ) → n ≤ most → 10 ^ n ≤ 10 ^ most
power_fits n most few = pow-le-pow_right {n = 10} (lit< tt) {i = n} {j = most} few

-- Ten to a power is at least 3.
pub three_or_more : (n : ℕ) → 0 < n → 3 ≤ 10 ^ n
three_or_more n some =
    let power : 10 ^ 1 ≤ 10 ^ n = power_fits 1 n (omega (arith, some)) in
    omega (arith, power)

-- The nearest number of units, each of which is 10 to the power of `cut`.
pub nearest_units : (digits cut unit size : ℕ) → unit ≡ 10 ^ cut → 2 * (size * unit) ≤ 2 * digits + unit → 2 * digits ≤ 2 * (size * unit) + unit → AreNearest digits cut size
nearest_units digits cut unit size is above below =
    record {
      above = subst (λ k. 2 * (size * k) ≤ 2 * digits + k) is above;
      below = subst (λ k. 2 * digits ≤ 2 * (size * k) + k) is below;
    }

-- One more digit after k digits.
pub next_digit : (s k value d : ℕ) → value < (s + 1) * 10 ^ k → d ≤ 9 → value * 10 + d < (s + 1) * 10 ^ (k + 1)
next_digit s k value d few small =
    let split : (s + 1) * 10 ^ (k + 1) ≡ (s + 1) * 10 ^ k * 10 = ap (λ n. (s + 1) * n) (omega (arith, pow-add 10 k 1)) ∙ sym (mul_assoc (s + 1) (10 ^ k) 10) in
    omega (arith, few, small, split)

-- There is room for one more digit, if there is room for them all.
pub room_for_digit : (s k most value : ℕ) → k < most → (s + 1) * 10 ^ most ≤ 10 ^ 25 → value < (s + 1) * 10 ^ k → value * 10 + 9 < 10 ^ 25
room_for_digit s k most value before room few =
    let scaled : (s + 1) * 10 ^ (k + 1) ≤ (s + 1) * 10 ^ most = mul-le-mul_left (s + 1) (power_fits (k + 1) most (omega (arith, before))) in
    omega (arith, scaled, room, next_digit s k value 9 few (omega arith))

-- The digits before and after a point together are at most 25, so their number is small.
pub joined_few : (front n m : ℕ) → front < (0 + 1) * 10 ^ n → n + m ≤ 25 → (front + 1) * 10 ^ m ≤ 10 ^ 25
joined_few front n m few most =
    let scaled : (front + 1) * 10 ^ m ≤ 10 ^ n * 10 ^ m = mul-le-mul_right {m = front + 1} {n = 10 ^ n} (10 ^ m) (omega (arith, few)) in
    omega (arith, scaled, pow-add 10 n m, power_fits (n + m) 25 most)

-- A text cut at its minus is no longer than before.
pub cut_short : (t : Bool) (size text : List ℕ) → text ≡ (if t then codes "-" else []) ++ size → length size ≤ length text
cut_short t size text cut = omega (arith, ap (λ (l : List ℕ). length l) cut, length-append (if t then codes "-" else []) size)

pub none_weaker : {X : Type 0} (P Q : Type 0) (o : Option X) → IfNone o P → (P → Q) → IfNone o Q
none_weaker P Q (Some x) h step = tt
none_weaker P Q None h step = step h

pub if_none : {X P : Type 0} (o : Option X) → P → IfNone o P
if_none (Some x) h = tt
if_none None h = h
