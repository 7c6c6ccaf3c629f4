use Rattle.std.proofs.Common.{ℕ, ◌^◌, ◌<◌, ◌≤◌, lit<, arith}
use Rattle.std.proofs.Math.Nat.{pow-le-pow_right}
use Rattle.cadence_value.proofs.digits.PowersOfTen.{ten_to_pos}
use Rattle.cadence_value.proofs.text.numbers.power_of_ten.Goals as goal

ten_to_fits_word : (k : ℕ) → k ≤ 19 → 10 ^ k < 2 ^ 64
ten_to_fits_word k h = omega (arith, pow-le-pow_right {n = 10} (lit< tt) {i = k} {j = 19} h)

pub pow-requires : goal.pow-requires
pow-requires c = rw c.from.ensures (ten_to_fits_word c.args.places c.requires)

pub returns-clause-positive : goal.returns-clause-positive
returns-clause-positive c = rw c.pow.ensures (ten_to_pos c.from.result)
