use Rattle.std.proofs.Common.{◌≡◌, ◌+◌, ◌*◌, ◌^◌, ap, ◌∙◌, arith, get_or, length}
use Rattle.std.specs.Char.{digit_value}
use Rattle.std.proofs.Math.Nat.{mul_assoc}
use Rattle.std.proofs.lemmas.Nat.{pow-add}
use Rattle.std.proofs.lemmas.Int.Digits.{digits_value_more}
use Rattle.std.proofs.lemmas.Str.{digit_value_digit}
use Rattle.std.proofs.lemmas.Str.Parse.{digit_at}
use Rattle.cadence_float.proofs.FittingDigits.{next_digit, room_for_digit}
use Rattle.cadence_float.proofs.text.value_of.Goals as goal

pub overflow_sub-byte : goal.overflow_sub-byte
overflow_sub-byte c = (digit_at c.args.digits.now c.loop-byte.byte-index c.requires.digits c.loop-byte-test.true).0

pub overflow_mul-value : goal.overflow_mul-value
overflow_mul-value c =
    let room = room_for_digit c.args.so_far c.loop-byte.byte-index (length c.args.digits.now) c.loop-byte.value c.loop-byte-test.true c.requires.few c.loop-byte.invariant.1 in
    omega (arith, room)

pub overflow_add-value : goal.overflow_add-value
overflow_add-value c =
    let room = room_for_digit c.args.so_far c.loop-byte.byte-index (length c.args.digits.now) c.loop-byte.value c.loop-byte-test.true c.requires.few c.loop-byte.invariant.1 in
    let range = digit_at c.args.digits.now c.loop-byte.byte-index c.requires.digits c.loop-byte-test.true in
    omega (arith, room, range.1, c.from.ensures)

pub loop-byte-preserved : goal.loop-byte-preserved
loop-byte-preserved c =
    let k = c.loop-byte.byte-index in
    let ds = c.args.digits.now in
    let range = digit_at ds k c.requires.digits c.loop-byte-test.true in
    let byte : digit_value (get_or ds k 0) + 48 ≡ get_or ds k 0 = digit_value_digit (get_or ds k 0) range in
    let power : c.args.so_far * 10 ^ k * 10 ≡ c.args.so_far * 10 ^ (k + 1) = mul_assoc c.args.so_far (10 ^ k) 10 ∙ ap (λ n. c.args.so_far * n) (omega (arith, pow-add 10 k 1)) in (
      omega (arith, byte, power, digits_value_more 10 ds k c.loop-byte-test.true, c.loop-byte.invariant.0, c.from.ensures),
      next_digit c.args.so_far k c.loop-byte.value c.from.result c.loop-byte.invariant.1 (omega (arith, range.1, c.from.ensures)),
    )
