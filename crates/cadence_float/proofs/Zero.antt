-- Zero as a decimal.
use Rattle.std.proofs.Common.{◌≡◌, ◌∙◌, Bool, Some, ap, cond, sym, true}
use Rattle.std.specs.Float.{Float, binary64, float_zero}
use Rattle.fast_float.specs.Parse.{parse_float}
use lib.Ieee.{eq, round, units, odd, size, span, climb}
use Rattle.cadence_value.specs.Number.{Number, natural, number_text}
use Rattle.cadence_float.specs.Worth.{IsReadAs}
use Rattle.cadence_float.proofs.Floats.{parse_of_number}

-- The text of 0 is read as 0.
zero_is_read : parse_float binary64 (number_text (natural 0)) ≡ Some float_zero
unfolding round units odd size span climb
zero_is_read = parse_of_number (natural 0)

-- The text of 0 is read as each zero.
pub reads_as_zero : (n : Number) (x : Float) → n ≡ natural 0 → eq x float_zero ≡ true → IsReadAs n x
reads_as_zero n x zero is =
    ap (λ (k : Number). parse_float binary64 (number_text k)) zero ∙ zero_is_read ∙ sym (ap (λ (b : Bool). Some (cond b float_zero x)) is)
