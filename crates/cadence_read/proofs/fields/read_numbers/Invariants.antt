use Rattle.std.proofs.Common.{◌≡◌, ◌++◌, All, length, map}
use Rattle.std.specs.Option.{option_copied}
use Rattle.cadence_value.specs.Number.{Number, number_text, IsDecimal}
use Rattle.cadence_read.specs.LineTexts.{pieces_left}
use Rattle.cadence_read.proofs.Pieces.{pieces}
use Rattle.cadence_read.proofs.fields.read_numbers.Given as goal

abbrev pub decreases-loop-left : goal.decreases-loop-left
decreases-loop-left g l = length (pieces_left 58 (option_copied l.left))

abbrev pub invariant-loop-left : goal.invariant-loop-left
invariant-loop-left g l = record {
  read : map number_text (map (λ (n : Number). n) l.numbers.items) ++ pieces_left 58 (option_copied l.left) ≡ pieces 58 l.fn.text;
  good : All IsDecimal (map (λ (n : Number). n) l.numbers.items);
}
