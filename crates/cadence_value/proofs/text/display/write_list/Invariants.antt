use Rattle.std.proofs.Common.{◌++◌, codes, map, take}
use Rattle.std.specs.Fmt.{HasWritten, IsPlainFormatter}
use Rattle.std.specs.List.{flat_map}
use Rattle.cadence_value.specs.Number.{number_text}
use Rattle.cadence_value.proofs.text.display.write_list.Given as goal

abbrev pub invariant-loop-number : goal.invariant-loop-number
invariant-loop-number g l =
    IsPlainFormatter l.initial.f
    → HasWritten g.W.Write.write_str_gives l.initial.f (flat_map (λ n. codes ":" ++ number_text n)
    (map g.T.IsNumber.number (take l.number-index l.others))) l.f
