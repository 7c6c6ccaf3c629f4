use Rattle.std.proofs.Common.{◌++◌, codes, map, take}
use Rattle.std.specs.List.{All, flat_map}
use Rattle.cadence_value.specs.Number.{number_text, IsDecimal}
use Rattle.cadence_value.specs.Takes.{Takes}
use Rattle.cadence_value.proofs.text.numbers.push_list.Given as goal

abbrev pub invariant-loop-number : goal.invariant-loop-number
invariant-loop-number g l = record {
  taken : Takes g.S.ByteWriter.ends_as l.initial.line (flat_map (λ n. codes ":" ++ number_text n)
      (map g.T.IsNumber.number (take l.number-index l.others))) l.line;
  sized : All (λ n. IsDecimal (g.T.IsNumber.number n)) (take l.number-index l.others);
}
