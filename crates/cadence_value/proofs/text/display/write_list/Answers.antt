use Rattle.std.proofs.Common.{◌≡◌, ◌++◌, arith, codes, map, refl, take}
use Rattle.std.proofs.Output.{has_written_append, has_written_of_eq}
use Rattle.std.proofs.lemmas.Grind.{common_steps}
use Rattle.std.specs.Fmt.{HasWritten}
use Rattle.std.specs.List.{flat_map}
use Rattle.std.specs.Prelude.{IsOk}
use Rattle.cadence_value.specs.Number.{numbers_text}
use Rattle.cadence_value.specs.Number.{number_text}
use Rattle.cadence_value.proofs.text.display.write_list.Goals as goal

pub returns : goal.returns
returns g c = λ plain ok.
    let number = g.T.IsNumber.number in
    let n = number c.in-Some.first.now in
    let written : IsOk c.write_number.result = rw c.in_ok-write_number.was refl in
    let first : HasWritten g.W.Write.write_str_gives c.args.f.now (number_text n) c.write_number.new.f =
    c.write_number.ensures plain written in
    let others = c.loop-number.invariant first.plain in
    let joined : number_text n ++ flat_map (λ m. codes ":" ++ number_text m)
    (map number (take c.loop-number.number-index c.in-Some.others.now)) ≡ numbers_text (map number c.args.numbers.now) =
    grind (arith, common_steps) in
    has_written_of_eq _ _ _ _ _ joined (has_written_append _ _ _ _ _ _ first others)
