use Rattle.std.proofs.Common.{rules, ◌≡◌, Some}
use Rattle.std.specs.Option.{option_copied}
use Rattle.cadence_read.proofs.FieldsRead.{time_refused}
use Rattle.cadence_read.proofs.fields.read_time.Goals as goal

pub returns-in-Err : goal.returns-in-Err
returns-in-Err c =
    let some : option_copied c.args.text ≡ Some c.in-Some.text.now = search rules in
    time_refused (option_copied c.args.text) c.in-Some.text.now c.in-Some-read_whole.time some c.in-Some-read_whole.ensures.1 c.in-Err.ensures
