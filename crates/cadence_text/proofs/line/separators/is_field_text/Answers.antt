use Rattle.std.proofs.Common.{◌↔◌, IsTrue, rules}
use Rattle.cadence_text.specs.OneReading.{IsFieldText}
use Rattle.cadence_text.proofs.grammar.FreeTexts.{tested_field}
use Rattle.cadence_text.proofs.line.separators.is_field_text.Goals as goal

pub returns-clause-test : goal.returns-clause-test
returns-clause-test c =
    let field : IsTrue c.all.result ↔ IsFieldText c.args.text.now = search rules in
    tested_field c.all.result c.args.text.now field
