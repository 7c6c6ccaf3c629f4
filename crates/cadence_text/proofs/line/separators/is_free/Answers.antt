use Rattle.std.proofs.Common.{length, nat_eq, refl}
use Rattle.cadence_text.specs.OneReading.{IsNoSeparator}
use Rattle.cadence_text.proofs.grammar.FreeTexts.{free_at_end, tested_text}
use Rattle.cadence_text.proofs.line.separators.is_free.Goals as goal

pub returns-clause-free : goal.returns-clause-free
returns-clause-free c =
    let found = c.first_separator.ensures in
    free_at_end IsNoSeparator c.args.text.now c.first_separator.result found.bound found.front found.stops

pub returns-clause-test : goal.returns-clause-test
returns-clause-test c =
    let text = c.args.text.now in
    tested_text (nat_eq c.first_separator.result (length text)) text text refl (returns-clause-free c)
