use Rattle.std.proofs.Common.{refl}
use Rattle.cadence_text.specs.FreeTexts.{is_no_separator}
use Rattle.cadence_text.proofs.grammar.SeparatorTable.{agrees, flags_from}
use Rattle.cadence_text.proofs.line.separators.is_no_separator.Goals as goal

pub has_no_flag-requires : goal.has_no_flag-requires
unfolding agrees is_no_separator
has_no_flag-requires c = flags_from _ refl refl
