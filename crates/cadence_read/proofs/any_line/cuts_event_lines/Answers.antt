use Rattle.cadence_read.proofs.EventLines.{check_is_cut, cut_apart, event_is_cut}
use Rattle.cadence_read.proofs.any_line.cuts_event_lines.Goals as goal

pub returns : goal.returns
returns c = record { event = event_is_cut; check = check_is_cut; apart = cut_apart }
