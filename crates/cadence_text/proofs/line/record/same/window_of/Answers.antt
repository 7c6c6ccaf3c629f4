use Rattle.std.proofs.Common.{[], ◌-◌}
use Rattle.cadence_text.specs.Line.{line_of}
use Rattle.cadence_text.specs.PieceWriters.{window_text}
use Rattle.cadence_text.proofs.writing.WindowText.{window_whole}
use Rattle.cadence_text.proofs.line.record.same.window_of.Goals as goal

pub returns-clause-shown : goal.returns-clause-shown
returns-clause-shown g c =
    let begun = c.after-window.result in
    let ended = c.push_line.new.line in
    window_whole (window_text begun) (window_text ended) (line_of c.args.metric.now) begun.length (512 - ended.length) begun.skip
    c.args.skip ended.skip c.after-window.ensures.shown c.after-window.ensures.length c.after-window.ensures.skip (c.push_line.ensures.taken [])
