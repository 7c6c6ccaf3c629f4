use Rattle.std.proofs.Common.{◌++◌, ◌-◌, ap, take}
use Rattle.cadence_text.specs.PieceWriters.{window_text}
use Rattle.cadence_text.proofs.writing.WindowText.{passed}
use Rattle.cadence_text.proofs.line.window.Window.pass.Goals as goal

pub returns-then-length-self : goal.returns-then-length-self
returns-then-length-self c = λ rest.
    ap (λ t. window_text c.args.self.now ++ take (512 - c.args.self.now.length) t)
    (passed c.args.text.now rest c.args.self.now.skip c.if-length-self.true)
