use Rattle.std.proofs.Common.{◌≡◌, ◌+◌, ◌-◌, ◌++◌, ap, ◌∙◌, arith, take, length}
use Rattle.std.proofs.lemmas.List.{length-take-le}
use Rattle.std.proofs.lemmas.Slice.{take-put_mid}
use Rattle.cadence_text.proofs.writing.WindowText.{window_shows}
use Rattle.cadence_text.proofs.line.window.Window.show.Goals as goal

pub returns : goal.returns
returns c =
    let before = c.args.self.now in
    let count = c.min-count.result in
    let text = c.args.text.now in
    let copied : length c.copy_from_slice.new.self ≡ count = ap length c.copy_from_slice.ensures.after ∙ length-take-le count text (omega arith) in
    let shown =
    take-put_mid before.length (before.length + count - before.length) before.bytes c.copy_from_slice.new.self (before.length + count)
    (omega arith) (omega arith)
    ∙ ap (λ ys. take before.length before.bytes ++ ys) c.copy_from_slice.ensures.after in
    λ rest. window_shows before.bytes _ text rest before.length count before.skip c.requires (omega arith) c.min-count.ensures shown
