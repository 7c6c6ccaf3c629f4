use Rattle.std.proofs.Common.{◌+◌, ◌-◌, length, arith}
use Rattle.std.proofs.lemmas.Grind.{common_steps}
use Rattle.std.proofs.lemmas.Slice.{take-put_mid}
use Rattle.cadence_value.proofs.text.display.NumberBufPieceWriter.take_piece.Goals as goal

pub returns-clause-taken : goal.returns-clause-taken
returns-clause-taken c =
    let old = c.args.self.now in
    let piece = c.args.piece.now in
    let copied =
    take-put_mid old.len (old.len + length piece - old.len) old.bytes c.copy_from_slice.new.self (old.len + length piece) in
    λ rest. grind (arith, common_steps, copied)
