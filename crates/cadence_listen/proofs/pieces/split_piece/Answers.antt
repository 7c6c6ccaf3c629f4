use Rattle.std.proofs.Common.{◌∙◌, ap}
use Rattle.cadence_read.proofs.Pieces.{pieces-at, pieces-none}
use Rattle.cadence_listen.specs.Filters.{pieces}
use Rattle.cadence_listen.proofs.pieces.split_piece.Goals as goal

pub returns-in-Some : goal.returns-in-Some
returns-in-Some c =
    ap (pieces c.args.mark) c.in-Some.ensures.whole ∙ pieces-at c.args.mark c.in-Some.piece.now c.in-Some.left.now c.in-Some.ensures.front

pub returns-in-None : goal.returns-in-None
returns-in-None c = pieces-none c.args.mark c.args.text.now c.in-None.ensures.none
