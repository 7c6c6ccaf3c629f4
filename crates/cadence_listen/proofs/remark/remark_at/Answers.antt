use Rattle.cadence_listen.proofs.remark.remark_at.Goals as goal

pub returns : goal.returns
returns c = (c.wanted-why.result.now, c.in_ok-text.ensures)
