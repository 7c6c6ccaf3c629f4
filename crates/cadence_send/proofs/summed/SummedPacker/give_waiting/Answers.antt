use Rattle.std.proofs.Common.{◌≡◌, ◌∙◌, ◌∷◌, [], ap, refl, sym, take}
use Rattle.cadence_aggregating.specs.Summed.{waiting_in}
use Rattle.cadence_send.specs.Summed.{gives_more, gives_none, sums_of}
use Rattle.cadence_aggregating.proofs.FewerWait.{fewer_wait, waits}
use Rattle.cadence_send.proofs.Summing.{gives_first, gives_kept}
use Rattle.cadence_send.proofs.summed.SummedPacker.give_waiting.Goals as goal

pub loop-line-init : goal.loop-line-init
loop-line-init g c = (gives_none g.T.PacketWriter.kind g.T.PacketWriter.history c.args.self.now, refl, refl, λ none. refl)

pub loop-line-preserved : goal.loop-line-preserved
loop-line-preserved g c =
    let kind = g.T.PacketWriter.kind in
    let history = g.T.PacketWriter.history in
    let a = c.loop-line.self in
    let (gives, accepted, held, same) = c.loop-line.invariant in
    let line = c.as_bytes.result.now in
    let first : take 1 (waiting_in (sums_of a)) ≡ line ∷ [] = c.in-Some.ensures.first ∙ ap (λ t. t ∷ []) (sym c.as_bytes.ensures.value) in (
      gives_more kind history c.args.self.now a _ gives
          (gives_first kind history a _ line first c.drop_first.ensures.gone c.in_ok-take.ensures.taken),
      c.drop_first.ensures.accepted ∙ accepted,
      c.drop_first.ensures.held ∙ held,
      λ none. absurd (waits (waiting_in (sums_of a)) line first (ap (λ x. waiting_in (sums_of x)) (same none) ∙ none)),
    )

pub loop-line-smaller : goal.loop-line-smaller
loop-line-smaller g c =
    fewer_wait (waiting_in (sums_of c.loop-line.self)) (waiting_in c.drop_first.new.self) c.in-Some.line.now c.in-Some.ensures.first c.drop_first.ensures.rest

pub returns-in_err-take-clause-none : goal.returns-in_err-take-clause-none
returns-in_err-take-clause-none g c = λ none.
    let a = c.loop-line.self in
    let (gives, accepted, held, same) = c.loop-line.invariant in
    absurd (waits (waiting_in (sums_of a)) c.in-Some.line.now c.in-Some.ensures.first (ap (λ x. waiting_in (sums_of x)) (same none) ∙ none))

pub returns-in_err-take-clause-gives : goal.returns-in_err-take-clause-gives
returns-in_err-take-clause-gives g c =
    let kind = g.T.PacketWriter.kind in
    let history = g.T.PacketWriter.history in
    gives_more kind history c.args.self.now c.loop-line.self _ c.loop-line.invariant.0
    (gives_kept kind history c.loop-line.self _ refl c.in_err-take.ensures.kept)
