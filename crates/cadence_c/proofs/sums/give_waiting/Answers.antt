use Rattle.std.proofs.Common.{◌≡◌, ◌∙◌, ◌∷◌, [], ap, refl, subst, sym, take}
use Rattle.cadence_aggregating.specs.Summed.{waiting_in}
use Rattle.cadence_c.specs.Sums.{GivesLines}
use Rattle.cadence_aggregating.proofs.FewerWait.{fewer_wait, waits}
use Rattle.cadence_c.proofs.GivenLines.{gives_first, gives_more, gives_none}
use Rattle.cadence_c.proofs.sums.give_waiting.Goals as goal

pub loop-line-init : goal.loop-line-init
loop-line-init c = (gives_none c.args.lines.now c.args.lines.now c.args.client.now refl refl, refl, refl, λ none. (refl, refl))

pub loop-line-preserved : goal.loop-line-preserved
loop-line-preserved c =
    let a = c.loop-line.lines in
    let b = c.drop_first.new.self in
    let (gives, accepted, held, same) = c.loop-line.invariant in
    let line = c.as_bytes.result.now in
    let first : take 1 (waiting_in a) ≡ line ∷ [] = c.in-Some.ensures.first ∙ ap (λ t. t ∷ []) (sym c.as_bytes.ensures.value) in (
      gives_more c.args.lines.now a b c.args.client.now c.loop-line.client c.pack.new.self gives
          (gives_first a b c.loop-line.client c.pack.new.self line first c.drop_first.ensures.limits c.drop_first.ensures.gone c.in_ok-pack.ensures.packed),
      c.drop_first.ensures.accepted ∙ accepted,
      c.drop_first.ensures.held ∙ held,
      λ none. absurd (waits (waiting_in a) line first (ap (λ x. waiting_in x) (same none).0 ∙ none)),
    )

pub loop-line-smaller : goal.loop-line-smaller
loop-line-smaller c =
    fewer_wait (waiting_in c.loop-line.lines) (waiting_in c.drop_first.new.self) c.in-Some.line.now c.in-Some.ensures.first c.drop_first.ensures.rest

-- nothing else happened before a line was refused
pub returns-in_err-pack-clause-none : goal.returns-in_err-pack-clause-none
returns-in_err-pack-clause-none c = λ none.
    let (gives, accepted, held, same) = c.loop-line.invariant in
    absurd (waits (waiting_in c.loop-line.lines) c.in-Some.line.now c.in-Some.ensures.first (ap (λ x. waiting_in x) (same none).0 ∙ none))

pub returns-in_err-pack-clause-gives : goal.returns-in_err-pack-clause-gives
returns-in_err-pack-clause-gives c =
    subst (GivesLines c.args.lines.now c.loop-line.lines c.args.client.now) (sym c.in_err-pack.ensures.refused) c.loop-line.invariant.0
