use Rattle.std.proofs.Common.{◌≡◌, ◌∙◌, ap, sym}
use Rattle.std.specs.Option.{option_or}
use Rattle.cadence_environment.specs.Containers.{container_of, id_of_line}
use Rattle.cadence_environment.proofs.Groups.{first_line, one_line}
use Rattle.cadence_environment.proofs.container.find_id.Goals as goal

pub returns-in-Some-id_of_line : goal.returns-in-Some-id_of_line
returns-in-Some-id_of_line c =
    let line = c.in-Some.line.now in
    let lines = c.in-Some.lines.now in
    let cut : container_of c.loop-line.rest.now ≡ option_or (id_of_line line) (container_of lines) =
    ap container_of c.in-Some.ensures.whole ∙ first_line line lines c.in-Some.ensures.front in
    ap (λ o. option_or o (container_of lines)) c.in-Some-id_of_line.ensures ∙ sym cut ∙ c.loop-line.invariant

pub loop-line-preserved : goal.loop-line-preserved
loop-line-preserved c =
    let line = c.in-Some.line.now in
    let lines = c.in-Some.lines.now in
    let cut : container_of c.loop-line.rest.now ≡ option_or (id_of_line line) (container_of lines) =
    ap container_of c.in-Some.ensures.whole ∙ first_line line lines c.in-Some.ensures.front in
    ap (λ o. option_or o (container_of lines)) c.in_default-id_of_line.ensures ∙ sym cut ∙ c.loop-line.invariant

pub returns : goal.returns
returns c = c.id_of_line-2.ensures ∙ sym (one_line c.loop-line.rest.now c.in_default.ensures.none) ∙ c.loop-line.invariant
