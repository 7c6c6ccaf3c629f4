use Rattle.std.proofs.Common.{rules, ◌≡◌, ◌∙◌, ap₂, subst, ◌++◌, codes, List, ℕ, Ok, string_bytes}
use Rattle.cadence_text.specs.Draft.{draft_line}
use Rattle.cadence.proofs.client.sending.send_both.Goals as goal

pub returns : goal.returns
returns g c =
    let both : string_bytes c.in_ok-both.both ≡ draft_line c.args.first ++ (codes "\n" ++ draft_line c.args.second) =
    c.in_ok-both.ensures ∙ ap₂ (λ (a b : List ℕ). a ++ (codes "\n" ++ b)) c.in_ok-into_text.ensures.text (search rules) in (
      (c.in_ok-both.both, both, c.from.ensures),
      subst (λ (line : List ℕ). (n : ℕ) × g.C.MetricBackend.line_may_get c.args.client.now line (Ok n)) both (search rules),
    )
