use Rattle.std.proofs.Common.{◌≡◌, ◌∙◌, ◌++◌, None, ap, append_assoc, drop, rules, subst, sym, take, take-append-drop}
use Rattle.std.specs.Option.{option_copied}
use Rattle.cadence_text.specs.Cleaned.{container_as}
use Rattle.cadence_text.specs.Draft.{Draft, draft_line}
use Rattle.cadence_text.specs.Line.{container_field, enrichment_fields, rate_field, time_field}
use Rattle.cadence_text.specs.Record.{enrichment_of}
use Rattle.cadence_text.proofs.line.draft.DraftLine.finish.Goals as goal
use Rattle.cadence_text.proofs.line.draft.DraftLine.finish.Goals.{then-is_some+in_ok-insert_rate, else-is_some}

pub returns : goal.returns
returns g c =
    let inside = c.self.inside in
    let items = inside.line.bytes.items in
    let front = take inside.head items in
    let back = drop inside.head items in
    let rate = rate_field inside.rate in
    let ending = enrichment_fields (enrichment_of inside.enrichment) ++ time_field inside.time in
    let last = container_field (container_as inside.is_cleaned (option_copied inside.container)) ++ ending in
    let rated : c.if-is_some.line.bytes.items ≡ front ++ (rate ++ back) = elim c.if-is_some.branch [
      | then-is_some+in_ok-insert_rate w ↦ search rules
      | else-is_some w ↦ (let none : inside.rate ≡ None = search rules in
          let same : c.if-is_some.line.bytes.items ≡ items = search rules in
          same ∙ sym (take-append-drop inside.head items) ∙ ap (λ r. front ++ (rate_field r ++ back)) (sym none))
    ] in
    let ended : c.end_with.new.line.bytes.items ≡ c.if-is_some.line.bytes.items ++ last = search rules in
    subst (λ (d : Draft). c.end_with.new.line.bytes.items ≡ draft_line d) c.self.view_is
    (ended ∙ ap (λ l. l ++ last) rated ∙ append_assoc front (rate ++ back) last ∙ ap (λ l. front ++ l) (append_assoc rate back last))
