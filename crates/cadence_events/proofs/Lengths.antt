-- The line of an event can be cut by the two lengths of its head.
use Rattle.std.proofs.Common.{◌≡◌, ℕ, List, ◌++◌, length, take, ap, ◌∙◌}
use Rattle.std.specs.Prelude.{codes}
use Rattle.std.proofs.lemmas.List.{append_assoc}
use Rattle.std.proofs.Math.Seq.{drop-append-add, drop-append_seam, take-append_seam}
use Rattle.cadence_text.specs.Line.{tags_field}
use Rattle.cadence_value.specs.Number.{decimal_text}
use Rattle.cadence_events.specs.Escapes.{escaped}
use Rattle.cadence_events.specs.Event.{Event, IsCutByLengths, event_fields, event_line, event_text}

pub cut_by_lengths : (e : Event) (line : List ℕ) → line ≡ event_line e → IsCutByLengths (escaped e.title) (escaped e.text) line
unfolding event_text
cut_by_lengths e line is =
    let title = escaped e.title in
    let text = escaped e.text in
    let fields = event_fields e (tags_field e.tags) in
    let behind : List ℕ = codes "|" ++ (text ++ fields) in
    let first = decimal_text (length title) in
    let second = decimal_text (length text) in
    record {
      rest = title ++ behind;
      whole =
          is
          ∙ ap (λ s. codes "_e{" ++ s) (append_assoc first (codes "," ++ (second ++ (codes "}:" ++ (title ++ (codes "|" ++ text))))) fields
          ∙ ap (λ s. first ++ (codes "," ++ s)) (append_assoc second (codes "}:" ++ (title ++ (codes "|" ++ text))) fields
          ∙ ap (λ s. second ++ (codes "}:" ++ s)) (append_assoc title (codes "|" ++ text) fields)));
      front = take-append_seam title behind;
      bar = ap (take 1) (drop-append_seam title behind);
      back = ap (take (length text)) (drop-append-add title behind 1) ∙ take-append_seam text fields;
    }
