use Rattle.std.proofs.Common.{◌≡◌, ◌+◌, ◌∙◌, ◌∷◌, [], ◌++◌, List, ap, map, rules, string_bytes, sym, take}
use Rattle.std.proofs.lemmas.Grind.{flat_map-append}
use Rattle.std.proofs.lemmas.List.{append-nil, map-append, take_more}
use Rattle.std.specs.List.{flat_map}
use Rattle.std.specs.Prelude.{ℕ, codes}
use Rattle.cadence_cli.specs.Escapes.{text_line}
use Rattle.cadence_listen.specs.Lines.{listing_of}
use Rattle.cadence_text.specs.Line.{line_of}
use Rattle.cadence_text.specs.Metric.{Metric}
use Rattle.cadence_text.specs.Owned.{metric_of_owned}
use Rattle.cadence_listen.proofs.engine.listing_of.Goals as goal

-- The text that lists one more metric has one more line.
listing_more : (before : List Metric) (m : Metric) → listing_of (before ++ m ∷ []) ≡ listing_of before ++ text_line (codes "line") (line_of m)
listing_more before m =
    let show : Metric → List ℕ = λ metric. text_line (codes "line") (line_of metric) in
    flat_map-append show before (m ∷ []) ∙ ap (λ l. flat_map show before ++ l) (append-nil (show m))

pub loop-metric-preserved : goal.loop-metric-preserved
loop-metric-preserved g c =
    let metrics = c.args.metrics.now in
    let k = c.loop-metric.metric-index in
    let one = c.metric-item.result in
    let pushed : string_bytes c.push_text.new.out ≡ string_bytes c.loop-metric.text ++ text_line (codes "line")
    (string_bytes c.in_ok-line.line) = search rules in
    let next : take (k + 1) metrics ≡ take k metrics ++ one ∷ [] = take_more metrics k one c.loop-metric-test.true
    ∙ ap (λ o. take k metrics ++ o ∷ []) (sym c.metric-item.is) in
    let all : map metric_of_owned (take k metrics) ++ metric_of_owned one ∷ [] ≡ map metric_of_owned (take (k + 1) metrics) =
    sym (ap (map metric_of_owned) next ∙ map-append metric_of_owned (take k metrics) (one ∷ [])) in
    pushed ∙ ap (λ l. string_bytes c.loop-metric.text ++ text_line (codes "line") l) c.in_ok-line.ensures.line
    ∙ ap (λ t. t ++ text_line (codes "line") (line_of (metric_of_owned one))) c.loop-metric.invariant
    ∙ sym (listing_more (map metric_of_owned (take k metrics)) (metric_of_owned one)) ∙ ap listing_of all
