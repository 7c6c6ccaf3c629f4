-- The context of the lines of a metric whose texts have no separator.
use Rattle.std.proofs.Common.{◌≡◌, ◌≢◌, ℕ, List, [], ◌∷◌, ◌++◌, Option, Some, None, length, sym, ap, subst, ◌∙◌, arith}
use Rattle.std.specs.List.{AllByRecursion}
use Rattle.std.proofs.lemmas.List.{length-append}
use Rattle.std.proofs.lemmas.List.Elements.{All-from_recursion, recursion_from_All}
use Rattle.cadence_text.proofs.grammar.LineText.{barred, cardinality_part, clear_lacks_bars, clear_line_lacks, container_part, enrichment_parts, external_part}
use Rattle.cadence_text.proofs.grammar.LineText.{front_of, joined-barred, last_of, line_of-joined, rate_part, tags_part, time_part}
use Rattle.cadence_text.specs.declared.line.enrichment.Cardinality.{Cardinality}
use Rattle.cadence_text.specs.declared.line.MetricType.{MetricType}
use Rattle.cadence_text.specs.declared.line.MetricType.TheVariants.{Counter, Timer, Gauge, Meter, Histogram, Set, Distribution}
use Rattle.cadence_text.specs.Line.{kind_text, line_of}
use Rattle.cadence_text.specs.Metric.{Enrichment, Metric, Tag}
use Rattle.cadence_text.specs.OneReading.{IsClear, IsFreeText, IsNoSeparator}
use Rattle.cadence_value.proofs.lists.SplitTexts.{Lacks, each_append, lacks_no}
use Rattle.cadence_value.specs.Number.{Number}
use Rattle.cadence_aggregating.specs.Additions.{IsAddable}
use Rattle.cadence_aggregating.specs.Says.{HasTime, IsEventName}
use Rattle.cadence_aggregating.proofs.Saying.{time_behind}

-- A name without a separator is not that of an event.
plain_name : (name : List ℕ) → IsFreeText name → IsEventName name → ⊥
plain_name name free (rest, its, (size, later, cut)) =
    let plain : AllByRecursion IsNoSeparator name = recursion_from_All IsNoSeparator name free in
    lacks_no 44 (95 ∷ 101 ∷ 123 ∷ size) later (subst (Lacks 44) (its ∙ ap (λ t. 95 ∷ 101 ∷ 123 ∷ t) cut) (no_commas name plain))
  where
    no_commas : (text : List ℕ) → AllByRecursion IsNoSeparator text → Lacks 44 text
    no_commas [] h = tt
    no_commas (b ∷ text) (h, hs) = (h.1, no_commas text hs)

-- A field that is no time.
abbrev IsNoTime : List ℕ → Type 0
IsNoTime [] = ⊥
IsNoTime (mark ∷ text) = mark ≢ 84

no_time : (fields : List (List ℕ)) → AllByRecursion (Lacks 124) fields → AllByRecursion IsNoTime fields → HasTime (barred fields) → ⊥
no_time [] bars times (before, after, its) =
    absurd (omega (arith, ap (λ t. length t) its, length-append before (124 ∷ 84 ∷ after)))
no_time ([] ∷ fields) (bar, bars) (time, times) h = time
no_time ((mark ∷ text) ∷ fields) (bar, bars) (time, times) ([], after, its) =
    let same : mark ≡ 84 = cc its in time same
no_time ((mark ∷ text) ∷ fields) (bar, bars) (time, times) (x ∷ before, after, its) =
    let tails : (mark ∷ text) ++ barred fields ≡ before ++ 124 ∷ 84 ∷ after = cc its in
    no_time fields bars times (time_behind (mark ∷ text) (barred fields) before after bar tails)

-- The fields of a metric without a time are no time.
own_fields : (rate : Option Number) (tags : List Tag) (container : Option (List ℕ)) (enrichment : Enrichment)
    → AllByRecursion IsNoTime (rate_part rate ++ (tags_part tags ++ (container_part container ++ (enrichment_parts enrichment ++ time_part None))))
own_fields rate tags container e =
    let ending = enrichment_parts e ++ [] in
    each_append IsNoTime (rate_part rate) (tags_part tags ++ (container_part container ++ ending)) (of_rate rate)
    (each_append IsNoTime (tags_part tags) (container_part container ++ ending) (of_tags tags)
    (each_append IsNoTime (container_part container) ending (of_container container)
    (each_append IsNoTime (enrichment_parts e) []
    (each_append IsNoTime (external_part e.external) (cardinality_part e.cardinality) (of_external e.external) (of_cardinality e.cardinality)) tt)))
  where
    of_rate : (o : Option Number) → AllByRecursion IsNoTime (rate_part o)
    of_rate (Some r) = ((λ e. omega (arith, e)), tt)
    of_rate None = tt

    of_tags : (ts : List Tag) → AllByRecursion IsNoTime (tags_part ts)
    of_tags [] = tt
    of_tags (t ∷ ts) = ((λ e. omega (arith, e)), tt)

    of_container : (o : Option (List ℕ)) → AllByRecursion IsNoTime (container_part o)
    of_container (Some c) = ((λ e. omega (arith, e)), tt)
    of_container None = tt

    of_external : (o : Option (List ℕ)) → AllByRecursion IsNoTime (external_part o)
    of_external (Some e) = ((λ e. omega (arith, e)), tt)
    of_external None = tt

    of_cardinality : (o : Option Cardinality) → AllByRecursion IsNoTime (cardinality_part o)
    of_cardinality (Some c) = ((λ e. omega (arith, e)), tt)
    of_cardinality None = tt

kind_no_time : (kind : MetricType) → IsNoTime (kind_text kind)
kind_no_time Counter = λ e. omega (arith, e)
kind_no_time Timer = λ e. omega (arith, e)
kind_no_time Gauge = λ e. omega (arith, e)
kind_no_time Meter = λ e. omega (arith, e)
kind_no_time Histogram = λ e. omega (arith, e)
kind_no_time Set = λ e. omega (arith, e)
kind_no_time Distribution = λ e. omega (arith, e)

-- The line of a metric without a time can be added to others.
pub own_addable : (m : Metric) → IsClear m → m.time ≡ None → IsAddable (line_of m) m.name
own_addable m clear untimed =
    let (front, bars) = clear_lacks_bars m clear in
    let times : AllByRecursion IsNoTime (last_of m) =
    subst (λ t. AllByRecursion IsNoTime (rate_part m.rate ++ (tags_part m.tags ++ (container_part m.container ++ (enrichment_parts m.enrichment ++ time_part t)))))
    (sym untimed) (own_fields m.rate m.tags m.container m.enrichment) in
    let whole : line_of m ≡ front_of m ++ barred (kind_text m.kind ∷ last_of m) = line_of-joined m ∙ joined-barred (front_of m) (kind_text m.kind ∷ last_of m) in
    record {
      newline = All-from_recursion (λ b. b ≢ 10) (line_of m) (clear_line_lacks m clear);
      event = plain_name m.name clear.name;
      time = λ (before, after, its). no_time (kind_text m.kind ∷ last_of m) bars (kind_no_time m.kind, times)
          (time_behind (front_of m) (barred (kind_text m.kind ∷ last_of m)) before after front (sym whole ∙ its));
    }
