-- The line of the metric that a call means, and the drafts from which it is made.
use Rattle.std.proofs.Common.{◌≡◌, ◌<◌, ◌+◌, ℕ, Bool, List, [], ◌∷◌, ◌++◌, Option, Some, None, Ok, Err, append_assoc, ap, arith, get_or}
use Rattle.std.proofs.Common.{length, map, refl, suc, sym, take, ◌∙◌}
use Rattle.std.proofs.Math.Seq.{take-suc}
use Rattle.std.proofs.lemmas.List.{map-append}
use Rattle.std.specs.Prelude.{OnOk, Result}
use Rattle.cadence_text.specs.declared.line.MetricType.{MetricType}
use Rattle.cadence_text.specs.Metric.{Metric, Tag, with_tag}
use Rattle.cadence_value.specs.Number.{Number}
use Rattle.cadence_text.specs.Cleaned.{text_as}
use Rattle.cadence_text.specs.Line.{line_with}
use Rattle.cadence_settings.specs.Call.{metric_of_call, plain_call}
use Rattle.cadence_settings.specs.Settings.{Settings}
use Rattle.cadence_host.specs.Calls.{IsMetricOfCall, IsLineOfCall, IsRateOf, c_tag_as, kind_named, metric_with, with_c_tags, with_options}
use Rattle.cadence_host.specs.declared.call.COptions.{COptions}
use Rattle.cadence_host.specs.declared.call.CTag.{CTag}

-- The tags of the first i items of a list, and then that of the next one, are the tags of the first i + 1 items.
pub tags_more : {X : Type 0} (tag_of : X → Tag) (items : List X) (i : ℕ) (item : X) → i < length items
    → map tag_of (take i items) ++ tag_of (get_or items i item) ∷ [] ≡ map tag_of (take (i + 1) items)
tags_more tag_of items i item inside =
    let one : suc i ≡ i + 1 = omega arith in
    sym (map-append tag_of (take i items) (get_or items i item ∷ []))
    ∙ ap (map tag_of) (sym (take-suc items i item inside) ∙ ap (λ (n : ℕ). take n items) one)

-- The metric of a call with a known kind and a valid rate is the one that the call means.
means : (s : Settings) (n : ℕ) (k : MetricType) (key : List ℕ) (o : COptions) (rate : Option Number)
    → kind_named n ≡ Some k → IsRateOf o rate → IsMetricOfCall s n key o (metric_with s k key o rate)
unfolding metric_of_call
means s n k key o (Some rate) named rated = record { kind = named; rate = rated; metric = refl }
means s n k key o None named rated = record { kind = named; rate = rated; metric = refl }

-- The line of a call that was tested is the line of the metric that the call means.
pub is_line : (s : Settings) (n : ℕ) (k : MetricType) (key text value : List ℕ) (o : COptions) (rate : Option Number) (cleaned : Bool) (line : List ℕ)
    → text ≡ text_as cleaned key → cleaned ≡ s.cleaned → kind_named n ≡ Some k → IsRateOf o rate
    → line ≡ line_with value (with_options cleaned (metric_of_call s (plain_call k text [])) o rate) → IsLineOfCall s n key value o line
is_line s n k key text value o rate cleaned line tested same named rated shown = (
  metric_with s k key o rate,
  means s n k key o rate named rated,
  shown
      ∙ ap (λ (t : List ℕ). line_with value (with_options cleaned (metric_of_call s (plain_call k t [])) o rate)) tested
      ∙ ap (λ (b : Bool). line_with value (with_options b (metric_of_call s (plain_call k (text_as b key) [])) o rate)) same,
)

-- If a fact holds of a line, and another one too if the result is Ok, both hold of some line if the result is Ok.
pub with_line : {T E : Type 0} (r : Result T E) (line : List ℕ) (Is Packed : List ℕ → Type 0) → Is line → OnOk r (Packed line)
    → OnOk r ((x : List ℕ) × Is x × Packed x)
with_line (Ok t) line Is Packed is packed = (line, is, packed)
with_line (Err e) line Is Packed is packed = tt

-- A metric with the first i tags of a call, and then with the next tag, is the metric with the first i + 1 tags.
pub one_tag_more : (cleaned : Bool) (m : Metric) (tags : List CTag) (i : ℕ) (tag : CTag) → i < length tags
    → with_tag (with_c_tags cleaned m (take i tags)) (c_tag_as cleaned (get_or tags i tag)) ≡ with_c_tags cleaned m (take (i + 1) tags)
one_tag_more cleaned m tags i tag inside =
    ap (λ (ts : List Tag). record m { tags = ts })
    (append_assoc m.tags (map (c_tag_as cleaned) (take i tags)) (c_tag_as cleaned (get_or tags i tag) ∷ [])
    ∙ ap (λ (ts : List Tag). m.tags ++ ts) (tags_more (c_tag_as cleaned) tags i tag inside))
