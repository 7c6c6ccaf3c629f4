-- The text of drafts: their line, adding a tag, and the place in the text where the head ends.
use Rattle.std.proofs.Common.{◌≡◌, ℕ, ◌-◌, ◌<◌, ◌≤◌, Bool, true, false, Option, Some, None, List, [], ◌∷◌, ◌++◌, length, take, drop, ap}
use Rattle.std.proofs.Common.{ap₂, ◌∙◌, sym, subst, refl, append_assoc, arith, length-append, lit<}
use Rattle.std.proofs.lemmas.Grind.{flat_map-append}
use Rattle.std.proofs.lemmas.List.{append-nil, length-drop, take-append-drop, take-append-le, drop-append-le}
use Rattle.std.proofs.lemmas.Str.{IsCharBoundary-from_take, IsUtf8-append, IsUtf8-drop, IsUtf8-from_ascii, IsUtf8-had}
use Rattle.std.proofs.lemmas.Str.Ascii.{IsAscii-cons, IsAscii-nil}
use Rattle.std.proofs.Math.Logic.{∥∥₁_map}
use Rattle.std.proofs.Math.Seq.{take-append_seam, drop-append_seam}
use Rattle.std.specs.List.{flat_map}
use Rattle.std.specs.Prelude.{IfSome, IsUtf8, OnErr, OnOk, Result, Ok, Err}
use Rattle.cadence_text.specs.DraftParts.{IsCutAt}
use Rattle.cadence_text.specs.PieceWriters.{rotated_text}
use Rattle.cadence_value.specs.Number.{numbers_text}
use Rattle.cadence_text.specs.Draft.{Draft, draft_line, draft_of, draft_with, lead, tags_text_with, with_tag_text}
use Rattle.cadence_text.specs.Line.{container_field, enrichment_fields, key_text, kind_text, line_of, line_with, rate_field, tag_text, tags_field, time_field}
use Rattle.cadence_text.specs.Metric.{Metric, Tag, with_tag}
use Rattle.cadence_text.specs.MetricInMemory.{IsTextInMemory, IsTagInMemory}

-- The line of a draft with a text as its value has this value, and all else from the metric.
pub line_of_draft_with : (value : List ℕ) (m : Metric) → draft_line (draft_with value m) ≡ line_with value m
line_of_draft_with value m =
    let rest =
    rate_field m.rate ++ (tags_field m.tags ++ (container_field m.container ++ (enrichment_fields m.enrichment ++ time_field m.time))) in
    append_assoc m.name (58 ∷ (value ++ (124 ∷ kind_text m.kind))) rest
    ∙ ap (λ t. m.name ++ (58 ∷ t)) (append_assoc value (124 ∷ kind_text m.kind) rest)

-- The line of a metric's draft is the metric's line.
pub line_of_draft : (m : Metric) → draft_line (draft_of m) ≡ line_of m
unfolding line_of
line_of_draft m = line_of_draft_with (numbers_text m.numbers) m

-- The field of tags with one more tag at its end.
pub added_tag : (tags : List Tag) (t : Tag) → tags_text_with (tags_field tags) t ≡ tags_field (tags ++ t ∷ [])
added_tag [] t = ap (λ rest. 124 ∷ 35 ∷ rest) (sym (append-nil (tag_text t)))
added_tag (x ∷ tags) t =
    let comma : Tag → List ℕ = λ tag. 44 ∷ tag_text tag in
    let last : flat_map comma (tags ++ t ∷ []) ≡ flat_map comma tags ++ (44 ∷ tag_text t) =
    flat_map-append comma tags (t ∷ []) ∙ ap (λ rest. flat_map comma tags ++ (44 ∷ rest)) (append-nil (tag_text t)) in
    ap (λ rest. 124 ∷ 35 ∷ rest) (append_assoc (tag_text x) (flat_map comma tags) (44 ∷ tag_text t) ∙ ap (λ rest. tag_text x ++ rest) (sym last))

pub tagged_draft : (value : List ℕ) (m : Metric) (t : Tag) → with_tag_text (draft_with value m) t ≡ draft_with value (with_tag m t)
tagged_draft value m t =
    ap (λ tags. record (draft_with value m) { tags = tags }) (added_tag m.tags t)

pub draft_with_tag : (m : Metric) (t : Tag) → with_tag_text (draft_of m) t ≡ draft_of (with_tag m t)
draft_with_tag m t = tagged_draft (numbers_text m.numbers) m t

-- If a draft is that of a metric, the draft with one more tag is that of the metric with this tag.
pub tag_of_metric : (old new : Draft) (t : Tag) → new ≡ with_tag_text old t → (m : Metric) → old ≡ draft_of m → new ≡ draft_of (with_tag m t)
tag_of_metric old new t e m is = e ∙ ap (λ (d : Draft). with_tag_text d t) is ∙ draft_with_tag m t

pub line_of_metric : (d : Draft) (line : List ℕ) → line ≡ draft_line d → (m : Metric) → d ≡ draft_of m → line ≡ line_of m
line_of_metric d line e m is = e ∙ ap draft_line is ∙ line_of_draft m

-- A tag is in UTF-8 together with the comma or the `|#` before it.
one_byte : (b : ℕ) → b < 128 → IsUtf8 (b ∷ [])
one_byte b h = IsUtf8-from_ascii (b ∷ []) (IsAscii-cons b [] h IsAscii-nil)

lead_utf8 : (begun : Bool) → IsUtf8 (lead begun)
lead_utf8 true = one_byte 44 (lit< tt)
lead_utf8 false = IsUtf8-append (124 ∷ []) (35 ∷ []) (one_byte 124 (lit< tt)) (one_byte 35 (lit< tt))

key_utf8 : (k : Option (List ℕ)) (text : List ℕ) → IfSome k IsTextInMemory → IsUtf8 text → IsUtf8 (key_text k ++ text)
key_utf8 (Some k) text h t = IsUtf8-append (k ++ 58 ∷ []) text (IsUtf8-append k (58 ∷ []) h.1 (one_byte 58 (lit< tt))) t
key_utf8 None text h t = t

pub tag_utf8 : (begun : Bool) (t : Tag) → IsTagInMemory t → IsUtf8 (lead begun ++ tag_text t)
tag_utf8 begun t h = IsUtf8-append (lead begun) (tag_text t) (lead_utf8 begun) (key_utf8 t.key t.text h.key h.text.1)

pub lead_short : (begun : Bool) → (0 < length (lead begun)) × (length (lead begun) ≤ 2)
lead_short true = (lit< tt, omega arith)
lead_short false = (lit< tt, omega arith)

-- The lemmas that follow show that the texts on both sides of the place where the head ends are in UTF-8.

cut_same : (head : ℕ) (old new : List ℕ) → IsCutAt head old → new ≡ old → IsCutAt head new
cut_same head old new h e = subst (IsCutAt head) (sym e) h

-- If a head can end at a place of a text, it can still end there if more text comes after the text.
cut_more : (head : ℕ) (old new more : List ℕ) → IsCutAt head old → IsUtf8 more → new ≡ old ++ more → IsCutAt head new
cut_more head old new more h utf8 e =
    let (some, within, sides) = h in
    subst (IsCutAt head) (sym e) (
      some,
      omega (arith, within, length-append old more),
      ∥∥₁_map sides
          (λ s. (
            subst IsUtf8 (sym (take-append-le head old more within)) s.0,
            subst IsUtf8 (sym (drop-append-le head old more within))
                (IsUtf8-append (drop head old) more s.1 utf8),
          )),
    )

-- If a head can end at a place of a text, it can still end there after more text was added, and also if memory ran out
-- and nothing was added.
pub cut_added : {U E : Type 0} (head : ℕ) (old new more : List ℕ) (answer : Result U E) → IsCutAt head old
    → OnOk answer (new ≡ old ++ more) → OnOk answer (IsUtf8 more) → OnErr answer (new ≡ old) → IsCutAt head new
cut_added head old new more (Ok u) h longer utf8 same = cut_more head old new more h utf8 longer
cut_added head old new more (Err e) h longer utf8 same = cut_same head old new h same

-- The texts on both sides of the place where the head ends are in UTF-8.
pub cut_sides : (head : ℕ) (items : List ℕ) → IsCutAt head items → IsUtf8 (take head items) × IsUtf8 (drop head items)
cut_sides head items h =
    let (some, within, sides) = h in
    (IsUtf8-had (take head items) (∥∥₁_map sides (λ s. s.0)), IsUtf8-had (drop head items) (∥∥₁_map sides (λ s. s.1)))

-- A rate is written after the tags, and is then moved in front of them.
pub rate_between : (head : ℕ) (items rate : List ℕ) → IsCutAt head items
    → rotated_text head (length items - head) (items ++ rate) ≡ take head items ++ (rate ++ drop head items)
rate_between head items rate (some, within, sides) =
    let tags = drop head items in
    let n : length items - head ≡ length tags = omega (arith, within, length-drop head items) in
    let front : take head (items ++ rate) ≡ take head items = take-append-le head items rate within in
    let back : drop head (items ++ rate) ≡ tags ++ rate = drop-append-le head items rate within in
    ap (λ f. f ++ (drop (length items - head) (drop head (items ++ rate)) ++ take (length items - head) (drop head (items ++ rate)))) front
    ∙ ap (λ b. take head items ++ (drop (length items - head) b ++ take (length items - head) b)) back
    ∙ ap (λ k. take head items ++ (drop k (tags ++ rate) ++ take k (tags ++ rate))) n
    ∙ ap₂ (λ a b. take head items ++ (a ++ b)) (drop-append_seam tags rate) (take-append_seam tags rate)

-- If a text and its beginning are in UTF-8, so is the rest of it.
pub rest_utf8 : (first rest whole : List ℕ) → IsUtf8 first → IsUtf8 whole → whole ≡ first ++ rest → IsUtf8 rest
rest_utf8 first rest whole hf hw e =
    let here : IsUtf8 (first ++ rest) = subst IsUtf8 e hw in
    let front : IsUtf8 (take (length first) (first ++ rest)) = subst IsUtf8 (sym (take-append_seam first rest)) hf in
    subst IsUtf8 (drop-append_seam first rest) (IsUtf8-drop (first ++ rest) (length first) here
    (IsCharBoundary-from_take (first ++ rest) (length first) here (omega (arith, length-append first rest)) front))

-- The text is in UTF-8 after the rate was moved between the head and the tags.
pub rate_utf8 : (head : ℕ) (items rate : List ℕ) → IsCutAt head items → IsUtf8 (items ++ rate)
    → IsUtf8 (rotated_text head (length items - head) (items ++ rate))
rate_utf8 head items rate cut whole =
    let (a, b) = cut_sides head items cut in
    let both : IsUtf8 items = subst IsUtf8 (take-append-drop head items) (IsUtf8-append (take head items) (drop head items) a b) in
    let r : IsUtf8 rate = rest_utf8 items rate (items ++ rate) both whole refl in
    subst IsUtf8 (sym (rate_between head items rate cut)) (IsUtf8-append (take head items) (rate ++ drop head items) a
    (IsUtf8-append rate (drop head items) r b))

-- A head that isn't empty can end at the place where tags follow it.
pub cut_new : (head : ℕ) (first tags items : List ℕ) → head ≡ length first → 0 < length first → IsUtf8 first → IsUtf8 tags
    → items ≡ first ++ tags → IsCutAt head items
cut_new head first tags items is some hf ht e =
    let here : IsCutAt (length first) (first ++ tags) = (
      some,
      omega (arith, length-append first tags),
      ∣ (
        subst IsUtf8 (sym (take-append_seam first tags)) hf,
        subst IsUtf8
            (sym (drop-append_seam first tags)) ht,
      ) ∣₁,
    ) in
    subst (λ n. IsCutAt n items) (sym is) (subst (IsCutAt (length first)) (sym e) here)

pub cut_first : (head : ℕ) (first tags items : List ℕ) → head ≡ length first → items ≡ first ++ tags → take head items ≡ first
cut_first head first tags items is e = ap₂ (λ n l. take n l) is e ∙ take-append_seam first tags

pub cut_last : (head : ℕ) (first tags items : List ℕ) → head ≡ length first → items ≡ first ++ tags → drop head items ≡ tags
cut_last head first tags items is e = ap₂ (λ n l. drop n l) is e ∙ drop-append_seam first tags
