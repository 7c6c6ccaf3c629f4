-- The grammar of lines: different clear metrics have different lines, and so have lists of them.
use Rattle.std.proofs.Common.{◌≡◌, ◌≢◌, ℕ, ◌<◌, List, [], ◌∷◌, ◌++◌, length, Option, Some, None, Bool, refl, sym, ap, ◌∙◌, ap₂, subst}
use Rattle.std.proofs.Common.{arith, eqb, map, lit<, get_or, inl, inr}
use Rattle.std.specs.Prelude.{All, IfSome, codes, ◌&&◌}
use Rattle.std.specs.List.{AllByRecursion, join_with_byte, flat_map}
use Rattle.std.proofs.lemmas.List.{append-nil, append_assoc, length-append}
use Rattle.std.proofs.lemmas.List.Concat.{flat_map-append}
use Rattle.std.proofs.lemmas.List.Elements.{recursion_from_All, All-head, All-weaker}
use Rattle.cadence_text.specs.declared.line.MetricType.{MetricType}
use Rattle.cadence_text.specs.declared.line.MetricType.TheVariants.{Counter, Timer, Gauge, Meter, Histogram, Set, Distribution}
use Rattle.cadence_value.specs.Number.{Number, decimal_text, number_text, joined_texts, numbers_text}
use Rattle.cadence_text.specs.declared.line.enrichment.Cardinality.{Cardinality}
use Rattle.cadence_text.specs.declared.line.enrichment.Cardinality.TheVariants.{NoTags, Low, Orchestrator, High}
use Rattle.cadence_text.specs.Metric.{Enrichment, Metric, Tag}
use Rattle.cadence_text.specs.Line.{kind_text, rate_field, key_text, tag_text, tags_field, container_field, time_field, line_of}
use Rattle.cadence_text.specs.Line.{cardinality_field, cardinality_text, enrichment_fields, external_field}
use Rattle.cadence_text.specs.OneReading.{EndsNoField, IsFieldText, IsNoSeparator, IsNoTagEnd, IsFreeText, IsFreeTag, IsFreeOfSeparators}
use Rattle.cadence_text.specs.OneReading.{IsClearAfter, IsClearTag, IsClear, lines_of, IsPacketOf}
use Rattle.cadence_value.proofs.lists.SplitTexts.{Lacks, lacks_no, cut_at, join_once, map_once, each_weaker, each_mapped, each_image, each_append}
use Rattle.cadence_value.proofs.lists.SplitTexts.{each_joined, cut_once, Stops, Passes}
use Rattle.cadence_value.proofs.digits.Digits.{decimal_text_once}
use Rattle.cadence_value.proofs.digits.NumberText.{number_once, number_bytes, IsNumberByte, number_some, decimal_bytes}

-- Texts with a byte between each two are the texts joined by that byte.
pub joined_texts-joined : {X : Type 0} (c : ℕ) (text : X → List ℕ) (xs : List X) → joined_texts (c ∷ []) text xs ≡ join_with_byte c (map text xs)
joined_texts-joined c text [] = refl
joined_texts-joined c text (x ∷ []) = append-nil (text x)
joined_texts-joined c text (x ∷ y ∷ xs) = ap (λ t. text x ++ (c ∷ t)) (joined_texts-joined c text (y ∷ xs))

-- the fields of a line, which bars separate; `parts_of` has all of them
abbrev pub rate_part : Option Number → List (List ℕ)
rate_part (Some rate) = (64 ∷ number_text rate) ∷ []
rate_part None = []

abbrev pub tags_part : List Tag → List (List ℕ)
tags_part [] = []
tags_part (tag ∷ tags) = (35 ∷ join_with_byte 44 (map tag_text (tag ∷ tags))) ∷ []

abbrev pub container_part : Option (List ℕ) → List (List ℕ)
container_part (Some container) = (99 ∷ 58 ∷ container) ∷ []
container_part None = []

abbrev pub time_part : Option ℕ → List (List ℕ)
time_part (Some time) = (84 ∷ decimal_text time) ∷ []
time_part None = []

abbrev pub external_part : Option (List ℕ) → List (List ℕ)
external_part (Some external) = (101 ∷ 58 ∷ external) ∷ []
external_part None = []

abbrev pub cardinality_part : Option Cardinality → List (List ℕ)
cardinality_part (Some cardinality) = (codes "card:" ++ cardinality_text cardinality) ∷ []
cardinality_part None = []

abbrev pub enrichment_parts : Enrichment → List (List ℕ)
enrichment_parts e = external_part e.external ++ cardinality_part e.cardinality

abbrev pub front_of : Metric → List ℕ
front_of m = m.name ++ 58 ∷ join_with_byte 58 (map number_text m.numbers)

-- the fields after that of the container
abbrev pub end_of : Metric → List (List ℕ)
end_of m = enrichment_parts m.enrichment ++ time_part m.time

abbrev pub last_of : Metric → List (List ℕ)
last_of m = rate_part m.rate ++ (tags_part m.tags ++ (container_part m.container ++ end_of m))

abbrev pub parts_of : Metric → List (List ℕ)
parts_of m = front_of m ∷ kind_text m.kind ∷ last_of m

-- the fields, each with a bar before it
abbrev pub barred : List (List ℕ) → List ℕ
barred parts = flat_map (λ part. 124 ∷ part) parts

pub joined-barred : (part : List ℕ) (parts : List (List ℕ)) → join_with_byte 124 (part ∷ parts) ≡ part ++ barred parts
joined-barred part [] = sym (append-nil part)
joined-barred part (next ∷ parts) = ap (λ t. part ++ (124 ∷ t)) (joined-barred next parts)

barred-rate : (o : Option Number) → barred (rate_part o) ≡ rate_field o
barred-rate (Some r) = append-nil (124 ∷ 64 ∷ number_text r)
barred-rate None = refl

barred-tags : (tags : List Tag) → barred (tags_part tags) ≡ tags_field tags
barred-tags [] = refl
barred-tags (tag ∷ tags) = append-nil (124 ∷ 35 ∷ join_with_byte 44 (map tag_text (tag ∷ tags)))
    ∙ ap (λ t. 124 ∷ 35 ∷ t) (sym (joined_texts-joined 44 tag_text (tag ∷ tags)))

barred-container : (o : Option (List ℕ)) → barred (container_part o) ≡ container_field o
barred-container (Some c) = append-nil (124 ∷ 99 ∷ 58 ∷ c)
barred-container None = refl

barred-time : (o : Option ℕ) → barred (time_part o) ≡ time_field o
barred-time (Some t) = append-nil (124 ∷ 84 ∷ decimal_text t)
barred-time None = refl

barred-external : (o : Option (List ℕ)) → barred (external_part o) ≡ external_field o
barred-external (Some e) = append-nil (124 ∷ 101 ∷ 58 ∷ e)
barred-external None = refl

barred-cardinality : (o : Option Cardinality) → barred (cardinality_part o) ≡ cardinality_field o
barred-cardinality (Some c) = append-nil (124 ∷ (codes "card:" ++ cardinality_text c))
barred-cardinality None = refl

barred-enrichment : (e : Enrichment) → barred (enrichment_parts e) ≡ enrichment_fields e
barred-enrichment e =
    flat_map-append (λ (part : List ℕ). 124 ∷ part) (external_part e.external) (cardinality_part e.cardinality)
    ∙ ap₂ (λ s t. s ++ t) (barred-external e.external) (barred-cardinality e.cardinality)

pub barred-last : (m : Metric) → barred (last_of m)
    ≡ rate_field m.rate ++ (tags_field m.tags ++ (container_field m.container ++ (enrichment_fields m.enrichment ++ time_field m.time)))
barred-last m =
    let bar = λ (part : List ℕ). 124 ∷ part in
    flat_map-append bar (rate_part m.rate) (tags_part m.tags ++ (container_part m.container ++ end_of m))
    ∙ ap₂ (λ s t. s ++ t) (barred-rate m.rate) (flat_map-append bar (tags_part m.tags) (container_part m.container ++ end_of m)
    ∙ ap₂ (λ s t. s ++ t) (barred-tags m.tags) (flat_map-append bar (container_part m.container) (end_of m)
    ∙ ap₂ (λ s t. s ++ t) (barred-container m.container) (flat_map-append bar (enrichment_parts m.enrichment) (time_part m.time)
    ∙ ap₂ (λ s t. s ++ t) (barred-enrichment m.enrichment) (barred-time m.time))))

-- A line is its fields joined by bars.
pub line_of-joined : (m : Metric) → line_of m ≡ join_with_byte 124 (parts_of m)
unfolding line_of
line_of-joined m =
    let numbers : numbers_text m.numbers ≡ join_with_byte 58 (map number_text m.numbers) = joined_texts-joined 58 number_text m.numbers in
    ap₂ (λ s t. m.name ++ (58 ∷ (s ++ (124 ∷ (kind_text m.kind ++ t))))) numbers (sym (barred-last m))
    ∙ sym (append_assoc m.name (58 ∷ join_with_byte 58 (map number_text m.numbers)) (124 ∷ (kind_text m.kind ++ barred (last_of m))))
    ∙ sym (joined-barred (front_of m) (kind_text m.kind ∷ last_of m))

-- The byte is no bar and no newline, so it can be in a field.
abbrev PartByte : ℕ → Type 0
PartByte b = (b ≢ 124) × (b ≢ 10)

plain : (text : List ℕ) → IsFreeText text → AllByRecursion IsNoSeparator text
plain text h = recursion_from_All IsNoSeparator text h

pub plain_lacks_colon : (text : List ℕ) → IsFreeText text → Lacks 58 text
plain_lacks_colon text h = each_weaker IsNoSeparator (λ b. b ≢ 58) (λ b p. p.0) text (plain text h)

plain_part : (text : List ℕ) → IsFreeText text → AllByRecursion PartByte text
plain_part text h = each_weaker IsNoSeparator PartByte (λ b p. (p.2, p.3)) text (plain text h)

number_plain : (a : Number) → AllByRecursion IsNoSeparator (number_text a)
number_plain a =
    each_weaker IsNumberByte IsNoSeparator (λ b p. let (low, high) = p in (
      λ e. absurd (omega arith),
      λ e. absurd (omega arith),
      λ e. absurd
          (omega arith),
      λ e. absurd (omega arith),
    )) (number_text a) (number_bytes a)

-- What is free of separators is clear.
free_after : (key : Option (List ℕ)) (text : List ℕ) → IsFreeText text → IsClearAfter key text
free_after None text h = h
free_after (Some key) text h = All-weaker IsNoSeparator IsNoTagEnd (λ b p. (p.1, p.2, p.3)) text h

pub free_tag_clear : (tag : Tag) → IsFreeTag tag → IsClearTag tag
free_tag_clear tag h = record { key = h.key; text = free_after tag.key tag.text h.text }

free_field : (text : Option (List ℕ)) → IfSome text IsFreeText → IfSome text IsFieldText
free_field None h = tt
free_field (Some text) h = All-weaker IsNoSeparator EndsNoField (λ b p. (p.2, p.3)) text h

pub free_clear : (m : Metric) → IsFreeOfSeparators m → IsClear m
free_clear m h = record {
  name = h.name;
  tags = All-weaker IsFreeTag IsClearTag free_tag_clear m.tags h.tags;
  container = h.container;
  external = free_field m.enrichment.external h.external;
}

-- the text of a tag: `key:text`, or the text alone
abbrev pub keyed_text : Option (List ℕ) → List ℕ → List ℕ
keyed_text (Some key) text = key ++ 58 ∷ text
keyed_text None text = text

pub key_text-keyed : (k : Option (List ℕ)) (s : List ℕ) → key_text k ++ s ≡ keyed_text k s
key_text-keyed (Some k) s = append_assoc k (58 ∷ []) s
key_text-keyed None s = refl

-- Two clear tags that have the same text are the same tag.
keyed_once : (k l : Option (List ℕ)) (s t : List ℕ) → IfSome k IsFreeText → IfSome l IsFreeText → IsClearAfter k s → IsClearAfter l t
    → keyed_text k s ≡ keyed_text l t → (k ≡ l) × (s ≡ t)
keyed_once (Some k) (Some l) s t hk hl hs ht e =
    let (same, rest) = cut_at 58 k l (58 ∷ s) (58 ∷ t) (plain_lacks_colon k hk) (plain_lacks_colon l hl) refl refl e in (ap Some same, cc)
keyed_once (Some k) None s t hk hl hs ht e =
    let (same, rest) = cut_at 58 k t (58 ∷ s) [] (plain_lacks_colon k hk) (plain_lacks_colon t ht) refl tt (e ∙ sym (append-nil t)) in absurd cc
keyed_once None (Some l) s t hk hl hs ht e =
    let (same, rest) = cut_at 58 s l [] (58 ∷ t) (plain_lacks_colon s hs) (plain_lacks_colon l hl) tt refl (append-nil s ∙ e) in absurd cc
keyed_once None None s t hk hl hs ht e = (refl, e)

tag_once : (a b : Tag) → IsClearTag a → IsClearTag b → tag_text a ≡ tag_text b → a ≡ b
tag_once a b ha hb e =
    let (key, text) = keyed_once a.key b.key a.text b.text ha.key hb.key ha.text hb.text (sym (key_text-keyed a.key a.text) ∙ e
    ∙ key_text-keyed b.key b.text) in
    λ i. record { key = key i; text = text i }

plain_tag_bytes : (text : List ℕ) → IsFreeText text → AllByRecursion IsNoTagEnd text
plain_tag_bytes text h = each_weaker IsNoSeparator IsNoTagEnd (λ b p. (p.1, p.2, p.3)) text (plain text h)

keyed_bytes : (k : Option (List ℕ)) (s : List ℕ) → IfSome k IsFreeText → IsClearAfter k s → AllByRecursion IsNoTagEnd (keyed_text k s)
keyed_bytes (Some k) s hk hs =
    each_append IsNoTagEnd k (58 ∷ s) (plain_tag_bytes k hk) (
      (
        λ e. absurd (omega arith),
        λ e. absurd (omega arith),
        λ e. absurd
            (omega arith),
      ),
      recursion_from_All IsNoTagEnd s hs,
    )
keyed_bytes None s hk hs = plain_tag_bytes s hs

tag_bytes : (a : Tag) → IsClearTag a → AllByRecursion IsNoTagEnd (tag_text a)
tag_bytes a h = subst (λ t. AllByRecursion IsNoTagEnd t) (sym (key_text-keyed a.key a.text)) (keyed_bytes a.key a.text h.key h.text)

pub kind_once : (a b : MetricType) → kind_text a ≡ kind_text b → a ≡ b
kind_once Counter Counter e = refl
kind_once Timer Timer e = refl
kind_once Gauge Gauge e = refl
kind_once Meter Meter e = refl
kind_once Histogram Histogram e = refl
kind_once Set Set e = refl
kind_once Distribution Distribution e = refl
kind_once a b e = absurd (omega (arith, ap (λ t. get_or t 0 0) e, ap (λ t. length t) e))

-- If the first piece is not empty, neither are the joined pieces.
joined_some : (c : ℕ) (x : List ℕ) (xs : List (List ℕ)) → 0 < length x → join_with_byte c (x ∷ xs) ≡ [] → ⊥
joined_some c x [] some e = absurd (omega (arith, ap (λ t. length t) e))
joined_some c x (y ∷ xs) some e = absurd (omega (arith, ap (λ t. length t) e, length-append x (c ∷ join_with_byte c (y ∷ xs))))

-- Two lists of numbers whose texts, joined by colons, are the same text are the same list.
pub number_lacks : (a : Number) → Lacks 58 (number_text a)
number_lacks a = each_weaker IsNoSeparator (λ b. b ≢ 58) (λ b p. p.0) (number_text a) (number_plain a)

numbers_alike : (xs ys : List Number) → map number_text xs ≡ map number_text ys → xs ≡ ys
numbers_alike [] [] e = refl
numbers_alike [] (y ∷ ys) e = absurd cc
numbers_alike (x ∷ xs) [] e = absurd cc
numbers_alike (x ∷ xs) (y ∷ ys) e =
    let head : number_text x ≡ number_text y = cc in
    let tail : map number_text xs ≡ map number_text ys = cc in
    let first : x ≡ y = number_once x y head in
    let rest : xs ≡ ys = numbers_alike xs ys tail in
    cc

numbers_once : (xs ys : List Number) → join_with_byte 58 (map number_text xs) ≡ join_with_byte 58 (map number_text ys) → xs ≡ ys
numbers_once [] [] e = refl
numbers_once [] (y ∷ ys) e = absurd (joined_some 58 (number_text y) (map number_text ys) (number_some y) (sym e))
numbers_once (x ∷ xs) [] e = absurd (joined_some 58 (number_text x) (map number_text xs) (number_some x) e)
numbers_once (x ∷ xs) (y ∷ ys) e =
    numbers_alike (x ∷ xs) (y ∷ ys)
    (join_once 58 (number_text x) (number_text y) (map number_text xs) (map number_text ys)
    (each_image number_text (Lacks 58) number_lacks (x ∷ xs)) (each_image number_text (Lacks 58) number_lacks (y ∷ ys)) e)

-- whether a field begins with this byte; each optional field has a first byte of its own
abbrev pub marked : ℕ → List ℕ → Bool
marked m part = eqb (get_or part 0 0) m

passes_rate : (o : Option Number) → Passes (marked 64) (rate_part o)
passes_rate (Some r) = (refl, tt)
passes_rate None = tt

passes_tags : (tags : List Tag) → Passes (marked 35) (tags_part tags)
passes_tags [] = tt
passes_tags (tag ∷ tags) = (refl, tt)

-- whether a field is that of the container, which the cardinality has the first byte of
abbrev pub contained : List ℕ → Bool
contained part = marked 99 part && eqb (get_or part 1 0) 58

passes_container : (o : Option (List ℕ)) → Passes contained (container_part o)
passes_container (Some c) = (refl, tt)
passes_container None = tt

passes_external : (o : Option (List ℕ)) → Passes (marked 101) (external_part o)
passes_external (Some e) = (refl, tt)
passes_external None = tt

passes_cardinality : (o : Option Cardinality) → Passes (marked 99) (cardinality_part o)
passes_cardinality (Some c) = (refl, tt)
passes_cardinality None = tt

stops_cardinality : (t : Option ℕ) → Stops (marked 99) (time_part t)
stops_cardinality (Some t) = refl
stops_cardinality None = tt

stops_external : (k : Option Cardinality) (t : Option ℕ) → Stops (marked 101) (cardinality_part k ++ time_part t)
stops_external (Some k) t = refl
stops_external None (Some t) = refl
stops_external None None = tt

stops_container : (e : Option (List ℕ)) (k : Option Cardinality) (t : Option ℕ)
    → Stops contained ((external_part e ++ cardinality_part k) ++ time_part t)
stops_container (Some e) k t = refl
stops_container None (Some k) t = refl
stops_container None None (Some t) = refl
stops_container None None None = tt

stops_tags : (c e : Option (List ℕ)) (k : Option Cardinality) (t : Option ℕ)
    → Stops (marked 35) (container_part c ++ ((external_part e ++ cardinality_part k) ++ time_part t))
stops_tags (Some c) e k t = refl
stops_tags None (Some e) k t = refl
stops_tags None None (Some k) t = refl
stops_tags None None None (Some t) = refl
stops_tags None None None None = tt

stops_rate : (tags : List Tag) (c e : Option (List ℕ)) (k : Option Cardinality) (t : Option ℕ)
    → Stops (marked 64) (tags_part tags ++ (container_part c ++ ((external_part e ++ cardinality_part k) ++ time_part t)))
stops_rate (tag ∷ tags) c e k t = refl
stops_rate [] (Some c) e k t = refl
stops_rate [] None (Some e) k t = refl
stops_rate [] None None (Some k) t = refl
stops_rate [] None None None (Some t) = refl
stops_rate [] None None None None = tt

rate_once : (a b : Option Number) → rate_part a ≡ rate_part b → a ≡ b
rate_once (Some a) (Some b) e = let text : number_text a ≡ number_text b = cc in ap Some (number_once a b text)
rate_once (Some a) None e = absurd cc
rate_once None (Some b) e = absurd cc
rate_once None None e = refl

pub clear_tag_lacks : (a : Tag) → IsClearTag a → Lacks 44 (tag_text a)
clear_tag_lacks a h = each_weaker IsNoTagEnd (λ b. b ≢ 44) (λ b p. p.0) (tag_text a) (tag_bytes a h)

tags_once : (xs ys : List Tag) → AllByRecursion IsClearTag xs → AllByRecursion IsClearTag ys → tags_part xs ≡ tags_part ys → xs ≡ ys
tags_once [] [] hx hy e = refl
tags_once [] (y ∷ ys) hx hy e = absurd cc
tags_once (x ∷ xs) [] hx hy e = absurd cc
tags_once (x ∷ xs) (y ∷ ys) hx hy e =
    let text : join_with_byte 44 (map tag_text (x ∷ xs)) ≡ join_with_byte 44 (map tag_text (y ∷ ys)) = cc in
    map_once IsClearTag tag_text tag_once (x ∷ xs) (y ∷ ys) hx hy
    (join_once 44 (tag_text x) (tag_text y) (map tag_text xs) (map tag_text ys)
    (each_mapped tag_text IsClearTag (Lacks 44) clear_tag_lacks (x ∷ xs) hx) (each_mapped tag_text IsClearTag (Lacks 44) clear_tag_lacks (y ∷ ys) hy) text)

container_once : (a b : Option (List ℕ)) → container_part a ≡ container_part b → a ≡ b
container_once (Some a) (Some b) e = let text : a ≡ b = cc in ap Some text
container_once (Some a) None e = absurd cc
container_once None (Some b) e = absurd cc
container_once None None e = refl

external_once : (a b : Option (List ℕ)) → external_part a ≡ external_part b → a ≡ b
external_once (Some a) (Some b) e = let text : a ≡ b = cc in ap Some text
external_once (Some a) None e = absurd cc
external_once None (Some b) e = absurd cc
external_once None None e = refl

cardinality_alike : (a b : Cardinality) → cardinality_text a ≡ cardinality_text b → a ≡ b
cardinality_alike NoTags NoTags e = refl
cardinality_alike Low Low e = refl
cardinality_alike Orchestrator Orchestrator e = refl
cardinality_alike High High e = refl
cardinality_alike a b e = absurd (omega (arith, ap (λ t. get_or t 0 0) e, ap (λ t. length t) e))

cardinality_once : (a b : Option Cardinality) → cardinality_part a ≡ cardinality_part b → a ≡ b
cardinality_once (Some a) (Some b) e = let text : cardinality_text a ≡ cardinality_text b = cc in ap Some (cardinality_alike a b text)
cardinality_once (Some a) None e = absurd cc
cardinality_once None (Some b) e = absurd cc
cardinality_once None None e = refl

-- If the parts of two enrichments and of what follows are the same, so are the enrichments and what follows.
enrichment_once : (a b : Enrichment) (s t : Option ℕ) → enrichment_parts a ++ time_part s ≡ enrichment_parts b ++ time_part t
    → (a ≡ b) × (time_part s ≡ time_part t)
enrichment_once a b s t e =
    let whole = sym (append_assoc (external_part a.external) (cardinality_part a.cardinality) (time_part s))
    ∙ e ∙ append_assoc (external_part b.external) (cardinality_part b.cardinality) (time_part t) in
    let (externals, others) =
    cut_once (marked 101) (external_part a.external) (external_part b.external) (cardinality_part a.cardinality ++ time_part s)
    (cardinality_part b.cardinality ++ time_part t) (passes_external a.external) (passes_external b.external)
    (stops_external a.cardinality s) (stops_external b.cardinality t) whole in
    let (cardinalities, times) =
    cut_once (marked 99) (cardinality_part a.cardinality) (cardinality_part b.cardinality) (time_part s) (time_part t)
    (passes_cardinality a.cardinality) (passes_cardinality b.cardinality) (stops_cardinality s) (stops_cardinality t) others in
    let external : a.external ≡ b.external = external_once a.external b.external externals in
    let cardinality : a.cardinality ≡ b.cardinality = cardinality_once a.cardinality b.cardinality cardinalities in
    (λ i. record { external = external i; cardinality = cardinality i }, times)

time_once : (a b : Option ℕ) → time_part a ≡ time_part b → a ≡ b
time_once (Some a) (Some b) e = let text : decimal_text a ≡ decimal_text b = cc in ap Some (decimal_text_once a b text)
time_once (Some a) None e = absurd cc
time_once None (Some b) e = absurd cc
time_once None None e = refl

-- No field has a bar or a newline.
letter : (b : ℕ) → 10 < b → b < 124 → PartByte b
letter b low high = (λ e. omega arith, λ e. omega arith)

kind_part : (k : MetricType) → AllByRecursion PartByte (kind_text k)
kind_part Counter = (letter 99 (lit< tt) (lit< tt), tt)
kind_part Timer = (letter 109 (lit< tt) (lit< tt), (letter 115 (lit< tt) (lit< tt), tt))
kind_part Gauge = (letter 103 (lit< tt) (lit< tt), tt)
kind_part Meter = (letter 109 (lit< tt) (lit< tt), tt)
kind_part Histogram = (letter 104 (lit< tt) (lit< tt), tt)
kind_part Set = (letter 115 (lit< tt) (lit< tt), tt)
kind_part Distribution = (letter 100 (lit< tt) (lit< tt), tt)

number_part : (a : Number) → AllByRecursion PartByte (number_text a)
number_part a = each_weaker IsNoSeparator PartByte (λ b p. (p.2, p.3)) (number_text a) (number_plain a)

tag_part : (a : Tag) → IsClearTag a → AllByRecursion PartByte (tag_text a)
tag_part a h = each_weaker IsNoTagEnd PartByte (λ b p. (p.1, p.2)) (tag_text a) (tag_bytes a h)

abbrev PlainParts : List (List ℕ) → Type 0
PlainParts parts = AllByRecursion (AllByRecursion PartByte) parts

rate_bytes : (o : Option Number) → PlainParts (rate_part o)
rate_bytes (Some r) = ((letter 64 (lit< tt) (lit< tt), number_part r), tt)
rate_bytes None = tt

tags_bytes : (tags : List Tag) → AllByRecursion IsClearTag tags → PlainParts (tags_part tags)
tags_bytes [] h = tt
tags_bytes (tag ∷ tags) h = (
  (
    letter 35 (lit< tt) (lit< tt),
    each_joined PartByte 44 (letter 44 (lit< tt) (lit< tt)) (map tag_text (tag ∷ tags))
        (each_mapped tag_text IsClearTag (AllByRecursion PartByte) tag_part (tag ∷ tags) h),
  ),
  tt,
)

container_bytes : (o : Option (List ℕ)) → IfSome o IsFreeText → PlainParts (container_part o)
container_bytes (Some c) h = ((letter 99 (lit< tt) (lit< tt), (letter 58 (lit< tt) (lit< tt), plain_part c h)), tt)
container_bytes None h = tt

external_bytes : (o : Option (List ℕ)) → IfSome o IsFieldText → PlainParts (external_part o)
external_bytes (Some e) h = ((letter 101 (lit< tt) (lit< tt), (letter 58 (lit< tt) (lit< tt), recursion_from_All PartByte e h)), tt)
external_bytes None h = tt

cardinality_letters : (c : Cardinality) → AllByRecursion PartByte (codes "card:" ++ cardinality_text c)
cardinality_letters NoTags = (letter 99 (lit< tt) (lit< tt), (letter 97 (lit< tt) (lit< tt), (letter 114 (lit< tt) (lit< tt), (letter 100 (lit< tt) (lit< tt), (letter 58 (lit< tt) (lit< tt), (letter 110 (lit< tt) (lit< tt), (letter 111 (lit< tt) (lit< tt), (letter 110 (lit< tt) (lit< tt), (letter 101 (lit< tt) (lit< tt), tt)))))))))
cardinality_letters Low = (letter 99 (lit< tt) (lit< tt), (letter 97 (lit< tt) (lit< tt), (letter 114 (lit< tt) (lit< tt), (letter 100 (lit< tt) (lit< tt), (letter 58 (lit< tt) (lit< tt), (letter 108 (lit< tt) (lit< tt), (letter 111 (lit< tt) (lit< tt), (letter 119 (lit< tt) (lit< tt), tt))))))))
cardinality_letters Orchestrator = (letter 99 (lit< tt) (lit< tt), (letter 97 (lit< tt) (lit< tt), (letter 114 (lit< tt) (lit< tt), (letter 100 (lit< tt) (lit< tt), (letter 58 (lit< tt) (lit< tt), (letter 111 (lit< tt) (lit< tt), (letter 114 (lit< tt) (lit< tt), (letter 99 (lit< tt) (lit< tt), (letter 104 (lit< tt) (lit< tt), (letter 101 (lit< tt) (lit< tt), (letter 115 (lit< tt) (lit< tt), (letter 116 (lit< tt) (lit< tt), (letter 114 (lit< tt) (lit< tt), (letter 97 (lit< tt) (lit< tt), (letter 116 (lit< tt) (lit< tt), (letter 111 (lit< tt) (lit< tt), (letter 114 (lit< tt) (lit< tt), tt)))))))))))))))))
cardinality_letters High = (letter 99 (lit< tt) (lit< tt), (letter 97 (lit< tt) (lit< tt), (letter 114 (lit< tt) (lit< tt), (letter 100 (lit< tt) (lit< tt), (letter 58 (lit< tt) (lit< tt), (letter 104 (lit< tt) (lit< tt), (letter 105 (lit< tt) (lit< tt), (letter 103 (lit< tt) (lit< tt), (letter 104 (lit< tt) (lit< tt), tt)))))))))

cardinality_bytes : (o : Option Cardinality) → PlainParts (cardinality_part o)
cardinality_bytes (Some c) = (cardinality_letters c, tt)
cardinality_bytes None = tt

time_bytes : (o : Option ℕ) → PlainParts (time_part o)
time_bytes (Some t) = (
  (
    letter 84 (lit< tt) (lit< tt),
    each_weaker IsNumberByte PartByte (λ b p. let (low, high) = p in letter b (omega arith) (omega arith))
        (decimal_text t) (decimal_bytes t),
  ),
  tt,
)
time_bytes None = tt

front_bytes : (m : Metric) → IsClear m → AllByRecursion PartByte (front_of m)
front_bytes m h =
    each_append PartByte m.name (58 ∷ join_with_byte 58 (map number_text m.numbers)) (plain_part m.name h.name) (
      letter 58 (lit< tt) (lit< tt),
      each_joined PartByte 58 (letter 58 (lit< tt) (lit< tt)) (map number_text m.numbers)
          (each_image number_text (AllByRecursion PartByte) number_part m.numbers),
    )

parts_bytes : (m : Metric) → IsClear m → PlainParts (parts_of m)
parts_bytes m h = (
  front_bytes m h,
  (
    kind_part m.kind,
    each_append (AllByRecursion PartByte) (rate_part m.rate) (tags_part m.tags ++ (container_part m.container ++ end_of m))
        (rate_bytes m.rate)
        (each_append (AllByRecursion PartByte) (tags_part m.tags) (container_part m.container ++ end_of m)
        (tags_bytes m.tags (recursion_from_All IsClearTag m.tags h.tags))
        (each_append (AllByRecursion PartByte) (container_part m.container) (end_of m) (container_bytes m.container h.container)
        (each_append (AllByRecursion PartByte) (enrichment_parts m.enrichment) (time_part m.time)
        (each_append (AllByRecursion PartByte) (external_part m.enrichment.external) (cardinality_part m.enrichment.cardinality)
        (external_bytes m.enrichment.external h.external) (cardinality_bytes m.enrichment.cardinality))
        (time_bytes m.time)))),
  ),
)

pub clear_lacks_bars : (m : Metric) → IsClear m → AllByRecursion (Lacks 124) (parts_of m)
clear_lacks_bars m h =
    each_weaker (AllByRecursion PartByte) (Lacks 124) (λ part p. each_weaker PartByte (λ b. b ≢ 124) (λ b q. q.0) part p) (parts_of m)
    (parts_bytes m h)

pub line_once : (a b : Metric) → IsClear a → IsClear b → line_of a ≡ line_of b → a ≡ b
line_once a b ha hb e =
    let joined : join_with_byte 124 (parts_of a) ≡ join_with_byte 124 (parts_of b) = sym (line_of-joined a) ∙ e ∙ line_of-joined b in
    let parts : parts_of a ≡ parts_of b =
    join_once 124 (front_of a) (front_of b) (kind_text a.kind ∷ last_of a) (kind_text b.kind ∷ last_of b) (clear_lacks_bars a ha)
    (clear_lacks_bars b hb) joined in
    let front : front_of a ≡ front_of b = cc parts in
    let kinds : kind_text a.kind ≡ kind_text b.kind = cc parts in
    let tail : last_of a ≡ last_of b = cc parts in
    let (name, values) =
    cut_at 58 a.name b.name (58 ∷ join_with_byte 58 (map number_text a.numbers))
    (58 ∷ join_with_byte 58 (map number_text b.numbers)) (plain_lacks_colon a.name ha.name) (plain_lacks_colon b.name hb.name)
    refl refl front in
    let texts : join_with_byte 58 (map number_text a.numbers) ≡ join_with_byte 58 (map number_text b.numbers) = cc values in
    let numbers : a.numbers ≡ b.numbers = numbers_once a.numbers b.numbers texts in
    let kind : a.kind ≡ b.kind = kind_once a.kind b.kind kinds in
    let (rates, after_rate) =
    cut_once (marked 64) (rate_part a.rate) (rate_part b.rate)
    (tags_part a.tags ++ (container_part a.container ++ end_of a)) (tags_part b.tags ++ (container_part b.container ++ end_of b))
    (passes_rate a.rate) (passes_rate b.rate)
    (stops_rate a.tags a.container a.enrichment.external a.enrichment.cardinality a.time)
    (stops_rate b.tags b.container b.enrichment.external b.enrichment.cardinality b.time) tail in
    let (tags, after_tags) =
    cut_once (marked 35) (tags_part a.tags) (tags_part b.tags) (container_part a.container ++ end_of a)
    (container_part b.container ++ end_of b) (passes_tags a.tags) (passes_tags b.tags)
    (stops_tags a.container a.enrichment.external a.enrichment.cardinality a.time)
    (stops_tags b.container b.enrichment.external b.enrichment.cardinality b.time) after_rate in
    let (containers, ends) =
    cut_once contained (container_part a.container) (container_part b.container) (end_of a) (end_of b)
    (passes_container a.container) (passes_container b.container)
    (stops_container a.enrichment.external a.enrichment.cardinality a.time)
    (stops_container b.enrichment.external b.enrichment.cardinality b.time) after_tags in
    let (enrichment, times) = enrichment_once a.enrichment b.enrichment a.time b.time ends in
    let rate : a.rate ≡ b.rate = rate_once a.rate b.rate rates in
    let tag : a.tags ≡ b.tags =
    tags_once a.tags b.tags (recursion_from_All IsClearTag a.tags ha.tags) (recursion_from_All IsClearTag b.tags hb.tags) tags in
    let container : a.container ≡ b.container = container_once a.container b.container containers in
    let time : a.time ≡ b.time = time_once a.time b.time times in
    λ i. record {
      name = name i;
      numbers = numbers i;
      kind = kind i;
      rate = rate i;
      tags = tag i;
      container = container i;
      enrichment = enrichment i;
      time = time i;
    }

-- No line is empty.
pub line_is_not_empty : (m : Metric) → 0 < length (line_of m)
line_is_not_empty m =
    omega (
      arith,
      ap (λ t. length t) (line_of-joined m),
      ap (λ t. length t) (joined-barred (front_of m) (kind_text m.kind ∷ last_of m)),
      length-append (front_of m) (barred (kind_text m.kind ∷ last_of m)),
      length-append m.name (58 ∷ join_with_byte 58 (map number_text m.numbers)),
    )

line_some : (m : Metric) → line_of m ≡ [] → ⊥
line_some m e = absurd (omega (arith, ap (λ t. length t) e, line_is_not_empty m))

-- A line has no newline.
pub clear_line_lacks : (m : Metric) → IsClear m → Lacks 10 (line_of m)
clear_line_lacks m h =
    subst (λ t. Lacks 10 t) (sym (line_of-joined m)) (each_joined (λ b. b ≢ 10) 124 (λ e. absurd (omega arith)) (parts_of m)
    (each_weaker (AllByRecursion PartByte) (Lacks 10) (λ part p. each_weaker PartByte (λ b. b ≢ 10) (λ b q. q.1) part p) (parts_of m)
    (parts_bytes m h)))

-- Two lists of metrics whose lines with their newlines are the same text are the same list.
lines_once : (xs ys : List Metric) → AllByRecursion IsClear xs → AllByRecursion IsClear ys → lines_of xs ≡ lines_of ys → xs ≡ ys
lines_once [] [] hx hy e = refl
lines_once [] (y ∷ ys) hx hy e =
    absurd (omega (arith, ap (λ t. length t) e, length-append (line_of y ++ 10 ∷ []) (lines_of ys), length-append (line_of y) (10 ∷ [])))
lines_once (x ∷ xs) [] hx hy e =
    absurd (omega (arith, ap (λ t. length t) e, length-append (line_of x ++ 10 ∷ []) (lines_of xs), length-append (line_of x) (10 ∷ [])))
lines_once (x ∷ xs) (y ∷ ys) (hx, hxs) (hy, hys) e =
    let (line, rest) =
    cut_at 10 (line_of x) (line_of y) (10 ∷ lines_of xs) (10 ∷ lines_of ys) (clear_line_lacks x hx) (clear_line_lacks y hy) refl refl
    (sym (append_assoc (line_of x) (10 ∷ []) (lines_of xs))
    ∙ e ∙ append_assoc (line_of y) (10 ∷ []) (lines_of ys)) in
    let tail : lines_of xs ≡ lines_of ys = cc rest in
    let head : x ≡ y = line_once x y hx hy line in
    let same : xs ≡ ys = lines_once xs ys hxs hys tail in
    λ i. head i ∷ same i

-- A single line has no newline, so it is not a list of lines with their newlines.
not_alone : (xs : List Metric) (y : Metric) → IsClear y → lines_of xs ≡ line_of y → ⊥
not_alone [] y hy e = line_some y (sym e)
not_alone (x ∷ xs) y hy e = lacks_no 10 (line_of x) (lines_of xs) (subst (λ t. Lacks 10 t) (sym e
    ∙ append_assoc (line_of x) (10 ∷ []) (lines_of xs)) (clear_line_lacks y hy))

pub packet_once : (xs ys : List Metric) (packet : List ℕ) → All IsClear xs → All IsClear ys → IsPacketOf xs packet
    → IsPacketOf ys packet → xs ≡ ys
packet_once xs ys packet hx hy (inl e) (inl f) =
    lines_once xs ys (recursion_from_All IsClear xs hx) (recursion_from_All IsClear ys hy) (sym e
    ∙ f)
packet_once xs ys packet hx hy (inl e) (inr (y, only, f)) =
    absurd (not_alone xs y (All-head IsClear y [] (subst (λ l. All IsClear l) only hy)) (sym e
    ∙ f))
packet_once xs ys packet hx hy (inr (x, only, e)) (inl f) =
    absurd (not_alone ys x (All-head IsClear x [] (subst (λ l. All IsClear l) only hx)) (sym f
    ∙ e))
packet_once xs ys packet hx hy (inr (x, onlyx, e)) (inr (y, onlyy, f)) =
    let same : x ≡ y =
    line_once x y (All-head IsClear x [] (subst (λ l. All IsClear l) onlyx hx))
    (All-head IsClear y [] (subst (λ l. All IsClear l) onlyy hy)) (sym e
    ∙ f) in
    onlyx ∙ ap (λ m. m ∷ []) same ∙ sym onlyy

-- The same of tags, fields and lines that are free of separators.
pub tag_lacks : (a : Tag) → IsFreeTag a → Lacks 44 (tag_text a)
tag_lacks a h = clear_tag_lacks a (free_tag_clear a h)

pub lacks_bars : (m : Metric) → IsFreeOfSeparators m → AllByRecursion (Lacks 124) (parts_of m)
lacks_bars m h = clear_lacks_bars m (free_clear m h)

pub line_lacks : (m : Metric) → IsFreeOfSeparators m → Lacks 10 (line_of m)
line_lacks m h = clear_line_lacks m (free_clear m h)
