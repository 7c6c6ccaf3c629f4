-- The line of a record has fewer than 2 ^ 126 bytes, and a metric that could be in memory can be represented.
use Rattle.std.proofs.Common.{ℕ, zero, suc, ◌+◌, ◌*◌, ◌/◌, ◌^◌, ◌<◌, ◌≤◌, ℤ, pos, negsuc, List, [], ◌∷◌, ◌++◌, length, Option, Some, None}
use Rattle.std.proofs.Common.{ap, arith, unsigned_abs, lit<}
use Rattle.std.specs.Int.{is_negative}
use Rattle.std.specs.Prelude.{Bool, true, false, codes, if◌then◌else◌, IfSome}
use Rattle.std.specs.List.{AllByRecursion, flat_map}
use Rattle.std.specs.Str.{IsUtf8}
use Rattle.std.proofs.lemmas.List.{length-append}
use Rattle.std.proofs.lemmas.List.Elements.{All-weaker, recursion_from_All}
use Rattle.std.proofs.lemmas.Str.{IsUtf8-append}
use Rattle.std.proofs.Math.Nat.{div-le_self}
use Rattle.cadence_text.specs.declared.line.MetricType.{MetricType}
use Rattle.cadence_text.specs.declared.line.MetricType.TheVariants.{Counter, Timer, Gauge, Meter, Histogram, Set, Distribution}
use Rattle.cadence_value.specs.Number.{Number, decimal_text, number_text, places_text, joined_texts, numbers_text, IsDecimal}
use Rattle.cadence_text.specs.Draft.{head_text, head_with}
use Rattle.cadence_text.specs.TextValue.{change_text}
use Rattle.cadence_text.specs.declared.line.enrichment.Cardinality.{Cardinality}
use Rattle.cadence_text.specs.declared.line.enrichment.Cardinality.TheVariants.{NoTags, Low, Orchestrator, High}
use Rattle.cadence_text.specs.Metric.{Enrichment, Metric, Tag}
use Rattle.cadence_text.specs.Line.{kind_text, rate_field, key_text, tag_text, tags_field, container_field, time_field, line_of}
use Rattle.cadence_text.specs.Line.{cardinality_field, enrichment_fields, external_field}
use Rattle.cadence_text.specs.MetricInMemory.{IsTagInMemory, IsMetricInMemory, IsTimestamp, IsTextInMemory, AreNumbersInMemory, AreTagsInMemory}
use Rattle.cadence_text.specs.Representable.{IsRepresentable, IsRepresentableTag}
use Rattle.cadence_value.proofs.lists.SplitTexts.{each_weaker}
use Rattle.cadence_value.proofs.digits.Digits.{length-decimal_text-le}
use Rattle.cadence_value.proofs.digits.NumberText.{sign, unsigned_text, sign-pos, places_text-suc, length-places_of}
use Rattle.cadence_value.proofs.reading.NumberRead.{fits_size}

sign_short : (z : ℤ) → length (sign z) ≤ 1
sign_short (pos n) = omega (arith, ap (λ t. length t) (sign-pos n))
sign_short (negsuc n) = omega arith

places_short : (n p : ℕ) → length (places_text n p) ≤ p + 1
places_short n zero = omega arith
places_short n (suc p) = omega (arith, ap (λ t. length t) (places_text-suc n p), length-places_of n p)

-- The text of a number has at most 71 bytes, because its mantissa fits 128 bits.

number_short : (a : Number) → IsDecimal a → length (number_text a) ≤ 71
number_short a h =
    let n = unsigned_abs a.mantissa in
    let low : n / 10 ^ a.places < 10 ^ 39 = omega (arith, div-le_self n (10 ^ a.places), fits_size a.mantissa h.mantissa) in
    let whole : length (decimal_text (n / 10 ^ a.places)) ≤ 39 = length-decimal_text-le 39 (n / 10 ^ a.places) (lit< tt) low in
    omega (
      arith,
      sign_short a.mantissa,
      whole,
      places_short n a.places,
      h.places,
      length-append (sign a.mantissa)
          (unsigned_text n a.places),
      length-append (decimal_text (n / 10 ^ a.places)) (places_text n a.places),
    )

pub rate_short : (o : Option Number) → IfSome o IsDecimal → length (rate_field o) ≤ 73
rate_short (Some r) h = omega (arith, number_short r h)
rate_short None h = omega arith

key_short : (o : Option (List ℕ)) → IfSome o IsTextInMemory → length (key_text o) ≤ 2 ^ 63
key_short (Some k) h = omega (arith, h.0, length-append k (58 ∷ []))
key_short None h = omega arith

tag_short : (a : Tag) → IsTagInMemory a → length (tag_text a) ≤ 2 ^ 64
tag_short a h = omega (arith, key_short a.key h.key, h.text.0, length-append (key_text a.key) a.text)

flat_map_short : {X : Type 0} (k : ℕ) (f : X → List ℕ) (xs : List X) → AllByRecursion (λ x. length (f x) ≤ k) xs
    → length (flat_map f xs) ≤ k * length xs
flat_map_short k f [] h = omega arith
flat_map_short k f (x ∷ xs) (h, hs) = omega (arith, length-append (f x) (flat_map f xs), h, flat_map_short k f xs hs)

separated_short : {X : Type 0} (k c : ℕ) (text : X → List ℕ) (xs : List X) → AllByRecursion (λ x. length (text x) ≤ k) xs
    → length (joined_texts (c ∷ []) text xs) ≤ suc k * length xs
separated_short k c text [] h = omega arith
separated_short k c text (x ∷ xs) (h, hs) =
    let rest : length (flat_map (λ y. c ∷ text y) xs) ≤ suc k * length xs =
    flat_map_short (suc k) (λ y. c ∷ text y) xs (each_weaker (λ y. length (text y) ≤ k) (λ y. length (c ∷ text y) ≤ suc k)
    (λ y p. omega arith) xs hs) in
    omega (arith, length-append (text x) (flat_map (λ y. c ∷ text y) xs), h, rest)

numbers_short : (ns : List Number) → AreNumbersInMemory ns → length (numbers_text ns) ≤ 72 * 2 ^ 64
numbers_short ns h =
    omega (
      arith,
      h.few,
      separated_short 71 58 number_text ns (each_weaker IsDecimal (λ n. length (number_text n) ≤ 71) number_short ns
          (recursion_from_All IsDecimal ns h.each)),
    )

tags_short : (ts : List Tag) → AreTagsInMemory ts → length (tags_field ts) ≤ 2 ^ 125
tags_short [] h = omega arith
tags_short (t ∷ ts) h =
    omega (
      arith,
      h.few,
      separated_short (2 ^ 64) 44 tag_text (t ∷ ts)
          (each_weaker IsTagInMemory (λ a. length (tag_text a) ≤ 2 ^ 64) tag_short (t ∷ ts) (recursion_from_All IsTagInMemory (t ∷ ts) h.each)),
    )

container_short : (o : Option (List ℕ)) → IfSome o IsTextInMemory → length (container_field o) ≤ 2 ^ 64
container_short (Some c) h = omega (arith, h.0)
container_short None h = omega arith

external_short : (o : Option (List ℕ)) → IfSome o IsTextInMemory → length (external_field o) ≤ 2 ^ 64
external_short (Some e) h = omega (arith, h.0)
external_short None h = omega arith

cardinality_short : (o : Option Cardinality) → length (cardinality_field o) ≤ 18
cardinality_short (Some NoTags) = omega arith
cardinality_short (Some Low) = omega arith
cardinality_short (Some Orchestrator) = omega arith
cardinality_short (Some High) = omega arith
cardinality_short None = omega arith

enrichment_short : (e : Enrichment) → IfSome e.external IsTextInMemory → length (enrichment_fields e) ≤ 2 ^ 65
enrichment_short e h =
    omega (
      arith,
      external_short e.external h,
      cardinality_short e.cardinality,
      length-append (external_field e.external) (cardinality_field e.cardinality),
    )

time_short : (o : Option ℕ) → IsTimestamp o → length (time_field o) ≤ 22
time_short (Some t) h = let digits : length (decimal_text t) ≤ 20 = length-decimal_text-le 20 t (lit< tt) (omega (arith, h)) in omega arith
time_short None h = omega arith

kind_short : (k : MetricType) → length (kind_text k) ≤ 2
kind_short Counter = omega arith
kind_short Timer = omega arith
kind_short Gauge = omega arith
kind_short Meter = omega arith
kind_short Histogram = omega arith
kind_short Set = omega arith
kind_short Distribution = omega arith

pub head_with_short : (prefix key value : List ℕ) (k : MetricType) → IsTextInMemory prefix → IsTextInMemory key → length value < 2 ^ 99
    → length (head_with (prefix ++ key) value k) < 2 ^ 100
head_with_short prefix key value k hp hk short =
    omega (
      arith,
      hp.0,
      hk.0,
      short,
      kind_short k,
      length-append prefix key,
      length-append (prefix ++ key) (58 ∷ (value ++ (124 ∷ kind_text k))),
      length-append value (124 ∷ kind_text k),
    )

pub head_is_short : (prefix key : List ℕ) (ns : List Number) (k : MetricType) → IsTextInMemory prefix → IsTextInMemory key → AreNumbersInMemory ns
    → length (head_text (prefix ++ key) ns k) < 2 ^ 100
head_is_short prefix key ns k hp hk hn = head_with_short prefix key (numbers_text ns) k hp hk (omega (arith, numbers_short ns hn))

pub head_with_some : (name value : List ℕ) (k : MetricType) → 0 < length (head_with name value k)
head_with_some name value k = omega (arith, length-append name (58 ∷ (value ++ (124 ∷ kind_text k))))

-- A change of a gauge has at most 72 bytes.
plus_short : (below : Bool) → length (if below then [] else codes "+") ≤ 1
plus_short true = omega arith
plus_short false = omega arith

pub change_short : (n : Number) → IsDecimal n → length (change_text n) < 2 ^ 63
change_short n h =
    omega (
      arith,
      number_short n h,
      plus_short (is_negative n.mantissa),
      length-append (if is_negative n.mantissa then [] else codes "+") (number_text n),
    )

pub line_is_short : (m : Metric) → IsMetricInMemory m → length (line_of m) < 2 ^ 126
unfolding line_of
line_is_short m h =
    let ending = enrichment_fields m.enrichment ++ time_field m.time in
    let last = container_field m.container ++ ending in
    let tagged = tags_field m.tags ++ last in
    let rated = rate_field m.rate ++ tagged in
    let kinded = kind_text m.kind ++ rated in
    let numbered = numbers_text m.numbers ++ (124 ∷ kinded) in
    omega (
      arith,
      h.name,
      numbers_short m.numbers h.numbers,
      kind_short m.kind,
      rate_short m.rate h.rate,
      tags_short m.tags h.tags,
      container_short m.container h.container,
      enrichment_short m.enrichment h.external,
      time_short m.time h.time,
      length-append m.name (58 ∷ numbered),
      length-append (numbers_text m.numbers) (124 ∷ kinded),
      length-append (kind_text m.kind) rated,
      length-append (rate_field m.rate) tagged,
      length-append (tags_field m.tags) last,
      length-append (container_field m.container) ending,
      length-append (enrichment_fields m.enrichment) (time_field m.time),
    )

said_text : (o : Option (List ℕ)) → IfSome o IsTextInMemory → IfSome o IsUtf8
said_text (Some t) h = h.1
said_text None h = tt

pub said_tag : (tag : Tag) → IsTagInMemory tag → IsRepresentableTag tag
said_tag tag h = record { key = said_text tag.key h.key; text = h.text.1 }

-- A metric that could be in memory as a `Record` satisfies `IsRepresentable`.
pub record_said : (m : Metric) → IsMetricInMemory m → IsRepresentable m
record_said m h = record {
  name = h.utf8;
  numbers = h.numbers.each;
  rate = h.rate;
  tags = All-weaker IsTagInMemory IsRepresentableTag said_tag m.tags h.tags.each;
  container = said_text m.container h.container;
  external = said_text m.enrichment.external h.external;
  time = h.time;
}

-- Two texts in UTF-8, one after the other, are in UTF-8.
pub joined_utf8 : (prefix key : List ℕ) → IsUtf8 prefix → IsUtf8 key → IsUtf8 (prefix ++ key)
joined_utf8 prefix key hp hk = IsUtf8-append prefix key hp hk
