-- The parts of a line, and the texts of its fields in them.
use Rattle.std.proofs.Common.{◌≡◌, ◌≢◌, ℕ, List, [], ◌∷◌, ◌++◌, length, take, drop, refl, sym, ap, ap₂, ◌∙◌, subst, arith, eqb, true, false}
use Rattle.std.proofs.Common.{Option, Some, None, codes, get_or, ◌<◌, ◌^◌, ◌≤◌, ◌⊎◌, inl, inr}
use Rattle.std.specs.Prelude.{All, IfSome}
use Rattle.std.specs.List.{join_with_byte}
use Rattle.std.specs.Option.{option_map}
use Rattle.std.specs.Str.{IsUtf8}
use lib.Pointwise.{pointwise}
use Rattle.std.proofs.lemmas.Bool.{eq-eqb, cases_lt}
use Rattle.std.proofs.lemmas.Bool.Decides.{Decides-eqb}
use Rattle.std.proofs.lemmas.Slice.Eq.{slice_eq-Decides}
use Rattle.std.proofs.lemmas.List.{append-nil, length-append, get_or_append_left, take-append-drop, take_at, drop_at}
use Rattle.std.proofs.lemmas.List.Elements.{All-weaker, recursion_from_All}
use Rattle.std.proofs.lemmas.List.Splits.{join_with_byte-slice_split, length-slice_split}
use Rattle.std.proofs.Math.Seq.{get_or-append_seam}
use Rattle.cadence_text.specs.Line.{kind_text, tag_text, line_of}
use Rattle.cadence_text.specs.Metric.{Enrichment, Metric, Tag, no_enrichment}
use Rattle.cadence_value.specs.Number.{IsDecimal, Number, decimal_text, number_text, numbers_text}
use Rattle.cadence_text.specs.OneReading.{IsFreeText, IsFreeTag, IsNoSeparator}
use Rattle.cadence_text.specs.Representable.{IsRepresentableTag}
use Rattle.cadence_value.proofs.lists.SplitTexts.{Lacks, Stops, cut_at}
use Rattle.cadence_text.proofs.grammar.LineText.{container_part, enrichment_parts, front_of, last_of, marked, parts_of, rate_part, tags_part, time_part}
use Rattle.cadence_text.proofs.grammar.LineText.{joined_texts-joined, line_of-joined, lacks_bars}
use Rattle.cadence_read.specs.LineTexts.{LineTexts, tags_text, field_texts, field_part, field_parts, parts_of_texts, pieces_left, IsMarked}
use Rattle.cadence_read.specs.Listed.{IsListed, IsListedTag, IsText}
use Rattle.cadence_read.proofs.Pieces.{named_front, pieces, pieces-joined}

-- A text from which a mark was stripped begins with the mark. One from which it was not stripped doesn't begin with it.
pub marked_found : (first text mark : List ℕ) → pointwise eqb (take (length mark) first) mark ≡ true → text ≡ drop (length mark) first
    → first ≡ mark ++ text
marked_found first text mark h e =
    let same : take (length mark) first ≡ mark =
    (slice_eq-Decides Decides-eqb (take (length mark) first) mark (pointwise eqb (take (length mark) first) mark) refl).0 h in
    sym (take-append-drop (length mark) first) ∙ ap₂ (λ a b. a ++ b) same (sym e)

pub marked_none : (first mark text : List ℕ) → pointwise eqb (take (length mark) first) mark ≡ false → first ≡ mark ++ text → ⊥
marked_none first mark text h e =
    let same : take (length mark) first ≡ mark = ap (take (length mark)) e ∙ take_at mark text (length mark) refl in
    let yes : pointwise eqb (take (length mark) first) mark ≡ true =
    (slice_eq-Decides Decides-eqb (take (length mark) first) mark (pointwise eqb (take (length mark) first) mark) refl).1 same in
    let bad : true ≡ false = sym yes ∙ h in absurd cc

-- There is only one way to take a field off the parts, if no later part has the field's mark.
pub marked_once : (b : ℕ) (m : List ℕ) (parts : List (List ℕ)) (f : Option (List ℕ)) (rest : List (List ℕ)) (g : Option (List ℕ))
    (more : List (List ℕ))
    → IsMarked (b ∷ m) parts f rest → field_part (b ∷ m) g ++ more ≡ parts → Stops (marked b) more → (f ≡ g) × (rest ≡ more)
marked_once b m parts (Some x) rest (Some y) more h e stop =
    let both : ◌≡◌ {A = List (List ℕ)} ((b ∷ (m ++ y)) ∷ more) ((b ∷ (m ++ x)) ∷ rest) = e ∙ h in
    let texts : m ++ y ≡ m ++ x = cc both in
    let same : y ≡ x = sym (drop_at m y (length m) refl) ∙ ap (drop (length m)) texts ∙ drop_at m x (length m) refl in
    (ap Some (sym same), cc both)
marked_once b m parts (Some x) rest None more h e stop =
    let has = subst (Stops (marked b)) (e ∙ h) stop in
    let bad : true ≡ false = sym (eq-eqb b b refl) ∙ has in absurd cc
marked_once b m parts None rest (Some y) more h e stop = absurd (h.1 y more (sym e))
marked_once b m parts None rest None more h e stop = (refl, h.0 ∙ sym e)

-- If no piece is left, then no text is left.
pub none_left : (mark : ℕ) (left : Option (List ℕ)) → pieces_left mark left ≡ [] → left ≡ None
none_left mark None e = refl
none_left mark (Some text) e = absurd (omega (arith, ap (λ ps. length ps) e, length-slice_split (λ b. eqb b mark) text))

-- The parts after a field don't begin with that field's mark.
stops_rate : (tags container time : Option (List ℕ))
    → Stops (marked 64) (field_part (codes "#") tags ++ (field_part (codes "c:") container ++ field_part (codes "T") time))
stops_rate (Some _) container time = refl
stops_rate None (Some _) time = refl
stops_rate None None (Some _) = refl
stops_rate None None None = tt

stops_tags : (container time : Option (List ℕ)) → Stops (marked 35) (field_part (codes "c:") container ++ field_part (codes "T") time)
stops_tags (Some _) time = refl
stops_tags None (Some _) = refl
stops_tags None None = tt

stops_container : (time : Option (List ℕ)) → Stops (marked 99) (field_part (codes "T") time)
stops_container (Some _) = refl
stops_container None = tt

-- The fields that were taken off are those of the texts, and no part is left.
pub record AreTaken (t : LineTexts) (one two three four : Option (List ℕ)) (left : List (List ℕ)) : Type 0 where
  pub rate : one ≡ t.rate
  pub tags : two ≡ t.tags
  pub container : three ≡ t.container
  pub time : four ≡ t.time
  pub none : left ≡ []

pub fields_once : (t : LineTexts) (parts r1 r2 r3 r4 : List (List ℕ)) (rate tags container time : Option (List ℕ))
    → IsMarked (codes "@") parts rate r1 → IsMarked (codes "#") r1 tags r2 → IsMarked (codes "c:") r2 container r3
    → IsMarked (codes "T") r3 time r4 → field_parts t ≡ parts → AreTaken t rate tags container time r4
fields_once t parts r1 r2 r3 r4 rate tags container time h1 h2 h3 h4 e =
    let (one, rest1) =
    marked_once 64 [] parts rate r1 t.rate (field_part (codes "#")
    t.tags ++ (field_part (codes "c:") t.container ++ field_part (codes "T") t.time)) h1 e (stops_rate t.tags t.container t.time) in
    let (two, rest2) =
    marked_once 35 [] r1 tags r2 t.tags (field_part (codes "c:") t.container ++ field_part (codes "T") t.time) h2 (sym rest1)
    (stops_tags t.container t.time) in
    let (three, rest3) =
    marked_once 99 (58 ∷ []) r2 container r3 t.container (field_part (codes "T") t.time) h3 (sym rest2) (stops_container t.time) in
    let (four, rest4) = marked_once 84 [] r3 time r4 t.time [] h4 (append-nil (field_part (codes "T") t.time) ∙ sym rest3) tt in
    record { rate = one; tags = two; container = three; time = four; none = rest4 }

-- A field whose part comes first is taken off.
marked_is : (b : ℕ) (m : List ℕ) (f : Option (List ℕ)) (more : List (List ℕ)) → Stops (marked b) more
    → IsMarked (b ∷ m) (field_part (b ∷ m) f ++ more) f more
marked_is b m (Some x) more stop = refl
marked_is b m None more stop = (
  refl,
  λ text others e.
      let has = subst (Stops (marked b)) e stop in
      let bad : true ≡ false = sym (eq-eqb b b refl) ∙ has in absurd cc,
)

-- At most one line's texts have these parts.
pub texts_once : (s t : LineTexts) → All (λ byte. byte ≢ 58) s.name → All (λ byte. byte ≢ 58) t.name → parts_of_texts s ≡ parts_of_texts t → s ≡ t
texts_once s t hs ht e =
    let front : s.name ++ (58 ∷ s.numbers) ≡ t.name ++ (58 ∷ t.numbers) = cc e in
    let kinds : s.kind ≡ t.kind = cc e in
    let fields : field_parts s ≡ field_parts t = cc e in
    let (name, rest) =
    cut_at 58 s.name t.name (58 ∷ s.numbers) (58 ∷ t.numbers) (recursion_from_All (λ b. b ≢ 58) s.name hs)
    (recursion_from_All (λ b. b ≢ 58) t.name ht) refl refl front in
    let numbers : s.numbers ≡ t.numbers = cc rest in
    let last = append-nil (field_part (codes "T") t.time) in
    let same = fields_once s (field_parts t)
    (field_part (codes "#") t.tags ++ (field_part (codes "c:") t.container ++ field_part (codes "T") t.time))
    (field_part (codes "c:") t.container ++ field_part (codes "T") t.time) (field_part (codes "T") t.time) []
    t.rate t.tags t.container t.time
    (marked_is 64 [] t.rate (field_part (codes "#") t.tags ++ (field_part (codes "c:") t.container ++ field_part (codes "T") t.time))
    (stops_rate t.tags t.container t.time))
    (marked_is 35 [] t.tags (field_part (codes "c:") t.container ++ field_part (codes "T") t.time) (stops_tags t.container t.time))
    (marked_is 99 (58 ∷ []) t.container (field_part (codes "T") t.time) (stops_container t.time))
    (subst (λ ps. IsMarked (codes "T") ps t.time []) last (marked_is 84 [] t.time [] tt))
    fields in
    λ i. record {
      name = name i;
      numbers = numbers i;
      kind = kinds i;
      rate = sym same.rate i;
      tags = sym same.tags i;
      container = sym
          same.container i;
      time = sym same.time i;
    }

-- The parts of a metric's line are those of the metric's texts.
rate_same : (o : Option Number) → field_part (codes "@") (option_map number_text o) ≡ rate_part o
rate_same (Some r) = refl
rate_same None = refl

tags_same : (tags : List Tag) → field_part (codes "#") (tags_text tags) ≡ tags_part tags
tags_same [] = refl
tags_same (tag ∷ tags) = ap (λ t. (35 ∷ t) ∷ []) (joined_texts-joined 44 tag_text (tag ∷ tags))

container_same : (o : Option (List ℕ)) → field_part (codes "c:") o ≡ container_part o
container_same (Some c) = refl
container_same None = refl

time_same : (o : Option ℕ) → field_part (codes "T") (option_map decimal_text o) ≡ time_part o
time_same (Some t) = refl
time_same None = refl

pub parts_same : (m : Metric) → m.enrichment ≡ no_enrichment → parts_of_texts (field_texts m) ≡ parts_of m
parts_same m bare =
    let front : m.name ++ (58 ∷ numbers_text m.numbers) ≡ front_of m = ap (λ t. m.name ++ (58 ∷ t)) (joined_texts-joined 58 number_text m.numbers) in
    let later = ap₂ (λ a b. a ++ b) (container_same m.container) (time_same m.time)
    ∙ ap (λ e. container_part m.container ++ (enrichment_parts e ++ time_part m.time)) (sym bare) in
    let last : field_parts (field_texts m) ≡ last_of m = ap₂ (λ a b. a ++ b) (rate_same m.rate) (ap₂ (λ a b. a ++ b) (tags_same m.tags) later) in
    ap₂ (λ a b. a ∷ kind_text m.kind ∷ b) front last

-- A text that may be missing is in UTF-8 and has no separators exactly if it is both.
free_some : (o : Option (List ℕ)) → IfSome o IsText → IfSome o IsFreeText
free_some (Some t) h = h.0
free_some None h = tt

utf8_some : (o : Option (List ℕ)) → IfSome o IsText → IfSome o IsUtf8
utf8_some (Some t) h = h.1
utf8_some None h = tt

text_some : (o : Option (List ℕ)) → IfSome o IsFreeText → IfSome o IsUtf8 → IfSome o IsText
text_some (Some t) free utf8 = (free, utf8)
text_some None free utf8 = tt

-- A metric can be read if its parts can be read, and only then.
pub listed : (m : Metric) → IsText m.name → All IsDecimal m.numbers → IfSome m.rate IsDecimal → All IsListedTag m.tags
    → IfSome m.container IsText → IfSome m.time (λ time. time < 2 ^ 64) → m.enrichment ≡ no_enrichment → IsListed m
listed m name numbers rate tags container time bare = record {
  representable = record {
    name = name.1;
    numbers = numbers;
    rate = rate;
    tags = All-weaker IsListedTag IsRepresentableTag (λ tag h. h.representable) m.tags tags;
    container = utf8_some m.container container;
    external = subst (λ (e : Enrichment). IfSome e.external IsUtf8) (sym bare) tt;
    time = time;
  };
  free = record {
    name = name.0;
    tags = All-weaker IsListedTag IsFreeTag (λ tag h. h.free) m.tags tags;
    container = free_some m.container container;
    external = subst (λ (e : Enrichment). IfSome e.external IsFreeText) (sym bare) tt;
  };
  bare = bare;
}

pub name_listed : (m : Metric) → IsListed m → IsText m.name
name_listed m h = (h.free.name, h.representable.name)

pub tags_listed : (m : Metric) → IsListed m → All IsListedTag m.tags
tags_listed m h = λ k d less. record { representable = h.representable.tags k d less; free = h.free.tags k d less }

pub container_listed : (m : Metric) → IsListed m → IfSome m.container IsText
container_listed m h = text_some m.container h.free.container h.representable.container

-- The key and the text of a tag that can be read.
pub key_listed : (tag : Tag) → IsListedTag tag → IfSome tag.key IsText
key_listed tag h = text_some tag.key h.free.key h.representable.key

pub text_listed : (tag : Tag) → IsListedTag tag → IsText tag.text
text_listed tag h = (h.free.text, h.representable.text)

pub line_cut : (m : Metric) (line : List ℕ) → IsListed m → line_of m ≡ line → parts_of_texts (field_texts m) ≡ pieces 124 line
line_cut m line h e =
    parts_same m h.bare ∙ sym (pieces-joined 124 (front_of m) (kind_text m.kind ∷ last_of m) (lacks_bars m h.free))
    ∙ ap (pieces 124) (sym (line_of-joined m) ∙ e)

pub line_found : (m : Metric) (line : List ℕ) → m.enrichment ≡ no_enrichment → parts_of_texts (field_texts m) ≡ pieces 124 line → line_of m ≡ line
line_found m line bare e = line_of-joined m ∙ ap (join_with_byte 124) (sym (parts_same m bare) ∙ e) ∙ join_with_byte-slice_split 124 line

-- The name of a metric that can be read has no colon.
pub name_plain : (m : Metric) → IsListed m → All (λ byte. byte ≢ 58) m.name
name_plain m h = All-weaker IsNoSeparator (λ byte. byte ≢ 58) (λ b p. p.0) m.name h.free.name

-- A metric that can be read has this line exactly if its fields have these texts.
pub line_from_texts : (m : Metric) (line : List ℕ) (t : LineTexts) → IsListed m → parts_of_texts t ≡ pieces 124 line → field_texts m ≡ t
    → line_of m ≡ line
line_from_texts m line t h parts e = line_found m line h.bare (ap parts_of_texts e ∙ parts)

pub texts_from_line : (m : Metric) (line : List ℕ) (t : LineTexts) → IsListed m → All (λ byte. byte ≢ 58) t.name
    → parts_of_texts t ≡ pieces 124 line → line_of m ≡ line → field_texts m ≡ t
texts_from_line m line t h plain parts e = texts_once (field_texts m) t (name_plain m h) plain (line_cut m line h e ∙ sym parts)

-- A text without separators has no colon, no bar and no newline.
pub plain_colon : (name : List ℕ) → All IsNoSeparator name → All (λ byte. byte ≢ 58) name
plain_colon name h = All-weaker IsNoSeparator (λ byte. byte ≢ 58) (λ b p. p.0) name h

pub lacks_bar : (name : List ℕ) → All IsNoSeparator name → Lacks 124 name
lacks_bar name h = recursion_from_All (λ byte. byte ≢ 124) name (All-weaker IsNoSeparator (λ byte. byte ≢ 124) (λ b p. p.2) name h)

pub lacks_newline : (name : List ℕ) → All IsNoSeparator name → Lacks 10 name
lacks_newline name h = recursion_from_All (λ byte. byte ≢ 10) name (All-weaker IsNoSeparator (λ byte. byte ≢ 10) (λ b p. p.3) name h)

-- If a text begins with a front and a separator, then that separator is its first one.
first_by : (mark : ℕ) → (IsNoSeparator mark → ⊥) → (text front rest : List ℕ) (at : ℕ) → length front < length text → get_or text (length front) 0 ≡ mark
    → ((k : ℕ) → k < at → IsNoSeparator (get_or text k 0)) → (at < length text → IsNoSeparator (get_or text at 0) → ⊥)
    → All IsNoSeparator front → text ≡ front ++ mark ∷ rest → (at < length front) ⊎ (length front ≤ at) → (length front < at) ⊎ (at ≤ length front)
    → (at < length text) × (get_or text at 0 ≡ mark)
first_by mark is text front rest at long here before stops plain e (inl less) other =
    let same : get_or text at 0 ≡ get_or front at 0 = ap (λ t. get_or t at 0) e ∙ get_or_append_left front (mark ∷ rest) 0 at less in
    absurd (stops (omega arith) (subst IsNoSeparator (sym same) (plain at 0 less)))
first_by mark is text front rest at long here before stops plain e (inr _) (inl more) =
    absurd (is (subst IsNoSeparator here (before (length front) more)))
first_by mark is text front rest at long here before stops plain e (inr low) (inr high) =
    let same : at ≡ length front = omega arith in
    (omega arith, ap (λ k. get_or text k 0) same ∙ here)

pub first_is : (mark : ℕ) → (IsNoSeparator mark → ⊥) → (text front rest : List ℕ) (at : ℕ) → ((k : ℕ) → k < at → IsNoSeparator (get_or text k 0))
    → (at < length text → IsNoSeparator (get_or text at 0) → ⊥) → All IsNoSeparator front → text ≡ front ++ mark ∷ rest
    → (at < length text) × (get_or text at 0 ≡ mark)
first_is mark is text front rest at before stops plain e =
    let long : length front < length text = omega (arith, ap (λ t. length t) e, length-append front (mark ∷ rest)) in
    let here : get_or text (length front) 0 ≡ mark = ap (λ t. get_or t (length front) 0) e ∙ get_or-append_seam front mark rest 0 in
    first_by mark is text front rest at long here before stops plain e (cases_lt at (length front)) (cases_lt (length front) at)

-- The fields that were taken off make the parts.
marked_back : (mark : List ℕ) (parts rest : List (List ℕ)) (f : Option (List ℕ)) → IsMarked mark parts f rest → field_part mark f ++ rest ≡ parts
marked_back mark parts rest (Some text) h = sym h
marked_back mark parts rest None h = h.0

pub taken_fields : (t : LineTexts) (parts r1 r2 r3 r4 : List (List ℕ)) → IsMarked (codes "@") parts t.rate r1
    → IsMarked (codes "#") r1 t.tags r2 → IsMarked (codes "c:") r2 t.container r3 → IsMarked (codes "T") r3 t.time r4 → r4 ≡ []
    → field_parts t ≡ parts
taken_fields t parts r1 r2 r3 r4 h1 h2 h3 h4 none =
    let fourth : field_part (codes "T") t.time ≡ r3 = sym (append-nil (field_part (codes "T") t.time))
    ∙ ap (λ r. field_part (codes "T") t.time ++ r) (sym none) ∙ marked_back (codes "T") r3 r4 t.time h4 in
    let third = ap (λ r. field_part (codes "c:") t.container ++ r) fourth ∙ marked_back (codes "c:") r2 r3 t.container h3 in
    let second = ap (λ r. field_part (codes "#") t.tags ++ r) third ∙ marked_back (codes "#") r1 r2 t.tags h2 in
    ap (λ r. field_part (codes "@") t.rate ++ r) second ∙ marked_back (codes "@") parts r1 t.rate h1

-- The line of a metric that can be read begins with its name and a colon.
pub line_named : (m : Metric) (line : List ℕ) → IsListed m → line_of m ≡ line
    → line ≡ m.name ++ 58 ∷ join_with_byte 124 (numbers_text m.numbers ∷ kind_text m.kind ∷ field_parts (field_texts m))
line_named m line h e = named_front 124 line m.name (numbers_text m.numbers) (kind_text m.kind ∷ field_parts (field_texts m)) (sym (line_cut m line h e))
