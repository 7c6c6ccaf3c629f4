-- The parts into which a line is cut, and what the line says.
use Rattle.std.proofs.Common.{◌≡◌, ◌≢◌, ℕ, ◌<◌, ℤ, true, Option, Some, None, List, [], ◌∷◌, ◌++◌, length, arith, refl, sym, ap, ap₂, subst, ◌∙◌}
use Rattle.std.specs.Prelude.{All, IfNone, IfSome}
use Rattle.std.specs.Int.RustNames.{FitsSigned}
use Rattle.std.specs.List.{AllByRecursion, join_with_byte}
use Rattle.std.proofs.lemmas.List.Elements.{All-from_recursion, recursion_from_All}
use Rattle.std.proofs.lemmas.List.{append_assoc, length-append}
use Rattle.std.proofs.lemmas.List.Splits.{join_with_byte-slice_split}
use mir.Syntax.{w64}
use Rattle.cadence_aggregate.specs.Server.{Sample, amount, level, member, timing, unclear, other, values_in}
use Rattle.cadence_read.proofs.Cuts.{lacks_both}
use Rattle.cadence_read.specs.Cuts.{IsCut, Parts, line_of_parts}
use Rattle.cadence_read.specs.Values.{AreNumbers, IsNumberText}
use Rattle.cadence_text.proofs.grammar.LineText.{kind_once}
use Rattle.cadence_text.specs.declared.line.MetricType.{MetricType}
use Rattle.cadence_text.specs.declared.line.MetricType.TheVariants.{Counter, Timer, Gauge, Meter, Histogram, Set, Distribution}
use Rattle.cadence_text.specs.Line.{kind_text}
use Rattle.cadence_value.specs.Finds.{Finds}
use Rattle.cadence_value.specs.Number.{Number, whole}
use Rattle.cadence_value.specs.SpelledNumber.{SaysNumber}
use Rattle.cadence_value.proofs.lists.SplitTexts.{Lacks, each_append, lacks_no}
use Rattle.cadence_value.proofs.spelling.NumberBytes as bytes
use Rattle.cadence_aggregating.specs.Additions.{IsAddable, IsAddedAs, IsAddition, IsAdditionBy, context_of}
use Rattle.cadence_aggregating.specs.Printed.{before_bar, from_bar, spliced}
use Rattle.cadence_aggregating.specs.Says.{HasTime, IsContext, LineSays, MetricSays, is_timed}
use Rattle.cadence_aggregating.specs.declared.said.Addition.{Addition}
use Rattle.cadence_aggregating.specs.declared.said.Addition.TheVariants.{Amount, Level, Member, Timing}
use Rattle.cadence_aggregating.proofs.Spliced.{before_found, from_found}

-- A number has no bar and no newline.
pub number_bar : (text : List ℕ) (n : Number) → SaysNumber text n → Lacks 124 text
number_bar =
    bytes.number_lacks 124 (λ v small e. omega (arith, small, e)) (λ e. omega (arith, e)) (λ e. omega (arith, e)) (λ e. omega (arith, e))
    (λ e. omega (arith, e)) (λ e. omega (arith, e))

number_newline : (text : List ℕ) (n : Number) → SaysNumber text n → Lacks 10 text
number_newline =
    bytes.number_lacks 10 (λ v small e. omega (arith, small, e)) (λ e. omega (arith, e)) (λ e. omega (arith, e)) (λ e. omega (arith, e))
    (λ e. omega (arith, e)) (λ e. omega (arith, e))

-- A text without a byte doesn't have it between two others.
pub no_byte : (c : ℕ) (text front rest : List ℕ) → All (λ byte. byte ≢ c) text → text ≡ front ++ c ∷ rest → ⊥
no_byte c text front rest none its = lacks_no c front rest (subst (Lacks c) its (recursion_from_All (λ byte. byte ≢ c) text none))

-- A bar and a `T` behind a text without a bar are behind the whole text.
pub time_behind : (text rest before after : List ℕ) → Lacks 124 text → text ++ rest ≡ before ++ 124 ∷ 84 ∷ after → HasTime rest
time_behind [] rest before after none its = (before, after, its)
time_behind (b ∷ text) rest [] after (apart, none) its = absurd (let same : b ≡ 124 = cc its in apart same)
time_behind (b ∷ text) rest (x ∷ before) after (apart, none) its =
    let tails : text ++ rest ≡ before ++ 124 ∷ 84 ∷ after = cc its in
    time_behind text rest before after none tails

time_before : (text rest : List ℕ) → HasTime rest → HasTime (text ++ rest)
time_before text rest (before, after, its) = (text ++ before, after, ap (λ t. text ++ t) its ∙ sym (append_assoc text before (124 ∷ 84 ∷ after)))

joined_lacks : (c : ℕ) → 58 ≢ c → (pieces : List (List ℕ)) → AllByRecursion (Lacks c) pieces → Lacks c (join_with_byte 58 pieces)
joined_lacks c apart [] h = tt
joined_lacks c apart (piece ∷ []) (h, hs) = h
joined_lacks c apart (piece ∷ next ∷ rest) (h, hs) =
    each_append (λ b. b ≢ c) piece (58 ∷ join_with_byte 58 (next ∷ rest)) h (apart, joined_lacks c apart (next ∷ rest) hs)

numbers_lack : (c : ℕ) → ((text : List ℕ) (n : Number) → SaysNumber text n → Lacks c text) → (texts : List (List ℕ)) → AllByRecursion IsNumberText texts
    → AllByRecursion (Lacks c) texts
numbers_lack c each [] h = tt
numbers_lack c each (text ∷ texts) ((n, says), hs) = (each text n says.1, numbers_lack c each texts hs)

values_lack : (c : ℕ) → 58 ≢ c → ((text : List ℕ) (n : Number) → SaysNumber text n → Lacks c text) → (values : List ℕ) → AreNumbers values → Lacks c values
values_lack c apart each values h =
    subst (Lacks c) (join_with_byte-slice_split 58 values)
    (joined_lacks c apart (values_in values) (numbers_lack c each (values_in values) (recursion_from_All IsNumberText (values_in values) h)))

pub values_bar : (values : List ℕ) → AreNumbers values → Lacks 124 values
values_bar = values_lack 124 (λ e. omega (arith, e)) number_bar

values_newline : (values : List ℕ) → AreNumbers values → Lacks 10 values
values_newline = values_lack 10 (λ e. omega (arith, e)) number_newline

-- the text of a kind has no bar
kind_bar : (kind : MetricType) → All (λ byte. byte ≢ 124) (kind_text kind)
kind_bar Counter = All-from_recursion (λ byte. byte ≢ 124) (kind_text Counter) ((λ e. omega (arith, e)), tt)
kind_bar Timer = All-from_recursion (λ byte. byte ≢ 124) (kind_text Timer) ((λ e. omega (arith, e)), ((λ e. omega (arith, e)), tt))
kind_bar Gauge = All-from_recursion (λ byte. byte ≢ 124) (kind_text Gauge) ((λ e. omega (arith, e)), tt)
kind_bar Meter = All-from_recursion (λ byte. byte ≢ 124) (kind_text Meter) ((λ e. omega (arith, e)), tt)
kind_bar Histogram = All-from_recursion (λ byte. byte ≢ 124) (kind_text Histogram) ((λ e. omega (arith, e)), tt)
kind_bar Set = All-from_recursion (λ byte. byte ≢ 124) (kind_text Set) ((λ e. omega (arith, e)), tt)
kind_bar Distribution = All-from_recursion (λ byte. byte ≢ 124) (kind_text Distribution) ((λ e. omega (arith, e)), tt)

module _ (kind : MetricType) (c : List ℕ) (h : IsContext kind c) where
  -- the parts of the line of this context with these values
  abbrev pub parts_with : List ℕ → Parts
  parts_with values = record { name = h.name; values = values; kind = kind_text kind; fields = h.fields }

  pub spliced_parts : (values : List ℕ) → spliced c values ≡ line_of_parts (parts_with values)
  spliced_parts values =
      let rest = kind_text kind ++ h.fields in
      let lacks = recursion_from_All (λ b. b ≢ 124) h.name h.bar in
      ap (λ t. spliced t values) h.whole ∙ ap₂ (λ a b. a ++ 58 ∷ (values ++ b)) (before_found h.name rest lacks) (from_found h.name rest lacks)

  pub context_cut : (values : List ℕ) → Lacks 124 values → IsCut (spliced c values) (parts_with values)
  context_cut values none = record {
    whole = spliced_parts values;
    colon = h.colon;
    name = h.bar;
    values = All-from_recursion (λ b. b ≢ 124) values none;
    kind = kind_bar kind;
    fields = h.marked;
  }

  newline_lacks : (values : List ℕ) → Lacks 10 values → Lacks 10 (spliced c values)
  newline_lacks values none =
      let rest = 124 ∷ (kind_text kind ++ h.fields) in
      let whole : Lacks 10 (h.name ++ rest) = subst (Lacks 10) h.whole (recursion_from_All (λ b. b ≢ 10) c h.newline) in
      let (front, back) = lacks_both 10 h.name rest whole in
      subst (Lacks 10) (sym (spliced_parts values))
      (each_append (λ b. b ≢ 10) h.name (58 ∷ (values ++ rest)) front
      ((λ e. omega (arith, e)), each_append (λ b. b ≢ 10) values rest none back))

  abbrev rest_of : List ℕ
  rest_of = 124 ∷ (kind_text kind ++ h.fields)

  -- a time in the line is one in the context
  time_lacks : (values : List ℕ) → Lacks 124 values → HasTime (spliced c values) → HasTime c
  time_lacks values bar (before, after, its) =
      let front = each_append (λ b. b ≢ 124) h.name (58 ∷ values) (recursion_from_All (λ b. b ≢ 124) h.name h.bar) ((λ e. omega (arith, e)), bar) in
      let apart : (h.name ++ 58 ∷ values) ++ rest_of ≡ before ++ 124 ∷ 84 ∷ after =
      append_assoc h.name (58 ∷ values) rest_of ∙ sym (spliced_parts values) ∙ its in
      subst HasTime (sym h.whole) (time_before h.name rest_of (time_behind (h.name ++ 58 ∷ values) rest_of before after front apart))

  pub context_addable : (values : List ℕ) → Lacks 124 values → Lacks 10 values → IsAddable (spliced c values) h.name
  context_addable values bar none = record {
    newline = All-from_recursion (λ b. b ≢ 10) (spliced c values) (newline_lacks values none);
    event = h.event;
    time = λ t. h.time (time_lacks values bar t);
  }

-- what is known of a line with a context, said of the parts into which it is cut
of_parts : (kind : MetricType) (c values line : List ℕ) (h : IsContext kind c) → line ≡ spliced c values → Lacks 124 values → Lacks 10 values
    → (a : Addition) → IsAdditionBy kind values a → (b : Parts × Addition) × IsAddedAs line b
of_parts kind c values line h its bar newline a added =
    let p = parts_with kind c h values in (
      (p, a),
      (
        subst (λ t. IsCut t p) (sym its) (context_cut kind c h values bar),
        subst (λ t. IsAddable t h.name) (sym its) (context_addable kind c h values bar newline),
        (kind, refl, added),
      ),
    )

-- A line that says something of its metric is cut into parts that are added so.
pub said_added : (line : List ℕ) (said : Sample) → MetricSays line said → (b : Parts × Addition) × IsAddedAs line b
said_added line (amount c n) (h, fits, (number, its, says)) =
    of_parts Counter c number line h its (number_bar number (whole n) says) (number_newline number (whole n) says) (Amount n) (refl, says, fits)
said_added line (level c v) (h, its, (n, (decimal, says))) =
    of_parts Gauge c v line h its (number_bar v n says) (number_newline v n says) Level (refl, (n, (decimal, says)))
said_added line (member l) (same, (c, text, h, its, is)) =
    of_parts Set c text line h its (recursion_from_All (λ b. b ≢ 124) text is.bar) (recursion_from_All (λ b. b ≢ 10) text is.newline) Member refl
said_added line (timing c t) ((kind, timed, h), its, numbers) =
    of_parts kind c t line h its (values_bar t numbers) (values_newline t numbers) Timing (timed, numbers)
said_added line (unclear l) h = absurd h
said_added line (other l) h = absurd h

module _ (line : List ℕ) (p : Parts) (cut : IsCut line p) (addable : IsAddable line p.name) where
  pub whole_line : line ≡ spliced (context_of p) p.values
  whole_line =
      let rest = p.kind ++ p.fields in
      let lacks = recursion_from_All (λ b. b ≢ 124) p.name cut.name in
      cut.whole ∙ sym (ap₂ (λ a b. a ++ 58 ∷ (p.values ++ b)) (before_found p.name rest lacks) (from_found p.name rest lacks))

  -- what is around the values is a context
  pub around_values : (kind : MetricType) → p.kind ≡ kind_text kind → IsContext kind (context_of p)
  around_values kind is =
      let rest = 124 ∷ (p.kind ++ p.fields) in
      let all : Lacks 10 (p.name ++ 58 ∷ (p.values ++ rest)) = subst (Lacks 10) cut.whole (recursion_from_All (λ b. b ≢ 10) line addable.newline) in
      let (front, later) = lacks_both 10 p.name (58 ∷ (p.values ++ rest)) all in
      let (middle, back) = lacks_both 10 p.values rest later.1 in
      let name_bar = recursion_from_All (λ b. b ≢ 124) p.name cut.name in
      record {
        name = p.name;
        fields = p.fields;
        whole = ap (λ k. p.name ++ 124 ∷ (k ++ p.fields)) is;
        colon = cut.colon;
        bar = cut.name;
        newline = All-from_recursion (λ b. b ≢ 10) (context_of p) (each_append (λ b. b ≢ 10) p.name rest front back);
        event = addable.event;
        marked = cut.fields;
        time = λ (before, after, its). addable.time (subst HasTime (sym cut.whole)
            (time_before p.name (58 ∷ (p.values ++ rest)) (time_before (58 ∷ p.values) rest (time_behind p.name rest before after name_bar its))));
      }

  pub amount_said : (n : ℤ) → IsAddition p (Amount n) → LineSays line (amount (context_of p) n)
  amount_said n (kind, is, (counts, says, fits)) = (around_values Counter (is ∙ ap kind_text counts), fits, (p.values, whole_line, says))

  pub level_said : IsAddition p Level → LineSays line (level (context_of p) p.values)
  level_said (kind, is, (sets, numbers)) = (around_values Gauge (is ∙ ap kind_text sets), whole_line, numbers)

  pub member_said : IsAddition p Member → LineSays line (member line)
  member_said (kind, is, has) =
      let rest = 124 ∷ (p.kind ++ p.fields) in
      let all : Lacks 10 (p.name ++ 58 ∷ (p.values ++ rest)) = subst (Lacks 10) cut.whole (recursion_from_All (λ b. b ≢ 10) line addable.newline) in
      let (front, later) = lacks_both 10 p.name (58 ∷ (p.values ++ rest)) all in
      let (newline, back) = lacks_both 10 p.values rest later.1 in
      (refl, (context_of p, p.values, around_values Set (is ∙ ap kind_text has), whole_line, record { bar = cut.values; newline = All-from_recursion (λ b. b ≢ 10) p.values newline }))

  pub timing_said : IsAddition p Timing → LineSays line (timing (context_of p) p.values)
  timing_said (kind, is, (timed, numbers)) = ((kind, timed, around_values kind is), whole_line, numbers)

-- A line that says something of its metric is not empty.
spliced_some : (c values : List ℕ) → 0 < length (spliced c values)
spliced_some c values = omega (arith, length-append (before_bar c) (58 ∷ (values ++ from_bar c)))

pub says_some : (line : List ℕ) (said : Sample) → MetricSays line said → 0 < length line
says_some line (amount c n) (h, fits, (number, its, says)) = subst (λ l. 0 < length l) (sym its) (spliced_some c number)
says_some line (level c v) (h, its, numbers) = subst (λ l. 0 < length l) (sym its) (spliced_some c v)
says_some line (member l) (same, (c, text, h, its, is)) = subst (λ l. 0 < length l) (sym its) (spliced_some c text)
says_some line (timing c t) (kinds, its, numbers) = subst (λ l. 0 < length l) (sym its) (spliced_some c t)
says_some line (unclear l) h = absurd h
says_some line (other l) h = absurd h

-- Why nothing is added.
pub none_counted : (values : List ℕ) → ((n : ℤ) → FitsSigned w64 n → SaysNumber values (whole n) → ⊥) → (a : Addition) → IsAdditionBy Counter values a → ⊥
none_counted values none (Amount n) (is, says, fits) = none n fits says
none_counted values none Level (is, numbers) = cc is
none_counted values none Member is = cc is
none_counted values none Timing (timed, numbers) = cc timed

pub none_set : (values : List ℕ) → (IsNumberText values → ⊥) → (a : Addition) → IsAdditionBy Gauge values a → ⊥
none_set values none (Amount n) (is, says, fits) = cc is
none_set values none Level (is, numbers) = none numbers
none_set values none Member is = cc is
none_set values none Timing (timed, numbers) = cc timed

pub none_metered : (values : List ℕ) (a : Addition) → IsAdditionBy Meter values a → ⊥
none_metered values (Amount n) (is, says, fits) = cc is
none_metered values Level (is, numbers) = cc is
none_metered values Member is = cc is
none_metered values Timing (timed, numbers) = cc timed

pub none_timed : (kind : MetricType) (values : List ℕ) → is_timed kind ≡ true → (AreNumbers values → ⊥) → (a : Addition) → IsAdditionBy kind values a → ⊥
none_timed kind values timed none (Amount n) (is, says, fits) = cc (sym timed ∙ ap is_timed is)
none_timed kind values timed none Level (is, numbers) = cc (sym timed ∙ ap is_timed is)
none_timed kind values timed none Member is = cc (sym timed ∙ ap is_timed is)
none_timed kind values timed none Timing (also, numbers) = none numbers

pub addition_found : {Are : Type 0} (values : List ℕ) (r : Option Addition) (kind : MetricType) (a : Addition) → (Are → IsAdditionBy kind values a)
    → ((Are → ⊥) → (b : Addition) → IsAdditionBy kind values b → ⊥) → IfSome r (λ b. (b ≡ a) × Are) → IfNone r (Are → ⊥)
    → Finds (IsAdditionBy kind values) r
addition_found values (Some b) kind a added none (is, numbers) h = subst (IsAdditionBy kind values) (sym is) (added numbers)
addition_found values None kind a added none h nothing = none nothing

-- The kind that was found is the only one with this text.
pub other_kind : (p : Parts) (kind : MetricType) → kind_text kind ≡ p.kind → (r : Option Addition) → Finds (IsAdditionBy kind p.values) r → Finds (IsAddition p) r
other_kind p kind is (Some a) h = (kind, sym is, h)
other_kind p kind is None none =
    λ a (found, same, h). none a (subst (λ k. IsAdditionBy k p.values a) (kind_once found kind (sym same ∙ sym is)) h)

pub no_kind : (p : Parts) → ((kind : MetricType) → kind_text kind ≡ p.kind → ⊥) → (a : Addition) → IsAddition p a → ⊥
no_kind p none a (kind, is, h) = none kind (sym is)
