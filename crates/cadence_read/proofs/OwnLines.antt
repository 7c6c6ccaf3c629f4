-- The lines of clear metrics, as `cut_line` cuts them, and that a line is cut in one way only.
use Rattle.std.proofs.Common.{◌≡◌, ◌≢◌, ℕ, List, [], ◌∷◌, ◌++◌, Option, Some, None, length, get_or, refl, sym, ap, ◌∙◌, subst, arith}
use Rattle.std.specs.Prelude.{All}
use Rattle.std.proofs.lemmas.List.{get_or_append_left}
use Rattle.std.proofs.lemmas.List.Elements.{All-from_recursion, recursion_from_All}
use Rattle.std.proofs.Math.Seq.{get_or-append_seam}
use Rattle.cadence_text.proofs.grammar.LineText.{clear_lacks_bars, joined_texts-joined}
use Rattle.cadence_text.specs.declared.line.enrichment.Cardinality.{Cardinality}
use Rattle.cadence_text.specs.Line.{cardinality_field, container_field, external_field, kind_text, line_of, rate_field, tags_field, time_field}
use Rattle.cadence_text.specs.Metric.{Metric, Tag}
use Rattle.cadence_text.specs.OneReading.{IsClear, IsNoSeparator}
use Rattle.cadence_value.proofs.lists.SplitTexts.{Begins, Lacks, cut_at}
use Rattle.cadence_value.specs.Number.{Number, number_text, numbers_text}
use Rattle.cadence_read.proofs.Cuts.{head_lacks, head_of, headed, lacks, lacks_both}
use Rattle.cadence_read.proofs.LineParts.{first_is, lacks_bar, plain_colon}
use Rattle.cadence_read.specs.Cuts.{AreFields, IsCut, IsOther, Parts, own_parts}

begins : (fields : List ℕ) → AreFields fields → Begins 124 fields
begins [] h = tt
begins (byte ∷ bytes) h = h

-- The parts of a line are the only ones.
pub cut_once : (line : List ℕ) (p q : Parts) → IsCut line p → IsCut line q → p ≡ q
cut_once line p q hp hq =
    let (heads, rests) = cut_at 124 (head_of p) (head_of q) (124 ∷ (p.kind ++ p.fields)) (124 ∷ (q.kind ++ q.fields)) (head_lacks line p hp)
    (head_lacks line q hq) refl refl (sym (headed p) ∙ sym hp.whole ∙ hq.whole ∙ headed q) in
    let (name, others) = cut_at 58 p.name q.name (58 ∷ p.values) (58 ∷ q.values) (lacks 58 p.name hp.colon) (lacks 58 q.name hq.colon) refl refl heads in
    let values : p.values ≡ q.values = cc others in
    let tails : p.kind ++ p.fields ≡ q.kind ++ q.fields = cc rests in
    let (kind, fields) = cut_at 124 p.kind q.kind p.fields q.fields (lacks 124 p.kind hp.kind) (lacks 124 q.kind hq.kind) (begins p.fields hp.fields)
    (begins q.fields hq.fields) tails in
    λ i. record { name = name i; values = values i; kind = kind i; fields = fields i }

-- The first separator of a line is the colon after the name.
colon_first : (line name rest front later : List ℕ) (mark : ℕ) → All IsNoSeparator name → line ≡ name ++ 58 ∷ rest → All IsNoSeparator front
    → (IsNoSeparator mark → ⊥) → line ≡ front ++ mark ∷ later → 58 ≡ mark
colon_first line name rest front later mark plain e free is other =
    let here : get_or line (length name) 0 ≡ 58 = ap (λ t. get_or t (length name) 0) e ∙ get_or-append_seam name 58 rest 0 in
    let (inside, there) = first_is mark is line front later (length name)
    (λ k less. subst IsNoSeparator (sym (ap (λ t. get_or t k 0) e ∙ get_or_append_left name (58 ∷ rest) 0 k less)) (plain k 0 less))
    (λ within free. (subst IsNoSeparator here free).0 refl) free other in
    sym here ∙ there

free_three : (a b c : ℕ) → IsNoSeparator a → IsNoSeparator b → IsNoSeparator c → (text : List ℕ) → All IsNoSeparator text
    → All IsNoSeparator (a ∷ b ∷ c ∷ text)
free_three a b c ha hb hc text h =
    All-from_recursion IsNoSeparator (a ∷ b ∷ c ∷ text) (ha, (hb, (hc, recursion_from_All IsNoSeparator text h)))

low_line : IsNoSeparator 95
low_line = (λ e. absurd (omega (arith, e)), λ e. absurd (omega (arith, e)), λ e. absurd (omega (arith, e)), λ e. absurd (omega (arith, e)))

letter_e : IsNoSeparator 101
letter_e = (λ e. absurd (omega (arith, e)), λ e. absurd (omega (arith, e)), λ e. absurd (omega (arith, e)), λ e. absurd (omega (arith, e)))

brace : IsNoSeparator 123
brace = (λ e. absurd (omega (arith, e)), λ e. absurd (omega (arith, e)), λ e. absurd (omega (arith, e)), λ e. absurd (omega (arith, e)))

letter_s : IsNoSeparator 115
letter_s = (λ e. absurd (omega (arith, e)), λ e. absurd (omega (arith, e)), λ e. absurd (omega (arith, e)), λ e. absurd (omega (arith, e)))

letter_c : IsNoSeparator 99
letter_c = (λ e. absurd (omega (arith, e)), λ e. absurd (omega (arith, e)), λ e. absurd (omega (arith, e)), λ e. absurd (omega (arith, e)))

pub own_is_other : (m : Metric) → IsClear m → IsOther (line_of m)
unfolding line_of
own_is_other m h = (
  λ (size, rest, e, free).
      let same : 58 ≡ 44 = colon_first (line_of m) m.name _ (95 ∷ 101 ∷ 123 ∷ size) rest 44 h.name refl
      (free_three 95 101 123 low_line letter_e brace size free)
      (λ p. p.1 refl) e in
      absurd (omega (arith, same)),
  λ (rest, e).
      let same : 58 ≡ 124 = colon_first (line_of m) m.name _ (95 ∷ 115 ∷ 99 ∷ []) rest 124 h.name refl
      (free_three 95 115 99 low_line letter_s letter_c []
      (λ k d less. absurd (omega (arith, less)))) (λ p. p.2 refl) e in
      absurd (omega (arith, same)),
)

-- Other fields begin with a bar.
own_fields : (rate : Option Number) (tags : List Tag) (container external : Option (List ℕ)) (cardinality : Option Cardinality) (time : Option ℕ)
    → AreFields (rate_field rate
    ++ (tags_field tags ++ (container_field container ++ ((external_field external ++ cardinality_field cardinality) ++ time_field time))))
own_fields (Some _) tags container external cardinality time = refl
own_fields None (_ ∷ _) container external cardinality time = refl
own_fields None [] (Some _) external cardinality time = refl
own_fields None [] None (Some _) cardinality time = refl
own_fields None [] None None (Some _) time = refl
own_fields None [] None None None (Some _) = refl
own_fields None [] None None None None = tt

pub own_cut : (m : Metric) → IsClear m → IsCut (line_of m) (own_parts m)
unfolding line_of
own_cut m h =
    let bars = clear_lacks_bars m h in
    let front = lacks_both 124 m.name (58 ∷ numbers_text m.numbers) (subst (Lacks 124) (ap (λ t. m.name ++ (58 ∷ t)) (sym (joined_texts-joined 58 number_text m.numbers))) bars.0) in
    record {
      whole = refl;
      colon = plain_colon m.name h.name;
      name = All-from_recursion (λ byte. byte ≢ 124) m.name (lacks_bar m.name h.name);
      values = All-from_recursion (λ byte. byte ≢ 124) (numbers_text m.numbers) front.1.1;
      kind = All-from_recursion (λ byte. byte ≢ 124) (kind_text m.kind) bars.1.0;
      fields = own_fields m.rate m.tags m.container m.enrichment.external m.enrichment.cardinality m.time;
    }
