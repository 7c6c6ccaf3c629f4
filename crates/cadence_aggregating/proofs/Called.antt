-- Calls that make no line, and what their line would say.
use Rattle.std.proofs.Common.{◌≡◌, ◌<◌, ◌≤◌, ◌^◌, ◌+◌, ℕ, ℤ, List, [], ◌∷◌, ◌++◌, length, length-append, arith, refl, sym, ap, subst, ◌∙◌}
use Rattle.std.specs.Prelude.{string_bytes}
use Rattle.std.specs.Int.RustNames.{FitsSigned}
use Rattle.std.proofs.Math.Logic.{∥∥₁_map}
use Rattle.std.proofs.lemmas.List.{map-append}
use mir.Syntax.{w64}
use Rattle.cadence_aggregate.specs.Server.{amount, level}
use Rattle.cadence_aggregate.specs.declared.line.Line.{Line}
use Rattle.cadence_aggregate.specs.declared.line.Line.TheVariants.{Amount, Level, Member, Timing, Unclear, Other}
use Rattle.cadence_text.specs.declared.line.MetricType.TheVariants.{Counter, Gauge}
use Rattle.cadence_value.proofs.spelling.OwnText.{own_text}
use Rattle.cadence_value.specs.Number.{Number, IsDecimal, natural, number_text, whole}
use Rattle.cadence_aggregating.specs.Accepted.{line_of_entry, lines_of_entries}
use Rattle.cadence_aggregating.specs.declared.accepted.Accepted.{Accepted}
use Rattle.cadence_aggregating.specs.Keys.{line_of_counter, line_of_gauge}
use Rattle.cadence_aggregating.specs.Printed.{before_bar, from_bar, spliced, line_saying}
use Rattle.cadence_aggregating.specs.Says.{IsContext, LineSays}
use Rattle.cadence_aggregating.specs.ToHold.{IsToHold}
use Rattle.cadence_aggregating.specs.declared.keys.CounterKey.{CounterKey}
use Rattle.cadence_aggregating.specs.declared.keys.GaugeKey.{GaugeKey}
use Rattle.cadence_aggregating.specs.declared.limits.Limits.{Limits}
use Rattle.cadence_aggregating.proofs.Spliced.{cut_whole}
use Rattle.cadence_read.proofs.ValuesRead.{whole_is_decimal}

-- the line that raises the counter of a context says just this
counted : (c : List ℕ) (n : ℤ) → FitsSigned w64 n → IsContext Counter c → LineSays (line_saying (amount c n)) (amount c n)
counted c n fits context =
    let text = number_text (whole n) in
    (context, fits, (text, refl, own_text text (whole n) (whole_is_decimal n fits) refl))

-- the line that sets the gauge of a context says just this
leveled : (c : List ℕ) (n : Number) → IsDecimal n → IsContext Gauge c → LineSays (line_saying (level c (number_text n))) (level c (number_text n))
leveled c n good context =
    let text = number_text n in
    (context, refl, (n, (good, own_text text n good refl)))

-- a whole number of 64 bits is one that a decimal can have
natural_is_decimal : (n : ℕ) → n < 2 ^ 64 → IsDecimal (natural n)
natural_is_decimal n small = record { mantissa = grind (arith, small); places = omega arith; lowest = refl }

-- the line of a call that raises a counter says this
pub raise_says : (key : CounterKey) (by n : ℤ) (context : List ℕ) → FitsSigned w64 by → n ≡ by → context ≡ string_bytes key.context
    → ∥ LineSays (line_of_counter key by) (amount context n) ∥₁
raise_says key by n context fits same its =
    subst (λ t. ∥ LineSays (line_of_counter key by) (amount t n) ∥₁) (sym its)
    (subst (λ m. ∥ LineSays (line_of_counter key by) (amount (string_bytes key.context) m) ∥₁) (sym same)
    (∥∥₁_map key.of (counted (string_bytes key.context) by fits)))

-- the line of a call that sets a gauge says this
pub set_says : (key : GaugeKey) (value : ℕ) (context text : List ℕ) → value < 2 ^ 64 → context ≡ string_bytes key.context → text ≡ number_text (natural value)
    → ∥ LineSays (line_of_gauge key value) (level context text) ∥₁
set_says key value context text small its written =
    subst (λ t. ∥ LineSays (line_of_gauge key value) (level t text) ∥₁) (sym its)
    (subst (λ v. ∥ LineSays (line_of_gauge key value) (level (string_bytes key.context) v) ∥₁) (sym written)
    (∥∥₁_map key.of (leveled (string_bytes key.context) (natural value) (natural_is_decimal value small))))

-- the record after one more entry
pub entry_more : (accepted : List Accepted) (entry : Accepted) (line : List ℕ) → line_of_entry entry ≡ line
    → lines_of_entries (accepted ++ entry ∷ []) ≡ lines_of_entries accepted ++ line ∷ []
entry_more accepted entry line its = map-append line_of_entry accepted (entry ∷ []) ∙ ap (λ t. lines_of_entries accepted ++ t ∷ []) its

-- what is to be held at this length is to be held at a lower one
pub shorter_held : (limits : Limits) (said : Line) (low high : ℕ) → low ≤ high → IsToHold limits said high → IsToHold limits said low
shorter_held limits (Amount c by) low high less fits = omega (arith, less, fits)
shorter_held limits (Level c value) low high less fits = omega (arith, less, fits)
shorter_held limits (Member c) low high less fits = omega (arith, less, fits)
shorter_held limits (Timing c values) low high less (fits, packs) = (omega (arith, less, fits), packs)
shorter_held limits (Unclear line) low high less fits = omega (arith, less, fits)
shorter_held limits (Other line) low high less fits = omega (arith, less, fits)

-- a line is no shorter than its context
pub no_shorter : (c v : List ℕ) → length c ≤ length (spliced c v)
no_shorter c v =
    let front = before_bar c in
    let back = from_bar c in
    let parts : length front + length back ≡ length c = sym (length-append front back) ∙ ap (λ t. length t) (cut_whole c) in
    let rest : length (58 ∷ (v ++ back)) ≡ 1 + (length v + length back) = omega (arith, length-append v back) in
    let all : length (spliced c v) ≡ length front + length (58 ∷ (v ++ back)) = length-append front (58 ∷ (v ++ back)) in
    omega (arith, parts, rest, all)
