-- The lines of events and of service checks, as `cut_line` cuts them.
use Rattle.std.proofs.Common.{◌≡◌, ◌++◌, ℕ, List, ap, arith, codes, get_or, length, refl, sym, ◌∙◌}
use Rattle.std.specs.Prelude.{All}
use Rattle.std.proofs.lemmas.List.{append_assoc}
use Rattle.std.proofs.lemmas.List.Elements.{All-from_recursion}
use Rattle.cadence_text.specs.OneReading.{IsNoSeparator}
use Rattle.cadence_value.proofs.digits.NumberText.{IsNumberByte, decimal_bytes}
use Rattle.cadence_value.proofs.lists.SplitTexts.{each_weaker}
use Rattle.cadence_value.specs.Number.{decimal_text}
use Rattle.cadence_events.specs.Escapes.{escaped}
use Rattle.cadence_events.specs.Event.{Event, event_fields, event_text}
use Rattle.cadence_events.specs.ServiceCheck.{ServiceCheck, check_text}
use Rattle.cadence_read.specs.Cuts.{IsEvent, IsServiceCheck}

-- No digit is a separator.
digits_plain : (n : ℕ) → All IsNoSeparator (decimal_text n)
digits_plain n =
    All-from_recursion IsNoSeparator (decimal_text n)
    (each_weaker IsNumberByte IsNoSeparator (λ b p. let (low, high) = p in (
      λ e. absurd (omega arith),
      λ e. absurd (omega arith),
      λ e. absurd (omega arith),
      λ e. absurd (omega arith),
    )) (decimal_text n) (decimal_bytes n))

pub event_is_cut : (e : Event) (tags : List ℕ) → IsEvent (event_text e tags)
unfolding event_text
event_is_cut e tags =
    let title = escaped e.title in
    let text = escaped e.text in
    let size = decimal_text (length title) in
    let behind : List ℕ = decimal_text (length text) ++ (codes "}:" ++ (title ++ (codes "|" ++ text))) in
    let fields = event_fields e tags in
    (size, behind ++ fields, ap (λ s. codes "_e{" ++ s) (append_assoc size (codes "," ++ behind) fields), digits_plain (length title))

pub check_is_cut : (c : ServiceCheck) (tags : List ℕ) → IsServiceCheck (check_text c tags)
unfolding check_text
check_is_cut c tags = (_, refl)

pub cut_apart : (line : List ℕ) → IsEvent line → IsServiceCheck line → ⊥
cut_apart line (size, rest, event, free) (later, check) =
    let same : 101 ≡ 115 = ap (λ t. get_or t 1 0) (sym event ∙ check) in
    absurd (omega (arith, same))
