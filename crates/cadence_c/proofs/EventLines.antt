-- What is returned if the line of an event or a service check is made, and if it isn't.
use Rattle.std.proofs.Common.{◌≡◌, ◌≤◌, ◌⊎◌, inl, inr, ℕ, List, Option, Some, None, Ok, Err, refl, sym, ap, ◌∙◌, subst, arith, rules}
use Rattle.std.specs.Prelude.{String, string_bytes}
use Rattle.std.specs.declared.alloc.Global.{Global}
use Rattle.cadence_errors.specs.declared.input_error.InputError.{InputError}
use Rattle.cadence_events.specs.Refusals.{MakesLine}
use Rattle.cadence_events.specs.declared.refusal.Unfit.{Unfit}
use Rattle.cadence_events.specs.declared.refusal.Unfit.TheVariants as unfit
use Rattle.cadence_c.specs.Events.{MakesEvent}
use Rattle.cadence_host.specs.Status.{CADENCE_FULL, CADENCE_OK, code_of_unfit, error_of}
use Rattle.cadence_host.specs.declared.status.StatusError.{StatusError}

-- A status that names a text is at least 10, and each other status is less.
late : (why : Unfit) → 10 ≤ code_of_unfit why
late unfit.Name = omega arith
late unfit.Host = omega arith
late unfit.AggregationKey = omega arith
late unfit.SourceType = omega arith
late unfit.Tags = omega arith
late unfit.Container = omega arith
late unfit.Message = omega arith

not_early : (why : Unfit) → (code_of_unfit why ≡ CADENCE_OK) ⊎ (code_of_unfit why ≡ CADENCE_FULL) → ⊥
not_early why (inl ok) = omega (arith, ok, late why)
not_early why (inr full) = omega (arith, full, late why)

-- A line was made, so no text of it is refused.
pub makes_ok : (IsLine : List ℕ → Type 0) (IsRefusal : Option Unfit → Type 0) (texts wrong : Type 0) (why : Option Unfit) (line : List ℕ) (text : String Global)
    → MakesLine why line (Ok text) → IsRefusal why → (string_bytes text ≡ line → IsLine (string_bytes text))
    → MakesEvent (Ok text) IsLine IsRefusal texts wrong
makes_ok IsLine IsRefusal texts wrong None line text made refusal is = record {
  line = is made;
  tests = record { allowed = λ s. refusal; text = λ s. search (rules, s); invalid = λ s. search (rules, s) };
  statuses = inr (search rules);
}
makes_ok IsLine IsRefusal texts wrong (Some why) line text made refusal is = absurd made

-- No line was made, because a text is refused, or because memory ran out.
pub makes_err : (IsLine : List ℕ → Type 0) (IsRefusal : Option Unfit → Type 0) (texts wrong : Type 0) (why : Option Unfit) (line : List ℕ) (x : InputError Unfit)
    (e : StatusError) → e ≡ error_of x → MakesLine {Z = Global} why line (Err x) → IsRefusal why → MakesEvent (Err e) IsLine IsRefusal texts wrong
makes_err IsLine IsRefusal texts wrong None line x e same made refusal =
    subst (λ (error : StatusError). MakesEvent (Err error) IsLine IsRefusal texts wrong) (sym (same ∙ ap error_of made)) (record {
      line = tt;
      tests = record { allowed = λ s. refusal; text = λ s. search (rules, s); invalid = λ s. search (rules, s) };
      statuses = inr (search rules);
    })
makes_err IsLine IsRefusal texts wrong (Some why) line x e same made refusal =
    subst (λ (error : StatusError). MakesEvent (Err error) IsLine IsRefusal texts wrong) (sym (same ∙ ap error_of made)) (record {
      line = tt;
      tests = record {
        allowed = λ s. absurd (not_early why s);
        text = λ s. absurd (omega (arith, s, late why));
        invalid = λ s. absurd (omega (arith, s, late why));
      };
      statuses = inl (why, refl, refusal);
    })
