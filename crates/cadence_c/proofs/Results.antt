-- What a copy into a buffer of C says, and calls that say less of their value.
use Rattle.std.proofs.Common.{◌≡◌, ◌≢◌, ◌⊎◌, ◌<◌, ◌≤◌, ℕ, List, inl, inr, length, subst, sym, take, ◌∙◌}
use Rattle.cadence_host.specs.Calls.{IsNoChange}
use Rattle.cadence_c.specs.Results.{Formats, Keeps, WritesOut}
use Rattle.cadence_host.specs.Tests.{Tests}
use Rattle.cadence_host.specs.Status.{CADENCE_OK, CADENCE_TOO_SMALL}
use Rattle.cadence_host.specs.declared.call.COptions.{COptions}
use Rattle.cadence_c.specs.declared.handle.Handle.{Handle}
use Rattle.cadence_host.specs.declared.settings.CSettings.{CSettings}

-- A call that copies a text into a buffer, if it fits, writes that text.
pub writes : (s size : ℕ) (text out : List ℕ) (IsText : List ℕ → Type 0) → IsText text
    → (s ≡ CADENCE_OK → take size out ≡ text)
    → (s ≡ CADENCE_OK → size ≤ length out)
    → size ≡ length text
    → (s ≢ CADENCE_OK → (s ≡ CADENCE_TOO_SMALL) × (length out < size))
    → WritesOut s IsText out size
writes s size text out IsText is copied within told small = record {
  written = λ done. subst IsText (sym (copied done)) is;
  within = within;
  told = λ short. (text, is, told);
  small = λ short. (small (λ done. (let zero : CADENCE_OK ≡ CADENCE_TOO_SMALL = sym done ∙ short in absurd cc))).1;
  nothing = λ undone fits. absurd (fits (small undone).0);
}

right_weaker : {A B C : Type 0} → (B → C) → A ⊎ B → A ⊎ C
right_weaker more (inl a) = inl a
right_weaker more (inr b) = inr (more b)

tests_weaker : (s : ℕ) (c : CSettings) (kind : ℕ) (key : List ℕ) (lacks fails : Type 0) (o : COptions) → (lacks → fails)
    → Tests s c kind key lacks o → Tests s c kind key fails o
tests_weaker s c kind key lacks fails o more t = record {
  separators = t.separators;
  text = t.text;
  invalid = λ invalid. right_weaker more (t.invalid invalid);
}

-- A call that keeps the line of a value meets a contract that says less of the value.
pub keeps_weaker : (s : ℕ) (c : CSettings) (kind : ℕ) (key : List ℕ) (has gets : List ℕ → Type 0) (lacks fails : Type 0) (o : COptions)
    (old new : Handle) → ((value : List ℕ) → has value → gets value) → (lacks → fails)
    → Keeps s c kind key has lacks o old new → Keeps s c kind key gets fails o old new
keeps_weaker s c kind key has gets lacks fails o old new more without k = record {
  kept = λ done. (let (value, is, keeps) = k.kept done in (value, more value is, keeps));
  refused = k.refused;
  full = λ full. (let (value, is, no_room) = k.full full in (value, more value is, no_room));
  tests = tests_weaker s c kind key lacks fails o without k.tests;
  statuses = k.statuses;
}

-- The same of a call that writes the line of a value.
pub formats_weaker : (s : ℕ) (c : CSettings) (kind : ℕ) (key : List ℕ) (has gets : List ℕ → Type 0) (lacks fails : Type 0) (o : COptions)
    (out : List ℕ) (size : ℕ) → ((value : List ℕ) → has value → gets value) → (lacks → fails)
    → Formats s c kind key has lacks o out size → Formats s c kind key gets fails o out size
formats_weaker s c kind key has gets lacks fails o out size more without f = record {
  line = record {
    written = λ done. (let (value, is, line) = f.line.written done in (value, more value is, line));
    within = f.line.within;
    told = λ small. (let (line, (value, is, shown), told) = f.line.told small in (line, (value, more value is, shown), told));
    small = f.line.small;
    nothing = f.line.nothing;
  };
  tests = tests_weaker s c kind key lacks fails o without f.tests;
  statuses = f.statuses;
}

-- If one list has as many items as another, and is no change, neither is the other.
pub no_change : {A B : Type 0} (k : ℕ) (vs : List A) (ns : List B) → length ns ≡ length vs → IsNoChange k ns → IsNoChange k vs
no_change k vs ns same none = record { change = none.change; several = λ one. none.several (same ∙ one) }
