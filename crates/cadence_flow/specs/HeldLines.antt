-- Lines that are held until they are a packet, and what each call does to them.
use Rattle.std.specs.Prelude.{◌≡◌, ℕ, List, [], ◌++◌, ◌↔◌, Bool, IsTrue, IsFalse, IfOk, OnOk, OnErr, Vec}
use Rattle.std.specs.declared.result.Result.{Result}
use Rattle.cadence_flow.specs.Frame.{Format, Fits}

-- the held text, which waits to be a packet, and the format of that packet
pub record HeldText : Type 0 where
  pub text : List ℕ
  pub format : Format

-- no held text yet, and the format of the first packet
abbrev pub nothing_held : ℕ → List ℕ → HeldText
nothing_held capacity ending = record { text = []; format = record { capacity = capacity; ending = ending } }

-- the same format with this held text
abbrev pub with_text : HeldText → List ℕ → HeldText
with_text h text = record { text = text; format = h.format }

-- How a line is held: the call returns whether the line fits, and holds a line that does.
pub record HoldsText (old new : HeldText) (line : List ℕ) (result : Bool) : Type 0 where
  pub exact : IsTrue result ↔ Fits old.format old.text line
  pub held : IsTrue result → new ≡ with_text old (old.text ++ (line ++ old.format.ending))
  pub unchanged : IsFalse result → new ≡ old

-- Taking the held text returns it, and leaves nothing held; or nothing changed.
pub record TakesText {Z E : Type 0} (old new : HeldText) (result : Result (Vec ℕ Z) E) : Type 0 where
  pub taken : IfOk result (λ bytes. bytes.items ≡ old.text)
  pub emptied : OnOk result (new ≡ with_text old [])
  pub unchanged : OnErr result (new ≡ old)
