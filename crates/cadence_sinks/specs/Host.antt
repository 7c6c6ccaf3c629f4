-- The target that is a host's name and a port.
use Rattle.std.specs.Prelude.{◌≡◌, ℕ, Bool, true, false, List, string_bytes}
use Rattle.cadence_resolve.specs.declared.target.Target.{Target}
use Rattle.cadence_resolve.specs.declared.target.Target.TheVariants.{Addr, Name}

-- The target is a host with this name and this port.
abbrev pub IsHostTarget : {A : Type 0} → List ℕ → ℕ → Target A → Type 0
IsHostTarget name port (Name host number) = (string_bytes host ≡ name) × (number ≡ port)
IsHostTarget name port _ = ⊥

-- whether a target is a host's name, and no address
abbrev pub is_name : {A : Type 0} → Target A → Bool
is_name (Name host number) = true
is_name (Addr address) = false

-- A target that is an address is the same here. (Of a name this says nothing.)
abbrev pub IsSameUnlessNamed : {A : Type 0} → Target A → Target A → Type 0
IsSameUnlessNamed (Addr address) after = after ≡ Addr address
IsSameUnlessNamed _ after = Unit {0}
