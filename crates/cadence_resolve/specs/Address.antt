-- The address of a name after a list of lookups.
use Rattle.std.specs.Prelude.{◌≡◌, ℕ, ◌%◌, ◌^◌, Bool, true, false, not, List, [], ◌∷◌, ◌++◌, count_by, All, Result, Ok, Err, Vec}
use Rattle.std.specs.declared.net.socket_addr.SocketAddr.{SocketAddr}
use Rattle.cadence_errors.specs.declared.SinkError.{SinkError}

-- the addresses that a lookup gave; a lookup that failed gave none
abbrev pub addresses_of : {A : Type 0} → Result (Vec SocketAddr A) SinkError → List SocketAddr
addresses_of (Ok found) = found.items
addresses_of (Err fault) = []

-- The address is the first one of the last lookup that gave any: the lookups after it gave none.
pub record IsAddressAfter (lookups : List (List SocketAddr)) (address : SocketAddr) : Type 0 where
  pub before : List (List SocketAddr)
  pub others : List SocketAddr
  pub after : List (List SocketAddr)
  pub found : lookups ≡ before ++ (address ∷ others) ∷ after
  pub none_after : All (λ addresses. addresses ≡ []) after

-- whether a lookup gave an address
abbrev pub gave_any : List SocketAddr → Bool
gave_any [] = false
gave_any (address ∷ others) = true

-- a resolver as contracts see it: its address, and how many lookups after the first one gave an address and how many
-- gave none, both modulo 2 to the 64
pub record Resolved : Type 0 where
  pub address : SocketAddr
  pub successes : ℕ
  pub failures : ℕ

-- After this first lookup and these later ones, the resolver has the first address of the last lookup that gave any,
-- and its counts are the numbers of the later lookups that gave an address and of those that gave none, modulo 2 to the
-- 64.
pub record IsResolvedBy (first : List SocketAddr) (later : List (List SocketAddr)) (r : Resolved) : Type 0 where
  pub address : IsAddressAfter (first ∷ later) r.address
  pub successes : r.successes ≡ count_by (λ found. gave_any found) later % 2 ^ 64
  pub failures : r.failures ≡ count_by (λ found. not (gave_any found)) later % 2 ^ 64

-- If the resolver met `IsResolvedBy` after some lookups, it does after these and one more that gave the addresses
-- `found`.
abbrev pub IsNotedAfter : Resolved → List SocketAddr → Resolved → Type 0
IsNotedAfter r found s =
    (first : List SocketAddr) (later : List (List SocketAddr)) → IsResolvedBy first later r → IsResolvedBy first (later ++ found ∷ []) s
