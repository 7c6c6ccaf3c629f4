-- What one lookup changes in a resolver, and what the lookup of a target gives.
use Rattle.std.specs.Prelude.{◌≡◌, ◌+◌, ◌%◌, ◌^◌, Bool, true, false, List, [], ◌∷◌, Option, Some, None, Result, Ok, Err, IfOk, IfErr, IsErrAnd, Vec, codes}
use Rattle.std.specs.declared.net.socket_addr.SocketAddr.{SocketAddr}
use Rattle.cadence_errors.specs.declared.SinkError.{SinkError}
use Rattle.cadence_errors.specs.declared.SinkError.TheVariants.{NoAddresses, OutOfMemory}
use Rattle.cadence_errors.specs.declared.MetricError.{MetricError}
use Rattle.cadence_errors.specs.declared.MetricError.TheVariants.{Sink}
use Rattle.cadence_errors.specs.Errors.{IsDescribed}
use Rattle.cadence_errors.specs.declared.ErrorKind.TheVariants.{InvalidInput}
use Rattle.cadence_resolve.specs.Address.{Resolved}
use Rattle.cadence_resolve.specs.Refusals.{IsLookupFault, IsSocketRefusal}
use Rattle.cadence_resolve.specs.declared.resolver.Resolver.{Resolver}
use Rattle.cadence_resolve.specs.declared.resolver.Resolver.TheVariants.{Static, Periodic}
use Rattle.cadence_resolve.specs.declared.target.Target.{Target}
use Rattle.cadence_resolve.specs.declared.target.Target.TheVariants.{Addr}

-- The error says that a lookup gave no address.
abbrev pub HasNoAddress : MetricError → Type 0
HasNoAddress e = IsDescribed InvalidInput (codes "No socket addresses yielded") e

-- A resolver starts at the first of these addresses, with no later lookup. If there is no address, the error says so.
abbrev pub IsStartAt : List SocketAddr → Result Resolved MetricError → Type 0
IsStartAt [] result = IsErrAnd result HasNoAddress
IsStartAt (address ∷ others) result = result ≡ Ok (record { address = address; successes = 0; failures = 0 })

-- The first lookup leads to a resolver at its first address, or to an error.
abbrev pub IsStart : {A : Type 0} → Result (Vec SocketAddr A) SinkError → Result Resolved MetricError → Type 0
IsStart (Ok found) result = IsStartAt found.items result
IsStart (Err fault) result = result ≡ Err (Sink fault)

-- A resolver can't start: the first lookup failed with this error, or it gave no address.
abbrev pub IsStartRefusal : {A : Type 0} → Result (Vec SocketAddr A) SinkError → MetricError → Type 0
IsStartRefusal (Ok found) e = (found.items ≡ []) × HasNoAddress e
IsStartRefusal (Err fault) e = e ≡ Sink fault

-- the resolver after one more lookup, whose first address is this
abbrev pub after_success : Resolved → SocketAddr → Resolved
after_success r address = record r { address = address; successes = (r.successes + 1) % 2 ^ 64 }

-- the resolver after one more lookup that gave no address
abbrev pub after_failure : Resolved → Resolved
after_failure r = record r { failures = (r.failures + 1) % 2 ^ 64 }

-- After a later lookup that gave these addresses, the resolver has the first of them. If there is no address, the
-- resolver keeps the one that it has, and the error is `NoAddresses`.
abbrev pub IsNotedList : Resolved → List SocketAddr → Option SinkError → Resolved → Type 0
IsNotedList r [] fault s = (fault ≡ Some NoAddresses) × (s ≡ after_failure r)
IsNotedList r (address ∷ others) fault s = (fault ≡ None) × (s ≡ after_success r address)

-- A later lookup changes the resolver `r` to `s`, and the call of `note` returns this error, if there is one.
abbrev pub IsNoted : {A : Type 0} → Resolved → Result (Vec SocketAddr A) SinkError → Option SinkError → Resolved → Type 0
IsNoted r (Ok found) fault s = IsNotedList r found.items fault s
IsNoted r (Err e) fault s = (fault ≡ Some e) × (s ≡ after_failure r)

module _ {A : Type 0} where
  -- The lookup of an address gives only this address, or memory runs out. The lookup of a name may give any addresses,
  -- or fail.
  abbrev pub IsLookedUp : {B : Type 0} → Target B → Result (Vec SocketAddr A) SinkError → Type 0
  IsLookedUp (Addr address) result =
      IfOk result (λ found. found.items ≡ address ∷ []) × IfErr result (λ e. e ≡ OutOfMemory)
  IsLookedUp _ result = IfErr result (λ e. IsLookupFault e)

-- The resolver of an address has this address, and there is no error. A name may have any address, or none.
abbrev pub IsAddressOf : {A : Type 0} → Target A → Result SocketAddr MetricError → Type 0
IsAddressOf (Addr address) result = result ≡ Ok address
IsAddressOf _ result = IfErr result (λ e. IsSocketRefusal e)

-- A resolver that looks up once has the address of its target. (Of a periodic one this says nothing.)
abbrev pub KeepsAddress : {R A B : Type 0} → Resolver R A → Target B → Type 0
KeepsAddress (Static resolver) target = IsAddressOf target (Ok resolver)
KeepsAddress (Periodic resolver) target = Unit {0}

-- A resolver that looks up once returns the address that it has. (Of a periodic one this says nothing.)
abbrev pub AnswersAddress : {R A : Type 0} → Resolver R A → SocketAddr → Type 0
AnswersAddress (Static resolver) address = address ≡ resolver
AnswersAddress (Periodic resolver) address = Unit {0}

-- whether a thread looks the target up again after each period
abbrev pub is_periodic : {R A : Type 0} → Resolver R A → Bool
is_periodic (Static resolver) = false
is_periodic (Periodic resolver) = true
