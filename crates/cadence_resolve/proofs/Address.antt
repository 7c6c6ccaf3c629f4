-- A resolver that was right after some lookups is right after one more. The lemmas about the counts modulo 2 to the 64
-- come first, then those about a lookup without addresses, about one with addresses, and about the first lookup.
use Rattle.std.proofs.Common.{◌≡◌, ℕ, ◌+◌, ◌%◌, ◌^◌, List, [], ◌∷◌, ◌++◌, Bool, false, ap, sym, ◌∙◌, refl, arith}
use Rattle.std.proofs.Math.Nat.{mod-add-mod}
use Rattle.std.proofs.lemmas.List.{append_assoc}
use Rattle.std.proofs.lemmas.List.Sums.{sum_by-append}
use Rattle.std.proofs.lemmas.List.Elements.{All-append, All-cons, All-nil}
use Rattle.std.specs.Prelude.{not, if◌then◌else◌, count_by, Option, Result, Ok, Err, Vec}
use Rattle.std.specs.declared.net.socket_addr.SocketAddr.{SocketAddr}
use Rattle.cadence_errors.specs.declared.SinkError.{SinkError}
use Rattle.cadence_resolve.specs.Address.{Resolved, IsResolvedBy, IsNotedAfter, addresses_of, gave_any}
use Rattle.cadence_resolve.specs.Lookups.{IsStart, IsStartAt, IsNoted, IsNotedList, after_success, after_failure}

-- One more element at the end of a list adds 1 to the count if it passes the test, and nothing if it doesn't.
count_by_snoc : {X : Type 0} (p : X → Bool) (xs : List X) (x : X)
    → count_by p (xs ++ x ∷ []) ≡ count_by p xs + (if p x then 1 else 0)
count_by_snoc p xs x = sum_by-append (λ y. if p y then 1 else 0) xs (x ∷ []) ∙ omega arith

-- One more element at the end of a list adds 1 or 0 to the count modulo 2 to the 64.
counted : {X : Type 0} (p : X → Bool) (xs : List X) (x : X) (n : ℕ)
    → n ≡ count_by p xs % 2 ^ 64
    → (n + (if p x then 1 else 0)) % 2 ^ 64 ≡ count_by p (xs ++ x ∷ []) % 2 ^ 64
counted p xs x n was =
    ap (λ z. (z + (if p x then 1 else 0)) % 2 ^ 64) was
    ∙ mod-add-mod (count_by p xs) (2 ^ 64) (if p x then 1 else 0)
    ∙ sym (ap (λ z. z % 2 ^ 64) (count_by_snoc p xs x))

-- An element that doesn't pass the test leaves the count as it is.
not_counted : {X : Type 0} (p : X → Bool) (xs : List X) (x : X) (n : ℕ)
    → p x ≡ false → n ≡ count_by p xs % 2 ^ 64 → n ≡ count_by p (xs ++ x ∷ []) % 2 ^ 64
not_counted p xs x n fails was =
    let same : count_by p (xs ++ x ∷ []) ≡ count_by p xs = count_by_snoc p xs x ∙ rw fails (omega arith) in
    was ∙ sym (ap (λ z. z % 2 ^ 64) same)

-- One more lookup without addresses keeps the address and counts as a failure.
none_is_after : (r s : Resolved) → s ≡ after_failure r → IsNotedAfter r [] s
none_is_after r s step = λ first later past.
    let old = past.address in
    let same : s.address ≡ r.address = ap (λ z. z.address) step in
    let longer : first ∷ (later ++ [] ∷ []) ≡ old.before ++ (s.address ∷ old.others) ∷ (old.after ++ [] ∷ []) =
    rw same (ap (λ z. z ++ [] ∷ []) old.found ∙ append_assoc old.before ((r.address ∷ old.others) ∷ old.after) ([] ∷ [])) in
    record {
      address = record {
        before = old.before;
        others = old.others;
        after = old.after ++ [] ∷ [];
        found = longer;
        none_after = All-append (λ addresses. addresses ≡ []) old.after ([] ∷ []) old.none_after
            (All-cons (λ addresses. addresses ≡ []) [] [] refl (All-nil (λ addresses. addresses ≡ [])));
      };
      successes = ap (λ z. z.successes) step ∙ not_counted (λ found. gave_any found) later [] r.successes refl past.successes;
      failures = ap (λ z. z.failures) step ∙ counted (λ found. not (gave_any found)) later [] r.failures past.failures;
    }

-- One more lookup with addresses takes the first of them and counts as a success.
some_is_after : (r s : Resolved) (address : SocketAddr) (others : List SocketAddr)
    → s ≡ after_success r address → IsNotedAfter r (address ∷ others) s
some_is_after r s address others step = λ first later past.
    let first_one : s.address ≡ address = ap (λ z. z.address) step in
    record {
      address = record {
        before = first ∷ later;
        others = others;
        after = [];
        found = rw first_one refl;
        none_after = All-nil (λ addresses. addresses ≡ []);
      };
      successes = ap (λ z. z.successes) step ∙ counted (λ found. gave_any found) later (address ∷ others) r.successes past.successes;
      failures = ap (λ z. z.failures) step ∙ not_counted (λ found. not (gave_any found)) later (address ∷ others) r.failures refl past.failures;
    }

-- A resolver stays right after one more lookup that didn't fail, with addresses or without.
list_is_after : (r s : Resolved) (found : List SocketAddr) (fault : Option SinkError)
    → IsNotedList r found fault s → IsNotedAfter r found s
list_is_after r s [] fault step = none_is_after r s step.1
list_is_after r s (address ∷ others) fault step = some_is_after r s address others step.1

-- A resolver stays right after one more lookup, which may have failed.
pub noted_is_after : {A : Type 0} (r s : Resolved) (lookup : Result (Vec SocketAddr A) SinkError) (fault : Option SinkError)
    → IsNoted r lookup fault s → IsNotedAfter r (addresses_of lookup) s
noted_is_after r s (Ok found) fault step = list_is_after r s found.items fault step
noted_is_after r s (Err e) fault step = none_is_after r s step.1

-- Before any later lookup, the resolver has the first address of the first lookup.
start_is_after : (first : List SocketAddr) (r : Resolved) → IsStartAt first (Ok r) → IsResolvedBy first [] r
start_is_after [] r start = absurd start
start_is_after (address ∷ others) r start =
    let first_one : r.address ≡ address = cc in
    record {
      address = record {
        before = [];
        others = others;
        after = [];
        found = rw first_one refl;
        none_after = All-nil (λ addresses. addresses ≡ []);
      };
      successes = cc;
      failures = cc;
    }

-- A resolver that was made from its first lookup, which may have failed, has its first address.
pub start_is_resolved : {A : Type 0} (first : Result (Vec SocketAddr A) SinkError) (r : Resolved)
    → IsStart first (Ok r) → IsResolvedBy (addresses_of first) [] r
start_is_resolved (Ok found) r start = start_is_after found.items r start
start_is_resolved (Err e) r start = absurd (cc)
