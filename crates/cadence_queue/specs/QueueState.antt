-- What contracts see of a queue, and what is true of every queue.
use Rattle.std.specs.Prelude.{◌≡◌, ℕ, ◌+◌, ◌%◌, ◌^◌, ◌≤◌, Bool, true, false, List, length, Option, Some, None, refl}
use Rattle.std.specs.Coded.{Coded, code_by, coded×, coded_list, coded_ℕ, coded_bool, coded_option}
use Rattle.cadence_queue.specs.declared.policy.QueuePolicy.{QueuePolicy}
use Rattle.cadence_queue.specs.declared.policy.QueuePolicy.TheVariants.{Refuse, DropOldest}

-- a queue: the texts that wait, the oldest first; the capacity, or none; what it does with a text when it is full; the
-- stop mark; the number of handles; and the numbers of texts submitted, taken (drained) and dropped, modulo 2^64
pub record Queue (T : Type 0) : Type 0 where
  pub waiting : List T
  pub capacity : Option ℕ
  pub policy : QueuePolicy
  pub stopped : Bool
  pub handles : ℕ
  pub submitted : ℕ
  pub drained : ℕ
  pub dropped : ℕ

-- whether a full queue drops a text under this policy
abbrev pub drops : QueuePolicy → Bool
drops Refuse = false
drops DropOldest = true

-- the policy that drops a text, or the one that doesn't
abbrev policy_of : Bool → QueuePolicy
policy_of false = Refuse
policy_of true = DropOldest

-- A policy is the one that says whether it drops.
abbrev same_policy : (p : QueuePolicy) → policy_of (drops p) ≡ p
same_policy Refuse = refl
same_policy DropOldest = refl

-- how the logic stores a policy: as whether it drops
abbrev pub policy_code : Coded QueuePolicy
policy_code = code_by Bool coded_bool drops policy_of same_policy

module _ {T : Type 0} where
  -- how the logic stores a queue: as the tuple of its fields
  abbrev pub queue_code : Coded T → Coded (Queue T)
  queue_code c =
      code_by
      (List T × (Option ℕ × (QueuePolicy × (Bool × (ℕ × (ℕ × (ℕ × ℕ)))))))
      (coded× (coded_list c) (coded× (coded_option coded_ℕ) (coded× policy_code
      (coded× coded_bool (coded× coded_ℕ (coded× coded_ℕ (coded× coded_ℕ coded_ℕ)))))))
      (λ q. (q.waiting, (q.capacity, (q.policy, (q.stopped, (q.handles, (q.submitted, (q.drained, q.dropped))))))))
      (λ p. record {
        waiting = p.0;
        capacity = p.1.0;
        policy = p.1.1.0;
        stopped = p.1.1.1.0;
        handles = p.1.1.1.1.0;
        submitted = p.1.1.1.1.1.0;
        drained = p.1.1.1.1.1.1.0;
        dropped = p.1.1.1.1.1.1.1;
      })
      (λ _. refl)

  -- No more texts wait than the capacity.
  abbrev pub IsWithin : Option ℕ → List T → Type 0
  IsWithin (Some capacity) waiting = length waiting ≤ capacity
  IsWithin None waiting = Unit {0}

  -- The texts that wait, those taken and those dropped are together as many as those submitted, modulo 2^64.
  abbrev pub IsCounted : List T → ℕ → ℕ → ℕ → Type 0
  IsCounted waiting submitted drained dropped = (length waiting + drained + dropped) % 2 ^ 64 ≡ submitted

-- A queue that refuses, or that has no capacity, has dropped no text.
abbrev pub HasDropped : QueuePolicy → Option ℕ → ℕ → Type 0
HasDropped DropOldest (Some capacity) dropped = Unit {0}
HasDropped DropOldest None dropped = dropped ≡ 0
HasDropped Refuse capacity dropped = dropped ≡ 0
