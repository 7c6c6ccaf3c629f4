-- What the lines of a run say, one step further.
use Rattle.std.proofs.Common.{◌≡◌, ◌<◌, ℕ, List, [], ◌∷◌, ◌++◌, Ok, OnOk, Some, get_or, length, slice_get, refl, sym, ap, subst, ◌∙◌, arith, append_assoc, append-nil, length-append}
use Rattle.std.specs.Prelude.{Result}
use Rattle.std.proofs.Math.Seq.{get_or-append_seam}
use Rattle.std.proofs.lemmas.Option.{slice_get-get_or, slice_get_read}
use Rattle.cadence_aggregate.specs.Aggregate.{accepted_samples, said_by}
use Rattle.cadence_aggregate.specs.Server.{Sample, IsSummary}
use Rattle.cadence_aggregate.specs.Within.{StayWithin}
use Rattle.cadence_aggregate.specs.declared.runs.Step.{Step}
use Rattle.cadence_errors.specs.declared.SinkError.{SinkError}
use Rattle.cadence_aggregate.proofs.Observed.{same_of, same_trans, same_more}
use Rattle.cadence_aggregate.proofs.Within.{stay_further, stay_more, stay_same}

abbrev Reply : Type 0
Reply = Result (Unit {0}) SinkError

pub accepted_snoc : (xs : List Step) (rs : List Reply) (x : Step) (r : Reply) → length rs ≡ length xs → accepted_samples (xs ++ x ∷ []) (rs ++ r ∷ []) ≡ accepted_samples xs rs ++ said_by x r
accepted_snoc [] [] x r h = append-nil (said_by x r)
accepted_snoc [] (q ∷ rs) x r h = absurd (omega arith)
accepted_snoc (y ∷ xs) [] x r h = absurd (omega arith)
accepted_snoc (y ∷ xs) (q ∷ rs) x r h =
    ap (λ t. said_by y q ++ t) (accepted_snoc xs rs x r (omega arith)) ∙ sym (append_assoc (said_by y q) (accepted_samples xs rs) (said_by x r))

-- one step further
pub step_said : (before past now : List Sample) (xs : List Step) (rs : List Reply) (x : Step) (r : Reply) → length rs ≡ length xs
    → IsSummary (before ++ accepted_samples xs rs) past → IsSummary (past ++ said_by x r) now → IsSummary (before ++ accepted_samples (xs ++ x ∷ []) (rs ++ r ∷ [])) now
step_said before past now xs rs x r h a b =
    same_trans _ _ _ (same_of (before ++ accepted_samples (xs ++ x ∷ []) (rs ++ r ∷ [])) ((before ++ accepted_samples xs rs) ++ said_by x r)
    (ap (λ t. before ++ t) (accepted_snoc xs rs x r h) ∙ sym (append_assoc before (accepted_samples xs rs) (said_by x r))))
    (same_trans _ _ _ (same_more (before ++ accepted_samples xs rs) past (said_by x r) a) b)

-- one step further, the lines of values stay within the limit
pub step_within : (limit : ℕ) (before past now : List Sample) (xs : List Step) (rs : List Reply) (x : Step) (r : Reply) → length rs ≡ length xs
    → StayWithin limit (before ++ accepted_samples xs rs) past → StayWithin limit (past ++ said_by x r) now → StayWithin limit (before ++ accepted_samples (xs ++ x ∷ []) (rs ++ r ∷ [])) now
step_within limit before past now xs rs x r h a b =
    let whole = before ++ accepted_samples (xs ++ x ∷ []) (rs ++ r ∷ []) in
    let parts = (before ++ accepted_samples xs rs) ++ said_by x r in
    let same : parts ≡ whole = sym (ap (λ t. before ++ t) (accepted_snoc xs rs x r h) ∙ sym (append_assoc before (accepted_samples xs rs) (said_by x r))) in
    stay_further limit whole parts now (stay_same limit whole parts same)
    (stay_further limit parts (past ++ said_by x r) now (stay_more limit (before ++ accepted_samples xs rs) past (said_by x r) a) b)

-- the reply that comes last
last_reply : (rs : List Reply) (r : Reply) (n : ℕ) → length rs ≡ n → slice_get (rs ++ r ∷ []) n ≡ Some r
last_reply rs r n h =
    let here = get_or-append_seam rs r [] r in
    let long : n < length (rs ++ r ∷ []) = omega (arith, length-append rs (r ∷ [])) in
    slice_get_read (rs ++ r ∷ []) (length (rs ++ r ∷ [])) n r refl long (sym (subst (λ k. get_or (rs ++ r ∷ []) k r ≡ r) h here))

-- what a flush does that succeeds is done, if the last step was one
pub flushed_last : {X : Type 0} (P : Type 0) (flush : X) (steps : List X) (rs : List Reply) (d : X) (r : Reply) (n m : ℕ) → m ≡ n → n < length steps
    → length rs ≡ n → (get_or steps n d ≡ flush → OnOk r P) → slice_get steps m ≡ Some flush → slice_get (rs ++ r ∷ []) m ≡ Some (Ok tt) → P
flushed_last P flush steps rs d r n m here lt as_many law last done =
    let is_flush : get_or steps n d ≡ flush = let e = slice_get-get_or steps n d lt in cc in
    let is_ok : r ≡ Ok tt = let e = last_reply rs r n as_many in cc in
    subst (λ q. OnOk q P) is_ok (law is_flush)
