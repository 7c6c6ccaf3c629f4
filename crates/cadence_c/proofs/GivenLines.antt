-- The lines that sums give to a client, and the keys of a handle.
use Rattle.std.proofs.Common.{◌≡◌, ℕ, List, [], ◌∷◌, ◌++◌, refl, sym, ap, ◌∙◌, append_assoc, append-nil, subst, take, Some, Result, Ok, Err}
use Rattle.std.specs.Prelude.{IsSomeAnd, OnErr, OnOk, option_map}
use Rattle.std.proofs.Math.Logic.{∥∥₁_map}
use Rattle.cadence_aggregating.specs.Summed.{AddsQuietly, accepted_in, gone_in, held_in, limits_in, waiting_in}
use Rattle.cadence_aggregating.specs.declared.summed.SummedLines.{SummedLines}
use Rattle.cadence_host.specs.ClientState.{ClientState, KeepsLine}
use Rattle.cadence_c.specs.declared.sums_handle.Sums.{Sums}
use Rattle.cadence_c.specs.declared.sums_handle.SumsHandle.{SumsHandle}
use Rattle.cadence_c.specs.SumsHandle.{contents}
use Rattle.cadence_c.specs.SumsKeys.{GetsKey, HasKeyMore}
use Rattle.cadence_c.specs.Sums.{AddsUp, GivesAll, GivesLines, KeepsLines}

pub kept_more : (xs ys : List (List ℕ)) (s m t : ClientState) → KeepsLines xs s m → KeepsLines ys m t → KeepsLines (xs ++ ys) s t
kept_more [] ys s m t h k = subst (λ u. KeepsLines ys u t) h k
kept_more (x ∷ xs) ys s m t (mid, first, rest) k = (mid, first, kept_more xs ys mid m t rest k)

-- If nothing leaves the sums, the client stays as it is.
pub gives_none : (a b : SummedLines) (s : ClientState) → limits_in b ≡ limits_in a → gone_in b ≡ gone_in a → GivesLines a b s s
gives_none a b s limits same = record { limits = limits; given = []; gone = same ∙ sym (append-nil (gone_in a)); kept = refl }

pub gives_more : (a b c : SummedLines) (s m t : ClientState) → GivesLines a b s m → GivesLines b c m t → GivesLines a c s t
gives_more a b c s m t h k = record {
  limits = k.limits ∙ h.limits;
  given = h.given ++ k.given;
  gone = k.gone ∙ ap (λ g. g ++ k.given) h.gone ∙ append_assoc (gone_in a) h.given k.given;
  kept = kept_more h.given k.given s m t h.kept k.kept;
}

-- The first line that waits leaves the sums, and the client keeps it.
pub gives_first : (a b : SummedLines) (s t : ClientState) (line : List ℕ) → take 1 (waiting_in a) ≡ line ∷ []
    → limits_in b ≡ limits_in a → gone_in b ≡ gone_in a ++ take 1 (waiting_in a) → KeepsLine s line t → GivesLines a b s t
gives_first a b s t line first limits gone keeps = record { limits = limits; given = line ∷ []; gone = gone ∙ ap (λ l. gone_in a ++ l) first; kept = (t, keeps, refl) }

-- A line was added between two times at which lines left the sums.
pub adds_between : (lines : List (List ℕ)) (a b c d : SummedLines) (s m t : ClientState) → GivesLines a b s m → accepted_in b ≡ accepted_in a
    → limits_in c ≡ limits_in b → gone_in c ≡ gone_in b → accepted_in c ≡ accepted_in b ++ lines → GivesLines c d m t → accepted_in d ≡ accepted_in c
    → AddsUp lines a d s t
adds_between lines a b c d s m t first before limits gone more last after = record {
  accepted = after ∙ more ∙ ap (λ l. l ++ lines) before;
  gives = gives_more a b d s m t first (gives_more b c d m m t (gives_none b c m limits gone) last);
}

-- If no line waits before a line is added, and none after, the client stays as it is.
pub adds_quietly : (line : List ℕ) (a b c : SummedLines) (s m t : ClientState) → (waiting_in a ≡ [] → (b ≡ a) × (m ≡ s))
    → AddsQuietly b line (waiting_in b) (waiting_in c) → (waiting_in c ≡ [] → t ≡ m) → waiting_in a ≡ [] → AddsQuietly a line s t
adds_quietly line a b c s m t first quiet last none =
    let (same, kept) = first none in
    ∥∥₁_map (subst (λ x. AddsQuietly x line (waiting_in x) (waiting_in c)) same quiet)
    (λ q. (q.0, q.1, λ to_hold can. last (q.2 to_hold can ∙ none) ∙ kept))

pub on_err : {A E P : Type 0} (r : Result A E) → P → OnErr r P
on_err (Ok a) p = tt
on_err (Err e) p = p

-- If the lines that waited after a flush were given to the client, nothing is left.
pub empties : {A E : Type 0} (r : Result A E) (a b : SummedLines) (s t : ClientState) → AddsUp [] a b s t → held_in b ≡ []
    → OnOk r (waiting_in b ≡ []) → OnOk r (GivesAll a b s t)
empties (Ok done) a b s t adds held waiting = record { adds = adds; held = held; waiting = waiting }
empties (Err e) a b s t adds held waiting = tt

-- A handle has one key more if what it contains has.
pub has_key : (h k : SumsHandle) (a b : Sums) (line : List ℕ) (place : ℕ) → contents h ≡ Some a → contents k ≡ Some b
    → GetsKey line place a.keys.items b.keys.items → HasKeyMore line place h k
has_key h k a b line place before after gets =
    subst (λ x. IsSomeAnd (option_map (λ s. s.keys.items) x) (λ old. IsSomeAnd (option_map (λ s. s.keys.items) (contents k)) (GetsKey line place old)))
    (sym before)
    (subst (λ y. IsSomeAnd (option_map (λ s. s.keys.items) y) (GetsKey line place a.keys.items)) (sym after) gets)
