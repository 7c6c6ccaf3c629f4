-- What a table holds, after its oldest entry is taken out, and after one goes first.
use Rattle.std.specs.Prelude.{String, string_bytes}
use Rattle.std.proofs.Common.{◌≡◌, ℕ, zero, suc, ◌-◌, Bool, true, false, cond, List, [], ◌∷◌, ◌++◌, length, take, drop, Option, Some, None, refl, sym, ap, subst, ◌∙◌, arith, append_assoc, append-nil, length-append}
use Rattle.std.specs.Prelude.{◌<◌, ◌≤◌, nat_eq, Result, Ok, Err, OnOk, OnErr}
use Rattle.std.specs.List.{slice_get}
use Rattle.std.specs.Option.{is_some}
use Rattle.std.specs.Cmp.Lexicographic.{pointwise, bytes_decides}
use Rattle.std.proofs.lemmas.List.{take_all, drop_all, length-take}
use Rattle.std.specs.Map.{lookup, lookup_entry, remove_entry, set_value}
use Rattle.lru.specs.LruCache.{LruCache, last_entry, promoted, put_entries, lru_cache}
use Rattle.cadence_aggregate.specs.Server.{Sample}
use Rattle.cadence_aggregate.specs.Held.{held_by}

last_at : {X : Type 0} (i : ℕ) (es : List X) (e : X) → suc i ≡ length es → slice_get es i ≡ Some e → take i es ++ e ∷ [] ≡ es
last_at i [] e n h = cc
last_at zero (x ∷ []) e n h = cc
last_at zero (x ∷ y ∷ es) e n h = absurd (omega arith)
last_at (suc i) (x ∷ es) e n h = ap (λ t. x ∷ t) (last_at i es e (omega arith) h)

held_snoc : {E : Type 0} (say : E → Sample) (xs : List E) (e : E) → held_by say (xs ++ e ∷ []) ≡ say e ∷ held_by say xs
held_snoc say [] e = refl
held_snoc say (x ∷ xs) e = ap (λ t. t ++ say x ∷ []) (held_snoc say xs e)

-- the oldest entry is the first that is held
pub popped : {K V : Type 0} (say : K × V → Sample) (es : List (K × V)) (e : K × V) → last_entry es ≡ Some e → say e ∷ held_by say (take (length es - 1) es) ≡ held_by say es
popped say [] e h = cc
popped say (x ∷ es) e h =
    let i : suc (length (x ∷ es) - 1) ≡ length (x ∷ es) = omega arith in
    sym (held_snoc say (take (length (x ∷ es) - 1) (x ∷ es)) e) ∙ ap (held_by say) (last_at (length (x ∷ es) - 1) (x ∷ es) e i h)

-- a key that isn't there isn't among the first entries
pub absent_take : {K V : Type 0} (test : K → Bool) (n : ℕ) (es : List (K × V)) → lookup test es ≡ None → lookup test (take n es) ≡ None
absent_take test zero es h = refl
absent_take test (suc n) [] h = refl
absent_take test (suc n) (e ∷ es) h = (elim (test e.0) as (λ b. cond b (Some e.1) (lookup test es) ≡ None → cond b (Some e.1) (lookup test (take n es)) ≡ None) [
  | true ↦ λ t. cc
  | false ↦ λ t. absent_take test n es t
]) h

pub absent_entry : {K V : Type 0} (test : K → Bool) (es : List (K × V)) → lookup test es ≡ None → lookup_entry test es ≡ None
absent_entry test [] h = refl
absent_entry test (e ∷ es) h = (elim (test e.0) as (λ b. cond b (Some e.1) (lookup test es) ≡ None → cond b (Some e) (lookup_entry test es) ≡ None) [
  | true ↦ λ t. cc
  | false ↦ λ t. absent_entry test es t
]) h

-- the entry of a value that was found
pub found_entry : {K V : Type 0} (test : K → Bool) (es : List (K × V)) (v : V) → lookup test es ≡ Some v
    → (k : K) × (lookup_entry test es ≡ Some (k, v)) × (test k ≡ true)
found_entry test [] v h = cc
found_entry test (e ∷ es) v h = (elim (test e.0) as (λ b. test e.0 ≡ b → cond b (Some e.1) (lookup test es) ≡ Some v → (k : _) × (cond b (Some e) (lookup_entry test es) ≡ Some (k, v)) × (test k ≡ true)) [
  | true ↦ λ t s. let same : e.1 ≡ v = cc in (e.0, ap (λ w. Some (e.0, w)) same, t)
  | false ↦ λ t s. found_entry test es v s
]) refl h

-- the entries after a value was written through `get_mut`: the entry goes first, with the value
abbrev pub IsRewritten : {K V : Type 0} → (K → Bool) → List (K × V) → V → V → K → Type 0
IsRewritten test es v w k = (set_value test (promoted test es) w ≡ (k, w) ∷ remove_entry test es) × (lookup_entry test es ≡ Some (k, v)) × (test k ≡ true)

pub rewritten : {K V : Type 0} (test : K → Bool) (es : List (K × V)) (v w : V) → lookup test es ≡ Some v → (k : K) × IsRewritten test es v w k
rewritten test es v w h =
    let f = found_entry test es v h in
    (f.0, (rw f.1 (rw f.2 refl), f.1, f.2))

-- the key is that of this context
abbrev pub has_context : {Z : Type 0} → List ℕ → String Z → Bool
has_context context k = pointwise nat_eq context (string_bytes k)

pub its_context : {Z : Type 0} (context : List ℕ) (k : String Z) → has_context context k ≡ true → (string_bytes k) ≡ context
its_context context k h = sym ((bytes_decides context (string_bytes k)).0 h)

-- a new key goes first
pub inserted : {V Z : Type 0} (context : List ℕ) (es : List (String Z × V)) (cap : ℕ) (key : String Z) (v : V) → lookup (has_context context) es ≡ None → (string_bytes key) ≡ context → length es < cap
    → put_entries (λ a b. pointwise nat_eq (string_bytes a) (string_bytes b)) (lru_cache es cap) key v ≡ (key, v) ∷ es
inserted context es cap key v none same room =
    let none' : lookup_entry (λ b. pointwise nat_eq (string_bytes key) (string_bytes b)) es ≡ None = subst (λ t. lookup_entry (λ (b : String _). pointwise nat_eq t (string_bytes b)) es ≡ None) (sym same) (absent_entry (has_context context) es none) in
    let all : take (cap - 1) es ≡ es = take_all (cap - 1) es (omega arith) in
    rw (none', all) refl

-- what is said and held is the same list, with one more at the end
pub said_more : {K V : Type 0} (say : K × V → Sample) (said now : List Sample) (es old : List (K × V)) (e : K × V) → now ++ held_by say es ≡ said ++ held_by say old
    → now ++ held_by say (e ∷ es) ≡ (said ++ held_by say old) ++ say e ∷ []
said_more say said now es old e h = sym (append_assoc now (held_by say es) (say e ∷ [])) ∙ ap (λ t. t ++ say e ∷ []) h

pub on_err : {T F : Type 0} {P : Type 0} (r : Result T F) → P → OnErr r P
on_err (Ok x) p = tt
on_err (Err e) p = p

pub on_ok : {T F : Type 0} {P : Type 0} (r : Result T F) → P → OnOk r P
on_ok (Ok x) p = p
on_ok (Err e) p = tt

-- once there is room, the new entry is what is said last
pub put_said : {V Z : Type 0} (say : String Z × V → Sample) (context : List ℕ) (table after : LruCache (String Z) V) (key : String Z) (v : V) (said now : List Sample) (old : List (String Z × V))
    → lookup (has_context context) table.entries ≡ None → (string_bytes key) ≡ context → length table.entries < table.cap
    → now ++ held_by say table.entries ≡ said ++ held_by say old
    → after ≡ lru_cache (put_entries (λ a b. pointwise nat_eq (string_bytes a) (string_bytes b)) table key v) table.cap
    → now ++ held_by say after.entries ≡ (said ++ held_by say old) ++ say (key, v) ∷ []
put_said say context table after key v said now old none same room h put =
    ap (λ (t : LruCache (String _) _). now ++ held_by say t.entries) put
    ∙ ap (λ es. now ++ held_by say es) (inserted context table.entries table.cap key v none same room)
    ∙ said_more say said now table.entries old (key, v) h

-- after the oldest went there is room, and the key is still absent
pub room_after : {V Z : Type 0} (context : List ℕ) (old table : LruCache (String Z) V) → table ≡ lru_cache (take (length old.entries - 1) old.entries) old.cap
    → length old.entries ≤ old.cap → 0 < old.cap → lookup (has_context context) old.entries ≡ None
    → (length table.entries < table.cap) × (lookup (has_context context) table.entries ≡ None)
room_after context old table e fits some none =
    let short = length-take (length old.entries - 1) old.entries in
    let P : LruCache (String _) _ → Type 0 = λ t. (length t.entries < t.cap) × (lookup (has_context context) t.entries ≡ None) in
    subst P (sym e) (omega (arith, short), absent_take (has_context context) (length old.entries - 1) old.entries none)

pub none_from : {V : Type 0} (o : Option V) → is_some o ≡ false → o ≡ None
none_from None h = refl
none_from (Some v) h = cc

pub some_from : {V : Type 0} (o : Option V) → is_some o ≡ true → (v : V) × (o ≡ Some v)
some_from None h = cc
some_from (Some v) h = (v, refl)

-- as many lines are held as there are entries
pub held_length : {E : Type 0} (say : E → Sample) (es : List E) → length (held_by say es) ≡ length es
held_length say [] = refl
held_length say (e ∷ es) = let h = held_length say es in let a = length-append (held_by say es) (say e ∷ []) in omega arith

taken_length : {K V : Type 0} (test : K → Bool) (es : List (K × V)) (e : K × V) → lookup_entry test es ≡ Some e → length es ≡ suc (length (remove_entry test es))
taken_length test [] e h = cc
taken_length test (f ∷ es) e h = (elim (test f.0) as (λ b. cond b (Some f) (lookup_entry test es) ≡ Some e → length (f ∷ es) ≡ suc (length (cond b es (f ∷ remove_entry test es)))) [
  | true ↦ λ s. refl
  | false ↦ λ s. ap suc (taken_length test es e s)
]) h

-- a write in place leaves as many lines
pub after_length : {K V : Type 0} (say : K × V → Sample) (test : K → Bool) (es : List (K × V)) (v w : V) → lookup test es ≡ Some v
    → length (held_by say (set_value test (promoted test es) w)) ≡ length (held_by say es)
after_length say test es v w h =
    let r = rewritten test es v w h in
    let a = held_length say (set_value test (promoted test es) w) in
    let b = held_length say es in
    let d = taken_length test es (r.0, v) r.1.1 in
    let e : length (set_value test (promoted test es) w) ≡ suc (length (remove_entry test es)) = ap length r.1.0 in
    omega arith

take_none : {X : Type 0} (n : ℕ) → take {A = X} n [] ≡ []
take_none zero = refl
take_none (suc n) = refl

drop_none : {X : Type 0} (n : ℕ) → drop {A = X} n [] ≡ []
drop_none zero = refl
drop_none (suc n) = refl

-- one line less is due, once the first one was sent
pub due_step : (s h : List Sample) (n : ℕ) → ((s ++ take 1 h) ++ take n (drop 1 h) ≡ s ++ take (suc n) h) × (drop n (drop 1 h) ≡ drop (suc n) h)
due_step s [] n = (ap (λ t. (s ++ []) ++ t) (take_none n) ∙ append_assoc s [] [], drop_none n)
due_step s (x ∷ h) n = (append_assoc s (x ∷ []) (take n h), refl)

-- all lines are due, so that no others are left
pub all_due : {E : Type 0} (say : E → Sample) (es : List E) (n : ℕ) → n ≡ length es → (take n (held_by say es) ≡ held_by say es) × (drop n (held_by say es) ≡ [])
all_due say es n e =
    let long : length (held_by say es) ≤ n = omega (arith, held_length say es, e) in
    (take_all n (held_by say es) long, drop_all n (held_by say es) long)

entry_at : {X : Type 0} (i : ℕ) (es : List X) → i < length es → slice_get es i ≡ None → ⊥
entry_at i [] lt h = absurd (omega arith)
entry_at zero (x ∷ es) lt h = cc
entry_at (suc i) (x ∷ es) lt h = entry_at i es (omega arith) h

-- a table without an oldest entry is empty
pub none_left : {K V : Type 0} (es : List (K × V)) → last_entry es ≡ None → es ≡ []
none_left [] h = refl
none_left (e ∷ es) h = absurd (entry_at (length (e ∷ es) - 1) (e ∷ es) (omega arith) h)

-- nothing is sent of a table without entries
pub none_sent : {K V : Type 0} (say : K × V → Sample) (es : List (K × V)) (said : List Sample) → last_entry es ≡ None
    → (said ≡ said ++ take 1 (held_by say es)) × (held_by say es ≡ drop 1 (held_by say es))
none_sent say es said h = rw (none_left es h) (sym (append-nil said), refl)
