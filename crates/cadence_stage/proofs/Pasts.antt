-- What one more call adds to a past.
use Rattle.std.proofs.Common.{◌≡◌, Bool, List, [], ◌∷◌, ◌++◌, map, ap, subst, ◌∙◌, refl, sym}
use Rattle.std.proofs.Math.Logic.{∥∥₁_map}
use Rattle.std.proofs.lemmas.List.{map-append, flat_map_more}
use Rattle.cadence_stage.specs.Call.{Call, call_of}
use Rattle.cadence_stage.specs.Past.{ends_by_flush, given_by, is_flush, lines_in, taken_by, taken_in}
use Rattle.cadence_stage.specs.declared.entry.Entry.{Entry}

pub taken_more : (past : List Call) (call : Call) → taken_in (past ++ call ∷ []) ≡ taken_in past ++ taken_by call
taken_more past call = sym (flat_map_more taken_by [] past call)

-- whether the last call is a flush depends on the last call alone
pub flush_more : (was : Bool) (past : List Call) (call : Call) → ends_by_flush was (past ++ call ∷ []) ≡ is_flush call
flush_more was [] call = refl
flush_more was (c ∷ past) call = flush_more (is_flush c) past call

-- an entry more is a call more
pub past_more : (entries : List Entry) (e : Entry) (call : Call) → call_of e ≡ call → map call_of (entries ++ e ∷ []) ≡ map call_of entries ++ call ∷ []
past_more entries e call is = map-append call_of entries (e ∷ []) ∙ ap (λ c. map call_of entries ++ c ∷ []) is

-- what is so of a state by its log is so of the next state by the log with one entry more, if it is so by one call more
pub logged_more : {S : Type 0} (is_so : S → List Call → Type 0) (old new : S) (entries : List Entry) (e : Entry) (call : Call) → call_of e ≡ call
    → ((past : List Call) → is_so old past → is_so new (past ++ call ∷ [])) → ∥ is_so old (map call_of entries) ∥₁
    → ∥ is_so new (map call_of (entries ++ e ∷ [])) ∥₁
logged_more is_so old new entries e call is step had =
    ∥∥₁_map had (λ was. subst (is_so new) (sym (past_more entries e call is)) (step (map call_of entries) was))

-- an entry more adds its line to those that were taken, if it was taken
pub taken_entry : (entries : List Entry) (e : Entry) (call : Call) → call_of e ≡ call
    → taken_in (map call_of (entries ++ e ∷ [])) ≡ taken_in (map call_of entries) ++ taken_by call
taken_entry entries e call is = ap taken_in (past_more entries e call is) ∙ taken_more (map call_of entries) call

-- an entry more adds its line to those that were given
pub given_entry : (entries : List Entry) (e : Entry) (call : Call) → call_of e ≡ call
    → lines_in (map call_of (entries ++ e ∷ [])) ≡ lines_in (map call_of entries) ++ given_by call
given_entry entries e call is =
    ap lines_in (past_more entries e call is) ∙ sym (flat_map_more given_by [] (map call_of entries) call)
