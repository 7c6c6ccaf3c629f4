-- Proofs by hand of `ghost_log` that serve two functions each: `copies` is that of `seen` and of `again`, and `pairs` that
-- of `meets` and of `began`. In each pair the functions differ only in the type of a parameter, which is O: the type of a
-- log, of its right, or of what was seen of it.
use mathlib.Core.Path.{◌≡◌, refl}
use mathlib.Core.List.{List, [], ◌∷◌}
use Prim.Native.Nat.{ℕ}
use seplogic.Ra.Ura.{Ura}
use mir.Syntax.{Fn, Callee, Ty, ty_ref, ty_unit, mut, named, local, value_local, place, copy, opd_unit, rv_opd, aggregate, seq, assign, return}
use mir.Val.{Val, vunit, vptr}
use base.Logic.{SProp, ent, sep, emp, guard}
use base.Fml.{Fml, ftrue, flft}
use prog.Wp.{Closed}
use prog.Model.{Model}
use types.Logic.{Logic, sem}
use contract.BorrowLft.{◌⊑◌}
use contract.Lifetimes.{lft_at}
use contract.Monad.{fact}
use contract.Running.{Running, MachineTables, tables}
use types.Kit.{‵, raw, ◌⊛◌, given, ◌$◌, ◌∵◌, !, qed, by, move, keep, drop, split, join, fsplit, fsplit3, fjoin, fjoin3, suffices, frame, feq_i, learn, use0, use1, use2}
use types.Part.{agg}
use types.Run.{unit_lit, of_opd, and_then, no_more, returns, enter}
use types.ByLocal.{alloc_all, pass_all, free_all, look_at, get, sets}
use denote.Builtin.{unit}
use denote.Exit.{yes}
use denote.Memory.{lone}
use denote.RattleType.{RattleType, owns}
use denote.Ref.{mut_vals, mut_Tells}
use denote.Signature.{types_at, plain, mut_ref_to}
use denote.Steps.{nothing, opens, closes}
use denote.Struct.Owning.{Owning, row}
use denote.Param.{param}
use denote.Triple.Clauses.{Clauses, Ended, closing}
use denote.Triple.Spec.{Meets}
use denote.Triple.Walked.{Stays, stay_ref, ends_at, Goes-ref}
use Rattle.core.proofs.ledger.Walks.{token, Mark, made, hears, hears_last, tells_all}
use Rattle.core.specs.contracts.marker.PhantomData as marker
use Rattle.std.proofs.raw_atomic.Walks.{proved}
use Rattle.cadence_stage.specs.GhostLog.{log_owns, seen_owns}
use Rattle.cadence_stage.specs.contracts.ghost_log.Log as L
use Rattle.cadence_stage.specs.contracts.ghost_log.Seen as S

module _ (A : RattleType) (O : Owning) where
  abbrev A' : RattleType
  A' = param 0 A

  abbrev LogOf : RattleType
  LogOf = L.the_row A'

  abbrev SeenOf : RattleType
  SeenOf = S.the_row A'

  -- the signature of `seen` and `again`: they take an O, and return what was seen of its list
  abbrev copying : Ended
  copying = record {
    signature = record {
      lifetimes = 2;
      outlives = record { long = 1; long_ok = tt; short = named 0; short_ok = tt } ∷ [];
      params = mut_ref_to (0 ∷ []) tt (plain (λ _. row O)) ∷ [];
      result = plain (λ _. SeenOf);
    };
    kept = (yes, tt);
  }

  -- their code, where υ is O in the code's terms
  abbrev copier : Ty → Fn
  copier υ = record {
    lifetimes = 1;
    outlives = (1, 0) ∷ [];
    ty_params = [];
    givens = 0;
    params = 1;
    locals = local (lone SeenOf.mir) value_local ∷ local (ty_ref (named 0) mut υ) value_local ∷ local (lone (marker.the_row A').mir) value_local ∷ [];
    body = seq (assign (place 2 []) (aggregate [])) (seq (assign (place 0 []) (aggregate (copy (place 2 []) ∷ []))) return);
  }

  -- the signature of `meets` and `began`: they take a log and an O, and return nothing
  abbrev pairing : Ended
  pairing = record {
    signature = record {
      lifetimes = 3;
      outlives = record { long = 2; long_ok = tt; short = named 0; short_ok = tt } ∷ record { long = 2; long_ok = tt; short = named 1; short_ok = tt } ∷ [];
      params = mut_ref_to (0 ∷ []) tt (plain (λ _. LogOf)) ∷ mut_ref_to (1 ∷ []) tt (plain (λ _. row O)) ∷ [];
      result = plain (λ _. unit);
    };
    kept = (yes, (yes, tt));
  }

  -- their code, where υ is the log's type and ω is O
  abbrev idle : Ty → Ty → Fn
  idle υ ω = record {
    lifetimes = 2;
    outlives = (2, 0) ∷ (2, 1) ∷ [];
    ty_params = [];
    givens = 0;
    params = 2;
    locals = local ty_unit value_local ∷ local (ty_ref (named 0) mut υ) value_local ∷ local (ty_ref (named 1) mut ω) value_local ∷ [];
    body = seq (assign (place 0 []) (rv_opd opd_unit)) return;
  }

  module _ (name : O.D → ℕ) {M : Type 1} {𝓤 : Ura M} (𝓛 : Logic 𝓤) (𝓜 : Model 𝓤 𝓛.H) (𝓡 : Running 𝓤 𝓛.H 𝓜) where
    open 𝓛 use {H}

    abbrev ⟦◌⟧ : Fml → SProp 𝓤
    ⟦ P ⟧ = sem 𝓛 P

    abbrev 𝓣 : MachineTables 𝓤 H 𝓜
    𝓣 = tables 𝓤 H 𝓜 𝓡 𝓡.env

    module _ (items : O.D → List A'.Denot) where
      abbrev copied : Clauses 𝓤 copying
      copied κs a = let h = a.0.now in record {
        ghost = Unit {0};
        requires = λ _. sep 𝓤 (fact 𝓤 (lft_at 2 1 tt κs ⊑ A.lives)) (emp 𝓤);
        ensures = λ _ r e. sep 𝓤 (fact 𝓤 (r.name ≡ name h)) (sep 𝓤 (fact 𝓤 (r.items ≡ items h)) (fact 𝓤 (e.0.now ≡ h)));
      }

      abbrev one_stays : Stays copying.signature.params copying.kept
      one_stays = (stay_ref (0 ∷ []) tt (plain (λ _. row O)), tt)

      -- it is met if what an O owns shows what was seen of its list
      pub copies : ((h : O.D) → ent 𝓤 ⟦ O.heap h ⟧ (sep 𝓤 ⟦ O.heap h ⟧ ⟦ seen_owns A'.coded.code (name h) (items h) ⟧))
          → (k : Callee) (υ : Ty) → Closed 𝓤 H 𝓣.C 𝓣.Λ k (copier υ) → Meets 𝓛 copying.signature (𝓣.C k) (closing 𝓛 copying copied)
      copies shows k υ closed =
          proved 𝓛 copying one_stays copied 𝓜 𝓡 (Goes-ref 𝓛 2 0 tt (plain (λ _. row O)), tt) k (copier υ) closed
          (λ κs. (mut_vals, tt)) (λ κs. (mut_Tells (named 0) κs.0 (row O), tt)) (λ κs qs bounds a g are.
          let r = a.0 in let b = r.ref_ptr.0 in let o = r.ref_ptr.1 in let h = r.now in let u : Val = vptr b o in
          let new : SeenOf.Denot = record { marker = record {}; name = name h; items = items h } in
          qed 𝓛 (((‵ (flft κs.0 qs.0) ⊛ ‵ (flft κs.1.0 qs.1.0) ⊛ ‵ ftrue) ⊛ ‵ (owns (types_at copying.signature.params κs) a (u ∷ [], tt))) ∷ raw ((copied κs a).requires g) ∷ []) ∵
          keep ! (0 ∷ []) $ split ! $ split ! $ move ! (2 ∷ []) $ fsplit ! $ fsplit3 ! $ drop ! $ keep ! (0 ∷ 1 ∷ 3 ∷ 4 ∷ []) $
          enter ! 𝓣.C 𝓣.Λ (copier υ) (u ∷ []) _ $ alloc_all ! (λ l. pass_all ! refl ((tt, tt), tt) $
          opens ! tt (row O) b o (λ cs. move ! (1 ∷ []) $ fsplit ! $ move ! (1 ∷ []) $
          use1 𝓛 (‵ (O.heap h) ⊛ ‵ (seen_owns A'.coded.code (name h) (items h))) (shows h) $ split ! $
          move ! (2 ∷ 0 ∷ []) $ fjoin ! $ move ! (2 ∷ 0 ∷ 3 ∷ 4 ∷ 5 ∷ []) $ closes ! tt (row O) h cs b o $
          sets ! (agg ! (no_more !)) refl (tt, tt) $ sets ! (agg ! (and_then ! (get ! refl) (no_more !))) refl (tt, (tt, tt)) $
          returns ! (look_at ! 0 refl) $ free_all ! refl $
          suffices ! _ (ends_at 𝓛 copying one_stays copied ((κs, qs, bounds, a, (u ∷ [], tt)), g) token new (h, tt) (tt, tt)) $
          feq_i ! (List Val) (u ∷ []) (u ∷ []) refl $ fjoin3 ! $ nothing ! $ move ! (1 ∷ 0 ∷ []) $ fjoin ! $
          move ! (2 ∷ []) $ use0 𝓛 (‵ ((Mark (S.the_type A').name (A' ∷ []) A').own_val (tt, tt) (token ∷ []))) (made (S.the_type A').name (A' ∷ []) A' 𝓛) $ fjoin ! $
          move ! (1 ∷ 0 ∷ []) $ join ! $ move ! (1 ∷ 2 ∷ []) $ join ! $ join ! $ frame ! $
          by ! (tells_all 𝓤 ((name h ≡ name h) ∷ (items h ≡ items h) ∷ (h ≡ h) ∷ []) (refl, (refl, refl))))))

    module _ (φ : LogOf.Denot → O.D → Type 0) where
      abbrev paired : Clauses 𝓤 pairing
      paired κs a = let h = a.0.now in let i = a.1.0.now in record {
        ghost = Unit {0};
        requires = λ _. sep 𝓤 (fact 𝓤 (lft_at 3 2 tt κs ⊑ A.lives)) (fact 𝓤 (name i ≡ h.name));
        ensures = λ _ _ e. sep 𝓤 (fact 𝓤 (φ h i)) (sep 𝓤 (fact 𝓤 (e.0.now ≡ h)) (fact 𝓤 (e.1.0.now ≡ i)));
      }

      abbrev both_stay : Stays pairing.signature.params pairing.kept
      both_stay = (stay_ref (0 ∷ []) tt (plain (λ _. LogOf)), (stay_ref (1 ∷ []) tt (plain (λ _. row O)), tt))

      abbrev log_of : LogOf.Denot → Fml
      log_of h = log_owns A'.coded.code h.name h.items

      -- it is met if what a log and an O of one name own shows φ
      pub pairs : ((h : LogOf.Denot) (i : O.D) → name i ≡ h.name → ent 𝓤 (sep 𝓤 ⟦ log_of h ⟧ ⟦ O.heap i ⟧) (guard 𝓤 (φ h i) (sep 𝓤 ⟦ log_of h ⟧ ⟦ O.heap i ⟧)))
          → (k : Callee) (υ ω : Ty) → Closed 𝓤 H 𝓣.C 𝓣.Λ k (idle υ ω) → Meets 𝓛 pairing.signature (𝓣.C k) (closing 𝓛 pairing paired)
      pairs shows k υ ω closed =
          proved 𝓛 pairing both_stay paired 𝓜 𝓡 (Goes-ref 𝓛 3 0 tt (plain (λ _. LogOf)), (Goes-ref 𝓛 3 1 tt (plain (λ _. row O)), tt)) k (idle υ ω) closed
          (λ κs. (mut_vals, (mut_vals, tt))) (λ κs. (mut_Tells (named 0) κs.0 LogOf, (mut_Tells (named 1) κs.1.0 (row O), tt))) (λ κs qs bounds a g are.
          let r = a.0 in let b = r.ref_ptr.0 in let o = r.ref_ptr.1 in let h = r.now in let u : Val = vptr b o in
          let s = a.1.0 in let c = s.ref_ptr.0 in let p = s.ref_ptr.1 in let i = s.now in let v : Val = vptr c p in
          qed 𝓛 (((‵ (flft κs.0 qs.0) ⊛ ‵ (flft κs.1.0 qs.1.0) ⊛ ‵ (flft κs.1.1.0 qs.1.1.0) ⊛ ‵ ftrue) ⊛ ‵ (owns (types_at pairing.signature.params κs) a (u ∷ [], (v ∷ [], tt)))) ∷ raw ((paired κs a).requires g) ∷ []) ∵
          move ! (1 ∷ []) $ hears ! (λ _. hears_last ! (λ same. split ! $ split ! $ move ! (1 ∷ []) $ split ! $ move ! (3 ∷ []) $ fsplit ! $ fsplit3 ! $ drop ! $ move ! (2 ∷ []) $ fsplit ! $ fsplit3 ! $ drop ! $
          keep ! (3 ∷ 4 ∷ 7 ∷ 0 ∷ 1 ∷ 5 ∷ 6 ∷ []) $ enter ! 𝓣.C 𝓣.Λ (idle υ ω) (u ∷ v ∷ []) _ $ alloc_all ! (λ l. pass_all ! refl ((tt, tt), ((tt, tt), tt)) $
          opens ! tt LogOf b o (λ cs. move ! (5 ∷ 6 ∷ 7 ∷ []) $ opens ! tt (row O) c p (λ ds. move ! (1 ∷ []) $ fsplit ! $ move ! (7 ∷ []) $ fsplit ! $ move ! (1 ∷ 3 ∷ []) $
          use2 𝓛 (given (φ h i) (‵ (log_of h) ⊛ ‵ (O.heap i))) (shows h i same) $ learn ! (λ told. split ! $
          move ! (2 ∷ 0 ∷ []) $ fjoin ! $ move ! (2 ∷ 1 ∷ []) $ fjoin ! $
          move ! (2 ∷ 0 ∷ 3 ∷ 4 ∷ 5 ∷ []) $ closes ! tt (row O) i ds c p $ move ! (4 ∷ 3 ∷ 5 ∷ 6 ∷ 7 ∷ []) $ closes ! tt LogOf h cs b o $
          sets ! (of_opd ! (unit_lit !)) refl (tt, tt) $ returns ! (look_at ! 0 refl) $ free_all ! refl $
          suffices ! _ (ends_at 𝓛 pairing both_stay paired ((κs, qs, bounds, a, (u ∷ [], (v ∷ [], tt))), g) vunit tt (h, (i, tt)) (tt, (tt, tt))) $
          feq_i ! (List Val) (u ∷ []) (u ∷ []) refl $ fjoin3 ! $ move ! (2 ∷ 3 ∷ []) $ feq_i ! (List Val) (v ∷ []) (v ∷ []) refl $ fjoin3 ! $ nothing ! $ move ! (1 ∷ 0 ∷ []) $ fjoin ! $ move ! (1 ∷ 0 ∷ []) $ fjoin ! $
          feq_i ! (List Val) (vunit ∷ []) (vunit ∷ []) refl $ move ! (1 ∷ 0 ∷ []) $ join ! $ move ! (2 ∷ 3 ∷ []) $ join ! $ move ! (2 ∷ 0 ∷ []) $ join ! $ join ! $ frame ! $
          by ! (tells_all 𝓤 (φ h i ∷ (h ≡ h) ∷ (i ≡ i) ∷ []) (told, (refl, refl))))))))))
