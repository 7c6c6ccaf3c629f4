-- The functions of a handle's pointer, for any type that its box has. `moved` moves the two fields of its parameter, a
-- pointer and the allocator, into its result. So the parts of a box become a pointer, and a pointer becomes the parts.
-- `emptied` returns a null pointer and the allocator that it takes.
use mathlib.Core.Path.{refl, sym, subst}
use mathlib.Core.List.{List, [], ◌∷◌, ◌++◌}
use seplogic.Ra.Ura.{Ura}
use mir.Syntax.{Sym, Ty, Fn, Callee, local, value_local, ty_ptr, ty_struct, tnil, tcons, place, field, copy, int, w64, assign, rv_opd, aggregate, seq, return}
use mir.Val.{Val, vint, vstruct, vcons, vnil, has_ty}
use base.Logic.{SProp, ent, emp}
use base.Fml.{ftrue, fsep}
use prog.Model.{Model}
use prog.Wp.{WpFn, Closed}
use types.Logic.{Logic, sem}
use contract.Monad.{fact}
use contract.Running.{Running, tables, tables_of}
use sound.WpLaws.{WpFn-mono}
use types.Kit.{Item, ‵, raw, ◌⊛◌, ◌$◌, ◌∵◌, !, qed, by, move, drop, use1, join, split, fsplit, fjoin, suffices, done, feq_i, fpack}
use types.Part.{whole, sub, agg}
use types.Run.{stop, fld, no_more, and_then, of_opd, returns, enter, lit}
use types.ByLocal.{alloc_all, pass_all, free_all, look_at, get, get_in, sets}
use denote.RattleType.{RattleType, Valss}
use denote.RawPtr.{RawPtr, null_ptr, ptr_val}
use denote.Struct.Struct.{Struct, within}
use denote.Struct.Owning.{shape}
use denote.Exit.{yes, Last}
use denote.Signature.{plain}
use denote.Steps.{nothing, heard}
use denote.Triple.Clauses.{Ended, Clauses, closing}
use denote.Triple.Spec.{Meets, triple_of}
use denote.Triple.Table.{entered}
use denote.Triple.Walked.{says, Stays, Silent, stay_dropped, walk_of, ends_at, Goes-dropped, walk_Meets}
use Rattle.std.proofs.Common.{lit<}
use Rattle.std.proofs.alloc.Calls.{α, handle_tells}
use Rattle.std_alloc.proofs.ResultValues.{and_tt}
use Rattle.std_alloc.proofs.BoxSteps.Form.{Bx, D, B, word, box_typed, P, owning}
use Rattle.std_alloc.proofs.BoxSteps.Steps.{box_out, box_in}

-- A parameter d owns what a box owns, and the function's result can own the same. The contract's fact is true of that
-- result.
pub record Carried {M : Type 1} {𝓤 : Ura M} (𝓛 : Logic 𝓤) (E : Bx) (From To : RattleType) (d : From.Denot) (Says : To.Denot → Type 0) : Type 1 where
  pub box : D E
  pub made : To.Denot
  pub opens : (vs : List Val) → ent 𝓤 (sem 𝓛 (From.own_val d vs)) (sem 𝓛 ((B E).own_val box vs))
  pub closes : (vs : List Val) → ent 𝓤 (sem 𝓛 ((B E).own_val box vs)) (sem 𝓛 (To.own_val made vs))
  pub says : Says made

-- a function of one parameter, which it uses up
module _ (From To : RattleType) where
  abbrev ended : Ended
  ended = record {
    signature = record { lifetimes = 0; outlives = []; params = plain (λ _. From) ∷ []; result = plain (λ _. To) };
    kept = (yes, tt);
  }

  abbrev stayed : Stays ended.signature.params ended.kept
  stayed = (stay_dropped (plain (λ _. From)) yes, tt)

  -- the function asks this of its parameter, and says this of its parameter and its result
  module _ {M : Type 1} {𝓤 : Ura M} (𝓛 : Logic 𝓤) (Asks : From.Denot → SProp 𝓤) (Says : From.Denot → To.Denot → Type 0) where
    open 𝓛 use {H}

    abbrev clauses : Clauses 𝓤 ended
    clauses κs a = record { ghost = Unit {0}; requires = λ _. Asks a.0; ensures = λ _ result _. fact 𝓤 (Says a.0 result) }

    module _ (𝓜 : Model 𝓤 H) (𝓡 : Running 𝓤 H 𝓜) (fn : Fn) where
      abbrev Walk : Type 1
      Walk = (z : (walk_of 𝓛 ended stayed clauses).Ghost) → ent 𝓤 ((walk_of 𝓛 ended stayed clauses).pre z)
          (WpFn 𝓤 H (tables 𝓤 H 𝓜 𝓡 𝓡.env).C (tables 𝓤 H 𝓜 𝓡 𝓡.env).Λ fn (z.0.4.0 ++ []) ((walk_of 𝓛 ended stayed clauses).post z))

      meets : Walk → Silent 𝓛 0 (plain (λ _. From)) yes → (k : Callee)
          → Closed 𝓤 H (tables 𝓤 H 𝓜 𝓡 𝓡.env).C (tables 𝓤 H 𝓜 𝓡 𝓡.env).Λ k fn
          → Meets 𝓛 ended.signature ((tables 𝓤 H 𝓜 𝓡 𝓡.env).C k) (closing 𝓛 ended clauses)
      unfolding tables_of
      meets walk quiet k closed =
          let 𝓣 = tables 𝓤 H 𝓜 𝓡 𝓡.env in
          entered 𝓤 H (triple_of 𝓛 ended.signature (closing 𝓛 ended clauses)) 𝓣.C 𝓣.Λ k fn closed
          (walk_Meets 𝓛 ended stayed (Goes-dropped 𝓛 0 (plain (λ _. From)) yes quiet, tt) clauses
          (WpFn 𝓤 H 𝓣.C 𝓣.Λ fn) (WpFn-mono 𝓤 H 𝓛.laws (tables_of 𝓤 H 𝓜 𝓣) fn) walk)

module _ (E : Bx) where
  -- the type of a struct of this name, with a pointer and the allocator
  abbrev pair_ty : Sym → Ty
  pair_ty name = ty_struct name (tcons ty_ptr (tcons (α E.al) tnil))

  -- the functions, by the names of the structs
  abbrev moved : Sym → Sym → Fn
  moved from to = record {
    lifetimes = 0;
    outlives = [];
    ty_params = [];
    givens = 0;
    params = 1;
    locals = local (pair_ty to) value_local ∷ local (pair_ty from) value_local ∷ local ty_ptr value_local
        ∷ local (α E.al) value_local ∷ local ty_ptr value_local ∷ [];
    body = seq (assign (place 2 []) (rv_opd (copy (place 1 (field 0 ∷ [])))))
        (seq (assign (place 3 []) (rv_opd (copy (place 1 (field 1 ∷ [])))))
        (seq (assign (place 4 []) (rv_opd (copy (place 2 []))))
        (seq (assign (place 0 []) (aggregate (copy (place 4 []) ∷ copy (place 3 []) ∷ []))) return)));
  }

  abbrev emptied : Sym → Fn
  emptied to = record {
    lifetimes = 0;
    outlives = [];
    ty_params = [];
    givens = 0;
    params = 1;
    locals = local (pair_ty to) value_local ∷ local (α E.al) value_local ∷ [];
    body = seq (assign (place 0 []) (aggregate (int w64 0 ∷ copy (place 1 []) ∷ []))) return;
  }

  -- The function asks `Asks` of its parameter, and `Known` is the fact that follows from it.
  module _ (From To : RattleType) {M : Type 1} {𝓤 : Ura M} (𝓛 : Logic 𝓤) (Asks : From.Denot → SProp 𝓤)
      (Says : From.Denot → To.Denot → Type 0) (𝓜 : Model 𝓤 𝓛.H) (𝓡 : Running 𝓤 𝓛.H 𝓜) (Known : From.Denot → Type 0)
      (knows : (d : From.Denot) → ent 𝓤 (Asks d) (fact 𝓤 (Known d)))
      (carried : (d : From.Denot) → Known d → Carried 𝓛 E From To d (Says d))
      (last : (d : From.Denot) → Last (From.exit yes) d) (from to : Sym) where
    open 𝓛 use {H}

    walk_moved : Walk From To 𝓛 Asks Says 𝓜 𝓡 (moved from to)
    walk_moved z =
        let 𝓣 = tables 𝓤 H 𝓜 𝓡 𝓡.env in
        let Post = (walk_of 𝓛 (ended From To) (stayed From To) (clauses From To 𝓛 Asks Says)).post z in
        let d = z.0.3.0 in
        qed 𝓛 ((‵ ftrue ⊛ ‵ (fsep (From.own_val d z.0.4.0) ftrue)) ∷ raw (Asks d) ∷ []) ∵ move ! (1 ∷ []) $
        use1 𝓛 (raw (fact 𝓤 (Known d))) (knows d) $ heard ! (Known d) (λ known.
        let c = carried d known in
        split ! $ drop ! $ fsplit ! $ use1 𝓛 (‵ ((B E).own_val c.box z.0.4.0)) (c.opens z.0.4.0) $
        box_out E ! c.box z.0.4.0 (λ b o hv e ws fa. box_in E ! c.box b o c.box.value e refl $
        let w = word E hv b o in
        use1 𝓛 (‵ (To.own_val c.made (w ∷ []))) (c.closes (w ∷ [])) $ move ! (1 ∷ []) $ drop ! $
        let Γ : List (Item 𝓤) = ‵ (To.own_val c.made (w ∷ [])) ∷ [] in
        by ! (subst (λ (us : List Val). ent 𝓤 (types.Kit.⋆ 𝓛 Γ) (WpFn 𝓤 H 𝓣.C 𝓣.Λ (moved from to) (us ++ []) Post)) (sym ws)
        (qed 𝓛 Γ ∵ enter ! 𝓣.C 𝓣.Λ (moved from to) (w ∷ []) _ $ alloc_all ! (λ ls. pass_all ! refl (box_typed E hv b o fa, tt) $
        sets ! (of_opd ! (get_in ! (fld ! refl (stop !)) (sub ! 0 refl (whole !)))) refl
        (tt, tt) $ sets ! (of_opd ! (get_in ! (fld ! refl (stop !)) (sub ! 1 refl (whole !)))) refl fa $
        sets ! (of_opd ! (get ! refl)) refl (tt, tt) $
        sets ! (agg ! (and_then ! (get ! refl) (and_then ! (get ! refl) (no_more !)))) refl
        (box_typed E hv b o fa) $ returns ! (look_at ! 0 refl) $ free_all ! refl $
        suffices ! _ (ends_at 𝓛 (ended From To) (stayed From To) (clauses From To 𝓛 Asks Says) z w c.made (last d, tt) (tt, tt)) $
        says ! c.says $ nothing ! $ nothing ! $ fjoin ! $ join ! $ nothing ! $ join ! $ done !)))))

    pub meets_moved : Silent 𝓛 0 (plain (λ _. From)) yes → (k : Callee)
        → Closed 𝓤 H (tables 𝓤 H 𝓜 𝓡 𝓡.env).C (tables 𝓤 H 𝓜 𝓡 𝓡.env).Λ k (moved from to)
        → Meets 𝓛 (ended From To).signature ((tables 𝓤 H 𝓜 𝓡 𝓡.env).C k) (closing 𝓛 (ended From To) (clauses From To 𝓛 Asks Says))
    meets_moved = meets From To 𝓛 Asks Says 𝓜 𝓡 (moved from to) walk_moved

  -- the allocator
  abbrev heap : RattleType
  heap = E.al.row

  module _ (To : RattleType) {M : Type 1} {𝓤 : Ura M} (𝓛 : Logic 𝓤) (Says : To.Denot → Type 0) (𝓜 : Model 𝓤 𝓛.H)
      (𝓡 : Running 𝓤 𝓛.H 𝓜) (made : heap.Denot → To.Denot)
      (closes : (a : heap.Denot) (vs : List Val)
      → ent 𝓤 (sem 𝓛 (fsep ((Struct (shape (owning E))).own_val (null_ptr, (a, tt)) vs) ftrue)) (sem 𝓛 (To.own_val (made a) vs)))
      (holds : (a : heap.Denot) → Says (made a)) (last : (a : heap.Denot) → Last (heap.exit yes) a) (to : Sym) where
    open 𝓛 use {H}

    walk_emptied : Walk heap To 𝓛 (λ _. emp 𝓤) (λ _. Says) 𝓜 𝓡 (emptied to)
    walk_emptied z =
        let 𝓣 = tables 𝓤 H 𝓜 𝓡 𝓡.env in
        let c = clauses heap To 𝓛 (λ _. emp 𝓤) (λ _. Says) in
        let Post = (walk_of 𝓛 (ended heap To) (stayed heap To) c).post z in
        let a = z.0.3.0 in
        qed 𝓛 ((‵ ftrue ⊛ ‵ (fsep ((P E).own_val a z.0.4.0) ftrue)) ∷ raw (emp 𝓤) ∷ []) ∵ split ! $ drop ! $ fsplit ! $
        handle_tells (E.al) ! a z.0.4.0 (λ hv eh fa. move ! (1 ∷ 2 ∷ []) $ drop ! $ drop ! $
        let w : Val = vstruct (vcons (vint w64 0) (vcons hv vnil)) in
        let Γ : List (Item 𝓤) = ‵ ((P E).own_val a (hv ∷ [])) ∷ [] in
        by ! (subst (λ (us : List Val). ent 𝓤 (types.Kit.⋆ 𝓛 Γ) (WpFn 𝓤 H 𝓣.C 𝓣.Λ (emptied to) (us ++ []) Post)) (sym eh)
        (qed 𝓛 Γ ∵ enter ! 𝓣.C 𝓣.Λ (emptied to) (hv ∷ []) _ $ alloc_all ! (λ ls. pass_all ! refl (fa, tt) $
        sets ! (agg ! (and_then ! (lit ! tt) (and_then ! (get ! refl) (no_more !)))) refl
        (and_tt (has_ty (α E.al) hv) fa.0, (record { fits = lit< tt }, (fa.1, tt))) $ returns ! (look_at ! 0 refl) $ free_all ! refl $
        nothing ! $ move ! (1 ∷ []) $ nothing ! $ move ! (1 ∷ 0 ∷ []) $ fjoin ! $ feq_i ! (List Val) (vint w64 0 ∷ []) (ptr_val null_ptr ∷ [])
        refl $ fjoin ! $ feq_i ! (List Val) (w ∷ []) (w ∷ []) refl $ fjoin ! $ fpack ! (Valss (RawPtr ∷ P E ∷ []))
        (within (shape (owning E)) (null_ptr, (a, tt)) (w ∷ [])) (vint w64 0 ∷ [], (hv ∷ [], tt)) $ fjoin ! $
        use1 𝓛 (‵ (To.own_val (made a) (w ∷ []))) (closes a (w ∷ [])) $
        suffices ! _ (ends_at 𝓛 (ended heap To) (stayed heap To) c z w (made a) (last a, tt) (tt, tt)) $ says ! (holds a) $
        nothing ! $ nothing ! $ fjoin ! $ join ! $ nothing ! $ join ! $ done !))))

    pub meets_emptied : Silent 𝓛 0 (plain (λ _. heap)) yes → (k : Callee)
        → Closed 𝓤 H (tables 𝓤 H 𝓜 𝓡 𝓡.env).C (tables 𝓤 H 𝓜 𝓡 𝓡.env).Λ k (emptied to)
        → Meets 𝓛 (ended heap To).signature ((tables 𝓤 H 𝓜 𝓡 𝓡.env).C k) (closing 𝓛 (ended heap To) (clauses heap To 𝓛 (λ _. emp 𝓤) (λ _. Says)))
    meets_emptied = meets heap To 𝓛 (λ _. emp 𝓤) (λ _. Says) 𝓜 𝓡 (emptied to) walk_emptied
