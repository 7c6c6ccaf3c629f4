-- `twins` makes a new ghost name, and gives its two halves to the two structs.
use Rattle.std.proofs.Common.{List, [], ◌∷◌, ◌++◌, refl}
use seplogic.Ra.Ura.{Ura}
use mir.Syntax.{Fn, Args, a_type}
use mir.Val.{Val, vstruct, vcons, vnil, of_list}
use mir.MapTy.{inst_fn}
use base.Logic.{SProp, ent}
use base.Fml.{GName, fsep, feq}
use prog.Memory.{Memory}
use prog.Routine.{Routine}
use prog.Wp.{Calls, Loops, WpFn, Tables}
use contract.Monad.{Fun}
use contract.Running.{tables, tables_of}
use sound.WpLaws.{WpFn-mono}
use types.Logic.{Logic}
use types.Kit.{‵, raw, ◌⊛◌, some, later, await, pick, ◌$◌, ◌∵◌, !, qed, move, keep, split, fjoin, fjoin3, feq_i, fpack, group, frame, use0, suffices}
use types.Part.{agg}
use types.Run.{enter, returns, and_then, no_more}
use types.ByLocal.{alloc_all, pass_all, free_all, look_at, get, sets}
use denote.RattleType.{RattleType, Valss, owns}
use denote.Param.{param, layouts}
use denote.Signature.{types_at}
use denote.Steps.{nothing}
use denote.Triple.Clauses.{Clauses, Ended, closing}
use denote.Triple.Entry.{alive}
use denote.Triple.Spec.{Meets, triple_of}
use denote.Triple.Table.{entered}
use denote.Triple.Walked.{Stays, walk_of, ends_at, walk_Meets}
use Rattle.core.proofs.ledger.Walks.{token, Mark, made, tells, tells_last}
use Rattle.cadence_stage.specs.GhostLog.{log_owns, right_owns}
use Rattle.cadence_stage.proofs.Halves.{begins}
use Rattle.cadence_stage.specs.contracts.ghost_log.Log as L
use Rattle.cadence_stage.specs.contracts.ghost_log.Right as R
use Rattle.cadence_stage.specs.contracts.ghost_log.twins as F
use Rattle.cadence_stage.specs.contracts.ghost_log.twins.Key.{name as #self}
use Rattle.cadence_stage.proofs.ghost_log.twins.Statement as stated
use Rattle.cadence_stage.proofs.ghost_log.twins.Code as code

module _ (A : RattleType) where
  abbrev args : Args
  args = layouts (a_type ∷ []) (A, tt)

  abbrev function : Fn
  function = inst_fn args code.function

  abbrev ended : Ended
  ended = F.ended A

  abbrev stayed : Stays ended.signature.params ended.kept
  stayed = tt

  abbrev LogOf : RattleType
  LogOf = L.the_row (param 0 A)

  abbrev RightOf : RattleType
  RightOf = R.the_row (param 0 A)

  module _ {M : Type 1} {𝓤 : Ura M} (𝓛 : Logic 𝓤) (at_mem : Memory → SProp 𝓤) (run : Routine → Fun 𝓤) where
    open 𝓛 use {H}

    abbrev held : Clauses 𝓤 ended
    held = F.clauses A 𝓛 at_mem run

    module _ (C : Calls 𝓤 H) (Λ : Loops 𝓤 H) (z : (walk_of 𝓛 ended stayed held).Ghost) where
      abbrev Post : Val → SProp 𝓤
      Post = (walk_of 𝓛 ended stayed held).post z

      abbrev toks : SProp 𝓤
      toks = alive 𝓛 ended.signature z.0.0 z.0.1

      walks : ent 𝓤 ((walk_of 𝓛 ended stayed held).pre z) (WpFn 𝓤 H C Λ function ((walk_of 𝓛 ended stayed held).args z) Post)
      walks =
          let a = z.0.3 in
          let vss = z.0.4 in
          let v : Val = vstruct (vcons token (vcons token vnil)) in
          qed 𝓛 ((raw toks ⊛ ‵ (owns (types_at ended.signature.params z.0.0) a vss)) ∷ raw ((held z.0.0 a).requires z.1) ∷ []) ∵
          keep ! (0 ∷ []) $ split ! $ keep ! (0 ∷ []) $
          enter ! C Λ function [] Post $ alloc_all ! (λ l. pass_all ! refl tt $
          use0 𝓛 (later (some (λ (γ : GName). ‵ (log_owns (param 0 A).coded.code γ []) ⊛ ‵ (right_owns (param 0 A).coded.code γ [])))) (begins (param 0 A).coded 𝓛) $ await ! tt $ pick ! (λ γ. split ! $ move ! (1 ∷ []) $
          let log₀ : LogOf.Denot = record { marker = record {}; name = γ; items = [] } in
          let right₀ : RightOf.Denot = record { marker = record {}; name = γ; items = [] } in
          sets ! (agg ! (no_more !)) refl (tt, tt) $ sets ! (agg ! (and_then ! (get ! refl) (no_more !))) refl (tt, (tt, tt)) $
          sets ! (agg ! (no_more !)) refl (tt, tt) $ sets ! (agg ! (and_then ! (get ! refl) (no_more !))) refl (tt, (tt, tt)) $
          sets ! (agg ! (and_then ! (get ! refl) (and_then ! (get ! refl) (no_more !)))) refl (tt, ((tt, tt), ((tt, tt), tt))) $
          returns ! (look_at ! 0 refl) $ free_all ! refl $
          suffices ! _ (ends_at 𝓛 ended stayed held z v (log₀, right₀) tt tt) $
          move ! (1 ∷ []) $
          use0 𝓛 (‵ ((Mark (L.the_type (param 0 A)).name (param 0 A ∷ []) (param 0 A)).own_val (tt, tt) (token ∷ []))) (made (L.the_type (param 0 A)).name (param 0 A ∷ []) (param 0 A) 𝓛) $ fjoin ! $
          move ! (1 ∷ []) $
          use0 𝓛 (‵ ((Mark (R.the_type (param 0 A)).name (param 0 A ∷ []) (param 0 A)).own_val (tt, tt) (token ∷ []))) (made (R.the_type (param 0 A)).name (param 0 A ∷ []) (param 0 A) 𝓛) $ fjoin ! $
          nothing ! $ move ! (2 ∷ 1 ∷ 0 ∷ []) $ fjoin3 ! $ feq_i ! (List Val) (v ∷ []) (v ∷ []) refl $ fjoin ! $
          fpack ! (Valss (LogOf ∷ RightOf ∷ [])) (λ vss. fsep (feq (List Val) (v ∷ []) (vstruct (of_list (vss.0 ++ (vss.1.0 ++ []))) ∷ [])) (owns (LogOf ∷ RightOf ∷ []) (log₀, (right₀, tt)) vss)) (token ∷ [], (token ∷ [], tt)) $
          nothing ! $ move ! (2 ∷ 0 ∷ 1 ∷ []) $ group ! 3 $ frame ! $ tells ! refl $ tells ! refl $ tells_last ! refl))

    meets : (𝓣 : Tables 𝓤 H) → Meets 𝓛 ended.signature (WpFn 𝓤 H 𝓣.C 𝓣.Λ function) (closing 𝓛 ended held)
    meets 𝓣 =
        walk_Meets 𝓛 ended stayed tt held
        (WpFn 𝓤 H 𝓣.C 𝓣.Λ function) (WpFn-mono 𝓤 H 𝓛.laws 𝓣 function) (walks 𝓣.C 𝓣.Λ)

pub twins_spec : {M : Type 1} → stated.statement M
unfolding tables_of
twins_spec 𝓤 𝓛 𝓜 𝓡 wired A LA =
    let 𝓣 : Tables 𝓤 𝓛.H = tables_of 𝓤 𝓛.H 𝓜 (tables 𝓤 𝓛.H 𝓜 𝓡 𝓡.env) in
    entered 𝓤 𝓛.H (triple_of 𝓛 (ended A).signature (closing 𝓛 (ended A) (held A 𝓛 𝓜.mem 𝓡.returns))) 𝓣.C 𝓣.Λ (#self (args A)) (function A)
    (code.unfolded 𝓤 𝓛.H 𝓜 𝓡 wired (A, tt)) (meets A 𝓛 𝓜.mem 𝓡.returns 𝓣)
