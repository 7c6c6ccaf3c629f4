-- `note` opens both borrows, and moves both halves of the name to the list with one more item.
use mathlib.Core.Path.{◌≡◌, refl, sym, subst}
use mathlib.Core.List.{List, [], ◌∷◌, ◌++◌}
use Prim.Native.Nat.{ℕ}
use seplogic.Ra.Ura.{Ura}
use mir.Syntax.{Fn, Args, a_type}
use mir.Val.{Val, vunit, vptr}
use mir.MapTy.{inst_fn}
use base.Logic.{SProp, ent, via, fst∗, snd∗}
use base.Fml.{Fml, ftrue, flft}
use prog.Wp.{WpFn}
use prog.Model.{Model}
use types.Logic.{Logic, sem}
use contract.Monad.{fact_use}
use contract.Running.{Running, MachineTables, tables, tables_of}
use sound.WpLaws.{WpFn-mono}
use types.Kit.{‵, raw, ◌⊛◌, ◌$◌, ◌∵◌, !, qed, by, move, keep, drop, split, join, fsplit, fsplit3, fjoin, fjoin3, suffices, frame, feq_i, rewrite, given, later, learn, await, use2}
use types.Run.{unit_lit, of_opd, returns, enter}
use types.ByLocal.{alloc_all, pass_all, free_all, look_at, sets}
use denote.Exit.{yes}
use denote.RattleType.{RattleType, owns}
use denote.Builtin.{RefOf}
use denote.Laws.{Are, Ises, owns_show, showss}
use denote.Signature.{types_at, plain}
use denote.Steps.{nothing, opens, closes}
use denote.Param.{param, layouts}
use denote.Triple.Clauses.{Clauses, closing}
use denote.Triple.Entry.{on_entry, alive}
use denote.Triple.Spec.{Meets, triple_of}
use denote.Triple.Table.{entered}
use denote.Triple.Walked.{Stays, stay_dropped, stay_ref, walk_of, ends_at, Goes-dropped, Goes-ref, walk_Meets}
use contract.CodeStep
use Rattle.core.proofs.ledger.Walks.{hears, hears_last, tells_all}
use Rattle.cadence_stage.specs.GhostLog.{log_owns, right_owns}
use Rattle.cadence_stage.proofs.Halves as halves
use Rattle.cadence_stage.specs.contracts.ghost_log.Log as L
use Rattle.cadence_stage.specs.contracts.ghost_log.Right as R
use Rattle.cadence_stage.specs.contracts.ghost_log.Log.note.{ended, clauses}
use Rattle.cadence_stage.specs.contracts.ghost_log.Log.note.Key.{name as #self}
use Rattle.cadence_stage.proofs.ghost_log.Log.note.Statement as stated
use Rattle.cadence_stage.proofs.ghost_log.Log.note.Code as code

module _ (A : RattleType) {M : Type 1} {𝓤 : Ura M} (𝓛 : Logic 𝓤) (𝓜 : Model 𝓤 𝓛.H) (𝓡 : Running 𝓤 𝓛.H 𝓜) where
  open 𝓛 use {H}

  abbrev targs : Args
  targs = layouts (a_type ∷ []) (A, tt)

  abbrev function : Fn
  function = inst_fn targs code.function

  abbrev A' : RattleType
  A' = param 0 A

  abbrev LogOf : RattleType
  LogOf = L.the_row A'

  abbrev RightOf : RattleType
  RightOf = R.the_row A'

  abbrev stayed : Stays (ended A).signature.params (ended A).kept
  stayed = (stay_ref (0 ∷ []) tt (plain (λ _. LogOf)), (stay_ref (1 ∷ []) tt (plain (λ _. RightOf)), (stay_dropped (RefOf (2 ∷ []) tt (plain (λ _. param 0 A)) (λ _. tt)) yes, tt)))

  abbrev 𝓣 : MachineTables 𝓤 H 𝓜
  𝓣 = tables 𝓤 H 𝓜 𝓡 𝓡.env

  abbrev held : Clauses 𝓤 (ended A)
  held = clauses A 𝓛 𝓜.mem 𝓡.returns

  module _ (z : (walk_of 𝓛 (ended A) stayed held).Ghost) where
    abbrev Vss : Type 0
    Vss = List Val × (List Val × (List Val × Unit {0}))

    abbrev At : Vss → (walk_of 𝓛 (ended A) stayed held).Ghost
    At vss = ((z.0.0, z.0.1, z.0.2, z.0.3, vss), z.1)

    abbrev Goes : Vss → Type 1
    Goes vss = ent 𝓤 ((walk_of 𝓛 (ended A) stayed held).pre (At vss)) (WpFn 𝓤 H 𝓣.C 𝓣.Λ function ((walk_of 𝓛 (ended A) stayed held).args (At vss)) ((walk_of 𝓛 (ended A) stayed held).post (At vss)))

    abbrev a : LogOf.Denot
    a = z.0.3.0.now

    abbrev b : RightOf.Denot
    b = z.0.3.1.0.now

    abbrev u : Val
    u = vptr z.0.3.0.ref_ptr.0 z.0.3.0.ref_ptr.1

    abbrev v : Val
    v = vptr z.0.3.1.0.ref_ptr.0 z.0.3.1.0.ref_ptr.1

    abbrev c : A'.Denot
    c = z.0.3.1.1.0.now

    abbrev w : Val
    w = vptr z.0.3.1.1.0.ref_ptr.0 z.0.3.1.1.0.ref_ptr.1

    abbrev passed : Vss
    passed = (u ∷ [], (v ∷ [], (w ∷ [], tt)))

    abbrev args : Fml
    args = owns (types_at (ended A).signature.params z.0.0) z.0.3 passed

    abbrev asked : SProp 𝓤
    asked = (held z.0.0 z.0.3).requires z.1

    walks : Goes passed
    walks =
        let r = z.0.3.0 in let s = z.0.3.1.0 in let items' : List A'.Denot = a.items ++ c ∷ [] in let a' : LogOf.Denot = record { marker = a.marker; name = a.name; items = items' } in let b' : RightOf.Denot = record { marker = b.marker; name = a.name; items = items' } in
        qed 𝓛 (((‵ (flft z.0.0.0 z.0.1.0) ⊛ ‵ (flft z.0.0.1.0 z.0.1.1.0) ⊛ ‵ (flft z.0.0.1.1.0 z.0.1.1.1.0) ⊛ ‵ (flft z.0.0.1.1.1.0 z.0.1.1.1.1.0) ⊛ ‵ ftrue) ⊛ ‵ args) ∷ raw asked ∷ []) ∵
        move ! (1 ∷ []) $ hears ! (λ _. hears_last ! (λ named. split ! $ split ! $ move ! (1 ∷ []) $ split ! $ move ! (3 ∷ []) $ fsplit ! $ fsplit3 ! $ drop ! $ move ! (2 ∷ []) $ fsplit ! $ fsplit3 ! $ drop ! $
        keep ! (3 ∷ 4 ∷ 7 ∷ 0 ∷ 1 ∷ 5 ∷ 6 ∷ []) $ enter ! 𝓣.C 𝓣.Λ function (u ∷ v ∷ w ∷ []) _ $ alloc_all ! (λ l. pass_all ! refl ((tt, tt), ((tt, tt), ((tt, tt), tt))) $
        opens ! tt LogOf r.ref_ptr.0 r.ref_ptr.1 (λ cs. move ! (5 ∷ 6 ∷ 7 ∷ []) $ opens ! tt RightOf s.ref_ptr.0 s.ref_ptr.1 (λ ds. move ! (1 ∷ []) $ fsplit ! $ move ! (7 ∷ []) $ fsplit ! $ move ! (1 ∷ 3 ∷ []) $
        rewrite ! 1 (λ (k : ℕ). ‵ (right_owns A'.coded.code k b.items)) named refl $ use2 𝓛 (given (b.items ≡ a.items) (‵ (log_owns A'.coded.code a.name a.items) ⊛ ‵ (right_owns A'.coded.code a.name b.items))) (halves.agrees A'.coded 𝓛 a.name a.name a.items b.items refl) $ learn ! (λ same. split ! $ rewrite ! 1 (λ (ys : List A'.Denot). ‵ (right_owns A'.coded.code a.name ys)) same refl $ use2 𝓛 (later (‵ (log_owns A'.coded.code a.name items') ⊛ ‵ (right_owns A'.coded.code a.name items'))) (halves.moves A'.coded 𝓛 a.name a.items items' (c ∷ [], refl)) $ await ! tt $ split ! $
        move ! (2 ∷ 0 ∷ []) $ fjoin ! $ move ! (2 ∷ 1 ∷ []) $ fjoin ! $
        move ! (2 ∷ 0 ∷ 3 ∷ 4 ∷ 5 ∷ []) $ closes ! tt RightOf b' ds s.ref_ptr.0 s.ref_ptr.1 $ move ! (4 ∷ 3 ∷ 5 ∷ 6 ∷ 7 ∷ []) $ closes ! tt LogOf a' cs r.ref_ptr.0 r.ref_ptr.1 $
        sets ! (of_opd ! (unit_lit !)) refl (tt, tt) $ returns ! (look_at ! 0 refl) $ free_all ! refl $ suffices ! _ (ends_at 𝓛 (ended A) stayed held (At passed) vunit tt (a', (b', (tt, tt))) (tt, (tt, (tt, tt)))) $
        feq_i ! (List Val) (u ∷ []) (u ∷ []) refl $ fjoin3 ! $ move ! (2 ∷ 3 ∷ []) $ feq_i ! (List Val) (v ∷ []) (v ∷ []) refl $ fjoin3 ! $ nothing ! $ nothing ! $ fjoin ! $ move ! (1 ∷ 0 ∷ []) $ fjoin ! $ move ! (1 ∷ 0 ∷ []) $ fjoin ! $
        feq_i ! (List Val) (vunit ∷ []) (vunit ∷ []) refl $ move ! (1 ∷ 0 ∷ []) $ join ! $ move ! (2 ∷ 3 ∷ []) $ join ! $ move ! (2 ∷ 0 ∷ []) $ join ! $ join ! $ frame ! $
        by ! (tells_all 𝓤 ((b.items ≡ a.items) ∷ (a'.items ≡ items') ∷ (b'.items ≡ items') ∷ ((a.name ≡ a.name) × (a.name ≡ a.name)) ∷ []) (same, (refl, (refl, (refl, refl)))))))))))

  meets : Meets 𝓛 (ended A).signature (WpFn 𝓤 H 𝓣.C 𝓣.Λ function) (closing 𝓛 (ended A) held)
  unfolding tables_of contract.CodeStep.c_Tables
  meets =
      walk_Meets 𝓛 (ended A) stayed (Goes-ref 𝓛 4 0 tt (plain (λ _. LogOf)), (Goes-ref 𝓛 4 1 tt (plain (λ _. RightOf)), (Goes-dropped 𝓛 4 (RefOf (2 ∷ []) tt (plain (λ _. param 0 A)) (λ _. tt)) yes (λ κs x f. refl), tt))) held
      (WpFn 𝓤 H 𝓣.C 𝓣.Λ function) (WpFn-mono 𝓤 H 𝓛.laws (tables_of 𝓤 H 𝓜 𝓣) function)
      (λ z. let a = z.0.3 in let vss = z.0.4 in let Rs : List RattleType = types_at (ended A).signature.params z.0.0 in let On : SProp 𝓤 = on_entry 𝓛 (ended A).signature z.0.0 z.0.1 a vss in
      fact_use 𝓤 (Are Rs (Ises Rs) a vss) (via 𝓤 (sem 𝓛 (owns Rs a vss)) (via 𝓤 On (fst∗ 𝓤 On (asked z)) (snd∗ 𝓤 (alive 𝓛 (ended A).signature z.0.0 z.0.1) (sem 𝓛 (owns Rs a vss)))) (owns_show 𝓛 Rs (Ises Rs) (showss 𝓛 Rs) a vss)) (λ are.
      subst (Goes z) (λ i. (sym are.0.0 i, (sym are.1.0.0 i, (sym are.1.1.0.0 i, tt)))) (walks z)))

pub note_spec : {M : Type 1} → stated.statement M
note_spec 𝓤 𝓛 𝓜 𝓡 wired A LA = let 𝓣' = tables 𝓤 𝓛.H 𝓜 𝓡 𝓡.env in
    entered 𝓤 𝓛.H (triple_of 𝓛 (ended A).signature (closing 𝓛 (ended A) (held A 𝓛 𝓜 𝓡))) 𝓣'.C 𝓣'.Λ (#self (layouts (a_type ∷ []) (A, tt))) (function A 𝓛 𝓜 𝓡)
    (code.unfolded 𝓤 𝓛.H 𝓜 𝓡 wired (A, tt)) (meets A 𝓛 𝓜 𝓡)
