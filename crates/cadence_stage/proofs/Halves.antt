-- The ghost steps of the two halves of a list, and of its beginnings.
use Rattle.std.proofs.Common.{◌≡◌, ℕ, List, [], ◌∷◌, ◌++◌, map, refl, sym, ap, subst, ◌∙◌}
use mathlib.Core.List.{IsPrefix, cons≢nil}
use seplogic.Ra.Ura.{Ura}
use base.Fraction.{full_share, left, right}
use base.Share
use base.Stored.{Gv, Coded}
use base.Growing.{latest, at_least}
use base.Logic.{SProp, ent, sep, ex, guard, emp, via}
use base.Fml.{GName, Fml}
use types.Logic.{Logic, sem}
use types.Owned.{basic}
use types.Growing.{latest_new, latest_grows, latest_shows, latest_bounds, latest_agrees, latest_cut, latest_glue, at_least_dup}
use types.Kit.{‵, ◌⊛◌, some, given, later, ◌$◌, ◌∵◌, !, qed, use0, use1, use2, learn, check, updating, await, now, show, pick, done}
use Rattle.cadence_stage.specs.GhostLog.{lists, log_owns, right_owns, seen_owns}

module _ {X : Type 0} (c : Coded X) where
  abbrev tail : List Gv → List Gv
  tail [] = []
  tail (g ∷ gs) = gs

  abbrev head : Gv → List Gv → Gv
  head d [] = d
  head d (g ∷ gs) = g

  prefix_out : (xs ys : List X) → IsPrefix (map c.code xs) (map c.code ys) → IsPrefix xs ys
  prefix_out [] ys h = (ys, refl)
  prefix_out (x ∷ xs) [] h = absurd (cons≢nil h.1)
  prefix_out (x ∷ xs) (y ∷ ys) h =
      let e : x ≡ y = c.inj x y (ap (head (c.code x)) h.1) in
      let t = prefix_out xs ys (h.0, ap tail h.1) in (t.0, λ i. e i ∷ t.1 i)

  same_out : (xs ys : List X) → map c.code xs ≡ map c.code ys → xs ≡ ys
  same_out [] [] h = refl
  same_out [] (y ∷ ys) h = absurd (cons≢nil (sym h))
  same_out (x ∷ xs) [] h = absurd (cons≢nil h)
  same_out (x ∷ xs) (y ∷ ys) h = λ i. c.inj x y (ap (head (c.code x)) h) i ∷ same_out xs ys (ap tail h) i

  map_append : (xs ys : List X) → map c.code (xs ++ ys) ≡ map c.code xs ++ map c.code ys
  map_append [] ys = refl
  map_append (x ∷ xs) ys = λ i. c.code x ∷ map_append xs ys i

  prefix_in : (xs zs : List X) → IsPrefix xs zs → IsPrefix (map c.code xs) (map c.code zs)
  prefix_in xs zs h = (map c.code h.0, sym (map_append xs h.0) ∙ ap (map c.code) h.1)

  module _ {M : Type 1} {𝓤 : Ura M} (𝓛 : Logic 𝓤) where
    open 𝓛 use {H}

    abbrev ⟦◌⟧ : Fml → SProp 𝓤
    ⟦ P ⟧ = sem 𝓛 P

    abbrev ◌∗◌ : SProp 𝓤 → SProp 𝓤 → SProp 𝓤
    P ∗ Q = sep 𝓤 P Q

    infixr 35 ◌∗◌
    abbrev log : ℕ → List X → Fml
    log = log_owns c.code

    abbrev right_to : ℕ → List X → Fml
    right_to = right_owns c.code

    abbrev seen : ℕ → List X → Fml
    seen = seen_owns c.code

    pub begins : ent 𝓤 (emp 𝓤) (H.⇛ (ex 𝓤 (λ (γ : GName). ⟦ log γ [] ⟧ ∗ ⟦ right_to γ [] ⟧)))
    unfolding log_owns right_owns
    begins = qed 𝓛 [] ∵ updating ! $
        use0 𝓛 (later (some (λ (γ : GName). ‵ (latest lists full_share γ [])))) (via 𝓤 _ (latest_new lists 𝓛 []) (basic 𝓛 _)) $ await ! tt $ pick ! (λ γ.
        use1 𝓛 (‵ (latest lists (left full_share) γ []) ⊛ ‵ (latest lists (right full_share) γ [])) (latest_cut lists 𝓛 full_share (left full_share) (right full_share) γ [] (Share.halves full_share)) $
        now ! $ show ! (λ (g : GName). ⟦ log g [] ⟧ ∗ ⟦ right_to g [] ⟧) γ $ done !)

    pub agrees : (γ δ : ℕ) (xs ys : List X) → δ ≡ γ → ent 𝓤 (⟦ log γ xs ⟧ ∗ ⟦ right_to δ ys ⟧) (guard 𝓤 (ys ≡ xs) (⟦ log γ xs ⟧ ∗ ⟦ right_to δ ys ⟧))
    unfolding log_owns right_owns
    agrees γ δ xs ys named = let A : Fml = latest lists (left full_share) γ (map c.code xs) in let B : Fml = latest lists (right full_share) γ (map c.code ys) in
        subst (λ (k : ℕ). ent 𝓤 (⟦ log γ xs ⟧ ∗ ⟦ right_to k ys ⟧) (guard 𝓤 (ys ≡ xs) (⟦ log γ xs ⟧ ∗ ⟦ right_to k ys ⟧))) (sym named) (
        qed 𝓛 (‵ A ∷ ‵ B ∷ []) ∵ use2 𝓛 (given (map c.code xs ≡ map c.code ys) (‵ A ⊛ ‵ B)) (latest_agrees lists 𝓛 (left full_share) (right full_share) γ (map c.code xs) (map c.code ys)) $
        learn ! (λ e. check ! (sym (same_out xs ys e)) $ done !))

    pub moves : (γ : ℕ) (xs zs : List X) → IsPrefix xs zs → ent 𝓤 (⟦ log γ xs ⟧ ∗ ⟦ right_to γ xs ⟧) (H.⇛ (⟦ log γ zs ⟧ ∗ ⟦ right_to γ zs ⟧))
    unfolding log_owns right_owns
    moves γ xs zs more = let a : List Gv = map c.code xs in let b : List Gv = map c.code zs in
        qed 𝓛 (‵ (latest lists (left full_share) γ a) ∷ ‵ (latest lists (right full_share) γ a) ∷ []) ∵ updating ! $
        use2 𝓛 (‵ (latest lists full_share γ a)) (latest_glue lists 𝓛 full_share (left full_share) (right full_share) γ a (Share.halves full_share)) $
        use1 𝓛 (later (‵ (latest lists full_share γ b))) (via 𝓤 _ (latest_grows lists 𝓛 γ a b (prefix_in xs zs more)) (basic 𝓛 _)) $ await ! tt $
        use1 𝓛 (‵ (latest lists (left full_share) γ b) ⊛ ‵ (latest lists (right full_share) γ b)) (latest_cut lists 𝓛 full_share (left full_share) (right full_share) γ b (Share.halves full_share)) $
        now ! $ done !

    pub shows : (γ : ℕ) (xs : List X) → ent 𝓤 ⟦ log γ xs ⟧ (⟦ log γ xs ⟧ ∗ ⟦ seen γ xs ⟧)
    unfolding log_owns seen_owns
    shows γ xs = latest_shows lists 𝓛 (left full_share) γ (map c.code xs) (map c.code xs) (lists.same (map c.code xs))

    pub bounds : (γ δ : ℕ) (xs ys : List X) → δ ≡ γ → ent 𝓤 (⟦ log γ xs ⟧ ∗ ⟦ seen δ ys ⟧) (guard 𝓤 (IsPrefix ys xs) (⟦ log γ xs ⟧ ∗ ⟦ seen δ ys ⟧))
    unfolding log_owns seen_owns
    bounds γ δ xs ys named = let A : Fml = latest lists (left full_share) γ (map c.code xs) in let B : Fml = at_least lists γ (map c.code ys) in
        subst (λ (k : ℕ). ent 𝓤 (⟦ log γ xs ⟧ ∗ ⟦ seen k ys ⟧) (guard 𝓤 (IsPrefix ys xs) (⟦ log γ xs ⟧ ∗ ⟦ seen k ys ⟧))) (sym named) (
        qed 𝓛 (‵ A ∷ ‵ B ∷ []) ∵ use2 𝓛 (given (IsPrefix (map c.code ys) (map c.code xs)) (‵ A ⊛ ‵ B)) (latest_bounds lists 𝓛 (left full_share) γ (map c.code xs) (map c.code ys)) $
        learn ! (λ e. check ! (prefix_out ys xs e) $ done !))

    pub twice : (γ : ℕ) (xs : List X) → ent 𝓤 ⟦ seen γ xs ⟧ (⟦ seen γ xs ⟧ ∗ ⟦ seen γ xs ⟧)
    unfolding seen_owns
    twice γ xs = at_least_dup lists 𝓛 γ (map c.code xs)
