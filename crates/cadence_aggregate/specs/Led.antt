-- What a list of calls does to a state.
use Rattle.std.proofs.Common.{◌≡◌, List, [], ◌∷◌, ◌++◌, subst}

-- The calls, in order, lead from the old state to the new one, if this is what one call does.
abbrev pub AllLead : {S X : Type 0} → (S → X → S → Type 0) → S → List X → S → Type 0
AllLead leads old [] new = new ≡ old
AllLead {S} leads old (call ∷ calls) new = (mid : S) × leads old call mid × AllLead leads mid calls new

-- Calls in two parts lead from the old state to the new one.
pub lead_joined : {S X : Type 0} (leads : S → X → S → Type 0) (xs ys : List X) (a b c : S) → AllLead leads a xs b → AllLead leads b ys c → AllLead leads a (xs ++ ys) c
lead_joined leads [] ys a b c same more = subst (λ s. AllLead leads s ys c) same more
lead_joined leads (x ∷ xs) ys a b c (mid, first, rest) more = (mid, first, lead_joined leads xs ys mid b c rest more)
