use Rattle.std.proofs.Common.{◌∷◌, [], Some, None, refl, inl, inr}
use Rattle.std.proofs.lemmas.Bool.Decides.{Decides-eqb}
use Rattle.std.proofs.lemmas.Slice.Eq.{strip_suffix_is}
use Rattle.cadence_listen.proofs.pieces.without_last.Goals as goal

pub returns-in-Some : goal.returns-in-Some
returns-in-Some c =
    inl (strip_suffix_is Decides-eqb c.args.text.now (c.args.last ∷ []) (Some c.in-Some.front) c.in-Some.ensures.cases)

pub returns-in-None : goal.returns-in-None
returns-in-None c = inr (refl, strip_suffix_is Decides-eqb c.args.text.now (c.args.last ∷ []) None c.in-None.ensures.cases)
