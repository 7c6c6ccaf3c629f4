use Rattle.std.proofs.Common.{◌≡◌, ◌∷◌, [], ◌++◌, Some, None, inl, inr}
use Rattle.std.proofs.lemmas.Bool.Decides.{Decides-eqb}
use Rattle.std.proofs.lemmas.Slice.Eq.{slice_eq-Decides, starts_is, strip_suffix_is}
use Rattle.cadence_listen.proofs.Filtered.{like_begins, like_same}
use Rattle.cadence_listen.proofs.filter.is_like.Goals as goal

pub returns-in-Some : goal.returns-in-Some
returns-in-Some c =
    let front = c.in-Some.front.now in
    let ends : c.args.pattern.now ≡ front ++ 42 ∷ [] =
    strip_suffix_is Decides-eqb c.args.pattern.now (42 ∷ []) (Some c.in-Some.front) c.in-Some.ensures.cases in
    let starts = starts_is Decides-eqb c.args.text.now front c.starts_with.result c.starts_with.ensures.value in (
      λ yes. inr (front, _, ends, starts.0 yes),
      λ like. let (rest, is) = like_begins c.args.pattern.now c.args.text.now front ends like in starts.1 rest is,
    )

pub returns-in-None : goal.returns-in-None
returns-in-None c =
    let none = strip_suffix_is Decides-eqb c.args.pattern.now (42 ∷ []) None c.in-None.ensures.cases in
    let same = slice_eq-Decides Decides-eqb c.args.text.now c.args.pattern.now c.eq.result c.eq.ensures in (
      λ yes. inl (same.0 yes),
      λ like. same.1 (like_same c.args.pattern.now c.args.text.now none like),
    )
