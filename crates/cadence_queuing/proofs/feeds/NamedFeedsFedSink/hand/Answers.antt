use Rattle.std.proofs.Common.{◌≡◌, ℕ, ◌++◌, ◌∷◌, [], List, String, map, string_bytes, refl, subst, sym, ◌∙◌}
use mathlib.Core.List.{IsPrefix}
use Rattle.cadence_stage.specs.Call.{call_of}
use Rattle.cadence_stage.specs.Past.{lines_in}
use Rattle.cadence_queuing.proofs.feeds.NamedFeedsFedSink.hand.Goals as goal

pub feed-taken-requires-clause-names : goal.feed-taken-requires-clause-names
feed-taken-requires-clause-names g c =
    let asked = c.requires.next _ refl in
    (asked.0, c.again.ensures.name ∙ asked.1)

pub feed-taken-requires-clause-next : goal.feed-taken-requires-clause-next
feed-taken-requires-clause-next g c =
    let given = lines_in (map call_of c.args.feed.now.items) in
    subst (λ (line : List ℕ). ∥ IsPrefix (given ++ line ∷ []) (map string_bytes c.again.result.items) ∥₁) (sym c.as_str.ensures.value)
    (subst (λ (texts : List (String _)). ∥ IsPrefix (given ++ string_bytes c.args.line.now ∷ []) (map string_bytes texts) ∥₁)
    (sym c.again.ensures.items) (c.requires.next _ refl).2)
