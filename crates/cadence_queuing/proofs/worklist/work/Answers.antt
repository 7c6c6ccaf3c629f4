use Rattle.std.proofs.Common.{◌≡◌, ◌∙◌, List, [], ◌∷◌, ◌++◌, ap, append_assoc, sym}
use Rattle.cadence_queuing.proofs.worklist.work.Goals as goal

-- If all texts that were given have been handed on, this is still so after one more text.
one_more : {T : Type 0} {g h g1 h1 g2 h2 : List T} (g0 h0 : List T) (text : T)
    → (g ≡ h) × ((texts : List T) × (g ≡ g0 ++ texts) × (h ≡ h0 ++ texts))
    → g1 ≡ g ++ text ∷ [] → h1 ≡ h → g2 ≡ g1 → h2 ≡ h1 ++ text ∷ []
    → (g2 ≡ h2) × ((texts : List T) × (g2 ≡ g0 ++ texts) × (h2 ≡ h0 ++ texts))
one_more {T} g0 h0 text (same, (texts, given, handed)) next kept gives hands =
    let more : List T → List T = λ l. l ++ text ∷ [] in (
      gives ∙ (next ∙ (ap more (same ∙ sym kept) ∙ sym hands)),
      (
        texts ++ text ∷ [],
        gives ∙ (next ∙ (ap more given ∙ append_assoc g0 texts (text ∷ []))),
        hands ∙ (ap more (kept ∙ handed) ∙ append_assoc h0 texts (text ∷ [])),
      ),
    )

pub loop-preserved : goal.loop-preserved
loop-preserved g c =
    let (_, _, promises, kept) = c.loop.invariant in (
      tt,
      tt,
      c.hand.ensures.promises ∙ (c.next-in-loop.ensures.promises ∙ promises),
      λ told.
          let there = promises ∙ told in
          let still = c.next-in-loop.ensures.promises ∙ there in
          let (next, _) = c.in-Some-next.ensures.text there in
          let given = c.hand.ensures.given still in
          let handed = c.hand.ensures.handed still in
          one_more _ _ _ (kept told) next (c.next-in-loop.ensures.handed there) given handed,
    )
