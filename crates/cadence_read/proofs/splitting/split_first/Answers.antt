use Rattle.std.proofs.Common.{◌≡◌, ◌∙◌, ◌<◌, sym, subst, arith, take, get_or}
use Rattle.std.proofs.lemmas.List.{get_or_default, get_or-take, length-take-le}
use Rattle.cadence_text.specs.OneReading.{IsNoSeparator}
use Rattle.cadence_read.proofs.LineParts.{first_is}
use Rattle.cadence_read.proofs.splitting.split_first.Goals as goal
use Rattle.cadence_read.proofs.splitting.split_first.Goals.{then-at-text-via-then-at-text, then-at-text-via-else-at-text+then-text-at}

pub returns-then-at-text-clause-none : goal.returns-then-at-text-clause-none
returns-then-at-text-clause-none c = λ front rest plain e.
    let at = c.first_separator-at in
    let (inside, mark) = first_is c.args.mark c.requires c.args.text.now front rest at.result at.ensures.front at.ensures.stops plain e in
    elim c.then-at-text.branch [
      | then-at-text-via-then-at-text w ↦ absurd
          (omega (arith, w, inside))
      | then-at-text-via-else-at-text+then-text-at w ↦ w.if-text-at.true mark
    ]

pub returns-clause-front : goal.returns-clause-front
returns-clause-front c = λ k d within.
    let at = c.first_separator-at.result in
    let text = c.args.text.now in
    let inside : k < at = omega (arith, within, length-take-le at text c.first_separator-at.ensures.bound) in
    let here : get_or (take at text) k d ≡ get_or text k 0 = get_or_default (take at text) k d 0 within ∙ get_or-take at text k 0 inside in
    subst IsNoSeparator (sym here) (c.first_separator-at.ensures.front k inside)
