use Rattle.std.proofs.Common.{rules, ◌≡◌, ◌∷◌, ◌∙◌, ap, sym, Some, None, lit<}
use Rattle.std.proofs.lemmas.Str.Pattern.{strip_prefix_char}
use Rattle.cadence_environment.specs.TagTexts.{without_front}
use Rattle.cadence_environment.proofs.Spaces.{without_front-same}
use Rattle.cadence_environment.proofs.trim.trim_front.Goals as goal

pub loop-shorter-preserved : goal.loop-shorter-preserved
loop-shorter-preserved c =
    let e : c.loop-shorter.kept.now ≡ 32 ∷ c.in-Some.shorter.now =
    strip_prefix_char 32 c.loop-shorter.kept.now (Some c.in-Some.shorter) c.in-Some.ensures.cases (lit< tt) in
    (search rules, sym (ap without_front e) ∙ c.loop-shorter.invariant.1)

pub returns : goal.returns
returns c =
    sym (without_front-same c.loop-shorter.kept.now (strip_prefix_char 32 c.loop-shorter.kept.now None c.in_default.ensures.cases (lit< tt)))
    ∙ c.loop-shorter.invariant.1
