use Rattle.std.proofs.Common.{rules, ◌≡◌, ◌∷◌, ◌++◌, [], ◌∙◌, ap, sym, Some, None, lit<}
use Rattle.std.proofs.lemmas.Str.Pattern.{strip_suffix_char}
use Rattle.cadence_environment.specs.TagTexts.{without_end}
use Rattle.cadence_environment.proofs.Spaces.{without_end-same, without_end-snoc}
use Rattle.cadence_environment.proofs.trim.trim_end.Goals as goal

pub loop-shorter-preserved : goal.loop-shorter-preserved
loop-shorter-preserved c =
    let shorter = c.in-Some.shorter.now in
    let e : c.loop-shorter.kept.now ≡ shorter ++ (32 ∷ []) =
    strip_suffix_char 32 c.loop-shorter.kept.now (Some c.in-Some.shorter) c.in-Some.ensures.cases (lit< tt) in
    (search rules, sym (without_end-snoc shorter) ∙ (sym (ap without_end e) ∙ c.loop-shorter.invariant.1))

pub returns : goal.returns
returns c =
    sym (without_end-same c.loop-shorter.kept.now (strip_suffix_char 32 c.loop-shorter.kept.now None c.in_default.ensures.cases (lit< tt)))
    ∙ c.loop-shorter.invariant.1
