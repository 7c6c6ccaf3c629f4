use Rattle.std.proofs.Common.{◌<◌, get_or, length, nat_eq, rules}
use Rattle.cadence_text.specs.OneReading.{IsNoTagEnd}
use Rattle.cadence_text.proofs.grammar.FreeTexts.{free_at_end, tested_after_key}
use Rattle.cadence_text.proofs.line.separators.is_free_after_key.Goals as goal
use Rattle.cadence_text.proofs.line.separators.is_free_after_key.Goals.{then-loop-at-test+else-is_no_tag_end, else-loop-at-test}

pub returns-clause-free : goal.returns-clause-free
returns-clause-free c =
    let text = c.args.text.now in
    let at = c.loop-at.at in
    let stops : at < length text → IsNoTagEnd (get_or text at 0) → ⊥ = elim c.loop-at-test.branch [
      | then-loop-at-test+else-is_no_tag_end w ↦ λ below ends. search rules
      | else-loop-at-test w ↦ λ below ends. search rules
    ] in
    free_at_end IsNoTagEnd text at c.loop-at.invariant.within c.loop-at.invariant.front stops

pub returns-clause-test : goal.returns-clause-test
returns-clause-test c = tested_after_key (nat_eq c.loop-at.at (length c.args.text.now)) c.args.text.now (returns-clause-free c)
