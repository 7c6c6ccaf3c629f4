use Rattle.std.proofs.Common.{◌≡◌, ◌≤◌, ◌<◌, ◌^◌, ap, ◌∙◌, arith, rules, drop, length, take}
use Rattle.std.proofs.lemmas.List.{length-take, length-drop}
use Rattle.cadence_text.specs.Line.{line_of}
use Rattle.cadence_text.proofs.writing.LineLength.{line_is_short}
use Rattle.cadence_text.proofs.grammar.LineText.{line_once}
use Rattle.cadence_text.proofs.writing.WindowText.{alike_further, alike_whole, windows_alike}
use Rattle.cadence_text.proofs.line.record.Record.same_line.Goals as goal

pub returns-then-shown-lt-WINDOW-clause-lines : goal.returns-then-shown-lt-WINDOW-clause-lines
returns-then-shown-lt-WINDOW-clause-lines g c =
    let ours = line_of c.args.self.now in
    let theirs = line_of c.args.other.now in
    let skip = c.loop-ours.skip in
    let same : c.shown.result.now ≡ c.shown-in-loop-ours.result.now = search rules in
    let here : take 512 (drop skip ours) ≡ take 512 (drop skip theirs) =
    windows_alike ours theirs _ _ c.shown.result.now c.shown-in-loop-ours.result.now skip c.window_of-ours.ensures.shown
    c.window_of-theirs.ensures.shown c.shown.ensures c.shown-in-loop-ours.ensures same in
    let short : length (take 512 (drop skip ours)) < 512 = omega (
      arith,
      c.if-shown-lt-WINDOW.true,
      ap length (c.shown-in-loop-ours-2.ensures
          ∙ c.window_of-ours.ensures.shown),
    ) in
    (λ _. alike_whole ours theirs skip 512 c.loop-ours.invariant.alike here short, λ _. search rules)

pub returns-then-shown-lt-WINDOW-clause-metrics : goal.returns-then-shown-lt-WINDOW-clause-metrics
returns-then-shown-lt-WINDOW-clause-metrics g c = λ free other_free.
    let lines = returns-then-shown-lt-WINDOW-clause-lines g c in
    (λ yes. line_once c.args.self.now c.args.other.now free other_free (lines.0 yes), λ _. search rules)

pub loop-ours-preserved : goal.loop-ours-preserved
loop-ours-preserved g c =
    let ours = line_of c.args.self.now in
    let theirs = line_of c.args.other.now in
    let skip = c.loop-ours.skip in
    let same : c.shown.result.now ≡ c.shown-in-loop-ours.result.now = search rules in
    let here : take 512 (drop skip ours) ≡ take 512 (drop skip theirs) =
    windows_alike ours theirs _ _ c.shown.result.now c.shown-in-loop-ours.result.now skip c.window_of-ours.ensures.shown
    c.window_of-theirs.ensures.shown c.shown.ensures c.shown-in-loop-ours.ensures same in
    let full : 512 ≤ length (take 512 (drop skip ours)) = omega (
      arith,
      c.if-shown-lt-WINDOW.false,
      ap length (c.shown-in-loop-ours-2.ensures
          ∙ c.window_of-ours.ensures.shown),
    ) in
    record {
      alike = alike_further ours theirs skip 512 c.loop-ours.invariant.alike here;
      within = omega (arith, full, length-take 512 (drop skip ours), length-drop skip ours, c.loop-ours.invariant.within);
    }

pub overflow_add-skip : goal.overflow_add-skip
overflow_add-skip g c =
    let short : length (line_of c.args.self.now) < 2 ^ 126 = line_is_short c.args.self.now c.window_of-ours.ensures.sized in
    omega (arith, short, c.loop-ours.invariant.within)
