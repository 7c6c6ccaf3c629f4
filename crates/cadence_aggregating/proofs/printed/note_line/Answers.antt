use Rattle.std.proofs.Common.{length, string_bytes, refl, rules, ◌∙◌}
use Rattle.std.proofs.lemmas.Int.{to_z-of_z}
use Rattle.std.specs.Prelude.{pos}
use mir.Syntax.{w64}
use mir.Val.{SFits}
use Rattle.cadence_aggregating.proofs.Spliced.{amount_noted, amount_printed, level_noted, level_printed, timing_noted, timing_printed}
use Rattle.cadence_aggregating.proofs.printed.note_line.Goals as goal

pub note_of-requires : goal.note_of-requires
note_of-requires c =
    let a = c.in-Amount in
    let w = c.in_ok-name-in-Amount in
    let fits : SFits w64 a.by = search rules in
    rw (to_z-of_z w64 a.by fits)
    (amount_printed (string_bytes c.write_amount.new.text) a.context.now w.name w.values w.ensures.name a.by
    (rw (to_z-of_z w64 a.by fits) at w.ensures.line) (rw (to_z-of_z w64 a.by fits) at w.ensures.values))

pub note_of-requires-in-Level : goal.note_of-requires-in-Level
note_of-requires-in-Level c =
    let a = c.in-Level in
    let w = c.in_ok-name-in-Level in
    level_printed (string_bytes c.write_values.new.text) a.context.now w.name (length a.value.now) w.ensures.name (pos 0) a.value.now w.ensures.line refl

pub note_of-requires-in-Timing : goal.note_of-requires-in-Timing
note_of-requires-in-Timing c =
    let a = c.in-Timing in
    let w = c.in_ok-name-in-Timing in
    timing_printed (string_bytes c.write_values-in-Timing.new.text) a.context.now w.name (length a.values.now) w.ensures.name (pos 0) a.values.now w.ensures.line refl

pub returns-in_ok-name-in-Amount-clause-said : goal.returns-in_ok-name-in-Amount-clause-said
returns-in_ok-name-in-Amount-clause-said c =
    let a = c.in-Amount in
    let w = c.in_ok-name-in-Amount in
    let fits : SFits w64 a.by = search rules in
    rw a.is ((rw (to_z-of_z w64 a.by fits) at c.note_of.ensures.said)
    ∙ amount_noted (string_bytes c.write_amount.new.text) a.context.now w.name w.values w.ensures.name a.by
    (rw (to_z-of_z w64 a.by fits) at w.ensures.line) (rw (to_z-of_z w64 a.by fits) at w.ensures.values))

pub returns-in_ok-name-in-Level-clause-said : goal.returns-in_ok-name-in-Level-clause-said
returns-in_ok-name-in-Level-clause-said c =
    let a = c.in-Level in
    let w = c.in_ok-name-in-Level in
    rw a.is (c.note_of-in-Level.ensures.said
    ∙ level_noted (string_bytes c.write_values.new.text) a.context.now w.name (length a.value.now) w.ensures.name (pos 0) a.value.now w.ensures.line refl)

pub returns-in_ok-name-in-Timing-clause-said : goal.returns-in_ok-name-in-Timing-clause-said
returns-in_ok-name-in-Timing-clause-said c =
    let a = c.in-Timing in
    let w = c.in_ok-name-in-Timing in
    rw a.is (c.note_of-in-Timing.ensures.said
    ∙ timing_noted (string_bytes c.write_values-in-Timing.new.text) a.context.now w.name (length a.values.now) w.ensures.name (pos 0) a.values.now w.ensures.line refl)
