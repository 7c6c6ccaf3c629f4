use Rattle.std.proofs.Common.{rules, subst, true, false}
use Rattle.cadence_text.specs.Line.{line_with}
use Rattle.cadence_value.specs.Number.{numbers_text}
use Rattle.cadence_words.specs.Finds.{FindsOrFails}
use Rattle.cadence_words.specs.Lines.{IsTextOf}
use Rattle.cadence_words.specs.TagWords.{tag_words}
use Rattle.cadence_words.proofs.WordByWord.{level_found}
use Rattle.cadence_words.proofs.level.write_level.Goals as goal

pub returns-then-mantissa-lt0 : goal.returns-then-mantissa-lt0
returns-then-mantissa-lt0 g c =
    level_found c.args.defaults.now c.args.name.now (tag_words c.args.tags) c.args.kind c.args.number true
    (λ _. c.write_zero_first.new.buffer.items) c.write_zero_first.result (search rules) c.write_zero_first.ensures

pub returns : goal.returns
returns g c =
    level_found c.args.defaults.now c.args.name.now (tag_words c.args.tags) c.args.kind c.args.number false
    (λ _. c.write_value.new.buffer.items) c.write_value.result (search rules)
    (subst (λ ns. FindsOrFails (IsTextOf c.args.defaults.now (line_with (numbers_text ns)) c.args.kind c.args.name.now
    (tag_words c.args.tags)) (λ _. c.write_value.new.buffer.items) c.write_value.result) c.single_value.ensures c.write_value.ensures)
