use Rattle.std.proofs.Common.{rules, ◌∙◌, sym}
use Rattle.cadence_words.proofs.WordCuts.{word_first, word_later, word_none, word_only}
use Rattle.cadence_words.proofs.words.split_word.Goals as goal

pub returns-then-not-is_empty-clause-some : goal.returns-then-not-is_empty-clause-some
returns-then-not-is_empty-clause-some c =
    sym c.loop-word.invariant.1
    ∙ word_first c.loop-word.left.now c.in-Some.word.now c.in-Some.others.now c.in-Some.ensures.front c.in-Some.ensures.whole (search rules)

pub loop-word-preserved : goal.loop-word-preserved
loop-word-preserved c = (
  search rules,
  sym (word_later c.loop-word.left.now c.in-Some.word.now c.in-Some.others.now c.in-Some.ensures.front
      c.in-Some.ensures.whole (search rules))
      ∙ c.loop-word.invariant.1,
)

pub returns-then-is_empty-clause-none : goal.returns-then-is_empty-clause-none
returns-then-is_empty-clause-none c = sym c.loop-word.invariant.1 ∙ word_none c.loop-word.left.now (search rules)

pub returns-clause-some : goal.returns-clause-some
returns-clause-some c = sym c.loop-word.invariant.1 ∙ word_only c.loop-word.left.now c.in_default.ensures.none (search rules)
