use mathlib.Core.Path.{refl}
use native.Mathlib.Omega.{arith}
use Rattle.forms.proofs.Choices.{word_fits, word_none, word_next, word_found}
use Rattle.forms.proofs.choice_words.Goals as goal

pub loop-k-init : goal.loop-k-init
loop-k-init c = (omega arith, omega arith, refl)

pub overflow_add-e : goal.overflow_add-e
overflow_add-e c = omega (arith, word_fits c.args.choice.now c.loop-k.w c.loop-k.invariant.0 c.length_before-n.ensures)

pub slice_bounds-is_word-count : goal.slice_bounds-is_word-count
slice_bounds-is_word-count c = omega (arith, word_fits c.args.choice.now c.loop-k.w c.loop-k.invariant.0 c.length_before-n.ensures)

pub slice_bounds-is_word-start : goal.slice_bounds-is_word-start
slice_bounds-is_word-start c = omega (arith, word_fits c.args.choice.now c.loop-k.w c.loop-k.invariant.0 c.length_before-n.ensures)

pub slice_bounds-is_word-end : goal.slice_bounds-is_word-end
slice_bounds-is_word-end c = omega (arith, word_fits c.args.choice.now c.loop-k.w c.loop-k.invariant.0 c.length_before-n.ensures)

pub returns-then-is_word : goal.returns-then-is_word
returns-then-is_word c = word_found _ _ _ _ c.loop-k.invariant.2 c.loop-k.invariant.0 c.length_before-n.ensures c.is_word.ensures c.if-is_word.true

pub returns-then-choice-e : goal.returns-then-choice-e
returns-then-choice-e c = word_none _ _ _ _ c.loop-k.invariant.2 c.loop-k.invariant.0 c.length_before-n.ensures c.is_word.ensures c.if-is_word.false c.if-choice-e.true

pub overflow_add-k : goal.overflow_add-k
overflow_add-k c = omega (arith, word_fits c.args.choice.now c.loop-k.w c.loop-k.invariant.0 c.length_before-n.ensures)

pub loop-k-smaller : goal.loop-k-smaller
loop-k-smaller c = omega (arith, word_fits c.args.choice.now c.loop-k.w c.loop-k.invariant.0 c.length_before-n.ensures)

pub loop-k-preserved : goal.loop-k-preserved
loop-k-preserved c = (omega arith, omega arith, word_next _ _ _ _ c.loop-k.invariant.2 c.loop-k.invariant.0 c.length_before-n.ensures c.is_word.ensures c.if-is_word.false c.if-choice-e.false)
