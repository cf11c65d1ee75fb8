use native.Mathlib.Omega.{arith}
use Rattle.lines.proofs.Gathering.{come_to, ends_within, ended, goes_on, nothing}
use Rattle.lines.proofs.gather.Goals as goal

pub returns-then-block-from : goal.returns-then-block-from
returns-then-block-from c = record { result = (nothing c.args.block.now c.args.from c.args.line.now c.args.used c.if-block-from.true).0; bytes = (nothing c.args.block.now c.args.from c.args.line.now c.args.used c.if-block-from.true).1 }

pub overflow_add-e : goal.overflow_add-e
overflow_add-e c = omega (arith, ends_within c.args.block.now c.args.from c.length_before-n.ensures (omega arith))

pub slice_bounds-put_text-end : goal.slice_bounds-put_text-end
slice_bounds-put_text-end c = omega (arith, ends_within c.args.block.now c.args.from c.length_before-n.ensures (omega arith))

pub returns-then-e-block-clause-result : goal.returns-then-e-block-clause-result
returns-then-e-block-clause-result c = ended c.args.block.now c.args.from c.length_before-n.ensures c.args.line.now c.args.used (come_to _ _ c.put_text.ensures) c.if-e-block.true

pub returns-clause-result : goal.returns-clause-result
returns-clause-result c = goes_on c.args.block.now c.args.from c.length_before-n.ensures c.args.line.now c.args.used (come_to _ _ c.put_text.ensures) c.if-e-block.false
