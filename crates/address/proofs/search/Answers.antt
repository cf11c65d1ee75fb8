use mathlib.Core.Path.{sym, ap, ◌∙◌}
use native.Mathlib.Omega.{arith}
use Rattle.address.specs.declared.Range.{Range}
use Rattle.address.proofs.Rows.{found, passed_over, search_end}
use Rattle.address.proofs.search.Goals as goal

pub returns-then-lies_in : goal.returns-then-lies_in
returns-then-lies_in c = sym (ap (λ (r : Range). r.1) (c.loop-row.invariant ∙ found c.args.ip _ c.args.rows.now c.loop-row.row-index c.loop-row-test.true _ c.lies_in.ensures c.if-lies_in.true))

pub loop-row-preserved : goal.loop-row-preserved
loop-row-preserved c = c.loop-row.invariant ∙ passed_over c.args.ip _ c.args.rows.now c.loop-row.row-index c.loop-row-test.true _ c.lies_in.ensures c.if-lies_in.false

pub returns : goal.returns
returns c = sym (ap (λ (r : Range). r.1) (c.loop-row.invariant ∙ search_end c.args.ip c.args.rows.now c.loop-row.row-index (omega arith)))
