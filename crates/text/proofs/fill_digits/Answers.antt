use mathlib.Core.Path.{refl, ◌∙◌}
use lib.ListN.{length-set}
use native.Mathlib.Omega.{arith}
use Rattle.text.proofs.Printing.{filled_more, filled_all}
use Rattle.text.proofs.fill_digits.Goals as goal

pub loop-i-init : goal.loop-i-init
loop-i-init c = (c.requires, refl)

pub loop-i-preserved : goal.loop-i-preserved
loop-i-preserved c = (
  length-set _ _ _ ∙ length-set _ _ _ ∙ c.loop-i.invariant.0,
  filled_more _ _ _ c.loop-i-test.true c.loop-i.invariant.0 c.digit.ensures c.digit-in-loop-i.ensures c.loop-i.invariant.1,
)

pub returns : goal.returns
returns c = filled_all _ _ _ (omega arith) c.loop-i.invariant.0 c.loop-i.invariant.1
