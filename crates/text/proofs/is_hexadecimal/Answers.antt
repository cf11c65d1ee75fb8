use Rattle.text.proofs.Reading.{even_all, odd, next_good, all_good}
use native.Mathlib.Omega.{arith}
use Rattle.text.proofs.is_hexadecimal.Goals as goal

pub returns-then-text-ne0 : goal.returns-then-text-ne0
returns-then-text-ne0 c = odd _ c.if-text-ne0.true

pub loop-b-init : goal.loop-b-init
loop-b-init c = even_all _ c.if-text-ne0.false

pub loop-b-preserved : goal.loop-b-preserved
loop-b-preserved c = next_good _ _ c.loop-b.good c.loop-b.invariant c.loop-b-test.true c.digit_value.ensures

pub returns : goal.returns
returns c = all_good _ _ c.loop-b.good c.loop-b.invariant (omega arith)
