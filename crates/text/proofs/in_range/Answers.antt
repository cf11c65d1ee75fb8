use native.Mathlib.Omega.{arith}
use Rattle.text.proofs.in_range.Goals as goal

pub returns : goal.returns
returns c = (omega (arith, c.ranges.a), omega (arith, c.ranges.b), omega (arith, c.ranges.c))
