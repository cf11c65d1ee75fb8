use mathlib.Core.Path.{sym, ◌∙◌}
use Prim.Native.Nat.{◌<◌}
use native.Mathlib.Omega.{arith}
use Rattle.address.proofs.Digits.{digit_step, digit_end, digit_room, digit_fits}
use Rattle.address.proofs.big_endian.Goals as goal

pub overflow_mul-v : goal.overflow_mul-v
overflow_mul-v c = omega (arith, digit_fits c.loop-b.v 0 c.loop-b.b-index c.loop-b.invariant.0 (omega arith) (omega arith))

pub loop-b-preserved : goal.loop-b-preserved
loop-b-preserved c =
    let b : c.from.result < 256 = omega (arith, c.type_inv.s c.loop-b.b-index) in
    (digit_room c.loop-b.v _ c.loop-b.b-index c.loop-b.invariant.0 b, c.loop-b.invariant.1 ∙ rw c.from.ensures (digit_step c.loop-b.v _ c.loop-b.b-index c.loop-b-test.true))

pub returns-clause-value : goal.returns-clause-value
returns-clause-value c = sym (c.loop-b.invariant.1 ∙ digit_end c.loop-b.v _ c.loop-b.b-index (omega arith))
