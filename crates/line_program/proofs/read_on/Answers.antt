use mathlib.Core.Path.{ap}
use lib.ListN.{length-take}
use native.Mathlib.Omega.{arith}
use Rattle.lines.proofs.Gathering.{used_within}
use Rattle.line_program.specs.declared.Reading.{Reading}
use Rattle.line_program.proofs.GoingOn.{by_read, by_block}
use Rattle.line_program.proofs.read_on.Goals as goal

pub returns-then-s : goal.returns-then-s
returns-then-s c = record { used = omega (arith, ap (λ (x : Reading). x.used) c.fill.ensures.result); block = c.fill.ensures.block; read = by_read _ _ _ _ _ _ c.if-s.true c.fill.ensures.result (omega arith) c.fill.ensures.failed }

pub slice_bounds-gather-end-2 : goal.slice_bounds-gather-end-2
slice_bounds-gather-end-2 c = simp length-take (omega arith)

pub returns : goal.returns
returns c = record { used = used_within _ _ _ _ c.gather-g.ensures.result (omega arith); block = omega arith; read = rw c.then_some.ensures (by_block _ _ _ _ _ c.gather-g.ensures.result c.gather-g.ensures.bytes (omega arith) (omega arith)) }
