use Rattle.line_program.proofs.GoingOn.{goes_on, begun, unended}
use native.Mathlib.Omega.{arith}
use mathlib.Core.Path.{refl, sym, ◌∙◌}
use Rattle.line_program.proofs.next_line.Goals as goal

pub loop-turn-init : goal.loop-turn-init
loop-turn-init c = (omega arith, omega arith, begun _ _ _ _ c.min-stop.ensures)

pub loop-turn-preserved : goal.loop-turn-preserved
loop-turn-preserved c = (omega arith, omega arith, goes_on c.loop-turn.invariant.2 (unended _ (sym c.is_some.ensures ∙ c.if-is_some.false)).0 (unended _ (sym c.is_some.ensures ∙ c.if-is_some.false)).1 c.read_on-s.ensures.read refl)

pub returns-clause-read : goal.returns-clause-read
returns-clause-read c = record { read = c.loop-turn.invariant.2.read; long = λ e m. omega (arith, c.loop-turn.invariant.2.taken e m) }
