use mathlib.Core.Path.{sym, ◌∙◌}
use native.Mathlib.Omega.{arith}
use Rattle.text.proofs.Reading.{next_digit, no_digit}
use Rattle.text.proofs.read_digits.Goals as goal

pub returns-in_err-v : goal.returns-in_err-v
returns-in_err-v c = c.from_residual.ensures ∙ sym (next_digit _ _ _ c.loop-b.invariant c.loop-b-test.true (sym c.in_err-v.was ∙ c.with_digit.ensures))

pub loop-b-preserved : goal.loop-b-preserved
loop-b-preserved c = next_digit _ _ _ c.loop-b.invariant c.loop-b-test.true (sym c.in_ok-v.was ∙ c.with_digit.ensures)

pub returns : goal.returns
returns c = no_digit _ _ _ c.loop-b.invariant (omega arith)
