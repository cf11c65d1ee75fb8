use mathlib.Core.Path.{◌≡◌}
use lib.ListN.{drop}
use Rattle.text.specs.Decimal.{digits_from}
use Rattle.text.proofs.read_digits.Given as goal

abbrev pub invariant-loop-b : goal.invariant-loop-b
invariant-loop-b l = digits_from 0 l.text ≡ digits_from l.v (drop l.b-index l.text)
