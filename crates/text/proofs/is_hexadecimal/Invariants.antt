use mathlib.Core.Path.{◌≡◌}
use lib.ListN.{drop}
use Rattle.prelude.specs.Choice.{both}
use Rattle.text.specs.Hexadecimal.{is_hexadecimal}
use Rattle.text.proofs.Reading.{all_digits}
use Rattle.text.proofs.is_hexadecimal.Given as goal

abbrev pub invariant-loop-b : goal.invariant-loop-b
invariant-loop-b l = is_hexadecimal l.text ≡ both l.good (all_digits (drop l.b-index l.text))
