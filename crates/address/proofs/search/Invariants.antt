use mathlib.Core.Path.{◌≡◌}
use lib.ListN.{drop}
use Rattle.address.specs.Ranges.{first_row}
use Rattle.address.proofs.search.Given as goal

abbrev pub invariant-loop-row : goal.invariant-loop-row
invariant-loop-row l = first_row l.ip l.rows ≡ first_row l.ip (drop l.row-index l.rows)
