use mathlib.Core.Path.{◌≡◌}
use lib.ListN.{drop}
use Rattle.rows.specs.Rows.{find_in}
use Rattle.rows.specs.Words.{rows_of}
use Rattle.rows.proofs.find.Given as goal

abbrev pub invariant-loop-i : goal.invariant-loop-i
invariant-loop-i l = find_in l.key (rows_of l.table l.l) ≡ find_in l.key (drop l.i (rows_of l.table l.l))
