use mathlib.Core.Path.{◌≡◌}
use lib.ListN.{drop}
use Rattle.rows.specs.Words.{rows_of}
use Rattle.rows.specs.declared.Table.TheVariants.{Windows}
use Rattle.entries.specs.Entries.{sooner, soonest}
use Rattle.entries.proofs.soonest_end.Given as goal

abbrev pub invariant-loop-i : goal.invariant-loop-i
invariant-loop-i l = sooner l.end (soonest (drop l.i (rows_of Windows l.l))) ≡ soonest (rows_of Windows l.l)
