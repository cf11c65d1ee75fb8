use Prim.Native.Nat.{◌≤◌}
use mathlib.Core.Path.{◌≡◌}
use lib.ListN.{length, take}
use Rattle.rows.specs.Rows.{marked}
use Rattle.rows.specs.Words.{places_of, rows_of, filled, start_of}
use Rattle.rows.proofs.Tables.{Holds}
use Rattle.rows.proofs.pack.Given as goal

abbrev pub invariant-loop-i : goal.invariant-loop-i
invariant-loop-i l = (l.m ≤ l.i) × (l.m ≡ length (marked (take l.i l.marks) (take l.i (rows_of l.table l.initial.l)))) × Holds (start_of l.table) l.initial.l l.l (filled (marked (take l.i l.marks) (take l.i (rows_of l.table l.initial.l))) (places_of (start_of l.table) l.initial.l))
