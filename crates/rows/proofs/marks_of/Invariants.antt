use Prim.Native.Nat.{◌-◌}
use mathlib.Core.Path.{◌≡◌}
use mathlib.Core.Bool.{false}
use mathlib.Core.List.{◌++◌, map}
use lib.ListN.{take, replicate}
use Rattle.rows.specs.Rows.{keeps_row}
use Rattle.rows.specs.Words.{rows_of}
use Rattle.rows.proofs.marks_of.Given as goal

abbrev pub invariant-loop-i : goal.invariant-loop-i
invariant-loop-i l = l.marks ≡ map (keeps_row l.keep) (take l.i (rows_of l.table l.l)) ++ replicate (64 - l.i) false
