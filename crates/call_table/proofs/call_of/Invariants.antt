use mathlib.Core.Path.{◌≡◌}
use Prim.Native.Nat.{◌+◌, ◌≤◌}
use lib.ListN.{length}
use Rattle.call_table.specs.Tables.{call_of, call_from}
use Rattle.call_table.proofs.call_of.Given as goal

abbrev pub invariant-loop-row : goal.invariant-loop-row
invariant-loop-row l =
    ((goal.iterator-loop-row).can_next l.row-iterator × (goal.iterator-loop-row).is_finite l.row-iterator)
    × (l.row-iterator.count + length l.row-iterator.iter ≤ length l.table)
    × (call_of l.table l.line ≡ call_from l.line l.row-iterator.count l.row-iterator.iter)
