use Prim.Native.Nat.{◌≤◌}
use mathlib.Core.Path.{◌≡◌}
use lib.ListN.{length, take}
use Rattle.rows.specs.declared.Keep.TheVariants.{Below}
use Rattle.rows.specs.Rows.{kept}
use Rattle.rows.specs.Words.{places_of, divided, start_of}
use Rattle.rows.proofs.Tables.{Holds}
use Rattle.rows.proofs.divide.Given as goal

abbrev pub invariant-loop-i : goal.invariant-loop-i
invariant-loop-i l = (l.m ≤ l.i) × (l.m ≡ length (kept (Below l.key) (take l.i (places_of (start_of l.table) l.initial.l)))) × Holds (start_of l.table) l.initial.l l.l (divided l.key l.i (places_of (start_of l.table) l.initial.l))
