use Prim.Native.Nat.{◌-◌}
use mathlib.Core.Path.{◌≡◌}
use mathlib.Core.List.{◌++◌, map}
use lib.ListN.{take, replicate}
use Rattle.rows.specs.declared.Table.TheVariants.{Dials}
use Rattle.rows.specs.Words.{rows_of}
use Rattle.dials.specs.Dials.{asked_of}
use Rattle.live_dials.proofs.asked_rows.Given as goal

abbrev pub invariant-loop-k : goal.invariant-loop-k
invariant-loop-k l = l.asked ≡ map (asked_of l.target) (take l.k (rows_of Dials l.l)) ++ replicate (64 - l.k) l.target
