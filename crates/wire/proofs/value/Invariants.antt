-- The number so far is that of the groups from i on, and there is room for those before them.
use mathlib.Core.Path.{◌≡◌}
use Prim.Native.Nat.{◌<◌, ◌-◌, ◌*◌, ◌^◌}
use lib.ListN.{drop, take}
use Rattle.wire.specs.Varint.{value_of}
use Rattle.wire.proofs.value.Given as goal

abbrev pub invariant-loop-i : goal.invariant-loop-i
invariant-loop-i l = (l.v < 2 ^ (64 - 7 * l.i)) × (l.v ≡ value_of (drop l.i (take l.n l.s)))
