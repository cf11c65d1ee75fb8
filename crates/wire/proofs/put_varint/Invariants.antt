-- Storing the groups still to come gives what storing all gives.
use mathlib.Core.Path.{◌≡◌}
use Prim.Native.Nat.{◌+◌, ◌≤◌, ◌<◌, ◌-◌, ◌*◌, ◌^◌}
use lib.Seq.{sets}
use Rattle.wire.specs.Varint.{groups, encoded}
use Rattle.wire.proofs.put_varint.Given as goal

abbrev pub invariant-loop-p : goal.invariant-loop-p
invariant-loop-p l = (l.at ≤ l.p) × (l.p ≤ l.at + 9) × (l.v < 2 ^ (7 * (10 + l.at - l.p))) × (sets l.out l.p (groups (9 + l.at - l.p) l.v) ≡ sets l.initial.out l.at (encoded l.value))
