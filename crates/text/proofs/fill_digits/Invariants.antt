use mathlib.Core.Path.{◌≡◌}
use mathlib.Core.List.{◌++◌}
use lib.ListN.{length, take, drop}
use Prim.Native.Nat.{◌*◌}
use Rattle.text.specs.Hexadecimal.{hexadecimal}
use Rattle.text.proofs.fill_digits.Given as goal

abbrev pub invariant-loop-i : goal.invariant-loop-i
invariant-loop-i l = (length l.part ≡ 2 * length l.bytes) × (take (2 * l.i) l.part ++ hexadecimal (drop l.i l.bytes) ≡ hexadecimal l.bytes)
