use mathlib.Core.Path.{◌≡◌}
use lib.ListN.{take, drop}
use mathlib.Core.List.{◌++◌}
use Prim.Native.Nat.{◌*◌}
use Rattle.text.specs.Hexadecimal.{bytes_of}
use Rattle.text.proofs.convert.Given as goal

abbrev pub invariant-loop-i : goal.invariant-loop-i
invariant-loop-i l = take l.i l.part ++ bytes_of (drop (2 * l.i) l.text) ≡ bytes_of l.text
