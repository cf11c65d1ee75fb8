-- A buffer into which nothing is printed. Assumes nothing.
use mathlib.Core.Path.{◌≡◌, refl}
use mathlib.Core.List.{List, []}
use Prim.Native.Nat.{ℕ}
use native.Mathlib.Omega.{arith}
use Rattle.text.specs.Printed.{printed, behind}

pub unprinted : (o : List ℕ) → printed o 0 [] ≡ o
unfolding printed
unprinted o = refl

pub at_start : (o : List ℕ) → behind o 0 [] ≡ 0
unfolding behind
at_start o = omega arith
