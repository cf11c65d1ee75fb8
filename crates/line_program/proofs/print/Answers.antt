use mathlib.Core.Path.{◌≡◌}
use Prim.Native.Nat.{ℕ}
use lib.ListN.{length-take}
use native.Mathlib.Omega.{arith}
use Rattle.line_program.proofs.print.Goals as goal

pub returns-then-text-n : goal.returns-then-text-n
returns-then-text-n c = λ e. let z : ◌≡◌ {A = ℕ} 0 1 = cc in absurd (omega arith)

pub slice_bounds-write_all-end : goal.slice_bounds-write_all-end
slice_bounds-write_all-end c = simp length-take (omega arith)

pub returns : goal.returns
returns c = λ e. omega arith
