use mathlib.Core.Path.{◌≡◌}
use Prim.Native.Nat.{◌≤◌, ◌+◌, ◌*◌}
use lib.ListN.{length, drop}
use Rattle.text.specs.Words.{length_before}
use Rattle.text.proofs.length_before.Given as goal

abbrev pub invariant-loop-part : goal.invariant-loop-part
invariant-loop-part l = (l.passed ≡ l.part-index * 16) × (l.passed ≤ length l.text) × (length_before l.stop l.text ≡ l.passed + length_before l.stop (drop l.passed l.text))
