-- The size of a varint that was read.
-- Assumes nothing.
use mathlib.Core.Path.{◌≡◌, sym, ◌∙◌}
use mathlib.Core.List.{List}
use Prim.Native.Nat.{ℕ, ◌<◌, ◌≤◌}
use lib.ListN.{length}
use Rattle.std.specs.Prelude.{Option, Some, ℕ}
use Rattle.wire.specs.Varint.{varint_of}
use Rattle.wire.proofs.Spans.{varint_size}

-- what a varint that was read says of its size
pub size_of : (s : List ℕ) {v n : ℕ} {r : Option (ℕ × ℕ)} → r ≡ varint_of s → r ≡ Some (v, n) → (0 < n) × (n ≤ length s) × (n ≤ 10)
size_of s {v} {n} e d = varint_size s v n (sym d ∙ e)
