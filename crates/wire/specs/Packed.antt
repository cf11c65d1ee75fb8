-- Bytes in front of zeros.
use Rattle.std.specs.Prelude.{ℕ, List, length}
use Rattle.prelude.specs.Lists.{padded}
use Rattle.wire.specs.declared.Packed.{Packed}

-- bytes, and zero bytes behind them up to n in all
abbrev pub packed : (n : ℕ) → List ℕ → Packed n
packed n s = record { bytes = padded n 0 s; len = length s }
