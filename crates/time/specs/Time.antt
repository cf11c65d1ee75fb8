-- Sums of times (RULES.md, section 1.1).
use Rattle.std.specs.Prelude.{ℕ, ◌+◌, min}
use Rattle.prelude.specs.Numbers.{max_u64}

-- the largest time
abbrev pub last : ℕ
last = max_u64

-- a sum of times, kept at the largest time when larger
unfoldable pub plus : ℕ → ℕ → ℕ
plus a b = min (a + b) last
