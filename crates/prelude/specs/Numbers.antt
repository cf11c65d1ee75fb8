-- Numbers of 64 bits (RULES.md, section 1.1).
use Rattle.std.specs.Prelude.{ℕ, ◌-◌, ◌^◌}

-- the largest
abbrev pub max_u64 : ℕ
max_u64 = 2 ^ 64 - 1
