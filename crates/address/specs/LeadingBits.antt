-- When the leading bits of two numbers agree (RULES.md, section 6).
use Rattle.std.specs.Prelude.{ℕ, ◌-◌, ◌/◌, ◌^◌, Bool, eqb}

-- the leading len bits of a and p, numbers of w bits, are the same
unfoldable pub same_leading_bits : ℕ → ℕ → ℕ → ℕ → Bool
same_leading_bits w len a p = eqb (a / 2 ^ (w - len)) (p / 2 ^ (w - len))
