-- Line feeds in a text that is joined of two. Assumes nothing.
use mathlib.Core.Path.{◌≡◌}
use mathlib.Core.List.{List, [], ◌∷◌, ◌++◌}
use mathlib.Core.Bool.{Bool, true, false}
use Prim.Native.Nat.{ℕ, suc, ◌+◌}
use native.Mathlib.Omega.{arith}
use lib.Dec.{eqb}
use lib.ListN.{length}
use Rattle.prelude.specs.Choice.{pick}
use Rattle.text.specs.Words.{length_before}

-- behind a text without a line feed the next one is that of the other text
pub joined : (s t : List ℕ) → length_before 10 s ≡ length s → length_before 10 (s ++ t) ≡ length s + length_before 10 t
unfolding length_before
joined [] t p = omega arith
joined (b ∷ s) t p = go (eqb b 10) p (joined s t)
  where
    go : (v : Bool) → pick v 0 (suc (length_before 10 s)) ≡ suc (length s) → (length_before 10 s ≡ length s → length_before 10 (s ++ t) ≡ length s + length_before 10 t)
        → pick v 0 (suc (length_before 10 (s ++ t))) ≡ suc (length s) + length_before 10 t
    go true e f = absurd (omega arith)
    go false e f = omega (arith, f (omega arith))
