-- A printed text by another name, and bytes read from hexadecimal. Assumes nothing.
use mathlib.Core.Path.{◌≡◌, refl, ap, subst}
use mathlib.Core.List.{List, [], ◌∷◌}
use mathlib.Core.Bool.{Bool, true, false}
use Prim.Native.Nat.{ℕ, zero, suc, ◌+◌, ◌*◌, ◌≤◌}
use native.Mathlib.Omega.{arith}
use lib.ListN.{length, take, replicate}
use Rattle.prelude.specs.Choice.{pick}
use Rattle.text.specs.Hexadecimal.{digit_value, is_pair, bytes_of}
use Rattle.text.proofs.Printing.{Laid}

-- a printed text by another name
pub renamed : {o : List ℕ} {p : ℕ} {t u x : List ℕ} {q : ℕ} → t ≡ u → Laid o p t x q → Laid o p u x q
renamed {o} {p} {x} {q} e l = subst (λ (s : List ℕ). Laid o p s x q) e l

-- bytes are fewer than their digits
pub bytes_shorter : (s : List ℕ) → length (bytes_of s) ≤ length s
unfolding bytes_of
bytes_shorter [] = omega arith
bytes_shorter (a ∷ []) = omega arith
bytes_shorter (a ∷ b ∷ s) = go (is_pair a b) (bytes_shorter s)
  where
    go : (t : Bool) → length (bytes_of s) ≤ length s → length (pick t ((digit_value a * 16 + digit_value b) ∷ bytes_of s) []) ≤ suc (suc (length s))
    go true h = omega arith
    go false h = omega arith

pub take_replicate : (n m a : ℕ) → n ≤ m → take n (replicate m a) ≡ replicate n a
take_replicate zero m a h = refl
take_replicate (suc n) zero a h = absurd (omega arith)
take_replicate (suc n) (suc m) a h = ap (λ (r : List ℕ). a ∷ r) (take_replicate n m a (omega arith))
