-- What is written is read again: the shortest form of a number of 64 bits stands for it, whatever follows.
-- Assumes nothing.
use mathlib.Core.Path.{◌≡◌, refl}
use mathlib.Core.List.{List, [], ◌∷◌, ◌++◌}
use mathlib.Core.Bool.{Bool, true, false}
use Prim.Native.Nat.{ℕ, zero, suc, ◌+◌, ◌*◌, ◌/◌, ◌%◌, ◌^◌, ◌<◌, ◌≤◌}
use native.Mathlib.Omega.{arith}
use lib.Pow.{pow-add}
use lib.Dec.{ltb}
use lib.ListN.{length, get_or, take}
use lib.Seq.{take-append_seam}
use borrow.Author.Tests.{lt-ltb, le-ltb, le-leb, ne_eqb, ltb-true, ltb-false}
use Rattle.std.specs.Prelude.{Some, Option}
use Rattle.prelude.specs.Choice.{pick}
use Rattle.wire.specs.Varint.{value_of, behind, span_of, valued, varint_of, groups, encoded}

less : (n v k : ℕ) → v < 2 ^ (7 * suc n + k) → v / 128 < 2 ^ (7 * n + k)
less n v k h =
    let e : 7 * suc n + k ≡ (7 * n + k) + 7 = omega arith in
    let l : v < 2 ^ (7 * n + k) * 2 ^ 7 = rw (e, pow-add 2 (7 * n + k) 7) at h in
    omega arith

number_again : (n v : ℕ) → v < 2 ^ (7 * n + 7) → value_of (groups n v) ≡ v
unfolding value_of groups
number_again zero v h = omega arith
number_again (suc n) v h = go (ltb v 128) refl (number_again n (v / 128) (less n v 7 h))
  where
    go : (t : Bool) → ltb v 128 ≡ t → value_of (groups n (v / 128)) ≡ v / 128 → value_of (pick t (v ∷ []) ((128 + v % 128) ∷ groups n (v / 128))) ≡ v
    go true e q = omega (arith, ltb-true v 128 e)
    go false e q = omega arith

-- there is a group at least
pub groups_some : (n v : ℕ) → 0 < length (groups n v)
unfolding groups
groups_some zero v = omega arith
groups_some (suc n) v = go (ltb v 128)
  where
    go : (t : Bool) → 0 < length (pick t (v ∷ []) ((128 + v % 128) ∷ groups n (v / 128)))
    go true = omega arith
    go false = omega arith

behind_some : (k : ℕ) → 0 < k → behind k ≡ suc k
behind_some zero h = absurd (omega arith)
behind_some (suc k) h = refl

span_again : (n m v : ℕ) (rest : List ℕ) → n < m → v < 2 ^ (7 * n + 7) → span_of m (groups n v ++ rest) ≡ length (groups n v)
unfolding span_of groups
span_again n zero v rest l h = absurd (omega arith)
span_again zero (suc m) v rest l h = rw (lt-ltb v 128 h)
span_again (suc n) (suc m) v rest l h = go (ltb v 128) refl (span_again n m (v / 128) rest (omega arith) (less n v 7 h))
  where
    go : (t : Bool) → ltb v 128 ≡ t → span_of m (groups n (v / 128) ++ rest) ≡ length (groups n (v / 128))
        → span_of (suc m) (pick t (v ∷ []) ((128 + v % 128) ∷ groups n (v / 128)) ++ rest) ≡ length (pick t (v ∷ []) ((128 + v % 128) ∷ groups n (v / 128)))
    go true e q = rw e
    go false e q =
        let b : 128 ≤ 128 + v % 128 = omega arith in
        rw (le-ltb (128 + v % 128) 128 b, q) (behind_some _ (groups_some n (v / 128)))

-- the group at n is the last, and small
last_small : (n v : ℕ) (rest : List ℕ) → v < 2 ^ (7 * n + 1) → length (groups n v) ≡ suc n → get_or (groups n v ++ rest) n 0 ≤ 1
unfolding groups
last_small zero v rest h l = omega arith
last_small (suc n) v rest h l = go (ltb v 128) l (last_small n (v / 128) rest (less n v 1 h))
  where
    go : (t : Bool) → length (pick t (v ∷ []) ((128 + v % 128) ∷ groups n (v / 128))) ≡ suc (suc n) → (length (groups n (v / 128)) ≡ suc n → get_or (groups n (v / 128) ++ rest) n 0 ≤ 1)
        → get_or (pick t (v ∷ []) ((128 + v % 128) ∷ groups n (v / 128)) ++ rest) (suc n) 0 ≤ 1
    go true l f = absurd (omega arith)
    go false l f = f (omega arith)

pub groups_most : (n v : ℕ) → length (groups n v) ≤ suc n
unfolding groups
groups_most zero v = omega arith
groups_most (suc n) v = go (ltb v 128) (groups_most n (v / 128))
  where
    go : (t : Bool) → length (groups n (v / 128)) ≤ suc n → length (pick t (v ∷ []) ((128 + v % 128) ∷ groups n (v / 128))) ≤ suc (suc n)
    go true h = omega arith
    go false h = omega arith

-- a number is at least as large as its form is long, less one
pub groups_short : (n v : ℕ) → length (groups n v) ≤ v + 1
unfolding groups
groups_short zero v = omega arith
groups_short (suc n) v = go (ltb v 128) refl (groups_short n (v / 128))
  where
    go : (t : Bool) → ltb v 128 ≡ t → length (groups n (v / 128)) ≤ v / 128 + 1 → length (pick t (v ∷ []) ((128 + v % 128) ∷ groups n (v / 128))) ≤ v + 1
    go true e h = omega arith
    go false e h = omega (arith, ltb-false v 128 e)

-- reading what was written gives the number back, whatever follows
pub read_written : (v : ℕ) (rest : List ℕ) → v < 2 ^ 64 → varint_of (encoded v ++ rest) ≡ Some (v, length (encoded v))
unfolding varint_of
read_written v rest h = rw (span_again 9 10 v rest (omega arith) w) (go (ltb (length (encoded v)) 10) refl)
  where
    w : v < 2 ^ (7 * 9 + 7)
    w = omega arith

    same : ◌≡◌ {A = Option (ℕ × ℕ)} (Some (value_of (take (length (encoded v)) (encoded v ++ rest)), length (encoded v))) (Some (v, length (encoded v)))
    same = rw (take-append_seam (encoded v) rest, number_again 9 v w)

    some : length (encoded v) ≡ 0 → ⊥
    some e = omega (arith, groups_some 9 v)

    go : (t : Bool) → ltb (length (encoded v)) 10 ≡ t → valued (length (encoded v)) (encoded v ++ rest) ≡ Some (v, length (encoded v))
    go true e = rw (ne_eqb (length (encoded v)) 0 some, e) same
    go false e =
        let l : length (encoded v) ≡ 10 = omega (arith, ltb-false (length (encoded v)) 10 e, groups_most 9 v) in
        rw (ne_eqb (length (encoded v)) 0 some, e, le-leb (get_or (encoded v ++ rest) 9 0) 1 (last_small 9 v rest h l)) same
