-- How a varint is written: one group after the other, the least significant first.
-- Assumes nothing.
use mathlib.Core.Path.{◌≡◌, refl, sym, ap, ◌∙◌}
use mathlib.Core.Bool.{Bool, true, false}
use mathlib.Core.List.{List, [], ◌∷◌}
use Prim.Native.Nat.{ℕ, zero, suc, ◌+◌, ◌-◌, ◌*◌, ◌/◌, ◌%◌, ◌^◌, ◌<◌, ◌≤◌, max}
use native.Mathlib.Omega.{arith}
use lib.Pow.{pow-add, pow_pos, pow_mono}
use lib.Dec.{ltb}
use native.Mathlib.Numerals.{add-one}
use lib.ListN.{length, set}
use lib.Seq.{sets}
use borrow.Author.Tests.{lt-ltb, le-ltb, ltb-true, ltb-false}
use Rattle.prelude.specs.Choice.{pick}
use Rattle.wire.specs.Varint.{groups, encoded}

-- the number below 128 is one group, whatever the count
pub last_one : (n v : ℕ) → v < 128 → groups n v ≡ v ∷ []
unfolding groups
last_one zero v h = refl
last_one (suc n) v h = rw (lt-ltb v 128 h)

-- at k groups left, a number of 7 k bits that is no last group
module _ (k v : ℕ) (h : v < 2 ^ (7 * k)) (g : 128 ≤ v) where
  pub not_last : 1 < k
  not_last = go k h
    where
      go : (k : ℕ) → v < 2 ^ (7 * k) → 1 < k
      go zero l = absurd (omega arith)
      go (suc zero) l = absurd (omega arith)
      go (suc (suc k)) l = omega arith

  pub less_room : v / 128 < 2 ^ (7 * (k - 1))
  less_room =
      let p : 1 < k = not_last in
      let e : 7 * k ≡ 7 * (k - 1) + 7 = omega arith in
      let l : v < 2 ^ (7 * (k - 1)) * 2 ^ 7 = rw (e, pow-add 2 (7 * (k - 1)) 7) at h in
      omega arith

  pub one_more : groups (k - 1) v ≡ (128 + v % 128) ∷ groups (k - 2) (v / 128)
  unfolding groups
  one_more =
      let p : 1 < k = not_last in
      let e : k - 1 ≡ suc (k - 2) = omega arith in
      rw (e, le-ltb v 128 g)

-- one group for each seven bits
bits_counted : (n v r : ℕ) → 2 ^ r ≤ v → v < 2 * 2 ^ r → r < 7 * suc n → length (groups n v) ≡ r / 7 + 1
unfolding groups
bits_counted zero v r h g k = omega arith
bits_counted (suc n) v r h g k = go (ltb r 7) refl (bits_counted n (v / 128) (r - 7))
  where
    go : (t : Bool) → ltb r 7 ≡ t → (2 ^ (r - 7) ≤ v / 128 → v / 128 < 2 * 2 ^ (r - 7) → r - 7 < 7 * suc n → length (groups n (v / 128)) ≡ (r - 7) / 7 + 1)
        → length (pick (ltb v 128) (v ∷ []) ((128 + v % 128) ∷ groups n (v / 128))) ≡ r / 7 + 1
    go true e f =
        let l : r < 7 = ltb-true _ _ e in
        let m : 2 ^ r ≤ 64 = pow_mono {i = r} {j = 6} (omega arith) in
        rw (lt-ltb v 128 (omega arith)) (omega arith)
    go false e f =
        let l : 7 ≤ r = ltb-false _ _ e in
        let p : 2 ^ r ≡ 2 ^ (r - 7) * 128 = let q : r ≡ (r - 7) + 7 = omega arith in ap (λ (x : ℕ). 2 ^ x) q ∙ pow-add 2 (r - 7) 7 in
        let m : 1 ≤ 2 ^ (r - 7) = pow_pos (r - 7) in
        rw (le-ltb v 128 (omega arith)) (omega (arith, f (omega arith) (omega arith) (omega arith)))

pub shortest : (v r m : ℕ) → m ≡ max v 1 → 2 ^ r ≤ m → m < 2 * 2 ^ r → r < 64 → r / 7 + 1 ≡ length (encoded v)
unfolding groups
shortest zero r m e h g k = let z : m ≡ 1 = omega arith in sym (bits_counted 9 1 r (rw z at h) (rw z at g) (omega arith))
shortest (suc v) r m e h g k = let z : m ≡ suc v = omega arith in sym (bits_counted 9 (suc v) r (rw z at h) (rw z at g) (omega arith))

-- p - at groups are stored, and one more is
module _ (o : List ℕ) (at p v : ℕ) (m : at ≤ p) (h : v < 2 ^ (7 * (10 + at - p))) (g : 128 ≤ v) where
  some_left : 1 < 10 + at - p
  some_left = not_last (10 + at - p) v h g

  this : groups (9 + at - p) v ≡ (128 + v % 128) ∷ groups (9 + at - (p + 1)) (v / 128)
  this =
      let l : 1 < 10 + at - p = some_left in
      let e : 9 + at - p ≡ (10 + at - p) - 1 = omega arith in
      let d : 9 + at - (p + 1) ≡ (10 + at - p) - 2 = omega arith in
      rw (e, d) (one_more (10 + at - p) v h g)

  pub stored_room : v / 128 < 2 ^ (7 * (10 + at - (p + 1)))
  stored_room =
      let l : 1 < 10 + at - p = some_left in
      let e : 10 + at - (p + 1) ≡ (10 + at - p) - 1 = omega arith in
      rw e (less_room (10 + at - p) v h g)

  pub stores_on : sets (set o p (128 + v % 128)) (p + 1) (groups (9 + at - (p + 1)) (v / 128)) ≡ sets o p (groups (9 + at - p) v)
  stores_on = rw (this, add-one p)

pub stores_last : (o : List ℕ) (p n v : ℕ) → v < 128 → set o p v ≡ sets o p (groups n v)
stores_last o p n v h = rw (last_one n v h)
