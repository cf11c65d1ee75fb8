-- The loop's invariant, with what starts it, what a turn does to it, and what it says at the end.
-- Assumes nothing.
use mathlib.Core.Path.{◌≡◌}
use mathlib.Core.List.{List, [], ◌∷◌}
use Prim.Native.Nat.{ℕ, ◌+◌, ◌≤◌}
use native.Mathlib.Omega.{arith}
use native.Mathlib.Nat.{zero-add}
use lib.ListN.{length}
use Rattle.prelude.specs.Lists.{count}
use Rattle.address.specs.declared.Ip.{Ip}
use Rattle.candidates.specs.Entries.{in_family, has_ip}
use Rattle.candidates.specs.Selection.{counted}
use Rattle.candidates.specs.OnePass.{tallied}
use Rattle.candidates.specs.declared.Counts.{Counts}
use Rattle.candidates.proofs.Answers.{bit_le}

-- ---- tally_all: n is what the addresses before those left give
pub record Counting (all : List (List ℕ)) (ip : Ip) (n : Counts) (left : List (List ℕ)) : Type 0 where
  pub family_small : n.family ≤ n.total
  pub ip_small : n.ip ≤ n.total
  pub total_is : n.total + length left ≡ length all
  pub family_is : n.family + count (in_family ip) left ≡ count (in_family ip) all
  pub ip_is : n.ip + count (has_ip ip) left ≡ count (has_ip ip) all

module _ {all : List (List ℕ)} {ip : Ip} {n : Counts} where
  pub count_more : {left : List (List ℕ)} {a : List ℕ} {m : Counts} → Counting all ip n (a ∷ left) → m ≡ tallied ip n a → Counting all ip m left
  unfolding count
  count_more {left} {a} h q = rw q
      (let f = bit_le (in_family ip a) in
      let i = bit_le (has_ip ip a) in
      let x = h.total_is in
      let y = h.family_is in
      let z = h.ip_is in
      let u = h.family_small in
      let v = h.ip_small in
      record { family_small = omega arith; ip_small = omega arith; total_is = omega arith; family_is = omega arith; ip_is = omega arith })

  pub count_all : Counting all ip n [] → n ≡ counted ip all
  unfolding count
  count_all h =
      let t : n.total ≡ length all = omega (arith, h.total_is) in
      let f : n.family ≡ count (in_family ip) all = omega (arith, h.family_is) in
      let i : n.ip ≡ count (has_ip ip) all = omega (arith, h.ip_is) in
      λ k. record { total = t k; family = f k; ip = i k }
