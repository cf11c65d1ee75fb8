-- The parts of an address, joined, are read as what they stand for. Assumes nothing.
use mathlib.Core.Path.{◌≡◌, refl, ap, ◌∙◌}
use mathlib.Core.Bool.{Bool, true, false}
use mathlib.Core.List.{List, [], ◌∷◌, ◌++◌, append_assoc}
use Prim.Native.Nat.{ℕ, suc, ◌+◌}
use native.Mathlib.Omega.{arith}
use borrow.Author.Tests.{eq-eqb, ne_eqb, le-leb}
use lib.Dec.{eqb, leb}
use lib.ListN.{length, get_or, take, drop, length-append}
use lib.Seq.{take-append_seam, drop-append-add, drop_at, get_or-append-add}
use Rattle.std.specs.Prelude.{Some}
use Rattle.prelude.specs.Choice.{both}
use Rattle.address.specs.Multiaddr.{big_endian, is_name, ends_well, has_form, parsed}
use Rattle.address.specs.declared.Ip.{Ip}
use Rattle.address_laws.specs.Bytes.{Ending, bare, named, joined, Stands, v4, v6}

ends : (end : List ℕ) → Ending end → ends_well end ≡ true
unfolding ends_well is_name
ends [] bare = refl
ends (a ∷ s) (named name l m) =
    let e : eqb (suc (suc (suc (length name)))) (3 + length name) ≡ true = eq-eqb (suc (suc (suc (length name)))) (3 + length name) (omega arith) in
    rw (le-leb 1 (length name) l, le-leb (length name) 127 m) e

-- a part of the right length is taken whole
pub taken : (n : ℕ) (xs ys : List ℕ) → length xs ≡ n → take n (xs ++ ys) ≡ xs
taken n xs ys e = rw (← e) (take-append_seam xs ys)

module _ (family n : ℕ) (ip port end : List ℕ) (li : length ip ≡ n) (lp : length port ≡ 2) where
  abbrev behind_port : List ℕ
  behind_port = 0xcd ∷ 0x03 ∷ end

  abbrev behind_ip : List ℕ
  behind_ip = 0x91 ∷ 0x02 ∷ (port ++ behind_port)

  abbrev whole : List ℕ
  whole = joined family ip port end

  past_ip : (m k : ℕ) → m ≡ n + 1 + k → get_or whole m 0 ≡ get_or behind_ip k 0
  past_ip m k h = let e : m ≡ length (family ∷ ip) + k = omega arith in rw e (get_or-append-add (family ∷ ip) behind_ip k 0)

  past_port : (k : ℕ) → get_or (port ++ behind_port) (2 + k) 0 ≡ get_or behind_port k 0
  past_port k = rw (← lp) (get_or-append-add port behind_port k 0)

  left_behind : (m k : ℕ) → m ≡ n + 1 + k → drop m whole ≡ drop k behind_ip
  left_behind m k h = let e : m ≡ length (family ∷ ip) + k = omega arith in rw e (drop-append-add (family ∷ ip) behind_ip k)

  pub ending : drop (n + 7) whole ≡ end
  ending =
      let g : drop 4 (port ++ behind_port) ≡ end = let k : 4 ≡ length port + 2 = omega arith in rw k (drop-append-add port behind_port 2) in
      left_behind (n + 7) 6 (omega arith) ∙ g

  pub formed : Ending end → has_form family n whole ≡ true
  unfolding has_form
  formed q =
      let l : leb (n + 7) (length whole) ≡ true = le-leb (n + 7) (length whole) (omega (arith, length-append ip behind_ip, length-append port behind_port)) in
      let u1 : get_or whole (n + 1) 0 ≡ 0x91 = past_ip (n + 1) 0 (omega arith) in
      let u2 : get_or whole (n + 2) 0 ≡ 0x02 = past_ip (n + 2) 1 (omega arith) in
      let q1 : get_or whole (n + 5) 0 ≡ 0xcd = past_ip (n + 5) 4 (omega arith) ∙ past_port 0 in
      let q2 : get_or whole (n + 6) 0 ≡ 0x03 = past_ip (n + 6) 5 (omega arith) ∙ past_port 1 in
      let f : eqb family family ≡ true = eq-eqb family family refl in
      rw (l, f, u1, u2, q1, q2, ending) (ends end q)

  pub ip_number : big_endian 0 (take n (drop 1 whole)) ≡ big_endian 0 ip
  ip_number = ap (big_endian 0) (taken n ip behind_ip li)

  pub port_number : big_endian 0 (take 2 (drop (n + 3) whole)) ≡ big_endian 0 port
  port_number = ap (big_endian 0) (rw (left_behind (n + 3) 2 (omega arith)) (taken 2 port behind_port lp))

lows : (high low rest : List ℕ) → length high ≡ 8 → length low ≡ 8 → take 8 (drop 8 (high ++ (low ++ rest))) ≡ low
lows high low rest lh ll = rw (drop_at high (low ++ rest) 8 lh) (taken 8 low rest ll)

other_family : (family n : ℕ) (s : List ℕ) → (get_or s 0 0 ≡ family → ⊥) → has_form family n s ≡ false
unfolding has_form
other_family family n s d = rw (ne_eqb (get_or s 0 0) family d) (go (leb (n + 7) (length s)))
  where
    go : (t : Bool) → both t false ≡ false
    go true = refl
    go false = refl

pub read_as : (a : List ℕ) (ip : Ip) (port : ℕ) → Stands a ip port → parsed a ≡ Some (ip, port)
unfolding parsed
read_as a ip port (v4 bytes at end li lp q) =
    rw (formed 0x04 4 bytes at end li lp q, ip_number 0x04 4 bytes at end li lp, port_number 0x04 4 bytes at end li lp)
read_as a ip port (v6 high low at end lh ll lp q) =
    let li : length (high ++ low) ≡ 16 = omega (arith, length-append high low) in
    let h : take 8 (drop 1 (joined 0x29 (high ++ low) at end)) ≡ high = rw (append_assoc high low (behind_ip 0x29 16 (high ++ low) at end li lp)) (taken 8 high _ lh) in
    let l : take 8 (drop 9 (joined 0x29 (high ++ low) at end)) ≡ low = rw (append_assoc high low (behind_ip 0x29 16 (high ++ low) at end li lp)) (lows high low _ lh ll) in
    rw (other_family 0x04 4 (joined 0x29 (high ++ low) at end) (λ e. omega arith), formed 0x29 16 (high ++ low) at end li lp q, h, l, port_number 0x29 16 (high ++ low) at end li lp)
