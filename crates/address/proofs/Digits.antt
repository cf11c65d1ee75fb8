-- Numbers to the base 256, the first digit first.
-- Assumes nothing.
use mathlib.Core.Path.{◌≡◌, refl, sym, ◌∙◌}
use mathlib.Core.List.{List, [], ◌∷◌}
use mathlib.Core.Bool.{Bool, true, false}
use borrow.Author.Tests.{eqb-true, leb-true}
use Prim.Native.Nat.{ℕ, ◌+◌, ◌-◌, ◌*◌, ◌^◌, ◌<◌, ◌≤◌}
use native.Mathlib.Numerals.{add-one}
use native.Mathlib.Omega.{arith}
use native.Mathlib.Nat.{lt_of_lt_of_le}
use lib.Arith.{digits_lt}
use lib.Pow.{pow-add, pow_mono}
use lib.Dec.{eqb, leb}
use lib.ListN.{length, get_or, take, drop, length-take, length-drop, drop_of_length-le, get_or-eq_default}
use lib.Seq.{drop-cons, take_all}
use Rattle.std.specs.Prelude.{None, Some}
use Rattle.prelude.specs.Choice.{both}
use Rattle.address.specs.Multiaddr.{big_endian, number, name_head, longest_name, is_name, ends_well, has_form, parsed}
use Rattle.address.specs.declared.Ip.TheVariants.{V4, V6}

pub digit_step : (v : ℕ) (s : List ℕ) (i : ℕ) → i < length s → big_endian v (drop i s) ≡ big_endian (v * 256 + get_or s i 0) (drop (i + 1) s)
unfolding big_endian
digit_step v s i h = rw (add-one, drop-cons s i 0)

pub digit_end : (v : ℕ) (s : List ℕ) (i : ℕ) → length s ≤ i → big_endian v (drop i s) ≡ v
unfolding big_endian
digit_end v s i h = rw (drop_of_length-le s h)

pub digit_room : (v b i : ℕ) → v < 2 ^ (8 * i) → b < 256 → v * 256 + b < 2 ^ (8 * (i + 1))
digit_room v b i h g =
    let e : 8 * (i + 1) ≡ 8 * i + 8 = omega arith in
    rw (e, pow-add 2 (8 * i) 8) (digits_lt h g)

pub digit_fits : (v b i : ℕ) → v < 2 ^ (8 * i) → b < 256 → i < 8 → v * 256 + b < 2 ^ 64
digit_fits v b i h g k =
    let e : 8 * (i + 1) ≤ 64 = omega arith in
    lt_of_lt_of_le (digit_room v b i h g) (pow_mono e)

-- what two passed tests say of each
pub both_first : (a b : Bool) → both a b ≡ true → a ≡ true
both_first true b e = refl
both_first false b e = e

pub both_second : (a b : Bool) → both a b ≡ true → b ≡ true
both_second true b e = e
both_second false b e = absurd (let z : ◌≡◌ {A = ℕ} 0 1 = cc in omega arith)

-- an address with an IP of n bytes has n + 7 at least
pub address_long : (family n : ℕ) (s : List ℕ) {r : Bool} → r ≡ has_form family n s → r ≡ true → n + 7 ≤ length s
unfolding has_form
address_long family n s e t = leb-true (n + 7) (length s) (both_first _ _ (sym e ∙ t))

-- and no more than a name's bytes beyond that
name_short : (s : List ℕ) → is_name s ≡ true → length s ≤ name_head + longest_name
unfolding is_name
name_short s e =
    let n = get_or s 2 0 in
    let long = eqb (length s) (name_head + n) in
    let few = both (leb n longest_name) long in
    let r : few ≡ true = both_second (leb 1 n) few (both_second (eqb (get_or s 1 0) 0x03) _ (both_second (eqb (get_or s 0 0) 0xa5) _ e)) in
    omega (arith, leb-true n longest_name (both_first (leb n longest_name) long r), eqb-true (length s) (name_head + n) (both_second (leb n longest_name) long r))

end_short : (s : List ℕ) → ends_well s ≡ true → length s ≤ name_head + longest_name
unfolding ends_well
end_short [] e = omega arith
end_short (b ∷ s) e = name_short (b ∷ s) e

pub address_short : (family n : ℕ) (s : List ℕ) → has_form family n s ≡ true → length s ≤ n + 7 + name_head + longest_name
unfolding has_form
address_short family n s e =
    let r =
    both_second (eqb (get_or s (n + 6) 0) 0x03) (ends_well (drop (n + 7) s))
    (both_second (eqb (get_or s (n + 5) 0) 0xcd) _
    (both_second (eqb (get_or s (n + 2) 0) 0x02) _
    (both_second (eqb (get_or s (n + 1) 0) 0x91) _ (both_second (eqb (get_or s 0 0) family) _ (both_second (leb (n + 7) (length s)) _ e))))) in
    omega (arith, end_short (drop (n + 7) s) r, length-drop (n + 7) s)

pub parsed4 : (s : List ℕ) {r : Bool} {x y : ℕ} → r ≡ has_form 0x04 4 s → r ≡ true → x ≡ number 1 5 s → y ≡ number 7 9 s → Some (V4 x, y) ≡ parsed s
unfolding parsed
parsed4 s e t p q = rw (sym e ∙ t, p, q)

pub parsed6 : (s : List ℕ) {q r : Bool} {x y z : ℕ} → q ≡ has_form 0x04 4 s → q ≡ false → r ≡ has_form 0x29 16 s → r ≡ true
    → x ≡ number 1 9 s → y ≡ number 9 17 s → z ≡ number 19 21 s → Some (V6 x y, z) ≡ parsed s
unfolding parsed
parsed6 s d f e t p q r = rw (sym d ∙ f, sym e ∙ t, p, q, r)

pub parsed_other : (s : List ℕ) {q r : Bool} → q ≡ has_form 0x04 4 s → q ≡ false → r ≡ has_form 0x29 16 s → r ≡ false → None ≡ parsed s
unfolding parsed
parsed_other s d f e t = rw (sym d ∙ f, sym e ∙ t)

-- ---- a peer name

-- a part without a length byte is no name
no_length : (a b c d : Bool) → false ≡ both a (both b (both false (both c d)))
no_length true true c d = refl
no_length true false c d = refl
no_length false b c d = refl

pub cut_name : (s : List ℕ) → length s < name_head → false ≡ is_name s
unfolding is_name
cut_name s h =
    let z : get_or s 2 0 ≡ 0 = get_or-eq_default s 0 (omega arith) in
    rw z (no_length (eqb (get_or s 0 0) 0xa5) (eqb (get_or s 1 0) 0x03) (leb 0 longest_name) (eqb (length s) (name_head + 0)))

-- nothing stands behind quic-v1, or what stands there is judged as a name
pub nothing_behind : (s : List ℕ) → length s ≡ 0 → true ≡ ends_well s
unfolding ends_well
nothing_behind [] e = refl
nothing_behind (b ∷ s) e = absurd (omega arith)

pub something_behind : (s : List ℕ) {r : Bool} → (length s ≡ 0 → ⊥) → r ≡ is_name s → r ≡ ends_well s
unfolding ends_well
something_behind [] d e = absurd (d refl)
something_behind (b ∷ s) d e = e

-- a part up to the end
pub rest_of : (s : List ℕ) (p : ℕ) → take (length s - p) (drop p s) ≡ drop p s
rest_of s p = take_all (length s - p) (drop p s) (omega (arith, length-drop p s))
