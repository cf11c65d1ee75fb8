-- How a varint is read: where it ends, and its number from the last group to the first.
-- Assumes nothing.
use mathlib.Core.Path.{◌≡◌, refl, sym, ap, subst, ◌∙◌}
use mathlib.Core.List.{List, [], ◌∷◌}
use mathlib.Core.Bool.{Bool, true, false, not}
use mathlib.Core.Logic.{⊎_elim}
use Prim.Native.Nat.{ℕ, zero, suc, ◌+◌, ◌-◌, ◌*◌, ◌%◌, ◌^◌, ◌<◌, ◌≤◌}
use native.Mathlib.Omega.{arith}
use native.Mathlib.Nat.{lt_of_lt_of_le, eq-or-lt_of_le}
use lib.Arith.{digits_lt}
use lib.Pow.{pow-add, pow_mono}
use lib.Dec.{ltb, leb, eqb}
use lib.ListN.{length, get_or, take, drop, length-take, length-drop, drop_of_length-le}
use lib.Seq.{drop-cons, get_or-take, take_all}
use borrow.Author.Tests.{eqb-false}
use Rattle.std.specs.Prelude.{Option, Some, None, cond}
use Rattle.std.specs.List.{position, position_or_len}
use Rattle.std.proofs.lemmas.Bool.Decides.{nat_tests}
use Rattle.prelude.specs.Choice.{pick}
use Rattle.wire.specs.Varint.{value_of, behind, span_of, span_at, valued, varint_of}
use Rattle.std.proofs.lemmas.Option.{some_pair_parts}

-- ---- where it ends

-- whether a byte ends a varint
abbrev pub ends : ℕ → Bool
ends b = ltb b 128

-- a varint's length, by the place of the byte that ends it
abbrev pub length_to : Option ℕ → ℕ
length_to None = 0
length_to (Some last) = last + 1

pub span_to_last : (k : ℕ) (s : List ℕ) → length_to (position ends (take k s)) ≡ span_of k s
unfolding span_of
span_to_last zero s = refl
span_to_last (suc k) [] = refl
span_to_last (suc k) (b ∷ s) = go (ltb b 128) (span_to_last k s)
  where
    here : (l : ℕ) → length_to (cond (ltb 0 (suc l)) (Some 0) None) ≡ 1
    here l = grind (arith, nat_tests)

    later : (p l : ℕ) → length_to (cond (ltb (1 + p) (suc l)) (Some (1 + p)) None) ≡ behind (length_to (cond (ltb p l) (Some p) None))
    later p l = grind (arith, nat_tests)

    go : (t : Bool) → length_to (position ends (take k s)) ≡ span_of k s
        → length_to (cond (ltb (cond (not t) (1 + position_or_len ends (take k s)) 0) (suc (length (take k s)))) (Some (cond (not t) (1 + position_or_len ends (take k s)) 0)) None)
        ≡ pick t 1 (behind (span_of k s))
    go true e = here (length (take k s))
    go false e = later (position_or_len ends (take k s)) (length (take k s)) ∙ ap behind e

-- a place, and one more
abbrev pub one_more : Option ℕ → Option ℕ
one_more None = None
one_more (Some last) = Some (last + 1)

-- the span as an option, by that place
pub span_at_last : (s : List ℕ) → one_more (position ends (take 10 s)) ≡ span_at s
span_at_last s = rw (← span_to_last 10 s) (go (position ends (take 10 s)))
  where
    go : (p : Option ℕ) → one_more p ≡ pick (eqb (length_to p) 0) None (Some (length_to p))
    go None = refl
    go (Some last) = grind (arith, nat_tests)

behind_le : (k n : ℕ) → k ≤ n → behind k ≤ suc n
behind_le zero n h = omega arith
behind_le (suc k) n h = omega arith

pub span_le : (n : ℕ) (s : List ℕ) → (span_of n s ≤ n) × (span_of n s ≤ length s)
unfolding span_of
span_le zero s = (omega arith, omega arith)
span_le (suc n) [] = (omega arith, omega arith)
span_le (suc n) (b ∷ bs) = go (ltb b 128) (span_le n bs)
  where
    go : (t : Bool) → (span_of n bs ≤ n) × (span_of n bs ≤ length bs)
        → (pick t 1 (behind (span_of n bs)) ≤ suc n) × (pick t 1 (behind (span_of n bs)) ≤ suc (length bs))
    go true h = (omega arith, omega arith)
    go false h = (behind_le _ _ h.0, behind_le _ _ h.1)

-- where a varint ends, its length: within ten bytes and within the bytes there are
pub span_found : (s : List ℕ) {n : ℕ} → span_at s ≡ Some n → (n ≡ span_of 10 s) × (0 < n) × (n ≤ 10) × (n ≤ length s)
span_found s {n} e = go (span_of 10 s) (span_le 10 s) e
  where
    go : (k : ℕ) → (k ≤ 10) × (k ≤ length s) → pick (eqb k 0) None (Some k) ≡ Some n → (n ≡ k) × (0 < n) × (n ≤ 10) × (n ≤ length s)
    go k l e = grind (arith, nat_tests)

-- ---- its number

pub last_group : (s : List ℕ) (n i : ℕ) → n ≤ length s → 0 < i → i ≤ n
    → value_of (drop (i - 1) (take n s)) ≡ value_of (drop i (take n s)) * 128 + get_or s (i - 1) 0 % 128
unfolding value_of
last_group s n i h p q =
    let l : i - 1 < length (take n s) = simp length-take (omega arith) in
    let g : i - 1 < n = omega arith in
    let e : suc (i - 1) ≡ i = omega arith in
    let d : drop (i - 1) (take n s) ≡ get_or s (i - 1) 0 ∷ drop i (take n s) = cc (drop-cons (take n s) (i - 1) 0 l, e, get_or-take n s (i - 1) 0 g) in
    rw d

pub no_group : (s : List ℕ) (n : ℕ) → 0 ≡ value_of (drop n (take n s))
unfolding value_of
no_group s n = let l : length (take n s) ≤ n = simp length-take (omega arith) in sym (rw (drop_of_length-le (take n s) l))

-- there is room for one group more
pub room : (v b i : ℕ) → 0 < i → i ≤ 10 → v < 2 ^ (64 - 7 * i) → (9 < i → b ≤ 1) → v * 128 + b % 128 < 2 ^ (64 - 7 * (i - 1))
room v b i p q h t = ⊎_elim last less (eq-or-lt_of_le q)
  where
    last : i ≡ 10 → v * 128 + b % 128 < 2 ^ (64 - 7 * (i - 1))
    last e =
        let r : b ≤ 1 = t (omega arith) in
        let z : 64 - 7 * i ≡ 0 = omega arith in
        let o : 64 - 7 * (i - 1) ≡ 1 = omega arith in
        let k : v < 2 ^ 0 = rw z at h in
        rw o (omega arith)

    less : i < 10 → v * 128 + b % 128 < 2 ^ (64 - 7 * (i - 1))
    less l =
        let e : 64 - 7 * (i - 1) ≡ (64 - 7 * i) + 7 = omega arith in
        let k : b % 128 < 128 = omega arith in
        rw (e, pow-add 2 (64 - 7 * i) 7) (digits_lt h k)

pub room_fits : (v b i : ℕ) → 0 < i → i ≤ 10 → v < 2 ^ (64 - 7 * i) → (9 < i → b ≤ 1) → v * 128 + b % 128 < 2 ^ 64
room_fits v b i p q h t = lt_of_lt_of_le (room v b i p q h t) (pow_mono {i = 64 - 7 * (i - 1)} {j = 64} (omega arith))

-- the tenth byte is the one below place 10
pub tenth : (s : List ℕ) (n i : ℕ) → i ≤ n → n ≤ 10 → (9 < n → get_or s 9 0 ≤ 1) → 9 < i → get_or s (i - 1) 0 ≤ 1
tenth s n i h m f g =
    let e : 9 ≡ i - 1 = omega arith in
    let k : get_or s 9 0 ≤ 1 = f (omega arith) in
    subst (λ (x : ℕ). get_or s x 0 ≤ 1) e k

-- ---- the whole varint

valued_size : (k : ℕ) (s : List ℕ) (v n : ℕ) → valued k s ≡ Some (v, n) → (n ≡ k) × (0 < k)
valued_size k s v n = go (eqb k 0) refl (ltb k 10) (leb (get_or s 9 0) 1)
  where
    go : (a : Bool) → eqb k 0 ≡ a → (b d : Bool)
        → pick {A = Option (ℕ × ℕ)} a None (pick b (Some (value_of (take k s), k)) (pick d (Some (value_of (take k s), k)) None)) ≡ Some (v, n) → (n ≡ k) × (0 < k)
    go true q b d e = let z : ◌≡◌ {A = ℕ} 0 1 = cc in absurd (omega arith)
    go false q true d e = let z : n ≡ k = sym (some_pair_parts _ _ _ _ e).1 in (z, omega (arith, eqb-false k 0 q))
    go false q false true e = let z : n ≡ k = sym (some_pair_parts _ _ _ _ e).1 in (z, omega (arith, eqb-false k 0 q))
    go false q false false e = let z : ◌≡◌ {A = ℕ} 0 1 = cc in absurd (omega arith)

-- what stands first, by the span that is found
pub no_varint : (s : List ℕ) → span_at s ≡ None → None ≡ varint_of s
unfolding varint_of
no_varint s e = go (span_of 10 s) e
  where
    go : (k : ℕ) → pick (eqb k 0) None (Some k) ≡ None → None ≡ valued k s
    go k e = grind (arith, nat_tests)

module _ (s : List ℕ) {n : ℕ} (e : span_at s ≡ Some n) where
  pub varint_large : n ≡ 10 → 1 < get_or s 9 0 → None ≡ varint_of s
  unfolding varint_of
  varint_large t h = let f = span_found s e in rw (sym f.0) (grind (arith, nat_tests))

  pub varint_here : (9 < n → get_or s 9 0 ≤ 1) → {v : ℕ} → v ≡ value_of (take n s) → Some (v, n) ≡ varint_of s
  unfolding varint_of
  varint_here t {v} i = let f = span_found s e in rw (sym f.0, i) (grind (arith, nat_tests))

-- a varint has a byte at least, and ends within the bytes
pub varint_size : (s : List ℕ) (v n : ℕ) → Some (v, n) ≡ varint_of s → (0 < n) × (n ≤ length s) × (n ≤ 10)
unfolding varint_of
varint_size s v n e =
    let q = valued_size (span_of 10 s) s v n (sym e) in
    let l = span_le 10 s in
    omega arith

-- what is lent from a place on
pub rest_of : (s : List ℕ) (at : ℕ) → take (length s - at) (drop at s) ≡ drop at s
rest_of s at = take_all (length s - at) (drop at s) (omega (arith, length-drop at s))
