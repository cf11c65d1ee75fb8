-- Frames: the verdict goes by the first two bytes and the count, a whole frame stays whole, and a message behind its length is one.
-- Assumes nothing.
use mathlib.Core.Path.{◌≡◌, refl, sym, ◌∙◌}
use mathlib.Core.List.{List, [], ◌∷◌, ◌++◌, append_assoc}
use mathlib.Core.Bool.{Bool, true, false}
use Prim.Native.Nat.{ℕ, zero, suc, ◌+◌, ◌*◌, ◌/◌, ◌%◌, ◌^◌, ◌<◌, ◌≤◌}
use native.Mathlib.Omega.{arith}
use lib.Dec.{ltb, leb, eqb}
use lib.ListN.{length, get_or, take, length-append, length-take}
use lib.Seq.{get_or-take}
use borrow.Author.Tests.{lt-ltb, le-ltb, le-leb, ne_eqb, ltb-true, ltb-false, leb-true, leb-false, eqb-true, eqb-false}
use Rattle.prelude.specs.Choice.{pick}
use Rattle.wire.specs.Varint.{encoded}
use Rattle.wire.specs.Frame.{max_message_size, max_frame_size, framed, reached, two_byte_length, frame_from, frame_of}
use Rattle.wire.specs.declared.Frame.{Frame}
use Rattle.wire.specs.declared.Frame.TheVariants.{More, Whole, Broken}
use Rattle.wire.proofs.Groups.{last_one, one_more}

-- the second byte plays no part before it is there
pub second_free : (b c d n : ℕ) → n ≤ 1 → frame_from b c n ≡ frame_from b d n
unfolding frame_from
second_free b c d zero h = refl
second_free b c d (suc zero) h = refl
second_free b c d (suc (suc n)) h = absurd (omega arith)

-- nor the first
pub first_free : (b c d e n : ℕ) → n ≤ 0 → frame_from b c n ≡ frame_from d e n
unfolding frame_from
first_free b c d e zero h = refl
first_free b c d e (suc n) h = absurd (omega arith)

none_yet : (b c : ℕ) → frame_from b c 0 ≡ More
unfolding frame_from
none_yet b c = refl

pub none_there : (s : List ℕ) → length s ≡ 0 → More ≡ frame_of s
none_there s h = sym (rw h (none_yet (get_or s 0 0) (get_or s 1 0)))

-- a frame's first n bytes are judged by the first two bytes of all
pub frame_prefix : (s : List ℕ) (n : ℕ) → n ≤ length s → frame_of (take n s) ≡ frame_from (get_or s 0 0) (get_or s 1 0) n
frame_prefix s zero h = first_free _ _ _ _ 0 (omega arith)
frame_prefix s (suc zero) h =
    let l : length (take 1 s) ≡ 1 = simp length-take (omega arith) in
    rw (l, get_or-take 1 s 0 0 (omega arith)) (second_free _ _ _ 1 (omega arith))
frame_prefix s (suc (suc n)) h =
    let l : length (take (suc (suc n)) s) ≡ suc (suc n) = simp length-take (omega arith) in
    rw (l, get_or-take (suc (suc n)) s 0 0 (omega arith), get_or-take (suc (suc n)) s 1 0 (omega arith))

-- ---- what a whole frame is

-- its length and its message are among the bytes that are there, and at least one byte is
abbrev pub Within : ℕ → Frame → Type 0
Within n (Whole start len) = (0 < start) × (start ≤ 2) × (len ≤ max_message_size) × (start + len ≤ n)
Within n More = Unit
Within n Broken = Unit

reached_within : (start len n : ℕ) → 0 < start → start ≤ 2 → len ≤ max_message_size → Within n (reached start len n)
reached_within start len n p q h = go (leb (start + len) n) refl
  where
    go : (t : Bool) → leb (start + len) n ≡ t → Within n (pick t (Whole start len) More)
    go true e = omega (arith, leb-true (start + len) n e)
    go false e = tt

pub frame_within : (b c n : ℕ) → Within n (frame_from b c n)
unfolding frame_from
frame_within b c n = go (eqb n 0) (ltb b 128) refl (eqb n 1) (eqb c 0) (ltb 127 c) (ltb max_message_size (two_byte_length b c)) refl
  where
    go : (p q : Bool) → ltb b 128 ≡ q → (r s t u : Bool) → ltb max_message_size (two_byte_length b c) ≡ u
        → Within n (pick p More (pick q (reached 1 b n) (pick r More (pick s Broken (pick t Broken (pick u Broken (reached 2 (two_byte_length b c) n)))))))
    go true q e r s t u f = tt
    go false true e r s t u f = reached_within 1 b n (omega arith) (omega arith) (omega (arith, ltb-true b 128 e))
    go false false e true s t u f = tt
    go false false e false true t u f = tt
    go false false e false false true u f = tt
    go false false e false false false true f = tt
    go false false e false false false false f = reached_within 2 (two_byte_length b c) n (omega arith) (omega arith) (omega (arith, ltb-false max_message_size (two_byte_length b c) f))

-- ---- more bytes

-- a frame that is not yet whole has fewer bytes than the longest
abbrev pub Open : ℕ → Frame → Type 0
Open n (Whole start len) = Unit
Open n More = n < max_frame_size
Open n Broken = Unit

reached_open : (start len n : ℕ) → start ≤ 2 → len ≤ max_message_size → Open n (reached start len n)
reached_open start len n q h = go (leb (start + len) n) refl
  where
    go : (t : Bool) → leb (start + len) n ≡ t → Open n (pick t (Whole start len) More)
    go true e = tt
    go false e = omega (arith, leb-false (start + len) n e)

pub frame_open : (b c n : ℕ) → Open n (frame_from b c n)
unfolding frame_from
frame_open b c n = go (eqb n 0) refl (ltb b 128) refl (eqb n 1) refl (eqb c 0) (ltb 127 c) (ltb max_message_size (two_byte_length b c)) refl
  where
    go : (p : Bool) → eqb n 0 ≡ p → (q : Bool) → ltb b 128 ≡ q → (r : Bool) → eqb n 1 ≡ r → (s t u : Bool) → ltb max_message_size (two_byte_length b c) ≡ u
        → Open n (pick p More (pick q (reached 1 b n) (pick r More (pick s Broken (pick t Broken (pick u Broken (reached 2 (two_byte_length b c) n)))))))
    go true d q e r g s t u f = omega (arith, eqb-true n 0 d)
    go false d true e r g s t u f = reached_open 1 b n (omega arith) (omega (arith, ltb-true b 128 e))
    go false d false e true g s t u f = omega (arith, eqb-true n 1 g)
    go false d false e false g true t u f = tt
    go false d false e false g false true u f = tt
    go false d false e false g false false true f = tt
    go false d false e false g false false false f = reached_open 2 (two_byte_length b c) n (omega arith) (omega (arith, ltb-false max_message_size (two_byte_length b c) f))

-- whole stays whole
reached_on : (x y n k start len : ℕ) → n ≤ k → reached x y n ≡ Whole start len → reached x y k ≡ Whole start len
reached_on x y n k start len h e = go (leb (x + y) n) refl e
  where
    go : (t : Bool) → leb (x + y) n ≡ t → pick t (Whole x y) More ≡ Whole start len → reached x y k ≡ Whole start len
    go true q e = let l = leb-true (x + y) n q in rw (le-leb (x + y) k (omega arith)) e
    go false q e = let z : ◌≡◌ {A = ℕ} 0 1 = cc in absurd (omega arith)

whole_on : (b c d n k start len : ℕ) → (1 < n → c ≡ d) → n ≤ k → frame_from b c n ≡ Whole start len → frame_from b d k ≡ Whole start len
unfolding frame_from
whole_on b c d n k start len same h e =
    go (eqb n 0) refl (ltb b 128) refl (eqb n 1) refl (eqb c 0) refl (ltb 127 c) refl (ltb max_message_size (two_byte_length b c)) refl e
  where
    go : (p : Bool) → eqb n 0 ≡ p → (q : Bool) → ltb b 128 ≡ q → (r : Bool) → eqb n 1 ≡ r → (s : Bool) → eqb c 0 ≡ s → (t : Bool) → ltb 127 c ≡ t
        → (u : Bool) → ltb max_message_size (two_byte_length b c) ≡ u
        → pick p More (pick q (reached 1 b n) (pick r More (pick s Broken (pick t Broken (pick u Broken (reached 2 (two_byte_length b c) n)))))) ≡ Whole start len
        → frame_from b d k ≡ Whole start len
    go true i q j r l s m t o u v e = let z : ◌≡◌ {A = ℕ} 0 1 = cc in absurd (omega arith)
    go false i true j r l s m t o u v e =
        let g = eqb-false n 0 i in
        let f : k ≡ 0 → ⊥ = λ w. omega (arith, g) in
        rw (ne_eqb k 0 f, j) (reached_on 1 b n k start len h e)
    go false i false j true l s m t o u v e = let z : ◌≡◌ {A = ℕ} 0 1 = cc in absurd (omega arith)
    go false i false j false l true m t o u v e = let z : ◌≡◌ {A = ℕ} 0 1 = cc in absurd (omega arith)
    go false i false j false l false m true o u v e = let z : ◌≡◌ {A = ℕ} 0 1 = cc in absurd (omega arith)
    go false i false j false l false m false o true v e = let z : ◌≡◌ {A = ℕ} 0 1 = cc in absurd (omega arith)
    go false i false j false l false m false o false v e =
        let g = eqb-false n 0 i in
        let y = eqb-false n 1 l in
        let f : k ≡ 0 → ⊥ = λ w. omega (arith, g, y) in
        let x : k ≡ 1 → ⊥ = λ w. omega (arith, g, y) in
        let w : 1 < n = omega (arith, g, y) in
        rw (← same w, ne_eqb k 0 f, j, ne_eqb k 1 x, m, o, v) (reached_on 2 (two_byte_length b c) n k start len h e)

-- a frame that is whole stays whole, whatever stands behind it
pub stays_whole : (s rest : List ℕ) (start len : ℕ) → frame_of s ≡ Whole start len → frame_of (s ++ rest) ≡ Whole start len
stays_whole [] rest start len e = let q : More ≡ Whole start len = sym (none_yet 0 0) ∙ e in let z : ◌≡◌ {A = ℕ} 0 1 = cc in absurd (omega arith)
stays_whole (b ∷ []) rest start len e = whole_on b 0 (get_or rest 0 0) 1 (suc (length rest)) start len (λ h. absurd (omega arith)) (omega arith) e
stays_whole (b ∷ c ∷ s) rest start len e =
    whole_on b c c (suc (suc (length s))) (suc (suc (length (s ++ rest)))) start len (λ _. refl) (omega (arith, length-append s rest)) e

-- ---- a message behind its length

one_byte : (v : ℕ) (t : List ℕ) → v < 128 → v ≤ length t → frame_of (v ∷ t) ≡ Whole 1 v
unfolding frame_from
one_byte v t h l =
    let p : suc (length t) ≡ 0 → ⊥ = omega arith in
    let q : 1 + v ≤ suc (length t) = omega arith in
    rw (ne_eqb (suc (length t)) 0 p, lt-ltb v 128 h, le-leb (1 + v) (suc (length t)) q)

two_bytes : (v : ℕ) (t : List ℕ) → 128 ≤ v → v ≤ max_message_size → v ≤ length t → frame_of ((128 + v % 128) ∷ (v / 128) ∷ t) ≡ Whole 2 v
unfolding frame_from
two_bytes v t g h l =
    let p : suc (suc (length t)) ≡ 0 → ⊥ = omega arith in
    let o : suc (suc (length t)) ≡ 1 → ⊥ = omega arith in
    let a : 128 ≤ 128 + v % 128 = omega arith in
    let b : v / 128 ≡ 0 → ⊥ = omega arith in
    let c : v / 128 ≤ 127 = omega arith in
    let e : v / 128 * 128 + (128 + v % 128) % 128 ≡ v = omega arith in
    let q : 2 + v ≤ suc (suc (length t)) = omega arith in
    rw (ne_eqb (suc (suc (length t))) 0 p, le-ltb (128 + v % 128) 128 a, ne_eqb (suc (suc (length t))) 1 o, ne_eqb (v / 128) 0 b, le-ltb 127 (v / 128) c, e, le-ltb max_message_size v h, le-leb (2 + v) (suc (suc (length t))) q)

-- a message behind the shortest form of its length is a whole frame, whatever follows
pub framed_whole : (m rest : List ℕ) → length m ≤ max_message_size → frame_of (framed m ++ rest) ≡ Whole (length (encoded (length m))) (length m)
framed_whole m rest h = rw (append_assoc (encoded (length m)) m rest) (go (ltb (length m) 128) refl)
  where
    long : length m ≤ length (m ++ rest)
    long = omega (arith, length-append m rest)

    go : (t : Bool) → ltb (length m) 128 ≡ t → frame_of (encoded (length m) ++ (m ++ rest)) ≡ Whole (length (encoded (length m))) (length m)
    go true e = let l = ltb-true (length m) 128 e in rw (last_one 9 (length m) l) (one_byte (length m) (m ++ rest) l long)
    go false e =
        let l = ltb-false (length m) 128 e in
        let k : length m < 2 ^ 70 = omega arith in
        let u : length m / 128 < 128 = omega arith in
        rw (one_more 10 (length m) k l, last_one 8 (length m / 128) u) (two_bytes (length m) (m ++ rest) l h long)

-- ---- the longest length, and one more

pub length_4096 : (m : List ℕ) → 4096 ≤ length m → frame_of (0x80 ∷ 0x20 ∷ m) ≡ Whole 2 4096
length_4096 m h = two_bytes 4096 m (omega arith) (omega arith) h

pub length_4097 : (rest : List ℕ) → frame_of (0x81 ∷ 0x20 ∷ rest) ≡ Broken
unfolding frame_from
length_4097 rest =
    let p : suc (suc (length rest)) ≡ 0 → ⊥ = omega arith in
    let o : suc (suc (length rest)) ≡ 1 → ⊥ = omega arith in
    rw (ne_eqb (suc (suc (length rest))) 0 p, ne_eqb (suc (suc (length rest))) 1 o)

-- ---- a second length byte of 0

pub second_zero : (b count : ℕ) (rest : List ℕ) → 128 ≤ b → 2 ≤ count → frame_of (take count (b ∷ 0 ∷ rest)) ≡ Broken
unfolding frame_from
second_zero b zero rest h g = absurd (omega arith)
second_zero b (suc zero) rest h g = absurd (omega arith)
second_zero b (suc (suc n)) rest h g =
    let m = suc (suc (length (take n rest))) in
    let p : m ≡ 0 → ⊥ = omega arith in
    let o : m ≡ 1 → ⊥ = omega arith in
    rw (ne_eqb m 0 p, le-ltb b 128 h, ne_eqb m 1 o)
