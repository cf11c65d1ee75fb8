-- What is read in front is what the rule says of the bytes. Assumes nothing.
use mathlib.Core.Path.{◌≡◌, refl, sym, ◌∙◌}
use mathlib.Core.List.{List, [], ◌∷◌, ◌++◌}
use mathlib.Core.Bool.{Bool, true, false}
use Prim.Native.Nat.{ℕ, zero, suc, ◌+◌, ◌*◌, ◌%◌, ◌<◌, ◌≤◌}
use native.Mathlib.Nat.{add-mul, mul_assoc, mul_comm}
use native.Mathlib.Omega.{arith}
use lib.Dec.{ltb, leb, eqb}
use lib.ListN.{length, get_or, take, drop, length-take, take-append-drop, get_or-append}
use lib.Seq.{take-append_seam, get_or-take}
use borrow.Author.Tests.{lt-ltb, le-ltb, le-leb, ne_eqb, ltb-true, ltb-false, leb-true, eqb-false}
use Rattle.std.specs.Prelude.{None, Some, Option}
use Rattle.prelude.specs.Choice.{pick}
use Rattle.wire.specs.Varint.{value_of, behind, span_of, valued, varint_of}
use Rattle.wire_laws.specs.Bytes.{Ends, IsVarint, sum}
use Rattle.wire_laws.specs.Bytes.Ends.{last, more}
use Rattle.wire.proofs.Spans.{span_le}

-- ---- the bytes in front

some : (bs : List ℕ) → Ends bs → 0 < length bs
some bs (last h) = omega arith
some bs (more h e) = omega arith

behind_suc : (n : ℕ) → 0 < n → behind n ≡ suc n
behind_suc zero h = absurd (omega arith)
behind_suc (suc n) h = refl

span_by : (n : ℕ) (bs rest : List ℕ) → Ends bs → length bs ≤ n → span_of n (bs ++ rest) ≡ length bs
unfolding span_of
span_by zero bs rest e h = absurd (omega (arith, some bs e))
span_by (suc n) bs rest (last {b = b} l) h = rw (lt-ltb b 128 l)
span_by (suc n) bs rest (more {b = b} {bs = t} l e) h = rw (le-ltb b 128 l, span_by n t rest e (omega arith)) (behind_suc (length t) (some t e))

-- the bytes that were found end so
found : (n : ℕ) (s : List ℕ) → 0 < span_of n s → Ends (take (span_of n s) s)
unfolding span_of
found zero s h = absurd (omega arith)
found (suc n) [] h = absurd (omega arith)
found (suc n) (b ∷ s) h = go (ltb b 128) refl (span_of n s) h (found n s)
  where
    go : (t : Bool) → ltb b 128 ≡ t → (k : ℕ) → 0 < pick t 1 (behind k) → (0 < k → Ends (take k s)) → Ends (take (pick t 1 (behind k)) (b ∷ s))
    go true e k h f = last (ltb-true b 128 e)
    go false e zero h f = absurd (omega arith)
    go false e (suc k) h f = more (ltb-false b 128 e) (f (omega arith))

-- ---- their number

sum_by : (w : ℕ) (bs : List ℕ) → sum w bs ≡ value_of bs * w
unfolding sum value_of
sum_by w [] = omega arith
sum_by w (b ∷ bs) =
    let v = value_of bs in
    let e : sum (w * 128) bs ≡ v * 128 * w = sum_by (w * 128) bs ∙ rw (mul_comm w 128) (sym (mul_assoc v 128 w)) in
    let d : (v * 128 + b % 128) * w ≡ v * 128 * w + b % 128 * w = add-mul (v * 128) (b % 128) w in
    omega arith

-- ---- the varint

read_at : (bs rest : List ℕ) → IsVarint bs → valued (length bs) (bs ++ rest) ≡ Some (value_of bs, length bs)
read_at bs rest v = rw (ne_eqb (length bs) 0 none, take-append_seam bs rest) (go (ltb (length bs) 10) refl)
  where
    none : length bs ≡ 0 → ⊥
    none z = omega (arith, some bs v.ends)

    go : (t : Bool) → ltb (length bs) 10 ≡ t
        → pick {A = Option (ℕ × ℕ)} t (Some (value_of bs, length bs)) (pick (leb (get_or (bs ++ rest) 9 0) 1) (Some (value_of bs, length bs)) None) ≡ Some (value_of bs, length bs)
    go true e = refl
    go false e =
        let l = v.ten in
        let z : length bs ≡ 10 = omega (arith, ltb-false (length bs) 10 e) in
        let m : 9 < length bs = omega arith in
        rw (get_or-append bs rest 0 9 m, le-leb (get_or bs 9 0) 1 (v.tenth z))

pub read_by : (bs rest : List ℕ) → IsVarint bs → varint_of (bs ++ rest) ≡ Some (sum 1 bs, length bs)
unfolding varint_of
read_by bs rest v =
    let n : value_of bs ≡ sum 1 bs = sym (sum_by 1 bs ∙ omega arith) in
    rw (span_by 10 bs rest v.ends v.ten) (read_at bs rest v ∙ rw n)

pub malformed_by : (s : List ℕ) → ((bs rest : List ℕ) → IsVarint bs → s ≡ bs ++ rest → ⊥) → varint_of s ≡ None
unfolding varint_of
malformed_by s f = go (eqb n 0) refl (ltb n 10) refl (leb (get_or s 9 0) 1) refl
  where
    n : ℕ
    n = span_of 10 s

    long : length (take n s) ≡ n
    long = let l = span_le 10 s in simp length-take (omega arith)

    never : 0 < n → (n ≡ 10 → get_or s 9 0 ≤ 1) → ⊥
    never h t =
        let l = span_le 10 s in
        f (take n s) (drop n s)
        (record { ends = found 10 s h; ten = omega (arith, long); tenth = λ z. let w : n ≡ 10 = sym long ∙ z in let k : 9 < n = omega arith in rw (get_or-take n s 9 0 k) (t w) })
        (sym (take-append-drop n s))

    go : (a : Bool) → eqb n 0 ≡ a → (b : Bool) → ltb n 10 ≡ b → (c : Bool) → leb (get_or s 9 0) 1 ≡ c
        → pick {A = Option (ℕ × ℕ)} a None (pick b (Some (value_of (take n s), n)) (pick c (Some (value_of (take n s), n)) None)) ≡ None
    go true e b g c h = refl
    go false e true g c h = absurd (never (omega (arith, eqb-false n 0 e)) (λ z. absurd (omega (arith, ltb-true n 10 g))))
    go false e false g true h = absurd (never (omega (arith, eqb-false n 0 e)) (λ z. leb-true (get_or s 9 0) 1 h))
    go false e false g false h = refl
