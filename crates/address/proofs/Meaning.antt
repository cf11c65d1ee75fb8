-- The table says of every address what the words say.
-- Assumes nothing.
use mathlib.Core.Path.{◌≡◌, refl, sym, ap, ◌∙◌}
use mathlib.Core.Bool.{Bool, true, false}
use mathlib.Core.List.{List, [], ◌∷◌}
use Prim.Native.Nat.{ℕ, ◌+◌, ◌-◌, ◌*◌, ◌/◌, ◌%◌, ◌^◌, ◌<◌, ◌≤◌}
use native.Mathlib.Nat.{le-div_iff_mul-le, div-eq_of_lt-le, div-add-mod', lt_of_not-le, not-le_of_lt}
use native.Mathlib.Omega.{arith}
use lib.Dec.{T, leb, ltb, eqb, lit<}
use lib.Arith.{digits_div, digits_lt}
use lib.Pow.{pow_pos, shr-shr}
use borrow.Author.Tests.{leb-true, leb-false, le-leb, lt-leb, eqb-true, eqb-false, eq-eqb, ne_eqb}
use Rattle.address.specs.LeadingBits.{same_leading_bits}
use Rattle.prelude.specs.Choice.{pick, both, either, no}
use Rattle.address.specs.Ranges.{lies_in, first_row, table, verdict_of, permits}
use Rattle.address.specs.Words.{within, global_unicast4, unicast4, global_unicast6, unicast6, judged_as, passes, may_be_target, InBits}
use Rattle.address.specs.declared.Ip.{Ip}
use Rattle.address.specs.declared.Ip.TheVariants.{V4, V6}
use Rattle.address.specs.declared.Prefix.{Prefix}
use Rattle.address.specs.declared.Prefix.TheVariants.{Net4, Net6}
use Rattle.address.specs.declared.Verdict.{Verdict}
use Rattle.address.specs.declared.Range.{Range}
use Rattle.address.proofs.Longest.{first_verdict}
use Rattle.address.proofs.CutPoints.{Test, always, from, branch, run, bounds, alike, agree}
use Rattle.address.proofs.LeadingBits.{same_test}

-- lo up to hi, hi left out
abbrev range : ℕ → ℕ → Test
range lo hi = branch (from lo) (branch (from hi) (always false) (always true)) (always false)

-- ---- tests of numbers as tests of order
same_leb : (a b c d : ℕ) → (a ≤ b → c ≤ d) → (c ≤ d → a ≤ b) → leb a b ≡ leb c d
same_leb a b c d f g = go (leb c d) refl
  where
    go : (t : Bool) → leb c d ≡ t → leb a b ≡ t
    go true e = le-leb a b (g (leb-true c d e))
    go false e = lt-leb a b (lt_of_not-le (λ h. not-le_of_lt (leb-false c d e) (f h)))

eq_range : (x c : ℕ) → eqb x c ≡ pick (leb c x) (pick (leb (c + 1) x) false true) false
eq_range x c = go (leb c x) (leb (c + 1) x) refl refl
  where
    go : (s t : Bool) → leb c x ≡ s → leb (c + 1) x ≡ t → eqb x c ≡ pick s (pick t false true) false
    go true true e f = let p : c + 1 ≤ x = leb-true (c + 1) x f in ne_eqb x c (omega arith)
    go true false e f = let p : x < c + 1 = leb-false (c + 1) x f in let q : c ≤ x = leb-true c x e in eq-eqb x c (omega arith)
    go false t e f = let p : x < c = leb-false c x e in ne_eqb x c (omega arith)

above : (x u : ℕ) → leb x u ≡ pick (leb (u + 1) x) false true
above x u = go (leb (u + 1) x) refl
  where
    go : (t : Bool) → leb (u + 1) x ≡ t → leb x u ≡ pick t false true
    go true e = let p : u + 1 ≤ x = leb-true (u + 1) x e in lt-leb x u (omega arith)
    go false e = let p : x < u + 1 = leb-false (u + 1) x e in le-leb x u (omega arith)

-- ---- a number x of two digits, x / B and x % B
digit : (B x c e : ℕ) → e < B → both (eqb (x / B) c) (eqb (x % B) e) ≡ eqb x (c * B + e)
digit B x c e h = go (eqb (x / B) c) refl
  where
    go : (t : Bool) → eqb (x / B) c ≡ t → both t (eqb (x % B) e) ≡ eqb x (c * B + e)
    go true q =
        let d : x / B * B + x % B ≡ x = div-add-mod' x B in
        let m : x / B * B ≡ c * B = ap (λ (k : ℕ). k * B) (eqb-true (x / B) c q) in
        same_test (x % B) e x (c * B + e) (λ z. omega arith) (λ z. omega arith)
    go false q = sym (ne_eqb x (c * B + e) (λ z. eqb-false (x / B) c q (ap (λ (k : ℕ). k / B) z ∙ digits_div c h)))

digit_within : (B x c l u : ℕ) → u < B → both (eqb (x / B) c) (within l u (x % B)) ≡ within (c * B + l) (c * B + u) x
digit_within B x c l u h = go (eqb (x / B) c) refl
  where
    go : (t : Bool) → eqb (x / B) c ≡ t → both t (within l u (x % B)) ≡ within (c * B + l) (c * B + u) x
    go true q =
        let d : x / B * B + x % B ≡ x = div-add-mod' x B in
        let m : x / B * B ≡ c * B = ap (λ (k : ℕ). k * B) (eqb-true (x / B) c q) in
        rw (same_leb l (x % B) (c * B + l) x (λ z. omega arith) (λ z. omega arith), same_leb (x % B) u x (c * B + u) (λ z. omega arith) (λ z. omega arith))
    go false q = apart (leb (c * B + l) x) (leb x (c * B + u)) refl refl
      where
        apart : (s t : Bool) → leb (c * B + l) x ≡ s → leb x (c * B + u) ≡ t → false ≡ pick s t false
        apart true true a b =
            let p : c * B + l ≤ x = leb-true (c * B + l) x a in
            let r : x ≤ c * B + u = leb-true x (c * B + u) b in
            absurd (eqb-false (x / B) c q (div-eq_of_lt-le B (omega arith) (omega arith)))
        apart true false a b = refl
        apart false t a b = refl

-- ---- how a test on parts of n is a test on n: `Seen n b` is such a Test, with the proof that b is what it says of n
record Seen (n : ℕ) (b : Bool) : Type 0 where
  test : Test
  is : b ≡ run test n

fixed_is : (n : ℕ) (b : Bool) → b ≡ run (always b) n
unfolding run
fixed_is n b = refl

abbrev fixed : {n : ℕ} (b : Bool) → Seen n b
fixed {n} b = record { test = always b; is = fixed_is n b }

choose_is : (n : ℕ) (a b c : Bool) (s t u : Test) → a ≡ run s n → b ≡ run t n → c ≡ run u n → pick a b c ≡ run (branch s t u) n
unfolding run
choose_is n a b c s t u p q r = rw (p, q, r)

abbrev choose : {n : ℕ} {a b c : Bool} → Seen n a → Seen n b → Seen n c → Seen n (pick a b c)
choose {n} {a} {b} {c} p q r = record { test = branch p.test q.test r.test; is = choose_is n a b c p.test q.test r.test p.is q.is r.is }

abbrev and : {n : ℕ} {a b : Bool} → Seen n a → Seen n b → Seen n (both a b)
and p q = choose p q (fixed false)

abbrev or : {n : ℕ} {a b : Bool} → Seen n a → Seen n b → Seen n (either a b)
or p q = choose p (fixed true) q

abbrev not : {n : ℕ} {a : Bool} → Seen n a → Seen n (no a)
not p = choose p (fixed false) (fixed true)

-- a test of n's leading part, n / 2 ^ k
at_least : (k c n : ℕ) → leb c (n / 2 ^ k) ≡ leb (c * 2 ^ k) n
at_least k c n = same_leb c (n / 2 ^ k) (c * 2 ^ k) n (le-div_iff_mul-le (pow_pos k)).0 (le-div_iff_mul-le (pow_pos k)).1

least_is : (k c n : ℕ) → leb c (n / 2 ^ k) ≡ run (from (c * 2 ^ k)) n
unfolding run
least_is k c n = at_least k c n

abbrev least : (k c : ℕ) {n : ℕ} → Seen n (leb c (n / 2 ^ k))
least k c {n} = record { test = from (c * 2 ^ k); is = least_is k c n }

lead_is : (k c n : ℕ) (b : Bool) → b ≡ eqb (n / 2 ^ k) c → b ≡ run (range (c * 2 ^ k) ((c + 1) * 2 ^ k)) n
unfolding run
lead_is k c n b e = e ∙ eq_range (n / 2 ^ k) c ∙ rw (at_least k c n, at_least k (c + 1) n)

abbrev lead : (k c : ℕ) {n : ℕ} {b : Bool} → b ≡ eqb (n / 2 ^ k) c → Seen n b
lead k c {n} {b} e = record { test = range (c * 2 ^ k) ((c + 1) * 2 ^ k); is = lead_is k c n b e }

span_is : (k l u n : ℕ) (b : Bool) → b ≡ within l u (n / 2 ^ k) → b ≡ run (range (l * 2 ^ k) ((u + 1) * 2 ^ k)) n
unfolding run
span_is k l u n b e = e ∙ rw (above (n / 2 ^ k) u, at_least k l n, at_least k (u + 1) n)

abbrev span : (k l u : ℕ) {n : ℕ} {b : Bool} → b ≡ within l u (n / 2 ^ k) → Seen n b
span k l u {n} {b} e = record { test = range (l * 2 ^ k) ((u + 1) * 2 ^ k); is = span_is k l u n b e }

exact_is : (c n : ℕ) → eqb n c ≡ run (range c (c + 1)) n
unfolding run
exact_is c n = eq_range n c

abbrev exact : (c : ℕ) {n : ℕ} → Seen n (eqb n c)
exact c {n} = record { test = range c (c + 1); is = exact_is c n }

-- one digit of s bits more
more : (s k c e n : ℕ) (b : Bool) → e < 2 ^ s → b ≡ eqb (n / 2 ^ (k + s)) c → both b (eqb (n / 2 ^ k % 2 ^ s) e) ≡ eqb (n / 2 ^ k) (c * 2 ^ s + e)
more s k c e n b h q = rw (q, ← shr-shr n k s) (digit (2 ^ s) (n / 2 ^ k) c e h)

more_within : (s k c l u n : ℕ) (b : Bool) → u < 2 ^ s → b ≡ eqb (n / 2 ^ (k + s)) c → both b (within l u (n / 2 ^ k % 2 ^ s)) ≡ within (c * 2 ^ s + l) (c * 2 ^ s + u) (n / 2 ^ k)
more_within s k c l u n b h q = rw (q, ← shr-shr n k s) (digit_within (2 ^ s) (n / 2 ^ k) c l u h)

last : (s c e n : ℕ) (b : Bool) → e < 2 ^ s → b ≡ eqb (n / 2 ^ s) c → both b (eqb (n % 2 ^ s) e) ≡ eqb n (c * 2 ^ s + e)
last s c e n b h q = rw q (digit (2 ^ s) n c e h)

abbrev seen_as : {n : ℕ} {a b : Bool} → a ≡ b → Seen n b → Seen n a
seen_as e p = record { test = p.test; is = e ∙ p.is }

except : (p x y : Bool) → both p (no (either x y)) ≡ both p (no (either (both p x) (both p y)))
except true x y = refl
except false x y = refl

abbrev and_neither : {n : ℕ} {p : Bool} (x y : Bool) → Seen n p → Seen n (both p x) → Seen n (both p y) → Seen n (both p (no (either x y)))
and_neither {n} {p} x y s t u = seen_as (except p x y) (and s (not (or t u)))

-- ---- n in digits of s bits, of which the last that is named stands at bit k: two of them, three, four, and a second in a range
digits2 : (s k c e n : ℕ) → T (ltb e (2 ^ s)) → both (eqb (n / 2 ^ (k + s)) c) (eqb (n / 2 ^ k % 2 ^ s) e) ≡ eqb (n / 2 ^ k) (c * 2 ^ s + e)
digits2 s k c e n h = more s k c e n (eqb (n / 2 ^ (k + s)) c) (lit< h) refl

digits3 : (s k c e f n : ℕ) → T (ltb e (2 ^ s)) → T (ltb f (2 ^ s))
    → both (both (eqb (n / 2 ^ ((k + s) + s)) c) (eqb (n / 2 ^ (k + s) % 2 ^ s) e)) (eqb (n / 2 ^ k % 2 ^ s) f) ≡ eqb (n / 2 ^ k) ((c * 2 ^ s + e) * 2 ^ s + f)
digits3 s k c e f n h i = more s k (c * 2 ^ s + e) f n _ (lit< i) (digits2 s (k + s) c e n h)

digits_in : (s k c l u n : ℕ) → T (ltb u (2 ^ s))
    → both (eqb (n / 2 ^ (k + s)) c) (within l u (n / 2 ^ k % 2 ^ s)) ≡ within (c * 2 ^ s + l) (c * 2 ^ s + u) (n / 2 ^ k)
digits_in s k c l u n h = more_within s k c l u n (eqb (n / 2 ^ (k + s)) c) (lit< h) refl

abbrev one : (k c : ℕ) {n : ℕ} → Seen n (eqb (n / 2 ^ k) c)
one k c = lead k c refl

abbrev one_in : (k l u : ℕ) {n : ℕ} → Seen n (within l u (n / 2 ^ k))
one_in k l u = span k l u refl

abbrev two : (s k c e : ℕ) {n : ℕ} → T (ltb e (2 ^ s)) → Seen n (both (eqb (n / 2 ^ (k + s)) c) (eqb (n / 2 ^ k % 2 ^ s) e))
two s k c e {n} h = lead k (c * 2 ^ s + e) (digits2 s k c e n h)

abbrev two_in : (s k c l u : ℕ) {n : ℕ} → T (ltb u (2 ^ s)) → Seen n (both (eqb (n / 2 ^ (k + s)) c) (within l u (n / 2 ^ k % 2 ^ s)))
two_in s k c l u {n} h = span k (c * 2 ^ s + l) (c * 2 ^ s + u) (digits_in s k c l u n h)

abbrev three : (s k c e f : ℕ) {n : ℕ} → T (ltb e (2 ^ s)) → T (ltb f (2 ^ s))
    → Seen n (both (both (eqb (n / 2 ^ ((k + s) + s)) c) (eqb (n / 2 ^ (k + s) % 2 ^ s) e)) (eqb (n / 2 ^ k % 2 ^ s) f))
three s k c e f {n} h i = lead k ((c * 2 ^ s + e) * 2 ^ s + f) (digits3 s k c e f n h i)

abbrev four : (s c e f g : ℕ) {n : ℕ} → T (ltb e (2 ^ s)) → T (ltb f (2 ^ s)) → T (ltb g (2 ^ s))
    → Seen n (both (both (both (eqb (n / 2 ^ ((s + s) + s)) c) (eqb (n / 2 ^ (s + s) % 2 ^ s) e)) (eqb (n / 2 ^ s % 2 ^ s) f)) (eqb (n % 2 ^ s) g))
four s c e f g {n} h i j =
    seen_as (last s ((c * 2 ^ s + e) * 2 ^ s + f) g n _ (lit< j) (digits3 s s c e f n h i)) (exact (((c * 2 ^ s + e) * 2 ^ s + f) * 2 ^ s + g))

words4 : (n : ℕ) → Seen n (global_unicast4 n)
unfolding global_unicast4
words4 n =
    not
    (or (one 24 _)
    (or (one 24 _)
    (or (two_in 8 16 _ _ _ tt)
    (or (two 8 16 _ _ tt)
    (or (two_in 8 16 _ _ _ tt)
    (or (one 24 _)
    (or (two 8 16 _ _ tt)
    (or (and_neither _ _ (three 8 8 _ _ _ tt tt) (four 8 _ _ _ _ tt tt tt) (four 8 _ _ _ _ tt tt tt))
    (or (three 8 8 _ _ _ tt tt)
    (or (three 8 8 _ _ _ tt tt)
    (or (three 8 8 _ _ _ tt tt) (or (two_in 8 16 _ _ _ tt) (least 24 _)))))))))))))

words4_on : (n : ℕ) → Seen n (unicast4 n)
unfolding unicast4
words4_on n = not (or (exact _) (or (one_in 24 _ _) (exact _)))

words6 : (n : ℕ) → Seen n (global_unicast6 n)
unfolding global_unicast6
words6 n =
    and (one_in 112 _ _)
    (and (not (one 112 _))
    (and (not (two 16 96 _ _ tt))
    (and (not (two_in 16 96 _ _ _ tt))
    (or (not (two_in 16 96 _ _ _ tt))
    (or (exact _)
    (or (exact _)
    (or (two 16 96 _ _ tt)
    (or (three 16 80 _ _ _ tt tt)
    (or (two_in 16 96 _ _ _ tt) (two_in 16 96 _ _ _ tt))))))))))

words6_on : (n : ℕ) → Seen n (unicast6 n)
unfolding unicast6
words6_on n = not (or (exact _) (least 120 _))

-- ---- the table as a test of an address of w bits: 32, or 128
prefix_test : ℕ → ℕ → ℕ → Test
prefix_test w p len = range (p / 2 ^ (w - len) * 2 ^ (w - len)) ((p / 2 ^ (w - len) + 1) * 2 ^ (w - len))

prefix_is : (w p len n : ℕ) → same_leading_bits w len n p ≡ run (prefix_test w p len) n
unfolding same_leading_bits prefix_test
prefix_is w p len n = lead_is (w - len) (p / 2 ^ (w - len)) n _ refl

row4 : Prefix → Test
row4 (Net4 p len) = prefix_test 32 p len
row4 (Net6 h l len) = always false

row6 : Prefix → Test
row6 (Net4 p len) = always false
row6 (Net6 h l len) = prefix_test 128 (h * 2 ^ 64 + l) len

row4_is : (n : ℕ) (p : Prefix) → lies_in (V4 n) p ≡ run (row4 p) n
unfolding row4 run
row4_is n (Net4 p len) = prefix_is 32 p len n
row4_is n (Net6 h l len) = refl

row6_is : (h l : ℕ) (p : Prefix) → lies_in (V6 h l) p ≡ run (row6 p) (h * 2 ^ 64 + l)
unfolding row6 run
row6_is h l (Net4 p len) = refl
row6_is h l (Net6 ph pl len) = prefix_is 128 (ph * 2 ^ 64 + pl) len (h * 2 ^ 64 + l)

-- the search, where `row` says of each prefix what it is as a test
table_test : (Prefix → Test) → Bool → List Range → Test
table_test row private [] = always false
table_test row private (r ∷ rs) = branch (row r.0) (always (permits private r.1)) (table_test row private rs)

table_is : (row : Prefix → Test) (private : Bool) (ip : Ip) (n : ℕ) → ((p : Prefix) → lies_in ip p ≡ run (row p) n) → (rs : List Range) → permits private (first_row ip rs).1 ≡ run (table_test row private rs) n
unfolding table_test first_row run
table_is row private ip n is [] = refl
table_is row private ip n is (r ∷ rs) = rw (← is r.0) (go (lies_in ip r.0) (table_is row private ip n is rs))
  where
    go : (b : Bool) → permits private (first_row ip rs).1 ≡ run (table_test row private rs) n → permits private (pick b r (first_row ip rs)).1 ≡ pick b (permits private r.1) (run (table_test row private rs) n)
    go true i = refl
    go false i = i

-- ---- the table means what the words say
meaning4 : (private : Bool) (n : ℕ) → n < 2 ^ 32 → permits private (first_row (V4 n) table).1 ≡ passes private (V4 n)
unfolding table table_test row4 prefix_test run bounds alike words4 words4_on
meaning4 true n h = table_is row4 true (V4 n) n (row4_is n) table ∙ agree (2 ^ 32) (table_test row4 true table) (words4_on n).test tt n h ∙ sym (words4_on n).is
meaning4 false n h = table_is row4 false (V4 n) n (row4_is n) table ∙ agree (2 ^ 32) (table_test row4 false table) (words4 n).test tt n h ∙ sym (words4 n).is

meaning6 : (private : Bool) (h l : ℕ) → h * 2 ^ 64 + l < 2 ^ 128 → permits private (first_row (V6 h l) table).1 ≡ passes private (V6 h l)
unfolding table table_test row6 prefix_test run bounds alike words6 words6_on
meaning6 true h l b =
    let n : ℕ = h * 2 ^ 64 + l in
    table_is row6 true (V6 h l) n (row6_is h l) table ∙ agree (2 ^ 128) (table_test row6 true table) (words6_on n).test tt n b ∙ sym (words6_on n).is
meaning6 false h l b =
    let n : ℕ = h * 2 ^ 64 + l in
    table_is row6 false (V6 h l) n (row6_is h l) table ∙ agree (2 ^ 128) (table_test row6 false table) (words6 n).test tt n b ∙ sym (words6 n).is

first_passes : (private : Bool) (ip : Ip) → InBits ip → permits private (first_row ip table).1 ≡ passes private ip
first_passes private (V4 n) b = meaning4 private n b
first_passes private (V6 h l) b = meaning6 private h l (digits_lt b.0 b.1)

pub table_is_rule : (private : Bool) (ip : Ip) → InBits ip → permits private (verdict_of ip) ≡ passes private ip
table_is_rule private ip b = ap (permits private) (sym (first_verdict ip refl)) ∙ first_passes private ip b

-- an address that is judged as j
pub judged : (private : Bool) (ip : Ip) {j : Ip} {v : Verdict} {r : Bool} → j ≡ judged_as private ip → InBits j → v ≡ verdict_of j → r ≡ permits private v → r ≡ may_be_target private ip
unfolding may_be_target
judged private ip {j} q b w e = e ∙ ap (permits private) w ∙ table_is_rule private j b ∙ ap (passes private) q
