-- Two tests of a number that look only at where it stands among finitely many bounds are equal at every number, once they are
-- equal at each bound and at 0: between two neighbouring bounds neither can change. antt computes the comparison.
-- Assumes nothing.
use mathlib.Core.Path.{◌≡◌, refl, sym, subst, ◌∙◌}
use mathlib.Core.Bool.{Bool, true, false}
use mathlib.Core.List.{List, [], ◌∷◌, ◌++◌}
use Prim.Native.Nat.{ℕ, ◌<◌, ◌≤◌}
use native.Mathlib.Nat.{le_trans, le_refl}
use native.Mathlib.Omega.{arith}
use lib.Dec.{T, leb}
use borrow.Author.Tests.{leb-true, leb-false, le-leb, lt-leb}
use Rattle.prelude.specs.Choice.{pick}

-- a test: a constant, whether the number is at least a bound, or one of two tests by a third
pub data Test : Type 0 where
  always : Bool → Test
  from : ℕ → Test
  branch : Test → Test → Test → Test

unfoldable pub run : Test → ℕ → Bool
run (always b) n = b
run (from x) n = leb x n
run (branch s t u) n = pick (run s n) (run t n) (run u n)

unfoldable pub bounds : Test → List ℕ
bounds (always b) = []
bounds (from x) = x ∷ []
bounds (branch s t u) = bounds s ++ (bounds t ++ bounds u)

-- ---- the greatest of some bounds that a number reaches, or 0
abbrev pick_n : Bool → ℕ → ℕ → ℕ
pick_n true a b = a
pick_n false a b = b

abbrev floor : List ℕ → ℕ → ℕ
floor [] n = 0
floor (x ∷ xs) n = pick_n (leb x n) (pick_n (leb (floor xs n) x) x (floor xs n)) (floor xs n)

abbrev All : (ℕ → Type 0) → List ℕ → Type 0
All P [] = Unit {0}
All P (x ∷ xs) = P x × All P xs

all_left : (P : ℕ → Type 0) (xs ys : List ℕ) → All P (xs ++ ys) → All P xs
all_left P [] ys h = tt
all_left P (x ∷ xs) ys h = (h.0, all_left P xs ys h.1)

all_right : (P : ℕ → Type 0) (xs ys : List ℕ) → All P (xs ++ ys) → All P ys
all_right P [] ys h = h
all_right P (x ∷ xs) ys h = all_right P xs ys h.1

-- what holds of 0 and of each bound holds of the floor
abbrev pub every : (ℕ → Bool) → List ℕ → Bool
every f [] = true
every f (x ∷ xs) = pick (f x) (every f xs) false

every_here : (b c : Bool) → T (pick b c false) → T b
every_here true c t = tt
every_here false c t = t

every_rest : (b c : Bool) → T (pick b c false) → T c
every_rest true c t = t
every_rest false c t = absurd t

one_of : (f : ℕ → Bool) (b : Bool) (u v : ℕ) → T (f u) → T (f v) → T (f (pick_n b u v))
one_of f true u v p q = p
one_of f false u v p q = q

at_floor : (f : ℕ → Bool) (xs : List ℕ) (n : ℕ) → T (f 0) → T (every f xs) → T (f (floor xs n))
at_floor f [] n z t = z
at_floor f (x ∷ xs) n z t =
    let r : T (f (floor xs n)) = at_floor f xs n z (every_rest (f x) (every f xs) t) in
    one_of f (leb x n) _ _ (one_of f (leb (floor xs n) x) _ _ (every_here (f x) (every f xs) t) r) r

-- the floor is no more than the number, and each bound that the number reaches is no more than the floor
cap : (b : Bool) (x f n : ℕ) → leb x n ≡ b → f ≤ n → pick_n b (pick_n (leb f x) x f) f ≤ n
cap true x f n e h = inner (leb f x)
  where
    inner : (c : Bool) → pick_n c x f ≤ n
    inner true = leb-true x n e
    inner false = h
cap false x f n e h = h

floor_le : (xs : List ℕ) (n : ℕ) → floor xs n ≤ n
floor_le [] n = omega arith
floor_le (x ∷ xs) n = cap (leb x n) x (floor xs n) n refl (floor_le xs n)

over : (b c : Bool) (x f m : ℕ) → leb f x ≡ c → pick_n b (pick_n c x f) f ≤ m → f ≤ m
over true true x f m e h = le_trans (leb-true f x e) h
over true false x f m e h = h
over false c x f m e h = h

mine : (b c : Bool) (x f n m : ℕ) → leb x n ≡ b → leb f x ≡ c → pick_n b (pick_n c x f) f ≤ m → x ≤ n → x ≤ m
mine true true x f n m e e' h p = h
mine true false x f n m e e' h p = let q : x < f = leb-false f x e' in omega arith
mine false c x f n m e e' h p = let q : n < x = leb-false x n e in absurd (impossible p q)
  where
    impossible : x ≤ n → n < x → ⊥
    impossible p q = omega arith

reached : (xs : List ℕ) (n m : ℕ) → floor xs n ≤ m → All (λ x. x ≤ n → x ≤ m) xs
reached [] n m h = tt
reached (x ∷ xs) n m h = (
  mine (leb x n) (leb (floor xs n) x) x (floor xs n) n m refl refl h,
  reached xs n m (over (leb x n) (leb (floor xs n) x) x (floor xs n) m refl h),
)

-- ---- a test does not tell a number from another that reaches the same bounds
same_leb : (x n m : ℕ) → m ≤ n → (x ≤ n → x ≤ m) → leb x n ≡ leb x m
same_leb x n m h f = go (leb x n) refl
  where
    go : (b : Bool) → leb x n ≡ b → b ≡ leb x m
    go true e = sym (le-leb x m (f (leb-true x n e)))
    go false e = let q : n < x = leb-false x n e in sym (lt-leb x m (omega arith))

run_same : (t : Test) (n m : ℕ) → m ≤ n → All (λ x. x ≤ n → x ≤ m) (bounds t) → run t n ≡ run t m
unfolding run bounds
run_same (always b) n m h a = refl
run_same (from x) n m h a = same_leb x n m h a.0
run_same (branch s t u) n m h a =
    let P : ℕ → Type 0 = λ x. x ≤ n → x ≤ m in
    let r = all_right P (bounds s) (bounds t ++ bounds u) a in
    rw (run_same s n m h (all_left P (bounds s) (bounds t ++ bounds u) a), run_same t n m h (all_left P (bounds t) (bounds u) r), run_same u n m h (all_right P (bounds t) (bounds u) r))

-- ---- the comparison, below a limit
abbrev pub same_bool : Bool → Bool → Bool
same_bool true b = b
same_bool false b = pick b false true

same_is : (a b : Bool) → T (same_bool a b) → a ≡ b
same_is true true t = refl
same_is true false t = absurd t
same_is false true t = absurd t
same_is false false t = refl

-- at the bound x: at or past the limit, or the same
unfoldable pub alike : ℕ → Test → Test → ℕ → Bool
alike limit s t x = pick (leb limit x) true (same_bool (run s x) (run t x))

alike_is : (limit : ℕ) (s t : Test) (x : ℕ) → x < limit → T (alike limit s t x) → run s x ≡ run t x
unfolding alike
alike_is limit s t x h a = same_is (run s x) (run t x) (subst (λ (b : Bool). T (pick b true (same_bool (run s x) (run t x)))) (lt-leb limit x h) a)

pub agree : (limit : ℕ) (s t : Test) → T (every (alike limit s t) (0 ∷ bounds s ++ bounds t)) → (n : ℕ) → n < limit → run s n ≡ run t n
agree limit s t a n h =
    let xs : List ℕ = bounds s ++ bounds t in
    let m : ℕ = floor xs n in
    let le : m ≤ n = floor_le xs n in
    let r : All (λ x. x ≤ n → x ≤ m) xs = reached xs n m (le_refl m) in
    let e : run s m ≡ run t m =
    alike_is limit s t m (omega arith)
    (at_floor (alike limit s t) xs n (every_here (alike limit s t 0) (every (alike limit s t) xs) a) (every_rest (alike limit s t 0) (every (alike limit s t) xs) a)) in
    run_same s n m le (all_left (λ x. x ≤ n → x ≤ m) (bounds s) (bounds t) r) ∙ e
    ∙ sym (run_same t n m le (all_right (λ x. x ≤ n → x ≤ m) (bounds s) (bounds t) r))
