-- Keys counted: a table and a plain list of numbers have the same keys, and go on having them.
-- Assumes nothing.
use Prim.Native.Nat.{ℕ, ◌+◌}
use mathlib.Core.Path.{◌≡◌, refl, sym, ap, ◌∙◌}
use mathlib.Core.Bool.{Bool, true, false}
use mathlib.Core.List.{List, [], ◌∷◌, ◌++◌}
use native.Mathlib.Omega.{arith}
use borrow.Author.Tests.{eq-eqb, ne_eqb, ltb-true, ltb-false}
use lib.ListN.{length}
use lib.Dec.{eqb, ltb, leb}
use Rattle.prelude.specs.Lists.{such}
use Rattle.prelude.specs.Choice.{pick, both, no}
use Rattle.kinds.specs.declared.Row.{Row}
use Rattle.rows.specs.declared.Keep.TheVariants.{Below as KeepBelow, Above as KeepAbove, Other}
use Rattle.rows.specs.Rows.{keeps_row, kept, without, inserted, crowded}
use Rattle.names.specs.Events.{others, is_full}

-- how many there are for which the test holds
unfoldable pub count : {A : Type 0} → (A → Bool) → List A → ℕ
count p [] = 0
count p (x ∷ xs) = pick (p x) 1 0 + count p xs

pub count_same : {A : Type 0} (p q : A → Bool) → ((x : A) → p x ≡ q x) → (xs : List A) → count p xs ≡ count q xs
unfolding count
count_same p q e [] = refl
count_same p q e (x ∷ xs) = rw (e x) (ap (λ (n : ℕ). pick (q x) 1 0 + n) (count_same p q e xs))

pub count_such : {A : Type 0} (p q : A → Bool) (xs : List A) → count p (such q xs) ≡ count (λ (x : A). both (q x) (p x)) xs
unfolding count such
count_such p q [] = refl
count_such {A} p q (x ∷ xs) = go (q x) (count_such p q xs)
  where
    go : (v : Bool) → count p (such q xs) ≡ count (λ (y : A). both (q y) (p y)) xs
        → count p (pick v (x ∷ such q xs) (such q xs)) ≡ pick (both v (p x)) 1 0 + count (λ (y : A). both (q y) (p y)) xs
    go true i = ap (λ (n : ℕ). pick (p x) 1 0 + n) i
    go false i = omega (arith, i)

length_such : {A : Type 0} (p : A → Bool) (xs : List A) → length (such p xs) ≡ count p xs
unfolding count such
length_such p [] = refl
length_such p (x ∷ xs) = go (p x) (length_such p xs)
  where
    go : (v : Bool) → length (such p xs) ≡ count p xs → length (pick v (x ∷ such p xs) (such p xs)) ≡ pick v 1 0 + count p xs
    go true i = omega (arith, i)
    go false i = omega (arith, i)

count_append : {A : Type 0} (p : A → Bool) (xs ys : List A) → count p (xs ++ ys) ≡ count p xs + count p ys
unfolding count
count_append p [] ys = omega arith
count_append p (x ∷ xs) ys = let i = count_append p xs ys in omega arith

-- those of other keys
abbrev but : ℕ → (ℕ → Bool) → ℕ → Bool
but k p x = both (no (eqb x k)) (p x)

-- the rows of smaller and of larger keys are those of other keys
count_parts : (p : ℕ → Bool) (k : ℕ) (rs : List Row)
    → count (λ (r : Row). p r.key) (kept (KeepBelow k) rs) + count (λ (r : Row). p r.key) (kept (KeepAbove k) rs)
    ≡ count (λ (r : Row). but k p r.key) rs
unfolding count such
count_parts p k [] = refl
count_parts p k (x ∷ rs) = go (ltb x.key k) refl (ltb k x.key) refl (count_parts p k rs)
  where
    tally : List Row → ℕ
    tally = count (λ (r : Row). p r.key)

    go : (t : Bool) → ltb x.key k ≡ t → (u : Bool) → ltb k x.key ≡ u
        → tally (kept (KeepBelow k) rs) + tally (kept (KeepAbove k) rs) ≡ count (λ (r : Row). but k p r.key) rs
        → tally (pick t (x ∷ kept (KeepBelow k) rs) (kept (KeepBelow k) rs)) + tally (pick u (x ∷ kept (KeepAbove k) rs) (kept (KeepAbove k) rs))
        ≡ pick (but k p x.key) 1 0 + count (λ (r : Row). but k p r.key) rs
    go true e true f i = absurd (omega (arith, ltb-true x.key k e, ltb-true k x.key f))
    go true e false f i = let l = ltb-true x.key k e in rw (ne_eqb x.key k (λ q. omega arith)) (omega arith)
    go false e true f i = let l = ltb-true k x.key f in rw (ne_eqb x.key k (λ q. omega arith)) (omega arith)
    go false e false f i =
        let q : x.key ≡ k = omega (arith, ltb-false x.key k e, ltb-false k x.key f) in
        rw (eq-eqb x.key k q) (omega (arith, i))

-- the rows and the numbers have the same keys, each as often
pub record SameKeys (rs : List Row) (ks : List ℕ) : Type 0 where
  pub same : (p : ℕ → Bool) → count (λ (r : Row). p r.key) rs ≡ count p ks

pub no_keys : SameKeys [] []
unfolding count
no_keys = record { same = λ p. refl }

pub keys_without : (k : ℕ) (rs : List Row) (ks : List ℕ) → SameKeys rs ks → SameKeys (without k rs) (others k ks)
keys_without k rs ks s =
    record {
      same = λ p. count_such (λ (r : Row). p r.key) (keeps_row (Other k)) rs
          ∙ s.same (but k p)
          ∙ sym (count_such p (λ (x : ℕ). no (eqb x k)) ks);
    }

pub keys_inserted : (r : Row) (rs : List Row) (ks : List ℕ) → SameKeys rs ks → SameKeys (inserted r rs) (r.key ∷ others r.key ks)
unfolding count
keys_inserted r rs ks s = record { same = each }
  where
    each : (p : ℕ → Bool) → count (λ (x : Row). p x.key) (inserted r rs) ≡ count p (r.key ∷ others r.key ks)
    each p =
        let a = count_append (λ (x : Row). p x.key) (kept (KeepBelow r.key) rs) (r ∷ kept (KeepAbove r.key) rs) in
        let b = count_parts p r.key rs in
        let c = s.same (but r.key p) in
        let d = count_such p (λ (x : ℕ). no (eqb x r.key)) ks in
        omega arith

-- so a 65th is needed in the one just where it is in the other
pub keys_full : (k : ℕ) (rs : List Row) (ks : List ℕ) → SameKeys rs ks → crowded k rs ≡ is_full k ks
keys_full k rs ks s =
    ap (leb 64)
    (length_such (keeps_row (Other k)) rs ∙ s.same (λ (x : ℕ). no (eqb x k)) ∙ sym (length_such (λ (x : ℕ). no (eqb x k)) ks))
