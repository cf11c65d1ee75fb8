-- What one step along a table's rows does to `find_in`, `kept` and `marked`. Assumes nothing.
use Prim.Native.Nat.{ℕ, zero, suc, ◌≤◌, ◌<◌, ◌-◌, ◌+◌}
use mathlib.Core.Path.{◌≡◌, refl, ap, sym, ◌∙◌}
use mathlib.Core.Bool.{Bool, true, false, not}
use mathlib.Core.List.{List, [], ◌∷◌, ◌++◌, append_assoc, append-nil, map, map-append}
use native.Mathlib.Omega.{arith}
use native.Mathlib.Numerals.{add-one}
use lib.ListN.{length, get_or, take, drop, set, replicate, length-take, length-map, drop_of_length-le}
use lib.Seq.{drop-cons, get_or-take, take-suc, take-nil, take_all, set_at, length-take-le}
use lib.Dec.{eqb, ltb}
use borrow.Author.Tests.{ltb-true, ltb-false, lt-ltb, le-ltb, eqb-true, eqb-false}
use Rattle.std.specs.Prelude.{None, Some}
use Rattle.prelude.specs.Lists.{padded, such}
use Rattle.prelude.specs.Choice.{pick, no}
use Rattle.kinds.specs.declared.Entry.{Entry}
use Rattle.kinds.specs.declared.Row.{Row}
use Rattle.rows.specs.declared.Keep.TheVariants.{Other, Below, Above}
use Rattle.kinds.specs.Kinds.{entry_of}
use Rattle.rows.specs.Rows.{find_in, keeps_row, kept, marked, marks_by, not_below}

pub not_no : (b : Bool) → not b ≡ no b
not_no true = refl
not_no false = refl

pub ne_lt : (a b : ℕ) → (a ≡ b → ⊥) → b ≤ a → b < a
ne_lt a b n l = go (ltb b a) refl
  where
    go : (t : Bool) → ltb b a ≡ t → b < a
    go true e = ltb-true b a e
    go false e = let q = ltb-false b a e in absurd (n (omega arith))

-- ---- steps along the first k rows
module _ {A : Type 0} (xs : List A) (k i : ℕ) (d : A) (h : i < length (take k xs)) where
  pub rest : drop i (take k xs) ≡ get_or xs i d ∷ drop (i + 1) (take k xs)
  rest =
      let b : i < k = omega (arith, length-take k xs) in
      drop-cons (take k xs) i d h ∙ simp (get_or-take k xs i d b, add-one)

  pub one_more : take (i + 1) (take k xs) ≡ take i (take k xs) ++ (get_or xs i d ∷ [])
  one_more =
      let b : i < k = omega (arith, length-take k xs) in
      simp (add-one, take-suc (take k xs) i d h, get_or-take k xs i d b)

module _ (key : ℕ) (xs : List Row) (k i : ℕ) (d : Row) (h : i < length (take k xs)) where
  pub find_here : eqb (get_or xs i d).key key ≡ true → find_in key (drop i (take k xs)) ≡ Some (entry_of (get_or xs i d))
  unfolding find_in
  find_here e = simp (rest xs k i d h, e)

  pub find_on : eqb (get_or xs i d).key key ≡ false → find_in key (drop i (take k xs)) ≡ find_in key (drop (i + 1) (take k xs))
  unfolding find_in
  find_on e = simp (rest xs k i d h, e)

pub find_end : (key : ℕ) (xs : List Row) (i : ℕ) → length xs ≤ i → find_in key (drop i xs) ≡ None
unfolding find_in
find_end key xs i h = simp (drop_of_length-le xs h)

module _ {A : Type 0} (p : A → Bool) where
  pub such_append : (a b : List A) → such p (a ++ b) ≡ such p a ++ such p b
  unfolding such
  such_append [] b = refl
  such_append (x ∷ a) b = by_test (p x) (such_append a b)
    where
      by_test : (t : Bool) → such p (a ++ b) ≡ such p a ++ such p b → pick t (x ∷ such p (a ++ b)) (such p (a ++ b)) ≡ pick t (x ∷ such p a) (such p a) ++ such p b
      by_test true h = ap (λ (l : List A). x ∷ l) h
      by_test false h = h

  pub such_≤ : (xs : List A) → length (such p xs) ≤ length xs
  unfolding such
  such_≤ [] = omega arith
  such_≤ (x ∷ xs) = by_test (p x) (such_≤ xs)
    where
      by_test : (t : Bool) → length (such p xs) ≤ length xs → length (pick t (x ∷ such p xs) (such p xs)) ≤ suc (length xs)
      by_test true h = omega arith
      by_test false h = omega arith

  module _ (xs : List A) (k i : ℕ) (d : A) (h : i < length (take k xs)) where
    pub such_more : p (get_or xs i d) ≡ true → such p (take (i + 1) (take k xs)) ≡ such p (take i (take k xs)) ++ (get_or xs i d ∷ [])
    unfolding such
    such_more e = simp (one_more xs k i d h, such_append, e)

    pub such_skip : p (get_or xs i d) ≡ false → such p (take (i + 1) (take k xs)) ≡ such p (take i (take k xs))
    unfolding such
    such_skip e = simp (one_more xs k i d h, such_append, e, append-nil)

-- ---- a row that is found, and one that is removed
pub none_removed : (key : ℕ) (rs : List Row) → find_in key rs ≡ None → kept (Other key) rs ≡ rs
unfolding find_in such
none_removed key [] e = refl
none_removed key (r ∷ rs) e = go (eqb r.key key) (none_removed key rs) e
  where
    go : (t : Bool) → (find_in key rs ≡ None → kept (Other key) rs ≡ rs) → pick t (Some (entry_of r)) (find_in key rs) ≡ None → pick (no t) (r ∷ kept (Other key) rs) (kept (Other key) rs) ≡ r ∷ rs
    go true f e = let z : ◌≡◌ {A = ℕ} 0 1 = cc in absurd (omega arith)
    go false f e = ap (λ (l : List Row). r ∷ l) (f e)

pub one_removed : (key : ℕ) (rs : List Row) {x : Entry} → find_in key rs ≡ Some x → length (kept (Other key) rs) < length rs
unfolding find_in such
one_removed key [] e = let z : ◌≡◌ {A = ℕ} 0 1 = cc in absurd (omega arith)
one_removed key (r ∷ rs) {x} e = go (eqb r.key key) (λ (q : find_in key rs ≡ Some x). one_removed key rs q) e
  where
    go : (t : Bool) → (find_in key rs ≡ Some x → length (kept (Other key) rs) < length rs) → pick t (Some (entry_of r)) (find_in key rs) ≡ Some x → length (pick (no t) (r ∷ kept (Other key) rs) (kept (Other key) rs)) < suc (length rs)
    go true f e = omega (arith, such_≤ (keeps_row (Other key)) rs)
    go false f e = omega (arith, f e)

-- ---- marks
module _ {A : Type 0} where
  marked_none : (ms : List Bool) → marked {A = A} ms [] ≡ []
  unfolding marked
  marked_none [] = refl
  marked_none (m ∷ ms) = refl

  marked_next : (ms : List Bool) (xs : List A) (i : ℕ) (d : A) → i < length xs
      → marked (take (suc i) ms) (take (suc i) xs) ≡ marked (take i ms) (take i xs) ++ pick (get_or ms i false) (get_or xs i d ∷ []) []
  unfolding marked
  marked_next [] xs i d k = rw (take-nil i) refl
  marked_next (m ∷ ms) [] i d k = absurd (omega arith)
  marked_next (m ∷ ms) (x ∷ xs) zero d k = refl
  marked_next (m ∷ ms) (x ∷ xs) (suc i) d k = by_mark m (marked_next ms xs i d (omega arith))
    where
      by_mark : (m : Bool) → marked (take (suc i) ms) (take (suc i) xs) ≡ marked (take i ms) (take i xs) ++ pick (get_or ms i false) (get_or xs i d ∷ []) []
          → pick m (x ∷ marked (take (suc i) ms) (take (suc i) xs)) (marked (take (suc i) ms) (take (suc i) xs)) ≡ pick m (x ∷ marked (take i ms) (take i xs)) (marked (take i ms) (take i xs)) ++ pick (get_or ms i false) (get_or xs i d ∷ []) []
      by_mark true e = ap (λ (l : List A). x ∷ l) e
      by_mark false e = e

  module _ (ms : List Bool) (xs : List A) (k i : ℕ) (d : A) (h : i < length (take k xs)) where
    next : marked (take (i + 1) ms) (take (i + 1) (take k xs)) ≡ marked (take i ms) (take i (take k xs)) ++ pick (get_or ms i false) (get_or xs i d ∷ []) []
    next =
        let b : i < k = omega (arith, length-take k xs) in
        rw (add-one, sym (get_or-take k xs i d b)) (marked_next ms (take k xs) i d h)

    pub marked_more : get_or ms i false ≡ true → marked (take (i + 1) ms) (take (i + 1) (take k xs)) ≡ marked (take i ms) (take i (take k xs)) ++ (get_or xs i d ∷ [])
    marked_more e = next ∙ rw e refl

    pub marked_skip : get_or ms i false ≡ false → marked (take (i + 1) ms) (take (i + 1) (take k xs)) ≡ marked (take i ms) (take i (take k xs))
    marked_skip e = next ∙ rw e (append-nil _)

  pub marked_all : (ms : List Bool) (xs : List A) (i : ℕ) → length xs ≤ i → marked (take i ms) (take i xs) ≡ marked ms xs
  unfolding marked
  marked_all ms [] i h = rw (take-nil i, marked_none (take i ms), marked_none ms) refl
  marked_all [] (x ∷ xs) i h = rw (take-nil i) refl
  marked_all (m ∷ ms) (x ∷ xs) zero h = absurd (omega arith)
  marked_all (m ∷ ms) (x ∷ xs) (suc i) h = rw (marked_all ms xs i (omega arith)) refl

  pub marked_≤ : (ms : List Bool) (xs : List A) → length (marked ms xs) ≤ length xs
  unfolding marked
  marked_≤ [] xs = omega arith
  marked_≤ (m ∷ ms) [] = omega arith
  marked_≤ (m ∷ ms) (x ∷ xs) = by_mark m (marked_≤ ms xs)
    where
      by_mark : (m : Bool) → length (marked ms xs) ≤ length xs → length (pick m (x ∷ marked ms xs) (marked ms xs)) ≤ suc (length xs)
      by_mark true h = omega arith
      by_mark false h = omega arith

  -- marked by a test
  pub marked_by : (p : A → Bool) (xs : List A) (ms : List Bool) → marked (map p xs ++ ms) xs ≡ such p xs
  unfolding marked such
  marked_by p [] ms = marked_none ms
  marked_by p (x ∷ xs) ms = rw (marked_by p xs ms) refl

pub marks_such : (p : Row → Bool) (rs : List Row) → marked (marks_by p rs) rs ≡ such p rs
unfolding marks_by
marks_such p rs = marked_by p rs _

-- an array of 64 places that a loop fills from the front: one more value
pub map_more : {A B : Type 0} (f : A → B) (z : B) (xs : List A) (i : ℕ) (d : A) → i < length xs → i < 64
    → set (map f (take i xs) ++ replicate (64 - i) z) i (f (get_or xs i d)) ≡ map f (take (i + 1) xs) ++ replicate (64 - (i + 1)) z
map_more f z xs i d h k =
    let q : 64 - i ≡ suc (64 - (i + 1)) = omega arith in
    let n : length (map f (take i xs)) ≡ i = length-map (take i xs) f ∙ length-take-le i xs (omega arith) in
    let m : map f (take (i + 1) xs) ≡ map f (take i xs) ++ (f (get_or xs i d) ∷ []) = rw (add-one, take-suc xs i d h) (map-append f (take i xs) (get_or xs i d ∷ [])) in
    rw (q, m) (set_at (map f (take i xs)) z (replicate (64 - (i + 1)) z) (f (get_or xs i d)) i n ∙ sym (append_assoc (map f (take i xs)) (f (get_or xs i d) ∷ []) (replicate (64 - (i + 1)) z)))

-- and after the last
pub map_all : {A B : Type 0} (f : A → B) (z : B) (xs : List A) (i : ℕ) → i ≡ length xs → map f (take i xs) ++ replicate (64 - i) z ≡ padded 64 z (map f xs)
map_all f z xs i e =
    let t : take i xs ≡ xs = take_all i xs (omega arith) in
    let m : length (map f xs) ≡ i = length-map xs f ∙ sym e in
    rw (t, m) refl

-- ---- rows of other keys, on either side of the key
module _ (k : ℕ) where
  pub below_others : (rs : List Row) → kept (Below k) (kept (Other k) rs) ≡ kept (Below k) rs
  unfolding such
  below_others [] = refl
  below_others (r ∷ rs) = go (eqb r.key k) refl (below_others rs)
    where
      go : (t : Bool) → eqb r.key k ≡ t → kept (Below k) (kept (Other k) rs) ≡ kept (Below k) rs
          → kept (Below k) (pick (no t) (r ∷ kept (Other k) rs) (kept (Other k) rs)) ≡ pick (ltb r.key k) (r ∷ kept (Below k) rs) (kept (Below k) rs)
      go true e ih = let q = eqb-true r.key k e in rw (le-ltb r.key k (omega arith)) ih
      go false e ih = rw ih refl

  pub above_others : (rs : List Row) → such (not_below k) (kept (Other k) rs) ≡ kept (Above k) rs
  unfolding such
  above_others [] = refl
  above_others (r ∷ rs) = go (eqb r.key k) refl (ltb k r.key) refl (above_others rs)
    where
      go : (t : Bool) → eqb r.key k ≡ t → (u : Bool) → ltb k r.key ≡ u → such (not_below k) (kept (Other k) rs) ≡ kept (Above k) rs
          → such (not_below k) (pick (no t) (r ∷ kept (Other k) rs) (kept (Other k) rs)) ≡ pick u (r ∷ kept (Above k) rs) (kept (Above k) rs)
      go true e true f ih = absurd (omega (arith, eqb-true r.key k e, ltb-true k r.key f))
      go true e false f ih = ih
      go false e true f ih = let l = ltb-true k r.key f in rw (le-ltb r.key k (omega arith), ih) refl
      go false e false f ih =
          let l = ltb-false k r.key f in
          let n : r.key < k = ne_lt k r.key (λ q. eqb-false r.key k e (sym q)) l in
          rw (lt-ltb r.key k n) ih

  pub two_sides : (rs : List Row) → length (kept (Below k) rs) + length (such (not_below k) rs) ≡ length rs
  unfolding such
  two_sides [] = refl
  two_sides (r ∷ rs) = go (ltb r.key k) (two_sides rs)
    where
      go : (t : Bool) → length (kept (Below k) rs) + length (such (not_below k) rs) ≡ length rs
          → length (pick t (r ∷ kept (Below k) rs) (kept (Below k) rs)) + length (pick (no t) (r ∷ such (not_below k) rs) (such (not_below k) rs)) ≡ suc (length rs)
      go true h = omega arith
      go false h = omega arith
