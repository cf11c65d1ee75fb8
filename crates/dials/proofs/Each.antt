-- Steps along rows that each have a value beside them. Assumes nothing.
use Prim.Native.Nat.{ℕ, zero, suc, ◌≤◌, ◌<◌, ◌+◌}
use mathlib.Core.Path.{◌≡◌, refl, ap, sym, ◌∙◌}
use mathlib.Core.List.{List, [], ◌∷◌, ◌++◌, append_assoc, append-nil, map}
use native.Mathlib.Omega.{arith}
use native.Mathlib.Numerals.{add-one}
use native.Mathlib.Nat.{not-suc-le-zero, le_of_suc-le-suc}
use lib.ListN.{length, get_or, take}
use lib.Seq.{take-suc}
use Rattle.dials.specs.Dials.{each, pairs}

module _ {A B : Type 0} where
  pub length_pairs : (xs : List A) (ys : List B) → length xs ≤ length ys → length (pairs xs ys) ≡ length xs
  unfolding pairs
  length_pairs [] ys h = refl
  length_pairs (x ∷ xs) [] h = absurd (not-suc-le-zero h)
  length_pairs (x ∷ xs) (y ∷ ys) h = ap suc (length_pairs xs ys (le_of_suc-le-suc h))

  pub pairs_at : (xs : List A) (ys : List B) (i : ℕ) (d : A) (e : B) → i < length xs → length xs ≤ length ys → get_or (pairs xs ys) i (d, e) ≡ (get_or xs i d, get_or ys i e)
  unfolding pairs
  pairs_at [] ys i d e l h = absurd (not-suc-le-zero l)
  pairs_at (x ∷ xs) [] i d e l h = absurd (not-suc-le-zero h)
  pairs_at (x ∷ xs) (y ∷ ys) zero d e l h = refl
  pairs_at (x ∷ xs) (y ∷ ys) (suc i) d e l h = pairs_at xs ys i d e (le_of_suc-le-suc l) (le_of_suc-le-suc h)

  -- beside each its value, and any values behind them
  pub pairs_map : (f : A → B) (xs : List A) (ys : List B) → pairs xs (map f xs ++ ys) ≡ map (λ (x : A). (x, f x)) xs
  unfolding pairs
  pairs_map f [] ys = refl
  pairs_map f (x ∷ xs) ys = ap (λ (l : List (A × B)). (x, f x) ∷ l) (pairs_map f xs ys)

  pub each_append : (f : A → List B) (a b : List A) → each f (a ++ b) ≡ each f a ++ each f b
  unfolding each
  each_append f [] b = refl
  each_append f (x ∷ a) b = ap (λ (l : List B). f x ++ l) (each_append f a b) ∙ sym (append_assoc (f x) (each f a) (each f b))

module _ {A B : Type 0} (xs : List A) (i : ℕ) (ys : List B) (d : A) (e : B) (l : i < length xs) (h : length xs ≤ length ys) where
  one_more : take (i + 1) (pairs xs ys) ≡ take i (pairs xs ys) ++ ((get_or xs i d, get_or ys i e) ∷ [])
  one_more =
      let q : i < length (pairs xs ys) = omega (arith, length_pairs xs ys h) in
      simp (add-one, take-suc (pairs xs ys) i (d, e) q, pairs_at xs ys i d e l h)

  pub each_more : {C : Type 0} (f : A × B → List C) → each f (take (i + 1) (pairs xs ys)) ≡ each f (take i (pairs xs ys)) ++ f (get_or xs i d, get_or ys i e)
  unfolding each
  each_more f = ap (each f) one_more ∙ each_append f (take i (pairs xs ys)) ((get_or xs i d, get_or ys i e) ∷ []) ∙ simp append-nil
