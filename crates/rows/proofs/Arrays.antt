-- Arrays that a function of the place, or of another array's values, makes.
use Prim.Native.Nat.{ℕ, zero, suc, ◌≤◌, ◌<◌, ◌-◌, ◌+◌}
use mathlib.Core.Path.{◌≡◌, refl, ap, sym, subst, ◌∙◌}
use mathlib.Core.Bool.{Bool, true, false, cond}
use mathlib.Core.List.{List, [], ◌∷◌, map}
use native.Mathlib.Omega.{arith}
use borrow.Author.Tests.{eqb-true, eqb-false, ltb-true, ltb-false}
use denote.Param.Members.{Mut, Called}
use lib.Dec.{eqb, ltb}
use lib.ListN.{length, get_or, length-append, length-replicate, length-map}
use Rattle.std.specs.Array.{IsFromFnResult, IsFromFnResultFrom, MapsFrom, IsMapOf}
use Rattle.std.proofs.lemmas.List.{same_lists, get_or-replicate, get_or-map, get_or_past}
use Rattle.prelude.specs.Lists.{padded}

module _ {B : Type 0} (h : ℕ → B) (ys : List B) where
  here_or : (i k : ℕ) (d : B) → i ≤ k → get_or ys i d ≡ h i → (i + 1 ≤ k → get_or ys k d ≡ h k) → get_or ys k d ≡ h k
  here_or i k d l e r = go (eqb k i) refl
    where
      go : (t : Bool) → eqb k i ≡ t → get_or ys k d ≡ h k
      go true q = rw (eqb-true k i q) e
      go false q = let n = eqb-false k i q in r (omega arith)

module _ {F B : Type 0} {g : Mut F (ℕ × Unit {0}) B} (h : ℕ → B) (f : F) (ys : List B) (n : ℕ) (pure : (i : ℕ) (y : B) (q : F) → i < n → Called g f (i, tt) y q → (q ≡ f) × (y ≡ h i)) where
  each_is : (i m : ℕ) (p : F) → p ≡ f → i + m ≤ n → IsFromFnResultFrom g p ys i m → (k : ℕ) (d : B) → i ≤ k → k < i + m → get_or ys k d ≡ h k
  each_is i zero p e b w k d l u = absurd (omega arith)
  each_is i (suc m) p e b w k d l u =
      let called : (w.0 ≡ f) × (w.1 ≡ h i) = pure i w.1 w.0 (omega arith) (subst (λ (x : F). Called g x (i, tt) w.1 w.0) e w.3) in
      here_or h ys i k d l (w.2.1 d ∙ called.1) (λ s. each_is (i + 1) m w.0 called.0 (omega arith) w.4 k d s (omega arith))

  pub made_at : IsFromFnResult g f ys n → (k : ℕ) (d : B) → k < n → get_or ys k d ≡ h k
  made_at w k d l = each_is 0 n f refl (omega arith) w.each k d (omega arith) (omega arith)

padded_at : {B : Type 0} (z : B) (xs : List B) (n k : ℕ) (d : B) → k < n → length xs ≤ n → get_or (padded n z xs) k d ≡ get_or xs k z
padded_at z [] n k d l m = let q : k < n - 0 = omega arith in get_or-replicate (n - 0) k z d q
padded_at z (x ∷ xs) zero k d l m = absurd (omega arith)
padded_at z (x ∷ xs) (suc n) zero d l m = refl
padded_at z (x ∷ xs) (suc n) (suc k) d l m = let e : suc n - suc (length xs) ≡ n - length xs = omega arith in rw e (padded_at z xs n k d (omega arith) (omega arith))

-- the values in front, and the one that fills the rest
pub made_padded : {F B : Type 0} {g : Mut F (ℕ × Unit {0}) B} (z : B) (xs : List B) (f : F) (ys : List B) (n : ℕ) → length xs ≤ n → IsFromFnResult g f ys n
    → ((i : ℕ) (y : B) (q : F) → i < n → Called g f (i, tt) y q → (q ≡ f) × (y ≡ get_or xs i z)) → ys ≡ padded n z xs
made_padded z xs f ys n m w pure =
    let e : length (padded n z xs) ≡ n = simp (length-append, length-replicate) (omega arith) in
    same_lists ys (padded n z xs) (w.long ∙ sym e) (λ k d l. let b : k < n = omega (arith, w.long) in made_at (λ (i : ℕ). get_or xs i z) f ys n pure w k d b ∙ sym (padded_at z xs n k d b m))

-- a value for each of another array
module _ {F A B : Type 0} {g : Mut F (A × Unit {0}) B} (h : A → B) (z : A) (f : F) (xs : List A) (ys : List B) (pure : (x : A) (y : B) (q : F) → Called g f (x, tt) y q → (q ≡ f) × (y ≡ h x)) where
  each_mapped : (i m : ℕ) (p : F) → p ≡ f → MapsFrom g p xs ys i m → (k : ℕ) (d : B) → i ≤ k → k < i + m → get_or ys k d ≡ h (get_or xs k z)
  each_mapped i zero p e w k d l u = absurd (omega arith)
  each_mapped i (suc m) p e w k d l u =
      let called : (w.0 ≡ f) × (w.2 ≡ h w.1) = pure w.1 w.2 w.0 (subst (λ (x : F). Called g x (w.1, tt) w.2 w.0) e w.5) in
      here_or (λ (j : ℕ). h (get_or xs j z)) ys i k d l (w.4.1 d ∙ called.1 ∙ ap h (sym (w.3.1 z))) (λ s. each_mapped (i + 1) m w.0 called.0 w.6 k d s (omega arith))

  pub mapped : (n : ℕ) → length xs ≡ n → IsMapOf g f xs ys n → ys ≡ map h xs
  mapped n m w =
      same_lists ys (map h xs) (w.long ∙ sym (length-map xs h ∙ m)) (λ k d l. let b : k < n = omega (arith, w.long) in each_mapped 0 n f refl w.each k d (omega arith) (omega arith) ∙ sym (get_or-map h xs k z d (omega arith)))

-- a value for each of a list, and another past its end
pub map_place : {A B : Type 0} (f : A → B) (z : B) (d : A) (xs : List A) (i n : ℕ) → n ≡ length xs → cond (ltb i n) (f (get_or xs i d)) z ≡ get_or (map f xs) i z
map_place f z d xs i n e = go (ltb i n) refl
  where
    go : (t : Bool) → ltb i n ≡ t → cond t (f (get_or xs i d)) z ≡ get_or (map f xs) i z
    go true q = let l = ltb-true i n q in sym (get_or-map f xs i d z (omega arith))
    go false q =
        let l = ltb-false i n q in
        let m : length (map f xs) ≤ i = simp length-map (omega arith) in
        sym (get_or_past (map f xs) i z m)
