-- The instants of a window: counted in closed form, and what is left without the first of them.
-- Assumes nothing.
-- whether a product is at most a difference, told by a quotient
use mathlib.Core.Path.{◌≡◌, refl, sym, ◌∙◌, ap}
use mathlib.Core.Bool.{Bool, true, false}
use mathlib.Core.List.{List, [], ◌∷◌}
use Prim.Native.Nat.{ℕ, zero, suc, ◌+◌, ◌-◌, ◌*◌, ◌/◌, ◌≤◌, ◌<◌, min, max}
use native.Mathlib.Nat.{div-eq_of_lt, div-eq-sub-div, div-le_self, zero-mul, add-zero, le-div_iff_mul-le, div-lt_iff_lt-mul, zero-add}
use native.Mathlib.Omega.{arith}
use borrow.Author.Tests.{leb-true, leb-false, lt-leb, le-leb}
use lib.ListN.{length, get_or, drop, length-drop}
use lib.Seq.{get_or-drop}
use lib.Dec.{leb}
use Rattle.prelude.specs.Lists.{count}
use Rattle.prelude.specs.Choice.{pick}
use Rattle.schedule.specs.Instants.{upto, instants, count_to}

pub fits_mul : (a m k : ℕ) → 0 < k → a ≤ m / k → a * k ≤ m
fits_mul a m k p h = (le-div_iff_mul-le p).0 h

pub over_mul : (a m k : ℕ) → 0 < k → m / k < a → m < a * k
over_mul a m k p h = (div-lt_iff_lt-mul p).0 h

none : (n at i e : ℕ) → e < at → upto n at i e ≡ []
unfolding upto
none zero at i e h = refl
none (suc n) at i e h = rw (lt-leb at e h)

closed : (n at i e : ℕ) → 0 < i → e < at + n → at ≤ e → length (upto n at i e) ≡ (e - at) / i + 1
unfolding upto
closed zero at i e p f h = absurd (omega arith)
closed (suc n) at i e p f h = rw (le-leb at e h) (more (leb (at + i) e) refl (λ f k. closed n (at + i) i e p f k))
  where
    more : (b : Bool) → leb (at + i) e ≡ b
        → (e < (at + i) + n → at + i ≤ e → length (upto n (at + i) i e) ≡ (e - (at + i)) / i + 1)
        → suc (length (upto n (at + i) i e)) ≡ (e - at) / i + 1
    more true q ih =
        let k : at + i ≤ e = leb-true _ _ q in
        let r : length (upto n (at + i) i e) ≡ (e - (at + i)) / i + 1 = ih (omega arith) k in
        let d : (e - at) / i ≡ ((e - at) - i) / i + 1 = div-eq-sub-div p (omega arith) in
        let s : (e - at) - i ≡ e - (at + i) = omega arith in
        let t : ((e - at) - i) / i ≡ (e - (at + i)) / i = ap (λ (x : ℕ). x / i) s in
        omega arith
    more false q ih =
        let k : e < at + i = leb-false _ _ q in
        let z : length (upto n (at + i) i e) ≡ 0 = ap length (none n (at + i) i e k) in
        let d : (e - at) / i ≡ 0 = div-eq_of_lt (omega arith) in
        omega arith

-- enough of the first ones are all
fuel : (n m at i e : ℕ) → 0 < i → e < at + n → e < at + m → upto n at i e ≡ upto m at i e
unfolding upto
fuel zero m at i e p f g = sym (none m at i e (omega arith))
fuel (suc n) zero at i e p f g = none (suc n) at i e (omega arith)
fuel (suc n) (suc m) at i e p f g = go (leb at e) (fuel n m (at + i) i e p (omega arith) (omega arith))
  where
    go : (b : Bool) → upto n (at + i) i e ≡ upto m (at + i) i e
        → pick b (at ∷ upto n (at + i) i e) [] ≡ pick b (at ∷ upto m (at + i) i e) []
    go true r = ap (λ (l : List ℕ). at ∷ l) r
    go false r = refl

pub instants_none : (start i e : ℕ) → e < start → instants start i e ≡ []
unfolding instants
instants_none start i e h = none (suc e) start (max i 1) e h

pub instants_some : (start i e : ℕ) → start ≤ e → instants start i e ≡ start ∷ instants (start + max i 1) i e
unfolding instants upto
instants_some start i e h =
    rw (le-leb start e h)
    (ap (λ (l : List ℕ). start ∷ l) (fuel e (suc e) (start + max i 1) (max i 1) e (omega arith) (omega arith) (omega arith)))

pub length_none : (start i e : ℕ) → e < start → length (instants start i e) ≡ 0
length_none start i e h = ap length (instants_none start i e h)

pub length_some : (start i e d : ℕ) → d ≡ max i 1 → start ≤ e → length (instants start i e) ≡ (e - start) / d + 1
unfolding instants
length_some start i e d p h = rw p (closed (suc e) start (max i 1) e (omega arith) (omega arith) h)

-- without the first n
pub drop_instants : (n start i e : ℕ) → drop n (instants start i e) ≡ instants (start + n * max i 1) i e
drop_instants zero start i e = rw (zero-mul (max i 1), add-zero start)
drop_instants (suc n) start i e = go (leb start e) refl (drop_instants n (start + max i 1) i e)
  where
    go : (b : Bool) → leb start e ≡ b
        → drop n (instants (start + max i 1) i e) ≡ instants ((start + max i 1) + n * max i 1) i e
        → drop (suc n) (instants start i e) ≡ instants (start + suc n * max i 1) i e
    go true q r =
        let a : start + suc n * max i 1 ≡ (start + max i 1) + n * max i 1 = omega arith in
        rw (instants_some start i e (leb-true _ _ q), a) r
    go false q r =
        let h : e < start = leb-false _ _ q in
        rw (instants_none start i e h, instants_none (start + suc n * max i 1) i e (omega arith))

-- those no later than a reading are those of a window that ends there
early : (m n at i e : ℕ) → count_to m (upto n at i e) ≡ length (upto n at i (min e m))
unfolding count_to count upto
early m zero at i e = refl
early m (suc n) at i e = go (leb at e) refl (leb at m) refl (early m n (at + i) i e)
  where
    go : (a : Bool) → leb at e ≡ a → (b : Bool) → leb at m ≡ b
        → count_to m (upto n (at + i) i e) ≡ length (upto n (at + i) i (min e m))
        → count_to m (pick a (at ∷ upto n (at + i) i e) []) ≡ length (pick (leb at (min e m)) (at ∷ upto n (at + i) i (min e m)) [])
    go true p true q r =
        let h : at ≤ e = leb-true _ _ p in
        let k : at ≤ m = leb-true _ _ q in
        rw (q, le-leb at (min e m) (omega arith)) (omega (arith, r))
    go true p false q r =
        let k : m < at = leb-false _ _ q in
        rw (q, lt-leb at (min e m) (omega arith)) (zero-add _ ∙ r ∙ ap length (none n (at + i) i (min e m) (omega arith)))
    go false p b q r =
        let k : e < at = leb-false _ _ p in
        rw (lt-leb at (min e m) (omega arith))

pub count_early : (at start i e : ℕ) → count_to at (instants start i e) ≡ length (instants start i (min e at))
unfolding instants
count_early at start i e =
    early at (suc e) start (max i 1) e
    ∙ ap length (fuel (suc e) (suc (min e at)) start (max i 1) (min e at) (omega arith) (omega arith) (omega arith))

-- a window that ends later has no fewer
pub length_mono : (start i e f : ℕ) → e ≤ f → length (instants start i e) ≤ length (instants start i f)
length_mono start i e f h = go (leb start e) refl
  where
    go : (b : Bool) → leb start e ≡ b → length (instants start i e) ≤ length (instants start i f)
    go true q =
        let k : start ≤ e = leb-true _ _ q in
        let m : (e - start) / max i 1 * max i 1 ≤ e - start = fits_mul ((e - start) / max i 1) (e - start) (max i 1) (omega arith) (omega arith) in
        let d : (e - start) / max i 1 ≤ (f - start) / max i 1 = (le-div_iff_mul-le {k = max i 1} {x = (e - start) / max i 1} {y = f - start} (omega arith)).1 (omega arith) in
        omega (arith, length_some start i e (max i 1) refl k, length_some start i f (max i 1) refl (omega arith))
    go false q = omega (arith, length_none start i e (leb-false _ _ q))

-- no more than the numbers up to the end
pub length_le : (start i e : ℕ) → length (instants start i e) ≤ e + 1
length_le start i e = go (leb start e) refl
  where
    go : (b : Bool) → leb start e ≡ b → length (instants start i e) ≤ e + 1
    go true q = omega (arith, div-le_self (e - start) (max i 1), length_some start i e (max i 1) refl (leb-true _ _ q))
    go false q = omega (arith, length_none start i e (leb-false _ _ q))

-- the count of those left without the first n
pub length_skip : (n start i e : ℕ) → length (instants (start + n * max i 1) i e) ≡ length (instants start i e) - n
length_skip n start i e = ap length (sym (drop_instants n start i e)) ∙ length-drop n (instants start i e)

-- the list has each of start, start + i, start + 2i, .. up to the end, and in this order
pub instant_in : (start i e k : ℕ) → start + k * max i 1 ≤ e → k < length (instants start i e)
instant_in start i e k h =
    let s : length (instants (start + k * max i 1) i e) ≡ length (instants start i e) - k = length_skip k start i e in
    omega (arith, length_some (start + k * max i 1) i e (max i 1) refl h)

pub instant_at : (start i e k : ℕ) → k < length (instants start i e) → (get_or (instants start i e) k 0 ≡ start + k * max i 1) × (start + k * max i 1 ≤ e)
instant_at start i e k h = go (leb (start + k * max i 1) e) refl
  where
    go : (b : Bool) → leb (start + k * max i 1) e ≡ b → (get_or (instants start i e) k 0 ≡ start + k * max i 1) × (start + k * max i 1 ≤ e)
    go true q =
        let l : start + k * max i 1 ≤ e = leb-true _ _ q in
        let d : get_or (drop k (instants start i e)) 0 0 ≡ get_or (instants start i e) k 0 = get_or-drop k (instants start i e) 0 0 ∙ rw (add-zero k) in
        let f : get_or (drop k (instants start i e)) 0 0 ≡ start + k * max i 1 = rw (drop_instants k start i e, instants_some (start + k * max i 1) i e l) in
        (sym d ∙ f, l)
    go false q =
        let z : length (instants (start + k * max i 1) i e) ≡ 0 = length_none (start + k * max i 1) i e (leb-false _ _ q) in
        absurd (omega (arith, z, length_skip k start i e))
