-- How many instants of a window count, in closed form, and what one more reading adds.
-- Assumes nothing.
use mathlib.Core.Path.{◌≡◌, refl, ◌∙◌, ap}
use mathlib.Core.Bool.{Bool, true, false}
use mathlib.Core.List.{List, [], ◌∷◌}
use Prim.Native.Nat.{ℕ, zero, suc, ◌+◌, ◌-◌, ◌/◌, ◌≤◌, ◌<◌, min, max}
use native.Mathlib.Nat.{le_refl, zero-add}
use native.Mathlib.Omega.{arith}
use borrow.Author.Tests.{leb-true, leb-false, eq-eqb, ne_eqb}
use lib.ListN.{length}
use lib.Dec.{leb, eqb}
use Rattle.prelude.specs.Lists.{count}
use Rattle.prelude.specs.Choice.{pick, both, either, bit}
use Rattle.schedule.specs.Instants.{upto, instants, count_to}
use Rattle.schedule.specs.Readings.{Largest, none, reading, larger, reached, counts, counted}
use Rattle.schedule.proofs.Instants.{instants_none, instants_some, length_none, length_some, length_mono, count_early}

either_no : (b : Bool) → either b false ≡ b
either_no true = refl
either_no false = refl

either_yes : (b : Bool) → either b true ≡ true
either_yes true = refl
either_yes false = refl

both_no : (b : Bool) → both b false ≡ false
both_no true = refl
both_no false = refl

-- a test that differs only before the instants counts the same of them
same_count : (p q : ℕ → Bool) (n at i e : ℕ) → ((t : ℕ) → at ≤ t → p t ≡ q t) → count p (upto n at i e) ≡ count q (upto n at i e)
unfolding count upto
same_count p q zero at i e h = refl
same_count p q (suc n) at i e h = go (leb at e) (same_count p q n (at + i) i e (λ t l. h t (omega arith)))
  where
    go : (b : Bool) → count p (upto n (at + i) i e) ≡ count q (upto n (at + i) i e)
        → count p (pick b (at ∷ upto n (at + i) i e) []) ≡ count q (pick b (at ∷ upto n (at + i) i e) [])
    go true r = cc (h at (le_refl at))
    go false r = refl

same_instants : (p q : ℕ → Bool) (start i e : ℕ) → ((t : ℕ) → start ≤ t → p t ≡ q t) → count p (instants start i e) ≡ count q (instants start i e)
unfolding instants
same_instants p q start i e h = same_count p q (suc e) start (max i 1) e h

silent : (l : List ℕ) → count (reached none) l ≡ 0
unfolding count
silent [] = refl
silent (t ∷ ts) = zero-add _ ∙ silent ts

-- the instants that the largest reading reaches
abbrev pub total_to : ℕ → ℕ → ℕ → Largest → ℕ
total_to start i until none = 0
total_to start i until (reading m) = length (instants start i (min until m))

reach : (start i until : ℕ) (m : Largest) → count (reached m) (instants start i until) ≡ total_to start i until m
unfolding count_to
reach start i until none = silent (instants start i until)
reach start i until (reading m) = count_early m start i until

unreached : (start i until : ℕ) (m : Largest) → reached m start ≡ false → total_to start i until m ≡ 0
unreached start i until none q = refl
unreached start i until (reading m) q = let k : m < start = leb-false _ _ q in length_none start i (min until m) (omega arith)

-- 1 at round trip 0, where the window has an instant
abbrev pub first_of : ℕ → ℕ → ℕ → ℕ
first_of start until rtt = pick (both (eqb rtt 0) (leb start until)) 1 0

module _ (start i until : ℕ) (m : Largest) where
  first_too : start ≤ until → count (counts m 0 start) (instants start i until) ≡ max 1 (total_to start i until m)
  unfolding count
  first_too h =
      let x : ℕ = count (reached m) (instants (start + max i 1) i until) in
      let t : count (counts m 0 start) (instants (start + max i 1) i until) ≡ x
      = same_instants (counts m 0 start) (reached m) (start + max i 1) i until
      (λ t l. rw (ne_eqb t start (λ e. omega arith)) (either_no (reached m t))) in
      let e : eqb start start ≡ true = eq-eqb start start refl in
      let b : count (reached m) (instants start i until) ≡ total_to start i until m = reach start i until m in
      rw (instants_some start i until h, e, either_yes (reached m start), t)
      (cases x (reached m start) refl (rw (instants_some start i until h) at b))
    where
      cases : (x : ℕ) (r : Bool) → reached m start ≡ r → bit (reached m start) + x ≡ total_to start i until m
          → 1 + x ≡ max 1 (total_to start i until m)
      cases x true q b = omega (arith, b, ap bit q)
      cases x false q b = omega (arith, b, ap bit q, unreached start i until m q)

  nothing : until < start → total_to start i until m ≡ 0
  nothing h = go m
    where
      go : (m : Largest) → total_to start i until m ≡ 0
      go none = refl
      go (reading r) = length_none start i (min until r) (omega arith)

  pub counted_is : (rtt : ℕ) → counted i start until rtt m ≡ max (first_of start until rtt) (total_to start i until m)
  unfolding counted count
  counted_is rtt = go (leb start until) refl (eqb rtt 0) refl
    where
      go : (a : Bool) → leb start until ≡ a → (z : Bool) → eqb rtt 0 ≡ z
          → count (λ t. either (reached m t) (both (eqb rtt 0) (eqb t start))) (instants start i until)
          ≡ max (pick (both (eqb rtt 0) (leb start until)) 1 0) (total_to start i until m)
      go true p true q = rw (p, q) (first_too (leb-true _ _ p))
      go true p false q =
          rw (p, q)
          (same_instants (λ t. either (reached m t) false) (reached m) start i until (λ t l. either_no (reached m t))
          ∙ (omega (arith, reach start i until m)))
      go false p z q =
          let h : until < start = leb-false _ _ p in
          rw (p, instants_none start i until h, both_no (eqb rtt 0), nothing h)

-- one more reading
pub more_total : (start i until at : ℕ) (m : Largest)
    → total_to start i until (larger at m) ≡ max (total_to start i until m) (length (instants start i (min until at)))
more_total start i until at none = omega arith
more_total start i until at (reading m) = go (leb m at) refl
  where
    go : (b : Bool) → leb m at ≡ b
        → length (instants start i (min until (max m at))) ≡ max (length (instants start i (min until m))) (length (instants start i (min until at)))
    go true q =
        let h : m ≤ at = leb-true _ _ q in
        let e : max m at ≡ at = omega arith in
        rw e (omega (arith, length_mono start i (min until m) (min until at) (omega arith)))
    go false q =
        let h : at < m = leb-false _ _ q in
        let e : max m at ≡ m = omega arith in
        rw e (omega (arith, length_mono start i (min until at) (min until m) (omega arith)))

pub counted_larger : (i start until rtt at : ℕ) (m : Largest)
    → counted i start until rtt (larger at m) ≡ max (counted i start until rtt m) (length (instants start i (min until at)))
counted_larger i start until rtt at m =
    omega (arith, counted_is start i until m rtt, counted_is start i until (larger at m) rtt, more_total start i until at m)

-- never more than the window has: 1 and the length by the interval
count_le : (p : ℕ → Bool) (l : List ℕ) → count p l ≤ length l
unfolding count
count_le p [] = omega arith
count_le p (t ∷ ts) = go (p t) (count_le p ts)
  where
    go : (b : Bool) → count p ts ≤ length ts → bit b + count p ts ≤ suc (length ts)
    go true h = omega arith
    go false h = omega arith

pub counted_le : (i start until rtt : ℕ) (m : Largest) → counted i start until rtt m ≤ 1 + (until - start) / max i 1
unfolding counted
counted_le i start until rtt m = go (leb start until) refl
  where
    b : count (counts m rtt start) (instants start i until) ≤ length (instants start i until)
    b = count_le (counts m rtt start) (instants start i until)

    go : (t : Bool) → leb start until ≡ t → count (counts m rtt start) (instants start i until) ≤ 1 + (until - start) / max i 1
    go true q = omega (arith, b, length_some start i until (max i 1) refl (leb-true _ _ q))
    go false q = omega (arith, b, length_none start i until (leb-false _ _ q))
