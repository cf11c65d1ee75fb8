-- An address list entry by entry: what stands first, and what it says of the whole.
-- Assumes nothing.
use mathlib.Core.Path.{◌≡◌, refl, sym, ap, ◌∙◌}
use mathlib.Core.Bool.{Bool, true, false, not}
use mathlib.Core.List.{List, [], ◌∷◌}
use Prim.Native.Nat.{ℕ, zero, suc, ◌+◌, ◌-◌, ◌<◌, ◌≤◌}
use native.Mathlib.Omega.{arith}
use borrow.Author.Tests.{leb-true, eqb-false, eq-eqb, ne_eqb}
use lib.Dec.{eqb, leb}
use lib.ListN.{length, take, drop, length-append, length-take, length-drop}
use Rattle.std.specs.Prelude.{Option, Some, None, option_map}
use Rattle.std.specs.Borrow.{Bor}
use Rattle.std.specs.Iterator.{MakesProgress, item_count}
use Rattle.prelude.specs.Choice.{pick}
use Rattle.wire.specs.Lists.{size_at, opens, along, first_entry, entries, entry, listed, broken}

pub opens_long : (s : List ℕ) → opens s ≡ true → (2 ≤ length s) × (size_at s ≤ length s - 2)
opens_long s e = by_test (leb 2 (length s)) refl e
  where
    by_test : (p : Bool) → leb 2 (length s) ≡ p → pick p (leb (size_at s) (length s - 2)) false ≡ true → (2 ≤ length s) × (size_at s ≤ length s - 2)
    by_test true q t = (leb-true 2 (length s) q, leb-true _ _ t)
    by_test false q t = let z : ◌≡◌ {A = ℕ} 0 1 = cc in absurd (omega arith)

abbrev found : List ℕ → Option (List ℕ × List ℕ)
found s = Some (take (size_at s) (drop 2 s), drop (2 + size_at s) s)

parts : (p : List ℕ × List ℕ) {a rest : List ℕ} → Some p ≡ Some (a, rest) → (p.0 ≡ a) × (p.1 ≡ rest)
parts p {a} {rest} h = let e : ◌≡◌ {A = List ℕ × List ℕ} p (a, rest) = cc in (ap (λ q. q.0) e, ap (λ q. q.1) e)

-- what a call of `first_entry` gave
module _ {r : Option (Bor (List ℕ) × Bor (List ℕ))} (s : List ℕ) (h : option_map (λ p. (p.0.now, p.1.now)) r ≡ first_entry s) where
  pub gave : {a rest : Bor (List ℕ)} → r ≡ Some (a, rest) → first_entry s ≡ Some (a.now, rest.now)
  gave e = sym h ∙ ap (option_map (λ p. (p.0.now, p.1.now))) e

  pub gave_none : r ≡ None → first_entry s ≡ None
  gave_none e = sym h ∙ ap (option_map (λ p. (p.0.now, p.1.now))) e

module _ {A : Type 0} (end break : A) (more : List ℕ → A → A) where
  -- fuel past the length changes nothing
  enough : (k m : ℕ) (s : List ℕ) → length s ≤ k → length s ≤ m → along end break more k s ≡ along end break more m s
  unfolding along
  enough zero zero s h g = refl
  enough zero (suc m) s h g = let z : eqb (length s) 0 ≡ true = eq-eqb (length s) 0 (omega arith) in rw z
  enough (suc k) zero s h g = let z : eqb (length s) 0 ≡ true = eq-eqb (length s) 0 (omega arith) in rw z
  enough (suc k) (suc m) s h g =
      by_test (eqb (length s) 0) (opens s) (λ (n : 0 < length s). enough k m (drop (2 + size_at s) s) (omega (arith, length-drop (2 + size_at s) s)) (omega (arith, length-drop (2 + size_at s) s))) refl
    where
      by_test : (p q : Bool) → (0 < length s → along end break more k (drop (2 + size_at s) s) ≡ along end break more m (drop (2 + size_at s) s)) → eqb (length s) 0 ≡ p →
          pick p end (pick q (more (take (size_at s) (drop 2 s)) (along end break more k (drop (2 + size_at s) s))) break)
          ≡ pick p end (pick q (more (take (size_at s) (drop 2 s)) (along end break more m (drop (2 + size_at s) s))) break)
      by_test true q f e = refl
      by_test false false f e = refl
      by_test false true f e =
          let n : length s ≡ 0 → ⊥ = eqb-false _ _ e in
          ap (more (take (size_at s) (drop 2 s))) (f (omega (arith, n)))

  abbrev go : List ℕ → A
  go s = along end break more (length s) s

  pub once_round : (s : List ℕ) → go s ≡ pick (eqb (length s) 0) end (pick (opens s) (more (take (size_at s) (drop 2 s)) (go (drop (2 + size_at s) s))) break)
  unfolding along
  once_round s =
      let n : length s ≤ suc (length s) = omega arith in
      let m : length (drop (2 + size_at s) s) ≤ length s = omega (arith, length-drop (2 + size_at s) s) in
      enough (length s) (suc (length s)) s (omega arith) n ∙ rw (enough (length s) (length (drop (2 + size_at s) s)) (drop (2 + size_at s) s) m (omega arith))

  -- what the first entry says of the whole
  module _ (s : List ℕ) where
    pub go_first : {a rest : List ℕ} → first_entry s ≡ Some (a, rest) → go s ≡ more a (go rest)
    go_first {a} {rest} h = by_test (opens s) refl h
      where
        by_test : (o : Bool) → opens s ≡ o → pick o (found s) None ≡ Some (a, rest) → go s ≡ more a (go rest)
        by_test false o t = let z : ◌≡◌ {A = ℕ} 0 1 = cc in absurd (omega arith)
        by_test true o t =
            let p = parts (take (size_at s) (drop 2 s), drop (2 + size_at s) s) t in
            let l = opens_long s o in
            let n : eqb (length s) 0 ≡ false = ne_eqb (length s) 0 (λ (z : length s ≡ 0). omega arith) in
            once_round s ∙ rw (n, o) (rw (p.0, p.1))

    pub go_none : first_entry s ≡ None → go s ≡ pick (eqb (length s) 0) end break
    go_none h = by_test (opens s) refl h
      where
        by_test : (o : Bool) → opens s ≡ o → pick o (found s) None ≡ None → go s ≡ pick (eqb (length s) 0) end break
        by_test true o t = let z : ◌≡◌ {A = ℕ} 0 1 = cc in absurd (omega arith)
        by_test false o t = once_round s ∙ rw o

pub entries_first : (s : List ℕ) {a rest : List ℕ} → first_entry s ≡ Some (a, rest) → entries s ≡ a ∷ entries rest
entries_first s h = go_first [] [] (λ a xs. a ∷ xs) s h

nothing_either_way : (p : Bool) → pick {A = List (List ℕ)} p [] [] ≡ []
nothing_either_way true = refl
nothing_either_way false = refl

pub entries_none : (s : List ℕ) → first_entry s ≡ None → entries s ≡ []
entries_none s h = go_none [] [] (λ a xs. a ∷ xs) s h ∙ nothing_either_way (eqb (length s) 0)

-- the addresses, each behind its length, take no more bytes than the list
fit_along : (k : ℕ) (s : List ℕ) → length (listed (along [] [] (λ a xs. a ∷ xs) k s)) ≤ length s
unfolding along listed
fit_along zero s = omega arith
fit_along (suc k) s = by_test (eqb (length s) 0) (opens s) refl (along [] [] (λ a xs. a ∷ xs) k (drop (2 + size_at s) s)) (fit_along k (drop (2 + size_at s) s))
  where
    by_test : (p q : Bool) → opens s ≡ q → (rest : List (List ℕ)) → length (listed rest) ≤ length (drop (2 + size_at s) s)
        → length (listed (pick p [] (pick q (take (size_at s) (drop 2 s) ∷ rest) []))) ≤ length s
    by_test true q o rest h = omega arith
    by_test false false o rest h = omega arith
    by_test false true o rest h =
        let a = take (size_at s) (drop 2 s) in
        omega (arith, length-append (entry a) (listed rest), length-take (size_at s) (drop 2 s), length-drop (2 + size_at s) s, opens_long s o)

pub entries_fit : (s : List ℕ) → length (listed (entries s)) ≤ length s
entries_fit s = fit_along (length s) s

listed_few : (xs : List (List ℕ)) → length xs ≤ length (listed xs)
unfolding listed
listed_few [] = omega arith
listed_few (a ∷ xs) = omega (arith, length-append (entry a) (listed xs), listed_few xs)

pub entries_few : (s : List ℕ) → length (entries s) ≤ length s
entries_few s = omega (arith, listed_few (entries s), entries_fit s)

-- an address more is a step towards the end
pub nearer : {xs ys : List (List ℕ)} {a : List ℕ} {x : Bor (List ℕ)} → xs ≡ a ∷ ys → MakesProgress (λ _. Unit {0}) (item_count (λ left. left)) xs (Some x) ys
nearer h = record { on = λ _. (tt, tt, omega (arith, ap length h)); keeps = tt; rests = λ _. tt }

-- ---- is_broken
pub broken_behind : (s : List ℕ) {a rest : List ℕ} → first_entry s ≡ Some (a, rest) → broken s ≡ broken rest
broken_behind s h = go_first false true (λ a b. b) s h

pub broken_unless_empty : (s : List ℕ) → first_entry s ≡ None → not (eqb (length s) 0) ≡ broken s
broken_unless_empty s h = by_test (eqb (length s) 0) ∙ sym (go_none false true (λ a b. b) s h)
  where
    by_test : (p : Bool) → not p ≡ pick p false true
    by_test true = refl
    by_test false = refl
