-- What each short function answers, by the tests on the way.
-- Assumes nothing.
use mathlib.Core.Path.{◌≡◌, refl, sym, ap, ◌∙◌}
use mathlib.Core.Bool.{Bool, true, false, not}
use mathlib.Core.List.{List, [], ◌∷◌}
use Prim.Native.Nat.{ℕ, ◌<◌, ◌≤◌}
use native.Mathlib.Omega.{arith}
use borrow.Author.Tests.{eqb-true, eq-eqb, leb-true, le-leb, lt-leb}
use lib.Dec.{eqb, leb}
use Rattle.std.specs.Prelude.{nat_eq, ◌&&◌, ◌||◌, Err, None, Ok, Option, Some, ℕ}
use Rattle.std.specs.Cmp.Lexicographic.{pointwise}
use Rattle.std.specs.List.{list_any}
use Rattle.prelude.specs.Choice.{pick, both, either, no, bit}
use Rattle.refusal.specs.declared.Refusal.TheVariants.{BrokenList}
use Rattle.wire.specs.Lists.{broken, listed}
use Rattle.address.specs.Multiaddr.{parsed}
use Rattle.address.specs.Words.{may_be_target}
use Rattle.address.specs.declared.Ip.{Ip}
use Rattle.candidates.specs.Entries.{same_bytes, contains}
use Rattle.candidates.specs.Selection.{most, held, counted, room_for, packed, answered}
use Rattle.candidates.specs.OnePass.{suits, wanted_from}
use Rattle.candidates.specs.declared.Source.{Source}
use Rattle.candidates.specs.declared.Source.TheVariants.{Peer, Own}
use Rattle.candidates.specs.declared.Limits.{Limits}
use Rattle.candidates.specs.Selection.{Chosen}
use Rattle.candidates.specs.declared.Counts.{Counts}

pub bit_le : (b : Bool) → bit b ≤ 1
bit_le true = omega arith
bit_le false = omega arith

pub same_self : (a : List ℕ) → same_bytes a a ≡ true
unfolding same_bytes
same_self [] = refl
same_self (x ∷ a) = let t : eqb x x ≡ true = eq-eqb x x refl in rw (t, same_self a)

pub same_true : (a b : List ℕ) → same_bytes a b ≡ true → a ≡ b
unfolding same_bytes
same_true [] [] e = refl
same_true [] (y ∷ b) e = let z : ◌≡◌ {A = ℕ} 0 1 = cc in absurd (omega arith)
same_true (x ∷ a) [] e = let z : ◌≡◌ {A = ℕ} 0 1 = cc in absurd (omega arith)
same_true (x ∷ a) (y ∷ b) e = by_test (eqb x y) refl (same_true a b) e
  where
    by_test : (t : Bool) → eqb x y ≡ t → (same_bytes a b ≡ true → a ≡ b) → both t (same_bytes a b) ≡ true → x ∷ a ≡ y ∷ b
    by_test true u f v = let i : x ≡ y = eqb-true x y u in let j : a ≡ b = f v in cc
    by_test false u f v = let z : ◌≡◌ {A = ℕ} 0 1 = cc in absurd (omega arith)

pub same_is : (a b : List ℕ) (r : Bool) → (r ≡ true → a ≡ b) → (a ≡ b → r ≡ true) → r ≡ same_bytes a b
same_is a b true f g = rw (sym (f refl)) (sym (same_self a))
same_is a b false f g = by_test (same_bytes a b) refl
  where
    by_test : (t : Bool) → same_bytes a b ≡ t → false ≡ t
    by_test true e = g (same_true a b e)
    by_test false e = refl

-- `==` of two slices is `same_bytes`
pub slices_same : (a b : List ℕ) → pointwise nat_eq a b ≡ same_bytes a b
unfolding same_bytes
slices_same [] [] = refl
slices_same [] (y ∷ b) = refl
slices_same (x ∷ a) [] = refl
slices_same (x ∷ a) (y ∷ b) = by_test (nat_eq x y) ∙ ap (both (nat_eq x y)) (slices_same a b)
  where
    by_test : (t : Bool) → (t && pointwise nat_eq a b) ≡ both t (pointwise nat_eq a b)
    by_test true = refl
    by_test false = refl

pub contains_is : (a : List ℕ) (xs : List (List ℕ)) → list_any (same_bytes a) xs ≡ contains a xs
unfolding contains
contains_is a [] = refl
contains_is a (x ∷ xs) = by_test (same_bytes a x) ∙ ap (either (same_bytes a x)) (contains_is a xs)
  where
    by_test : (t : Bool) → (t || list_any (same_bytes a) xs) ≡ either t (list_any (same_bytes a) xs)
    by_test true = refl
    by_test false = refl

-- ---- a total over the most
module _ (l : Limits) where
  pub held_same : l.total ≤ most → l ≡ held l
  held_same h = rw (le-leb l.total most h)

  pub held_most : most < l.total → record { total = most; family = l.family; ip = l.ip; port = l.port } ≡ held l
  held_most h = rw (lt-leb l.total most h)

  pub held_small : (held l).total ≤ most
  held_small = by_test (leb l.total most) refl
    where
      by_test : (t : Bool) → leb l.total most ≡ t → pick t l.total most ≤ most
      by_test true e = leb-true l.total most e
      by_test false e = omega arith

-- ---- which address is wanted
module _ (source : Source) (xs : List (List ℕ)) (a : List ℕ) (ip : Ip) where
  pub suits_peer : {private r : Bool} → source ≡ Peer private → r ≡ may_be_target private ip → r ≡ suits source xs a ip
  suits_peer e h = rw e h

  pub suits_own : {r : Bool} → source ≡ Own → r ≡ contains a xs → not r ≡ suits source xs a ip
  suits_own {r} e h = rw (e, ← h) (negated r)
    where
      negated : (r : Bool) → not r ≡ no r
      negated true = refl
      negated false = refl

module _ (l : Limits) (source : Source) (xs : List (List ℕ)) (a : List ℕ) {p : Option (Ip × ℕ)} (q : p ≡ parsed a) where
  pub wanted_other : p ≡ None → false ≡ wanted_from l source xs a
  unfolding wanted_from
  wanted_other e = rw (sym q ∙ e)

  module _ {ip : Ip} {port : ℕ} {f : Bool} (e : p ≡ Some (ip, port)) (s : f ≡ suits source xs a ip) where
    pub wanted_not : f ≡ false → false ≡ wanted_from l source xs a
    unfolding wanted_from
    wanted_not t = rw (sym q ∙ e) (rw (sym s ∙ t))

    pub wanted_room : {n : Counts} {r : Bool} → f ≡ true → n ≡ counted ip xs → r ≡ room_for l n port → r ≡ wanted_from l source xs a
    unfolding wanted_from
    wanted_room t c h = rw (sym q ∙ e) (rw (sym s ∙ t) (h ∙ ap (λ (x : Counts). room_for l x port) c))

-- ---- the answer
pub answer_refused : (s : List ℕ) (xs : List (List ℕ)) {b : Bool} → b ≡ broken s → b ≡ true → Err BrokenList ≡ answered s xs
unfolding answered
answer_refused s xs e t = rw (sym e ∙ t)

pub answer_kept : (s : List ℕ) (xs : List (List ℕ)) {b : Bool} {c : Chosen} → b ≡ broken s → b ≡ false → c ≡ packed (listed xs) → Ok c ≡ answered s xs
unfolding answered
answer_kept s xs e t q = rw (sym e ∙ t, q)
