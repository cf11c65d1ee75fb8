-- What is kept is a sublist, and what holds of each entry of a list holds of each that is kept.
-- Assumes nothing.
use mathlib.Core.Path.{◌≡◌, refl, sym, ap, ◌∙◌}
use mathlib.Core.Bool.{Bool, true, false}
use mathlib.Core.List.{List, [], ◌∷◌, ◌++◌, append_assoc, append-nil, foldl}
use Prim.Native.Nat.{ℕ, ◌+◌, ◌≤◌}
use native.Mathlib.Omega.{arith}
use Rattle.prelude.specs.Lists.{count, such}
use Rattle.prelude.specs.Choice.{pick, bit}
use Rattle.wire.proofs.Listed.{All}
use Rattle.candidates.specs.Entries.{same_bytes, contains}
use Rattle.candidates.specs.Selection.{room, keep, bounded, unless_there, once}
use Rattle.candidates.specs.Laws.{AllPass, Sublist, nil, skip, keep as stay}
use Rattle.candidates.specs.declared.Limits.{Limits}
use Rattle.candidates.proofs.Listing.{all_snoc}
use Rattle.candidates.proofs.Answers.{same_true}
use Rattle.candidates.proofs.Passes.{count_append}

pub all_pass : (p : List ℕ → Bool) (xs : List (List ℕ)) → All (λ a. p a ≡ true) xs → AllPass p xs
unfolding count
all_pass p [] h = refl
all_pass p (a ∷ xs) h = let r = all_pass p xs h.1 in omega (arith, ap bit h.0)

pub all_only : (p : List ℕ → Bool) (xs : List (List ℕ)) → All (λ a. p a ≡ true) (such p xs)
unfolding such
all_only p [] = tt
all_only p (a ∷ xs) = by_test (p a) refl (all_only p xs)
  where
    by_test : (t : Bool) → p a ≡ t → All (λ a. p a ≡ true) (such p xs) → All (λ a. p a ≡ true) (pick t (a ∷ such p xs) (such p xs))
    by_test true e h = (e, h)
    by_test false e h = h

-- what holds of what there is room for holds of what is kept
all_kept : (l : Limits) (P : List ℕ → Type 0) → ((got : List (List ℕ)) (a : List ℕ) → room l got a ≡ true → P a) → (got xs : List (List ℕ)) → All P got → All P (foldl (keep l) got xs)
all_kept l P f got [] h = h
all_kept l P f got (a ∷ xs) h = by_test (room l got a) refl (λ g. all_kept l P f g xs)
  where
    by_test : (t : Bool) → room l got a ≡ t → ((g : List (List ℕ)) → All P g → All P (foldl (keep l) g xs)) → All P (foldl (keep l) (pick t (got ++ (a ∷ [])) got) xs)
    by_test true e k = k (got ++ (a ∷ [])) (all_snoc P got a h (f got a e))
    by_test false e k = k got h

pub all_bounded : (l : Limits) (P : List ℕ → Type 0) → ((got : List (List ℕ)) (a : List ℕ) → room l got a ≡ true → P a) → (xs : List (List ℕ)) → All P (bounded l xs)
unfolding bounded
all_bounded l P f xs = all_kept l P f [] xs tt

-- ---- sublists
pub sub_refl : (xs : List (List ℕ)) → Sublist xs xs
sub_refl [] = nil
sub_refl (a ∷ xs) = stay (sub_refl xs)

pub sub_trans : {xs ys zs : List (List ℕ)} → Sublist xs ys → Sublist ys zs → Sublist xs zs
sub_trans p nil = p
sub_trans p (skip q) = skip (sub_trans p q)
sub_trans (skip p) (stay q) = skip (sub_trans p q)
sub_trans (stay p) (stay q) = stay (sub_trans p q)

pub sub_all : (P : List ℕ → Type 0) {xs ys : List (List ℕ)} → Sublist xs ys → All P ys → All P xs
sub_all P nil h = tt
sub_all P (skip s) h = sub_all P s h.1
sub_all P (stay s) h = (h.0, sub_all P s h.1)

pub sub_only : (p : List ℕ → Bool) (xs : List (List ℕ)) → Sublist (such p xs) xs
unfolding such
sub_only p [] = nil
sub_only p (a ∷ xs) = by_test (p a) (sub_only p xs)
  where
    by_test : (t : Bool) → Sublist (such p xs) xs → Sublist (pick t (a ∷ such p xs) (such p xs)) (a ∷ xs)
    by_test true s = stay s
    by_test false s = skip s

-- a fold that puts some of the entries behind what is there already
module _ (take-it : List (List ℕ) → List ℕ → Bool) where
  abbrev add : List (List ℕ) → List ℕ → List (List ℕ)
  add got a = pick (take-it got a) (got ++ (a ∷ [])) got

  pub record Added (got xs : List (List ℕ)) : Type 0 where
    pub new : List (List ℕ)
    pub is : foldl add got xs ≡ got ++ new
    pub among : Sublist new xs

  pub added : (got xs : List (List ℕ)) → Added got xs
  added got [] = record { new = []; is = sym (append-nil got); among = nil }
  added got (a ∷ xs) = by_test (take-it got a) refl (λ g. added g xs)
    where
      by_test : (t : Bool) → take-it got a ≡ t → ((g : List (List ℕ)) → Added g xs) → Added got (a ∷ xs)
      by_test true e f =
          let r = f (got ++ (a ∷ [])) in
          let s : add got a ≡ got ++ (a ∷ []) = rw e in
          record { new = a ∷ r.new; is = ap (λ (g : List (List ℕ)). foldl add g xs) s ∙ r.is ∙ append_assoc got (a ∷ []) r.new; among = stay r.among }
      by_test false e f =
          let r = f got in
          let s : add got a ≡ got = rw e in
          record { new = r.new; is = ap (λ (g : List (List ℕ)). foldl add g xs) s ∙ r.is; among = skip r.among }

-- what is kept of a list stands behind what was kept before
pub kept_more : (l : Limits) (got xs : List (List ℕ)) → Added (room l) got xs
kept_more l got xs = added (room l) got xs

sub_is : {xs ys zs : List (List ℕ)} → xs ≡ ys → Sublist ys zs → Sublist xs zs
sub_is e s = rw e s

pub sub_bounded : (l : Limits) (xs : List (List ℕ)) → Sublist (bounded l xs) xs
unfolding bounded
sub_bounded l xs = let r = kept_more l [] xs in sub_is r.is r.among

-- each form once
turned : (b : Bool) {A : Type 0} (x y : A) → pick b x y ≡ pick (pick b false true) y x
turned true x y = refl
turned false x y = refl

new_form : List (List ℕ) → List ℕ → Bool
new_form got a = pick (contains a got) false true

once_is : (got xs : List (List ℕ)) → foldl unless_there got xs ≡ foldl (add new_form) got xs
unfolding new_form
once_is got [] = refl
once_is got (a ∷ xs) = once_is (unless_there got a) xs ∙ ap (λ (g : List (List ℕ)). foldl (add new_form) g xs) (turned (contains a got) got (got ++ (a ∷ [])))

pub once_more : (got xs : List (List ℕ)) → (new : List (List ℕ)) × ((foldl unless_there got xs ≡ got ++ new) × Sublist new xs)
once_more got xs = let r = added new_form got xs in (r.new, (once_is got xs ∙ r.is, r.among))

pub sub_once : (xs : List (List ℕ)) → Sublist (once xs) xs
unfolding once
sub_once xs = let r = once_more [] xs in sub_is r.1.0 r.1.1

not_there : (a : List ℕ) (xs : List (List ℕ)) → contains a xs ≡ false → count (same_bytes a) xs ≡ 0
unfolding contains count
not_there a [] h = refl
not_there a (b ∷ xs) h = by_test (same_bytes a b) h (not_there a xs)
  where
    by_test : (t : Bool) → pick t true (contains a xs) ≡ false → (contains a xs ≡ false → count (same_bytes a) xs ≡ 0) → bit t + count (same_bytes a) xs ≡ 0
    by_test true h f = let z : ◌≡◌ {A = ℕ} 0 1 = cc in absurd (omega arith)
    by_test false h f = omega (arith, f h)

-- a form that is there is not put there again
form_once : (a : List ℕ) (got xs : List (List ℕ)) → count (same_bytes a) got ≤ 1 → count (same_bytes a) (foldl unless_there got xs) ≤ 1
unfolding count
form_once a got [] h = h
form_once a got (b ∷ xs) h = by_test (contains b got) refl (λ g. form_once a g xs)
  where
    grown : (t : Bool) → same_bytes a b ≡ t → contains b got ≡ false → count (same_bytes a) (got ++ (b ∷ [])) ≤ 1
    grown true e n =
        let z : count (same_bytes a) got ≡ 0 = not_there a got (ap (λ (x : List ℕ). contains x got) (same_true a b e) ∙ n) in
        omega (arith, count_append (same_bytes a) got (b ∷ []), ap bit e, z)
    grown false e n = omega (arith, count_append (same_bytes a) got (b ∷ []), ap bit e)

    by_test : (t : Bool) → contains b got ≡ t → ((g : List (List ℕ)) → count (same_bytes a) g ≤ 1 → count (same_bytes a) (foldl unless_there g xs) ≤ 1)
        → count (same_bytes a) (foldl unless_there (pick t got (got ++ (b ∷ []))) xs) ≤ 1
    by_test true e f = f got h
    by_test false e f = f (got ++ (b ∷ [])) (grown (same_bytes a b) refl e)

pub once_each : (a : List ℕ) (xs : List (List ℕ)) → count (same_bytes a) (once xs) ≤ 1
unfolding once count
once_each a xs = form_once a [] xs (omega arith)

pub sub_count : (p : List ℕ → Bool) {xs ys : List (List ℕ)} → Sublist xs ys → count p xs ≤ count p ys
unfolding count
sub_count p nil = omega arith
sub_count p (skip s) = omega (arith, sub_count p s)
sub_count p (stay s) = omega (arith, sub_count p s)

-- ---- what is not in a list is not in what is kept of it
pub sub_lacks : (a : List ℕ) {xs ys : List (List ℕ)} → Sublist xs ys → contains a ys ≡ false → contains a xs ≡ false
unfolding contains
sub_lacks a nil h = h
sub_lacks a (skip {a = b} {ys = ys} s) h = sub_lacks a s (rest_lacks (same_bytes a b) (contains a ys) h)
  where
    rest_lacks : (t u : Bool) → pick t true u ≡ false → u ≡ false
    rest_lacks true u e = let z : ◌≡◌ {A = ℕ} 0 1 = cc in absurd (omega arith)
    rest_lacks false u e = e
sub_lacks a (stay {a = b} {xs = xs} {ys = ys} s) h = by_test (same_bytes a b) h (sub_lacks a s)
  where
    by_test : (t : Bool) → pick t true (contains a ys) ≡ false → (contains a ys ≡ false → contains a xs ≡ false) → pick t true (contains a xs) ≡ false
    by_test true e f = let z : ◌≡◌ {A = ℕ} 0 1 = cc in absurd (omega arith)
    by_test false e f = f e

pub only_append : (p : List ℕ → Bool) (xs ys : List (List ℕ)) → such p (xs ++ ys) ≡ such p xs ++ such p ys
unfolding such
only_append p [] ys = refl
only_append p (x ∷ xs) ys = by_test (p x) (only_append p xs ys)
  where
    by_test : (t : Bool) → such p (xs ++ ys) ≡ such p xs ++ such p ys → pick t (x ∷ such p (xs ++ ys)) (such p (xs ++ ys)) ≡ pick t (x ∷ such p xs) (such p xs) ++ such p ys
    by_test true h = ap (λ (l : List (List ℕ)). x ∷ l) h
    by_test false h = h

pub only_here : (p : List ℕ → Bool) (a : List ℕ) (xs : List (List ℕ)) → p a ≡ true → such p (a ∷ xs) ≡ a ∷ such p xs
unfolding such
only_here p a xs e = rw e
