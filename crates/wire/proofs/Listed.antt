-- Addresses written behind their lengths are read back, and a list that is not broken is the list of its addresses.
-- Assumes nothing.
use mathlib.Core.Bool.{Bool, true, false}
use mathlib.Core.Path.{subst, sym, refl, ◌≡◌, ap, ◌∙◌}
use mathlib.Core.List.{List, [], ◌∷◌, ◌++◌, append_assoc, append-nil}
use Prim.Native.Nat.{ℕ, zero, suc, ◌+◌, ◌-◌, ◌*◌, ◌/◌, ◌%◌, ◌<◌, ◌≤◌}
use native.Mathlib.Omega.{arith}
use borrow.Author.Tests.{le-leb, ne_eqb}
use lib.Dec.{eqb, leb}
use lib.ListN.{take, drop, length, length-drop, take-append-drop, get_or, length-append}
use lib.Seq.{length-take-le, get_or-drop, drop-drop, take-append_seam, drop-append_seam}
use Rattle.wire.specs.Lists.{size_at, broken, opens, along, entries, entry, listed}
use Rattle.wire.proofs.EntryByEntry.{once_round, opens_long}

-- what holds of every address
abbrev pub All : (List ℕ → Type 0) → List (List ℕ) → Type 0
All P [] = Unit {0}
All P (a ∷ xs) = P a × All P xs

pub all_of : (xs : List (List ℕ)) → ((i : ℕ) → length (get_or xs i []) < 65536) → All (λ a. length a < 65536) xs
all_of [] h = tt
all_of (a ∷ xs) h = (h 0, all_of xs (λ i. h (suc i)))

pub listed_snoc : (xs : List (List ℕ)) (a : List ℕ) → listed (xs ++ (a ∷ [])) ≡ listed xs ++ entry a
unfolding listed
listed_snoc [] a = append-nil (entry a)
listed_snoc (x ∷ xs) a = ap (λ (l : List ℕ). entry x ++ l) (listed_snoc xs a) ∙ sym (append_assoc (entry x) (listed xs) (entry a))

pub read_back : (xs : List (List ℕ)) → All (λ a. length a < 65536) xs → entries (listed xs) ≡ xs
unfolding listed along
read_back [] h = refl
read_back (x ∷ xs) h =
    let g : length x < 65536 = h.0 in
    let k : length x / 256 % 256 * 256 + length x % 256 ≡ length x = omega arith in
    let l : length (x ++ listed xs) ≡ length x + length (listed xs) = length-append x (listed xs) in
    let n : eqb (length (entry x ++ listed xs)) 0 ≡ false = ne_eqb (length (entry x ++ listed xs)) 0 (λ (z : length (entry x ++ listed xs) ≡ 0). omega arith) in
    let t : leb 2 (length (entry x ++ listed xs)) ≡ true = le-leb 2 (length (entry x ++ listed xs)) (omega arith) in
    let o : leb (length x) (length (entry x ++ listed xs) - 2) ≡ true = le-leb (length x) (length (entry x ++ listed xs) - 2) (omega arith) in
    let d : drop (2 + length x) (entry x ++ listed xs) ≡ listed xs = sym (drop-drop (length x) 2 (entry x ++ listed xs)) ∙ drop-append_seam x (listed xs) in
    once_round [] [] (λ a xs. a ∷ xs) (entry x ++ listed xs) ∙ rw (n, k, t, o) (rw (d, take-append_seam x (listed xs), read_back xs h.1))

-- nor is such a list broken
pub unbroken : (xs : List (List ℕ)) → All (λ a. length a < 65536) xs → broken (listed xs) ≡ false
unfolding listed along
unbroken [] h = refl
unbroken (x ∷ xs) h =
    let g : length x < 65536 = h.0 in
    let k : length x / 256 % 256 * 256 + length x % 256 ≡ length x = omega arith in
    let l : length (x ++ listed xs) ≡ length x + length (listed xs) = length-append x (listed xs) in
    let n : eqb (length (entry x ++ listed xs)) 0 ≡ false = ne_eqb (length (entry x ++ listed xs)) 0 (λ (z : length (entry x ++ listed xs) ≡ 0). omega arith) in
    let t : leb 2 (length (entry x ++ listed xs)) ≡ true = le-leb 2 (length (entry x ++ listed xs)) (omega arith) in
    let o : leb (length x) (length (entry x ++ listed xs) - 2) ≡ true = le-leb (length x) (length (entry x ++ listed xs) - 2) (omega arith) in
    let d : drop (2 + length x) (entry x ++ listed xs) ≡ listed xs = sym (drop-drop (length x) 2 (entry x ++ listed xs)) ∙ drop-append_seam x (listed xs) in
    once_round false true (λ a b. b) (entry x ++ listed xs) ∙ rw (n, k, t, o) (rw d (unbroken xs h.1))

nothing_listed : listed (entries []) ≡ []
unfolding listed along
nothing_listed = refl

listed_cons : (a : List ℕ) (xs : List (List ℕ)) → listed (a ∷ xs) ≡ entry a ++ listed xs
unfolding listed
listed_cons a xs = refl

-- a list that is not broken is its addresses, each after its length
module _ (x y : ℕ) (t : List ℕ) where
  abbrev two : List ℕ
  two = x ∷ y ∷ t

  first_of : x < 256 → y < 256 → size_at two ≤ length t → entry (take (size_at two) (drop 2 two)) ++ drop (2 + size_at two) two ≡ two
  first_of p q h =
      let n : length (take (x * 256 + y) t) ≡ x * 256 + y = length-take-le (x * 256 + y) t h in
      let u : (x * 256 + y) / 256 % 256 ≡ x = omega arith in
      let v : (x * 256 + y) % 256 ≡ y = omega arith in
      let d : drop (2 + (x * 256 + y)) two ≡ drop (x * 256 + y) t = sym (drop-drop (x * 256 + y) 2 two) in
      rw (n, u, v, d) (ap (λ (r : List ℕ). x ∷ y ∷ r) (take-append-drop (x * 256 + y) t))

  abbrev after : List ℕ
  after = drop (2 + size_at two) two

  full : eqb (length two) 0 ≡ false
  full = ne_eqb (length two) 0 (λ (z : length two ≡ 0). omega arith)

  round : {A : Type 0} (end break : A) (more : List ℕ → A → A) → opens two ≡ true
      → along end break more (length two) two ≡ more (take (size_at two) (drop 2 two)) (along end break more (length after) after)
  round end break more o = once_round end break more two ∙ rw (full, o)

  cut : opens two ≡ false → broken two ≡ true
  cut o = once_round false true (λ a b. b) two ∙ rw (full, o)

one_byte : (x : ℕ) → broken (x ∷ []) ≡ true
one_byte x = once_round false true (λ a b. b) (x ∷ [])

abbrev AreBytes : List ℕ → Type 0
AreBytes s = (i : ℕ) → get_or s i 0 < 256

-- a list that is not broken, where what follows its first address is known to be made of its addresses
step : (s : List ℕ) → ((r : List ℕ) → length r < length s → AreBytes r → broken r ≡ false → listed (entries r) ≡ r) → AreBytes s → broken s ≡ false → listed (entries s) ≡ s
step [] f b e = nothing_listed
step (x ∷ []) f b e = let z : ◌≡◌ {A = Bool} true false = sym (one_byte x) ∙ e in let o : ◌≡◌ {A = ℕ} 0 1 = cc in absurd (omega arith)
step (x ∷ y ∷ t) f b e = by_test (opens (x ∷ y ∷ t)) refl
  where
    by_test : (o : Bool) → opens (x ∷ y ∷ t) ≡ o → listed (entries (x ∷ y ∷ t)) ≡ x ∷ y ∷ t
    by_test false o = let z : ◌≡◌ {A = Bool} true false = sym (cut x y t o) ∙ e in let o : ◌≡◌ {A = ℕ} 0 1 = cc in absurd (omega arith)
    by_test true o =
        let w = opens_long (x ∷ y ∷ t) o in
        let n : length (after x y t) < length (x ∷ y ∷ t) = omega (arith, length-drop (2 + size_at (x ∷ y ∷ t)) (x ∷ y ∷ t)) in
        let r = round x y t false true (λ a b. b) o in
        let g = f (after x y t) n (λ (i : ℕ). subst (λ (v : ℕ). v < 256) (sym (get_or-drop (2 + size_at (x ∷ y ∷ t)) (x ∷ y ∷ t) i 0)) (b (2 + size_at (x ∷ y ∷ t) + i))) (sym r ∙ e) in
        ap listed (round x y t [] [] (λ a xs. a ∷ xs) o)
        ∙ listed_cons (take (size_at (x ∷ y ∷ t)) (drop 2 (x ∷ y ∷ t))) (entries (after x y t))
        ∙ ap (λ (l : List ℕ). entry (take (size_at (x ∷ y ∷ t)) (drop 2 (x ∷ y ∷ t))) ++ l) g
        ∙ first_of x y t (b 0) (b 1) (omega arith)

whole_within : (k : ℕ) (s : List ℕ) → length s < k → AreBytes s → broken s ≡ false → listed (entries s) ≡ s
whole_within zero s h b e = absurd (omega arith)
whole_within (suc k) s h b e = step s (λ (r : List ℕ) (n : length r < length s). whole_within k r (omega arith)) b e

pub written_back : (s : List ℕ) → ((i : ℕ) → get_or s i 0 < 256) → broken s ≡ false → listed (entries s) ≡ s
written_back s b e = whole_within (suc (length s)) s (omega arith) b e
