-- What holds of each entry, and how long a list of addresses is.
-- Assumes nothing.
use mathlib.Core.Path.{◌≡◌, refl, sym, ◌∙◌}
use mathlib.Core.Bool.{true, false}
use mathlib.Core.List.{List, [], ◌∷◌, ◌++◌}
use Prim.Native.Nat.{ℕ, ◌+◌, ◌-◌, ◌*◌, ◌/◌, ◌%◌, ◌<◌, ◌≤◌}
use native.Mathlib.Omega.{arith}
use borrow.Author.Tests.{le-leb, ne_eqb}
use lib.Dec.{eqb, leb}
use lib.ListN.{length, drop, length-append}
use lib.Seq.{drop-drop, drop-append_seam}
use Rattle.wire.specs.Lists.{along, broken, entry, listed}
use Rattle.wire.proofs.EntryByEntry.{once_round}
use Rattle.wire.proofs.Listed.{All}
use Rattle.candidates.specs.Selection.{longest}

pub all_snoc : (P : List ℕ → Type 0) (xs : List (List ℕ)) (a : List ℕ) → All P xs → P a → All P (xs ++ (a ∷ []))
all_snoc P [] a h p = (p, tt)
all_snoc P (x ∷ xs) a h p = (h.0, all_snoc P xs a h.1 p)

pub all_map : (P Q : List ℕ → Type 0) → ((a : List ℕ) → P a → Q a) → (xs : List (List ℕ)) → All P xs → All Q xs
all_map P Q f [] h = tt
all_map P Q f (x ∷ xs) h = (f x h.0, all_map P Q f xs h.1)

-- each address makes at most two bytes more than the longest has
pub listed_long : (xs : List (List ℕ)) → All (λ a. length a ≤ longest) xs → length (listed xs) ≤ (longest + 2) * length xs
unfolding listed
listed_long [] h = omega arith
listed_long (x ∷ xs) h =
    let r = listed_long xs h.1 in
    let l : length (entry x ++ listed xs) ≡ length (entry x) + length (listed xs) = length-append (entry x) (listed xs) in
    let k = h.0 in
    omega arith

-- a list of addresses is not broken
pub listed_whole : (xs : List (List ℕ)) → All (λ a. length a < 65536) xs → broken (listed xs) ≡ false
unfolding listed along
listed_whole [] h = refl
listed_whole (x ∷ xs) h =
    let g : length x < 65536 = h.0 in
    let k : length x / 256 % 256 * 256 + length x % 256 ≡ length x = omega arith in
    let l : length (x ++ listed xs) ≡ length x + length (listed xs) = length-append x (listed xs) in
    let n : eqb (length (entry x ++ listed xs)) 0 ≡ false = ne_eqb (length (entry x ++ listed xs)) 0 (λ (z : length (entry x ++ listed xs) ≡ 0). omega arith) in
    let t : leb 2 (length (entry x ++ listed xs)) ≡ true = le-leb 2 (length (entry x ++ listed xs)) (omega arith) in
    let o : leb (length x) (length (entry x ++ listed xs) - 2) ≡ true = le-leb (length x) (length (entry x ++ listed xs) - 2) (omega arith) in
    let d : drop (2 + length x) (entry x ++ listed xs) ≡ listed xs = sym (drop-drop (length x) 2 (entry x ++ listed xs)) ∙ drop-append_seam x (listed xs) in
    once_round false true (λ a b. b) (entry x ++ listed xs) ∙ rw (n, k, t, o) (rw (d, listed_whole xs h.1))
