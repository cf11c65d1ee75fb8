-- The places after the rows of a key are gone, the others are divided at it, and a row comes between them. Assumes nothing.
use Prim.Native.Nat.{ℕ, suc, ◌≤◌, ◌<◌, ◌+◌}
use mathlib.Core.Path.{◌≡◌, refl, ap, sym, ◌∙◌}
use mathlib.Core.List.{List, ◌∷◌, ◌++◌, append_assoc}
use native.Mathlib.Omega.{arith}
use lib.ListN.{length, get_or, take, drop, set, length-append}
use lib.Seq.{drop-cons, take-append_seam, drop-append_seam, set_at}
use Rattle.kinds.specs.declared.Row.{Row}
use Rattle.rows.specs.declared.Keep.TheVariants.{Below, Above}
use Rattle.rows.specs.Rows.{kept, without, inserted}
use Rattle.rows.specs.Words.{at, no_row, places_of, rows_from, tabled, filled, brought, divided}
use Rattle.rows.proofs.Words.{length_places}
use Rattle.rows.proofs.Lists.{below_others, above_others, two_sides}
use Rattle.rows.proofs.Moves.{brought_is, brought_length, divide_length}
use Rattle.rows.proofs.Tables.{Holds, holds_places, holds_next, holds_write}

module _ (row : Row) (rs ps : List Row) where
  k : ℕ
  k = row.key

  low : List Row
  low = kept (Below row.key) rs

  high : List Row
  high = kept (Above row.key) rs

  others : List Row
  others = without row.key rs

  sides : length low + length high ≡ length others
  unfolding low high others
  sides = rw (below_others row.key rs, above_others row.key rs) at (two_sides row.key (without row.key rs))

  pub low_is : length (kept (Below row.key) (take (length (without row.key rs)) (filled (without row.key rs) ps))) ≡ length (kept (Below row.key) rs)
  low_is = rw (take-append_seam (without row.key rs) (drop (length (without row.key rs)) ps), below_others row.key rs) refl

  parted : divided row.key (length others) (filled others ps) ≡ (low ++ high) ++ drop (length others) ps
  unfolding divided low high others
  parted =
      rw (take-append_seam (without row.key rs) (drop (length (without row.key rs)) ps), drop-append_seam (without row.key rs) (drop (length (without row.key rs)) ps), below_others row.key rs, above_others row.key rs) refl

  both_sides : length (low ++ high) ≡ length others
  both_sides = length-append low high ∙ sides

  module _ (f : length others < length ps) where
    placed : set ((low ++ high) ++ drop (length others) ps) (length others) row ≡ (low ++ high) ++ (row ∷ drop (suc (length others)) ps)
    placed = rw (drop-cons ps (length others) no_row f) (set_at (low ++ high) (get_or ps (length others) no_row) (drop (suc (length others)) ps) row (length others) both_sides)

    between : brought ((low ++ high) ++ (row ∷ drop (suc (length others)) ps)) (length low) (length others) ≡ filled (inserted row rs) ps
    unfolding low high
    between =
        let n : length (inserted row rs) ≡ suc (length others) = simp length-append (omega (arith, sides)) in
        brought_is low high (drop (suc (length others)) ps) row (length low) (length others) refl both_sides ∙ rw (n, append_assoc low (row ∷ high) (drop (suc (length others)) ps)) refl

-- the four steps
module _ (b : ℕ) (l₀ : List ℕ) (h : b + 321 ≤ length l₀) (row : Row) (n m : ℕ) (e : n ≡ length (without row.key (rows_from b l₀))) (f : n < 64) where
  pub between_them : {l1 l2 l3 l4 : List ℕ}
      → Holds b l₀ l1 (filled (without row.key (rows_from b l₀)) (places_of b l₀))
      → m ≡ length (kept (Below row.key) (take n (places_of b l1)))
      → l2 ≡ tabled b (at l1 b) (divided row.key n (places_of b l1)) l1
      → l3 ≡ tabled b (at l2 b) (set (places_of b l2) n row) l2
      → l4 ≡ tabled b (at l3 b) (brought (places_of b l3) m n) l3
      → Holds b l₀ l4 (filled (inserted row (rows_from b l₀)) (places_of b l₀))
  unfolding low high others
  between_them o1 c e2 e3 e4 =
      let rs = rows_from b l₀ in
      let ps = places_of b l₀ in
      let g : length (without row.key rs) < length ps = omega (arith, length_places b l₀) in
      let full : length (divided row.key n (filled (without row.key rs) ps)) ≡ 64 =
      divide_length row.key (filled (without row.key rs) ps) n (omega (arith, o1.full)) ∙ o1.full
      in
      let d : divided row.key n (filled (without row.key rs) ps) ≡ (low row rs ps ++ high row rs ps) ++ drop (length (without row.key rs)) ps = rw e (parted row rs ps) in
      let o2 = holds_next h o1 (λ (xs : List Row). divided row.key n xs) ((low row rs ps ++ high row rs ps) ++ drop (length (without row.key rs)) ps) e2 d (ap length (sym d) ∙ full) in
      let o3 = holds_write h o2 n row ((low row rs ps ++ high row rs ps) ++ (row ∷ drop (suc (length (without row.key rs))) ps)) e3 (rw e (placed row rs ps g)) in
      let q : m ≡ length (low row rs ps) = c ∙ rw (holds_places h o1, e) (low_is row rs ps) in
      let z : brought ((low row rs ps ++ high row rs ps) ++ (row ∷ drop (suc (length (without row.key rs))) ps)) m n ≡ filled (inserted row rs) ps = rw (q, e) (between row rs ps g) in
      let y : length (filled (inserted row rs) ps) ≡ 64 =
      ap length (sym z) ∙ brought_length _ n (omega (arith, o3.full)) m (omega (arith, q, sides row rs ps)) ∙ o3.full
      in
      holds_next h o3 (λ (xs : List Row). brought xs m n) (filled (inserted row rs) ps) e4 z y
