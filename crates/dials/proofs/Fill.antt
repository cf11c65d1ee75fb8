-- A column of 64 places that values are pushed to. Assumes nothing.
use Prim.Native.Nat.{suc, ◌<◌, ◌-◌}
use mathlib.Core.Path.{◌≡◌, refl, ap}
use mathlib.Core.List.{List, [], ◌∷◌, ◌++◌, append_assoc}
use native.Mathlib.Omega.{arith}
use lib.ListN.{set, length, take, length-append, length-take}
use lib.Seq.{take_all, set-append_seam}
use Rattle.prelude.specs.Lists.{padded}
use Rattle.dials.specs.declared.Column.{Column}
use Rattle.dials.specs.Dials.{column_of, pushed}

module _ {A : Type 0} (z : A) (xs : List A) where
  module _ (x : A) (h : length xs < 64) where
    set_padded : set (padded 64 z xs) (length xs) x ≡ padded 64 z (xs ++ (x ∷ []))
    set_padded =
        let k : 64 - length xs ≡ suc (63 - length xs) = omega arith in
        let k2 : 64 - length (xs ++ (x ∷ [])) ≡ 63 - length xs = simp length-append (omega arith) in
        simp (k, k2, set-append_seam, append_assoc)

    pub pushed_column : pushed (column_of z xs) x ≡ column_of z (xs ++ (x ∷ []))
    unfolding column_of
    pushed_column =
        let t : take 64 xs ≡ xs = take_all 64 xs (omega arith) in
        let t2 : take 64 (xs ++ (x ∷ [])) ≡ xs ++ (x ∷ []) = take_all 64 (xs ++ (x ∷ [])) (simp length-append (omega arith)) in
        rw (t, t2, set_padded, length-append) refl

  -- one that holds fewer than 64 holds them all
  pub all_held : {column : Column A} → column ≡ column_of z xs → column.count < 64 → length xs < 64
  unfolding column_of
  all_held e h = omega (arith, length-take 64 xs, ap (λ (c : Column A). c.count) e)
