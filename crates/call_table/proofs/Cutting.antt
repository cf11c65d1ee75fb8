-- The parts of a text, one at a time. Assumes nothing.
use mathlib.Core.Path.{◌≡◌, refl, ap, ◌∙◌}
use mathlib.Core.List.{List, [], ◌∷◌}
use mathlib.Core.Bool.{Bool, true, false}
use Prim.Native.Nat.{ℕ, suc, ◌+◌, ◌-◌, ◌<◌, ◌≤◌, min}
use native.Mathlib.Omega.{arith}
use lib.Dec.{eqb}
use lib.ListN.{length, take, drop}
use Rattle.std.specs.Prelude.{Some}
use Rattle.std.specs.Borrow.{Bor}
use Rattle.std.specs.Iterator.{MakesProgress, item_count}
use Rattle.prelude.specs.Choice.{pick}
use Rattle.text.specs.Words.{length_before}
use Rattle.text.proofs.Reading.{before_within}
use Rattle.text.proofs.Printing.{rest_of}
use Rattle.call_table.specs.Tables.{on_first, parts}

pub parts_none : (separator : ℕ) (s : List ℕ) → length s ≡ 0 → parts separator s ≡ []
unfolding parts
parts_none separator [] h = refl
parts_none separator (b ∷ s) h = absurd (omega arith)

further : (separator b n : ℕ) (s : List ℕ)
    → on_first b (take n s ∷ parts separator (drop (min (n + 1) (length s)) s)) ≡ take (suc n) (b ∷ s) ∷ parts separator (drop (min (suc n + 1) (suc (length s))) (b ∷ s))
further separator b n s = let z : min (suc n + 1) (suc (length s)) ≡ suc (min (n + 1) (length s)) = omega arith in rw z

first_of : (separator : ℕ) (s : List ℕ) → 0 < length s
    → parts separator s ≡ take (length_before separator s) s ∷ parts separator (drop (min (length_before separator s + 1) (length s)) s)
unfolding parts length_before
first_of separator [] h = absurd (omega arith)
first_of separator (b ∷ s) h = go (eqb b separator) s (first_of separator s)
  where
    go : (t : Bool) (s : List ℕ) → (0 < length s → parts separator s ≡ take (length_before separator s) s ∷ parts separator (drop (min (length_before separator s + 1) (length s)) s))
        → pick t ([] ∷ parts separator s) (on_first b (parts separator s))
        ≡ take (pick t 0 (suc (length_before separator s))) (b ∷ s) ∷ parts separator (drop (min (pick t 0 (suc (length_before separator s)) + 1) (suc (length s))) (b ∷ s))
    go true s h = let z : min (0 + 1) (suc (length s)) ≡ 1 = omega arith in rw z
    go false [] h = refl
    go false (c ∷ s) h = ap (on_first b) (h (omega arith)) ∙ further separator b (length_before separator (c ∷ s)) (c ∷ s)

module _ (separator : ℕ) (s : List ℕ) {n : ℕ} (e : n ≡ length_before separator s) where
  pub parts_first : {m : ℕ} → m ≡ min (n + 1) (length s) → 0 < length s → parts separator s ≡ take n s ∷ parts separator (take (length s - m) (drop m s))
  parts_first {m} f h = rw (rest_of s m, f, e) (first_of separator s h)

  pub first_within : n ≤ length s
  first_within = omega (arith, e, before_within separator s)

-- a part more is a step towards the end
pub nearer : {xs ys : List (List ℕ)} {a : List ℕ} {x : Bor (List ℕ)} → xs ≡ a ∷ ys → MakesProgress (λ _. Unit {0}) (item_count (λ left. left)) xs (Some x) ys
nearer h = record { on = λ _. (tt, tt, omega (arith, ap length h)); keeps = tt; rests = λ _. tt }
