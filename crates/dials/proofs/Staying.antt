-- The marks of the rows that stay, and the rows that they leave. Assumes nothing.
use Prim.Native.Nat.{ℕ, suc, ◌≤◌, ◌<◌}
use mathlib.Core.Path.{◌≡◌, refl, ap, sym, ◌∙◌}
use mathlib.Core.Bool.{Bool, true, false, cond}
use borrow.Author.Tests.{ltb-true}
use lib.Dec.{ltb}
use mathlib.Core.List.{List, [], ◌∷◌, ◌++◌, map}
use native.Mathlib.Omega.{arith}
use lib.ListN.{length, get_or}
use Rattle.prelude.specs.Choice.{pick}
use Rattle.ids.specs.declared.ConnectId.{ConnectId}
use Rattle.kinds.specs.declared.Row.{Row}
use Rattle.rows.specs.Rows.{marked}
use Rattle.rows.specs.Words.{no_row}
use Rattle.ids.specs.declared.ConnectionId.{ConnectionId}
use Rattle.std.specs.Prelude.{Option, None, Some}
use Rattle.dials.specs.declared.Fate.{Fate}
use Rattle.dials.specs.declared.Fate.TheVariants.{Stays, Goes, Closes}
use Rattle.dials.specs.Dials.{stays, staying, fate_at, left_by, left_of, each, pairs}
use Rattle.rows.proofs.Arrays.{map_place}
use Rattle.dials.proofs.Each.{length_pairs, pairs_at}

abbrev pub stays_of : ConnectId → Row × Option ConnectionId → Bool
stays_of id p = stays (fate_at id p.0 p.1)

-- the mark of a place: none past the rows
pub mark_place : (id : ConnectId) (rs : List Row) (fs : List (Option ConnectionId)) (i n : ℕ) → n ≡ length rs → length rs ≤ length fs → cond (ltb i n) (stays_of id (get_or rs i no_row, get_or fs i None)) false ≡ get_or (map (stays_of id) (pairs rs fs)) i false
mark_place id rs fs i n e h = go (ltb i n) refl ∙ map_place (stays_of id) false (no_row, None) (pairs rs fs) i n (e ∙ sym (length_pairs rs fs h))
  where
    go : (t : Bool) → ltb i n ≡ t → cond t (stays_of id (get_or rs i no_row, get_or fs i None)) false ≡ cond t (stays_of id (get_or (pairs rs fs) i (no_row, None))) false
    go true q = let l : i < length rs = omega (arith, ltb-true i n q) in ap (stays_of id) (sym (pairs_at rs fs i no_row None l h))
    go false q = refl

left_marked : (id : ConnectId) (rs : List Row) (fs : List (Option ConnectionId)) (ms : List Bool) → length rs ≤ length fs → marked (map (stays_of id) (pairs rs fs) ++ ms) rs ≡ each (left_of id) (pairs rs fs)
unfolding marked pairs each stays
left_marked id [] fs [] h = refl
left_marked id [] fs (m ∷ ms) h = refl
left_marked id (r ∷ rs) [] ms h = absurd (omega arith)
left_marked id (r ∷ rs) (f ∷ fs) ms h = go (fate_at id r f) (left_marked id rs fs ms (omega arith))
  where
    go : (t : Option Fate) → marked (map (stays_of id) (pairs rs fs) ++ ms) rs ≡ each (left_of id) (pairs rs fs)
        → pick (stays t) (r ∷ marked (map (stays_of id) (pairs rs fs) ++ ms) rs) (marked (map (stays_of id) (pairs rs fs) ++ ms) rs) ≡ left_by r t ++ each (left_of id) (pairs rs fs)
    go None e = ap (λ (l : List Row). r ∷ l) e
    go (Some (Stays token)) e = ap (λ (l : List Row). r ∷ l) e
    go (Some (Goes token)) e = e
    go (Some (Closes token)) e = e

-- the marked rows are those that are left
pub staying_left : (id : ConnectId) (rs : List Row) (fs : List (Option ConnectionId)) → length rs ≤ length fs → marked (staying id (pairs rs fs)) rs ≡ each (left_of id) (pairs rs fs)
unfolding staying
staying_left id rs fs h = left_marked id rs fs _ h

pub left_≤ : (id : ConnectId) (rs : List Row) (fs : List (Option ConnectionId)) → length (each (left_of id) (pairs rs fs)) ≤ length rs
unfolding pairs each
left_≤ id [] fs = omega arith
left_≤ id (r ∷ rs) [] = omega arith
left_≤ id (r ∷ rs) (f ∷ fs) = go (fate_at id r f) (left_≤ id rs fs)
  where
    go : (t : Option Fate) → length (each (left_of id) (pairs rs fs)) ≤ length rs → length (left_by r t ++ each (left_of id) (pairs rs fs)) ≤ suc (length rs)
    go None h = omega arith
    go (Some (Stays token)) h = omega arith
    go (Some (Goes token)) h = omega arith
    go (Some (Closes token)) h = omega arith
