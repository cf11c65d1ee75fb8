-- The soonest end along the rows of a table. Assumes nothing.
use Prim.Native.Nat.{ℕ, ◌≤◌, ◌<◌, ◌+◌}
use mathlib.Core.Path.{◌≡◌, refl, ap}
use mathlib.Core.Bool.{Bool, true, false}
use native.Mathlib.Omega.{arith}
use borrow.Author.Tests.{ltb-true, ltb-false, lt-ltb, le-ltb}
use lib.Dec.{ltb}
use Rattle.std.specs.Prelude.{None, Option, Some, ℕ}
use Rattle.prelude.specs.Choice.{pick}
use mathlib.Core.List.{List}
use native.Mathlib.Numerals.{add-one}
use lib.ListN.{length, drop, get_or, drop_of_length-le}
use lib.Seq.{drop-cons}
use Rattle.kinds.specs.declared.Row.{Row}
use Rattle.kinds.specs.Kinds.{entry_of}
use Rattle.entries.specs.Entries.{end_of, sooner, soonest}

pub soonest_end : (rs : List Row) (i : ℕ) → length rs ≤ i → soonest (drop i rs) ≡ None
unfolding soonest
soonest_end rs i h = simp (drop_of_length-le rs h)

pub soonest_more : (rs : List Row) (i : ℕ) (d : Row) → i < length rs → soonest (drop i rs) ≡ sooner (end_of (entry_of (get_or rs i d))) (soonest (drop (i + 1) rs))
unfolding soonest
soonest_more rs i d h = rw (drop-cons rs i d h, add-one) refl

pub sooner_none : (a : Option ℕ) → sooner a None ≡ a
unfolding sooner
sooner_none None = refl
sooner_none (Some x) = refl

smaller : (x y z : ℕ) → pick (ltb z (pick (ltb y x) y x)) z (pick (ltb y x) y x) ≡ pick (ltb (pick (ltb z y) z y) x) (pick (ltb z y) z y) x
smaller x y z = go (ltb y x) refl (ltb z y) refl
  where
    go : (t : Bool) → ltb y x ≡ t → (u : Bool) → ltb z y ≡ u → pick (ltb z (pick t y x)) z (pick t y x) ≡ pick (ltb (pick u z y) x) (pick u z y) x
    go true e true f = rw (f, lt-ltb z x (omega (arith, ltb-true y x e, ltb-true z y f))) refl
    go true e false f = rw (f, e) refl
    go false e true f = refl
    go false e false f = rw (e, le-ltb z x (omega (arith, ltb-false y x e, ltb-false z y f))) refl

-- the sooner of three
pub sooner_on : (a b c : Option ℕ) → sooner (sooner a b) c ≡ sooner a (sooner b c)
unfolding sooner
sooner_on None b c = refl
sooner_on (Some x) None c = refl
sooner_on (Some x) (Some y) None = refl
sooner_on (Some x) (Some y) (Some z) = ap Some (smaller x y z)
