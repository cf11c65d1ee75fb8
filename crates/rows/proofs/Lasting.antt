-- Which rows end at a reading: only a window does. Assumes nothing.
use Prim.Native.Nat.{ℕ}
use mathlib.Core.Path.{◌≡◌, refl}
use mathlib.Core.Bool.{Bool, true, false}
use borrow.Author.Tests.{eqb-true}
use lib.Dec.{eqb, ltb}
use Rattle.prelude.specs.Choice.{pick}
use Rattle.path.specs.declared.Path.{Path}
use Rattle.path.specs.declared.Path.TheVariants.{Relayed, Punched, Direct}
use Rattle.path.specs.declared.DialPurpose.TheVariants.{Relay, Punch, Probe, Reserve}
use Rattle.kinds.specs.declared.Entry.{Entry}
use Rattle.kinds.specs.declared.Entry.TheVariants.{Other}
use Rattle.kinds.specs.declared.Row.{Row}
use Rattle.kinds.specs.Kinds.{dialed, owned, entry_of}
use Rattle.rows.specs.Rows.{lasts}

module _ (now : ℕ) where
  either_lasts : (t : Bool) (x y : Entry) → lasts now x ≡ true → lasts now y ≡ true → lasts now (pick t x y) ≡ true
  either_lasts true x y e f = e
  either_lasts false x y e f = f

  owned_lasts : (path : Path) (kind id : ℕ) → lasts now (owned path kind id) ≡ true
  owned_lasts path kind id = either_lasts (eqb kind 0) _ _ refl (either_lasts (eqb kind 1) _ _ refl (either_lasts (eqb kind 2) _ _ refl refl))

  pub lasts_is : (r : Row) → lasts now (entry_of r) ≡ pick (eqb r.kind 5) (ltb now r.a) true
  unfolding entry_of
  lasts_is r = go (eqb r.kind 5) refl
    where
      others : Entry
      others =
          pick (eqb r.kind 6) (owned (Relayed (record { 0 = r.a })) r.b r.c)
          (pick (eqb r.kind 7) (owned Punched r.b r.c)
          (pick (eqb r.kind 8) (owned Direct r.b r.c) Other))

      others_last : lasts now others ≡ true
      others_last =
          either_lasts (eqb r.kind 6) (owned (Relayed (record { 0 = r.a })) r.b r.c) _ (owned_lasts (Relayed (record { 0 = r.a })) r.b r.c)
          (either_lasts (eqb r.kind 7) (owned Punched r.b r.c) _ (owned_lasts Punched r.b r.c)
          (either_lasts (eqb r.kind 8) (owned Direct r.b r.c) Other (owned_lasts Direct r.b r.c) refl))

      go : (t : Bool) → eqb r.kind 5 ≡ t → lasts now (entry_of r) ≡ pick t (ltb now r.a) true
      go true e = rw (eqb-true r.kind 5 e) refl
      go false e =
          rw e
          (either_lasts (eqb r.kind 1) (dialed r.a (Relay (record { 0 = r.b }) (record { 0 = r.c }))) _ refl
          (either_lasts (eqb r.kind 2) (dialed r.a (Punch (record { 0 = r.b }))) _ refl
          (either_lasts (eqb r.kind 3) (dialed r.a (Probe (record { 0 = r.b }))) _ refl
          (either_lasts (eqb r.kind 4) (dialed r.a (Reserve (record { 0 = r.b }))) _ refl others_last))))
