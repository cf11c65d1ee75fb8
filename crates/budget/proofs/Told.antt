-- What is due is what the rule says, each answer just in its case. Assumes nothing.
use mathlib.Core.Path.{◌≡◌, refl, sym, subst, ◌∙◌}
use mathlib.Core.Bool.{Bool, true, false}
use mathlib.Core.List.{List}
use Prim.Native.Nat.{ℕ, ◌-◌}
use native.Mathlib.Omega.{arith}
use lib.Dec.{ltb, leb}
use borrow.Author.Tests.{leb-true, leb-false, ltb-true, ltb-false}
use Rattle.std.specs.Prelude.{None, Option, Some}
use Rattle.prelude.specs.Choice.{pick, both}
use Rattle.budget.specs.Budget.{upgrade_due, due_in, due_at, values_of}
use Rattle.budget.specs.Due.{NoneOver, Due}
use Rattle.budget.specs.Due.Due.{exchange, upgrade, none}
use Rattle.budget.specs.declared.UpgradeBudget.{UpgradeBudget}
use Rattle.budget.specs.declared.UpgradeStop.TheVariants.{ExchangeTimeout, UpgradeTimeout}
use Rattle.std.proofs.lemmas.Option.{some_pair_parts}

module _ (b : UpgradeBudget) (at : ℕ) where
  upgrade_told : NoneOver b at → Due b at (values_of (upgrade_due b at))
  unfolding upgrade_due
  upgrade_told n = go (leb b.deadline at) refl
    where
      go : (t : Bool) → leb b.deadline at ≡ t → Due b at (values_of (pick t (Some (UpgradeTimeout (b.deadline - b.armed))) None))
      go true e = upgrade n (leb-true b.deadline at e)
      go false e = none n (leb-false b.deadline at e)

  running_told : (began end : ℕ) → b.running ≡ Some (began, end) → (p q : Bool) → leb end at ≡ p → ltb end b.deadline ≡ q
      → Due b at (values_of (pick (both p q) (Some (ExchangeTimeout b.rounds (end - began))) (upgrade_due b at)))
  running_told began end r true true e f = exchange (record { runs = r; by_now = leb-true end at e; before_deadline = ltb-true end b.deadline f })
  running_told began end r true false e f =
      upgrade_told (λ x y o. let g : ◌≡◌ {A = Option (ℕ × ℕ)} (Some (began, end)) (Some (x, y)) = sym r ∙ o.runs in let z : end ≡ y = (some_pair_parts _ _ _ _ g).1 in omega (arith, ltb-false end b.deadline f, o.before_deadline))
  running_told began end r false q e f =
      upgrade_told (λ x y o. let g : ◌≡◌ {A = Option (ℕ × ℕ)} (Some (began, end)) (Some (x, y)) = sym r ∙ o.runs in let z : end ≡ y = (some_pair_parts _ _ _ _ g).1 in omega (arith, leb-false end at e, o.by_now))

  in_told : (x : Option (ℕ × ℕ)) → b.running ≡ x → Due b at (values_of (due_in b at x))
  in_told None r = upgrade_told (λ x y o. let g : ◌≡◌ {A = Option (ℕ × ℕ)} None (Some (x, y)) = sym r ∙ o.runs in let z : ◌≡◌ {A = ℕ} 0 1 = cc in omega arith)
  in_told (Some (began, end)) r = running_told began end r (leb end at) (ltb end b.deadline) refl refl

  due_told : Due b at (values_of (due_at b at))
  unfolding due_at
  due_told = in_told b.running refl

  -- the cases exclude each other
  one_due : (v w : List ℕ) → Due b at v → Due b at w → v ≡ w
  one_due v w (exchange {began = x} {end = y} o) (exchange {began = u} {end = z} p) =
      let g = some_pair_parts x u y z (sym o.runs ∙ p.runs) in
      rw (g.0, g.1)
  one_due v w (exchange {began = x} {end = y} o) (upgrade n h) = absurd (n x y o)
  one_due v w (exchange {began = x} {end = y} o) (none n h) = absurd (n x y o)
  one_due v w (upgrade n h) (exchange {began = x} {end = y} o) = absurd (n x y o)
  one_due v w (upgrade n h) (upgrade m g) = refl
  one_due v w (upgrade n h) (none m g) = absurd (omega arith)
  one_due v w (none n h) (exchange {began = x} {end = y} o) = absurd (n x y o)
  one_due v w (none n h) (upgrade m g) = absurd (omega arith)
  one_due v w (none n h) (none m g) = refl

pub told : (b : UpgradeBudget) (at : ℕ) (v : List ℕ) → (values_of (due_at b at) ≡ v → Due b at v) × (Due b at v → values_of (due_at b at) ≡ v)
told b at v = (λ e. subst (Due b at) e (due_told b at), λ d. one_due b at (values_of (due_at b at)) v (due_told b at) d)
