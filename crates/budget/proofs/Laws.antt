-- What the definitions of a budget give in each case.
-- Assumes nothing.
use mathlib.Core.Path.{◌≡◌, refl}
use mathlib.Core.Bool.{Bool, true, false}
use mathlib.Core.List.{[], ◌∷◌}
use Prim.Native.Nat.{ℕ, ◌-◌, ◌≤◌}
use borrow.Author.Tests.{le-leb, lt-ltb, le-ltb}
use native.Mathlib.Omega.{arith}
use lib.Dec.{ltb, leb}
use Rattle.std.specs.Prelude.{Some}
use Rattle.prelude.specs.Choice.{pick, both}
use Rattle.budget.specs.Budget.{may_begin, one_more, begun, upgrade_due, due_at, values_of}
use Rattle.budget.specs.declared.UpgradeBudget.{UpgradeBudget}
use Rattle.budget.specs.declared.UpgradeStop.TheVariants.{ExchangeTimeout, UpgradeTimeout}

-- whether a round began is told by the rounds
pub round_told : (b : UpgradeBudget) (at : ℕ) → ltb b.rounds (begun b at).rounds ≡ may_begin b at
unfolding begun one_more
round_told b at = go (may_begin b at)
  where
    go : (t : Bool) → ltb b.rounds (pick t (one_more b at) b).rounds ≡ t
    go true = lt-ltb b.rounds (one_more b at).rounds (omega arith)
    go false = le-ltb b.rounds b.rounds (omega arith)

-- an exchange that lasts to the deadline or past it gives the upgrade's timeout
pub deadline_first : (b : UpgradeBudget) (at started end : ℕ) → b.running ≡ Some (started, end) → b.deadline ≤ end
    → b.deadline ≤ at → values_of (due_at b at) ≡ 2 ∷ (b.deadline - b.armed) ∷ []
unfolding due_at upgrade_due
deadline_first b at started end r h k = simp (r, le-ltb end b.deadline h, le-leb b.deadline at k) (go (leb end at))
  where
    go : (t : Bool) → values_of (pick (both t false) (Some (ExchangeTimeout b.rounds (end - started))) (Some (UpgradeTimeout (b.deadline - b.armed)))) ≡ 2 ∷ (b.deadline - b.armed) ∷ []
    go true = refl
    go false = refl
