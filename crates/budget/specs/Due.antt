-- Which limit ran out by a reading, as numbers (RULES.md, section 8).
use Rattle.std.specs.Prelude.{◌≡◌, List, [], ◌∷◌, ℕ, ◌-◌, ◌≤◌, ◌<◌, Some}
use Rattle.budget.specs.declared.UpgradeBudget.{UpgradeBudget}

-- an exchange runs, and its end is at or before the reading and before the deadline
pub record ExchangeOver (b : UpgradeBudget) (at began end : ℕ) : Type 0 where
  pub runs : b.running ≡ Some (began, end)
  pub by_now : end ≤ at
  pub before_deadline : end < b.deadline

abbrev pub NoneOver : UpgradeBudget → ℕ → Type 0
NoneOver b at = (began end : ℕ) → ExchangeOver b at began end → ⊥

-- the exchange's limit is 1, the rounds begun and the time from its beginning to its end; else the upgrade's, where the deadline is at or
-- before the reading, is 2 and the time from arming to the deadline; else none is 0
pub data Due (b : UpgradeBudget) (at : ℕ) : List ℕ → Type 0 where
  exchange : {began end : ℕ} → ExchangeOver b at began end → Due b at (1 ∷ b.rounds ∷ (end - began) ∷ [])
  upgrade : NoneOver b at → b.deadline ≤ at → Due b at (2 ∷ (b.deadline - b.armed) ∷ [])
  none : NoneOver b at → at < b.deadline → Due b at (0 ∷ [])
