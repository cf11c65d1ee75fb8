-- The limits of an upgrade (RULES.md, section 8).
use Rattle.std.specs.Prelude.{ℕ, ◌+◌, ◌-◌, min, Bool, List, [], ◌∷◌, ltb, leb, None, Option, Some}
use Rattle.prelude.specs.Choice.{pick, both}
use Rattle.time.specs.Time.{plus}
use Rattle.budget.specs.declared.UpgradeBudget.{UpgradeBudget}
use Rattle.budget.specs.declared.UpgradeStop.{UpgradeStop}
use Rattle.budget.specs.declared.UpgradeStop.TheVariants.{ExchangeTimeout, UpgradeTimeout}

-- the most rounds of an upgrade
abbrev pub max_rounds : ℕ
max_rounds = 3

-- a budget armed at a reading: no round is begun, and the upgrade lasts as long as it may
unfoldable pub armed : ℕ → ℕ → ℕ → ℕ → UpgradeBudget
armed at upgrade exchange punch =
    record {
      armed = at;
      deadline = plus at upgrade;
      running = None;
      rounds = 0;
      exchange = exchange;
      punch = punch;
    }

-- a round may begin below the most rounds and before the deadline
unfoldable pub may_begin : UpgradeBudget → ℕ → Bool
may_begin b at = both (ltb b.rounds max_rounds) (ltb at b.deadline)

-- the same limits and rounds, with another exchange
unfoldable pub with_exchange : UpgradeBudget → Option (ℕ × ℕ) → UpgradeBudget
with_exchange b e =
    record {
      armed = b.armed;
      deadline = b.deadline;
      running = e;
      rounds = b.rounds;
      exchange = b.exchange;
      punch = b.punch;
    }

-- one more round, whose exchange lasts as long as it may, at most to the deadline
unfoldable pub one_more : UpgradeBudget → ℕ → UpgradeBudget
one_more b at =
    record {
      armed = b.armed;
      deadline = b.deadline;
      running = Some (at, min (plus at b.exchange) b.deadline);
      rounds = b.rounds + 1;
      exchange = b.exchange;
      punch = b.punch;
    }

-- the budget after an attempt to begin a round
unfoldable pub begun : UpgradeBudget → ℕ → UpgradeBudget
begun b at = pick (may_begin b at) (one_more b at) b

unfoldable pub ended : UpgradeBudget → UpgradeBudget
ended b = with_exchange b None

-- the end of a window that starts there (RULES.md, section 9)
unfoldable pub window_end : UpgradeBudget → ℕ → ℕ
window_end b start = min (plus start b.punch) b.deadline

-- whether the upgrade is over, and how long it was to last
unfoldable pub upgrade_due : UpgradeBudget → ℕ → Option UpgradeStop
upgrade_due b at = pick (leb b.deadline at) (Some (UpgradeTimeout (b.deadline - b.armed))) None

abbrev pub due_in : UpgradeBudget → ℕ → Option (ℕ × ℕ) → Option UpgradeStop
due_in b at None = upgrade_due b at
due_in b at (Some (started, end)) =
    pick (both (leb end at) (ltb end b.deadline)) (Some (ExchangeTimeout b.rounds (end - started))) (upgrade_due b at)

-- the limit that ran out by a reading: the exchange's, where it ends before the deadline; else the upgrade's
unfoldable pub due_at : UpgradeBudget → ℕ → Option UpgradeStop
due_at b at = due_in b at b.running

-- each case by its number, then its values
abbrev pub values_of : Option UpgradeStop → List ℕ
values_of None = 0 ∷ []
values_of (Some (ExchangeTimeout round budget)) = 1 ∷ round ∷ budget ∷ []
values_of (Some (UpgradeTimeout budget)) = 2 ∷ budget ∷ []

abbrev pub next_in : UpgradeBudget → Option (ℕ × ℕ) → ℕ
next_in b None = b.deadline
next_in b (Some (started, end)) = min end b.deadline

-- the earliest limit that runs
unfoldable pub next_deadline : UpgradeBudget → ℕ
next_deadline b = next_in b b.running
