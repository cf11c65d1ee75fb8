-- What a line does, and what is printed of it: it is the call of the first table that has its form.
use Rattle.std.specs.Prelude.{ℕ, List, Bool, true, None, Option}
use Rattle.prelude.specs.Choice.{pick}
use Rattle.schedule.specs.declared.BlastSchedule.{BlastSchedule}
use Rattle.schedule.specs.declared.BlastSchedule.TheVariants.{Over}
use Rattle.call_table.specs.Tables.{among}
use Rattle.library_calls.specs.declared.Kept.{Kept}
use Rattle.library_calls.specs.Messages.{messages_table, messages_text}
use Rattle.library_calls.specs.Choices.{choices_table, choices_text}
use Rattle.library_calls.specs.Budgets.{budgets_table, budget_after, budgets_text}
use Rattle.library_calls.specs.Schedules.{schedules_table, schedule_after, schedules_text}
use Rattle.budget.specs.declared.UpgradeBudget.{UpgradeBudget}

abbrev pub keeping : Option UpgradeBudget → BlastSchedule → Kept
keeping budget schedule = record { budget = budget; schedule = schedule }

abbrev pub nothing : Kept
nothing = keeping None Over

-- whether a line is one of these calls, what is kept after it, and its text
pub record Turn : Type 0 where
  pub found : Bool
  pub kept : Kept
  pub text : List ℕ

abbrev pub turn : Bool → Kept → List ℕ → Turn
turn found kept text = record { found = found; kept = kept; text = text }

unfoldable pub turn_of : Kept → List ℕ → Turn
turn_of kept line =
    pick (among messages_table line) (turn true kept (messages_text line))
    (pick (among choices_table line) (turn true kept (choices_text line))
    (pick (among budgets_table line)
    (turn true (keeping (budget_after kept.budget line) kept.schedule) (budgets_text kept.budget line))
    (turn (among schedules_table line) (keeping kept.budget (schedule_after kept.schedule line)) (schedules_text kept.schedule line))))
