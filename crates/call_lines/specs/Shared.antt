-- The forms of the tables' rows: a line has at most one of them, so that no table takes another's line.
use Rattle.std.specs.Prelude.{ℕ, zero, suc, List, [], ◌∷◌, ◌++◌}
use Rattle.call_table.specs.Tables.{row_text, field_of}
use Rattle.library_calls.specs.Messages.{messages_table}
use Rattle.library_calls.specs.Choices.{choices_table}
use Rattle.library_calls.specs.Budgets.{budgets_table}
use Rattle.library_calls.specs.Schedules.{schedules_table}
use Rattle.ledger_calls.specs.Calls.{ledger_table}

-- those of so many rows from one on
unfoldable pub forms_from : List ℕ → ℕ → ℕ → List (List ℕ)
forms_from table k zero = []
forms_from table k (suc n) = field_of (row_text table k) 0 ∷ forms_from table (suc k) n

unfoldable pub row_forms : List (List ℕ)
row_forms =
    forms_from messages_table 0 7
    ++ forms_from choices_table 0 6
    ++ forms_from budgets_table 0 5
    ++ forms_from schedules_table 0 2
    ++ forms_from ledger_table 0 14
