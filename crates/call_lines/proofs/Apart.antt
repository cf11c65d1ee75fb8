-- The rows' forms differ from each other: computed. Assumes nothing.
use mathlib.Core.Path.{◌≡◌, refl}
use mathlib.Core.Bool.{true}
use Rattle.forms.specs.Forms.{kind_of}
use Rattle.forms.specs.Tables.{differ, differs_from, all_differ, ShareNoLine}
use Rattle.forms.proofs.Tables.{share_no_line}
use Rattle.call_table.specs.Tables.{parts}
use Rattle.library_calls.specs.Messages.{messages_table}
use Rattle.library_calls.specs.Choices.{choices_table}
use Rattle.library_calls.specs.Budgets.{budgets_table}
use Rattle.library_calls.specs.Schedules.{schedules_table}
use Rattle.ledger_calls.specs.Calls.{ledger_table}
use Rattle.call_lines.specs.Shared.{forms_from, row_forms}

all_differ_lem : all_differ row_forms ≡ true
unfolding all_differ differs_from differ kind_of row_forms forms_from messages_table choices_table budgets_table schedules_table ledger_table parts
all_differ_lem = refl

pub no_shared_line : ShareNoLine row_forms
no_shared_line = share_no_line row_forms all_differ_lem
