use mathlib.Core.Path.{sym, ◌∙◌, ap}
use native.Mathlib.Omega.{arith}
use Rattle.journal_lines.proofs.Made.{settings_read, settings_unread}
use Rattle.std.specs.Prelude.{Some}
use Rattle.vocabulary.specs.declared.Settings.{Settings}
use Rattle.journal_lines.proofs.read_settings.Goals as goal

pub returns-then-read_form : goal.returns-then-read_form
returns-then-read_form c = ap (λ (x : Settings). Some x) c.settings.ensures ∙ settings_read _ _ _ (sym c.if-read_form.true ∙ c.read_form.ensures.good) c.read_form.ensures.words (omega arith)

pub returns-else-read_form : goal.returns-else-read_form
returns-else-read_form c = settings_unread _ (sym c.if-read_form.false ∙ c.read_form.ensures.good)
