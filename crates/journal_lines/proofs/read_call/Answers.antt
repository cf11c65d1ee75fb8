use mathlib.Core.Path.{sym, ◌∙◌, ap}
use native.Mathlib.Omega.{arith}
use Rattle.journal_lines.proofs.Made.{tick_read, input_read, up_read, attribute_read, dial_read, forget_read, down_read, start_read, wrote_read, none_read}
use Rattle.std.specs.Prelude.{Some}
use Rattle.journal_lines.specs.declared.Line.{Line}
use Rattle.journal_lines.proofs.read_call.Goals as goal

pub returns-then-read_form : goal.returns-then-read_form
returns-then-read_form c = ap (λ (l : Line). Some l) c.tick.ensures ∙ tick_read _ _ _ (sym c.if-read_form.true ∙ c.read_form.ensures.good) c.read_form.ensures.words (omega arith)

pub returns-then-read_form-2 : goal.returns-then-read_form-2
returns-then-read_form-2 c = c.input.ensures ∙ input_read _ _ _ (sym c.if-read_form-2.true ∙ c.read_form-else-read_form.ensures.good) c.read_form-else-read_form.ensures.words (omega arith)

pub returns-then-read_form-3 : goal.returns-then-read_form-3
returns-then-read_form-3 c = ap (λ (l : Line). Some l) c.up.ensures ∙ up_read _ _ _ (sym c.if-read_form-3.true ∙ c.read_form-else-read_form-2.ensures.good) c.read_form-else-read_form-2.ensures.words (omega arith)

pub returns-then-read_form-4 : goal.returns-then-read_form-4
returns-then-read_form-4 c = ap (λ (l : Line). Some l) c.attribute.ensures ∙ attribute_read _ _ _ (sym c.if-read_form-4.true ∙ c.read_form-else-read_form-3.ensures.good) c.read_form-else-read_form-3.ensures.words (omega arith)

pub returns-then-read_form-5 : goal.returns-then-read_form-5
returns-then-read_form-5 c = ap (λ (l : Line). Some l) c.dial.ensures ∙ dial_read _ _ _ (sym c.if-read_form-5.true ∙ c.read_form-else-read_form-4.ensures.good) c.read_form-else-read_form-4.ensures.words (omega arith)

pub returns-then-read_form-6 : goal.returns-then-read_form-6
returns-then-read_form-6 c = ap (λ (l : Line). Some l) c.forget.ensures ∙ forget_read _ _ _ (sym c.if-read_form-6.true ∙ c.read_form-else-read_form-5.ensures.good) c.read_form-else-read_form-5.ensures.words (omega arith)

pub returns-then-read_form-7 : goal.returns-then-read_form-7
returns-then-read_form-7 c = ap (λ (l : Line). Some l) c.down.ensures ∙ down_read _ _ _ (sym c.if-read_form-7.true ∙ c.read_form-else-read_form-6.ensures.good) c.read_form-else-read_form-6.ensures.words (omega arith)

pub returns-then-read_form-8 : goal.returns-then-read_form-8
returns-then-read_form-8 c = ap (λ (l : Line). Some l) c.start.ensures ∙ start_read _ _ _ (sym c.if-read_form-8.true ∙ c.read_form-else-read_form-7.ensures.good) c.read_form-else-read_form-7.ensures.words (omega arith)

pub returns-then-read_form-9 : goal.returns-then-read_form-9
returns-then-read_form-9 c = ap (λ (l : Line). Some l) c.wrote.ensures ∙ wrote_read _ _ _ (sym c.if-read_form-9.true ∙ c.read_form-else-read_form-8.ensures.good) c.read_form-else-read_form-8.ensures.words (omega arith)

pub returns-else-read_form-9 : goal.returns-else-read_form-9
returns-else-read_form-9 c = none_read _ (sym c.if-read_form-8.false ∙ c.read_form-else-read_form-7.ensures.good) (sym c.if-read_form-3.false ∙ c.read_form-else-read_form-2.ensures.good) (sym c.if-read_form-2.false ∙ c.read_form-else-read_form.ensures.good) (sym c.if-read_form.false ∙ c.read_form.ensures.good) (sym c.if-read_form-9.false ∙ c.read_form-else-read_form-8.ensures.good) (sym c.if-read_form-7.false ∙ c.read_form-else-read_form-6.ensures.good) (sym c.if-read_form-5.false ∙ c.read_form-else-read_form-4.ensures.good) (sym c.if-read_form-6.false ∙ c.read_form-else-read_form-5.ensures.good) (sym c.if-read_form-4.false ∙ c.read_form-else-read_form-3.ensures.good)
