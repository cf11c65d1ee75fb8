use native.Mathlib.Omega.{arith}
use lib.ListN.{length-take}
use mathlib.Core.Path.{sym, ◌∙◌}
use Rattle.journal_calls.specs.Calls.{whole}
use Rattle.circuit_questions.specs.Steps.{state}
use Rattle.circuit_questions.proofs.Stepping.{step_made, step_left}
use Rattle.circuit_questions.proofs.take_step.Goals as goal

pub slice_bounds-answer_line-end-then-is_line : goal.slice_bounds-answer_line-end-then-is_line
slice_bounds-answer_line-end-then-is_line c = simp length-take (omega (arith, c.next_line-reading.ensures.used))

pub returns-then-is_line : goal.returns-then-is_line
returns-then-is_line c =
    let a = c.args in
    let t = step_made _ _ (state (whole a.j a.m.now) a.reply.now a.out.now a.handed)
    (sym c.is_line.ensures ∙ c.if-is_line.true) (rw c.has_feed.ensures at c.answer_line-end.ensures.journal, (rw c.has_feed.ensures at c.answer_line-end.ensures.reply, (rw c.has_feed.ensures at c.answer_line-end.ensures.bytes, rw c.has_feed.ensures at c.answer_line-end.ensures.place))) c.next_line-reading.ensures.read in
    record { made = t.0; written = t.1.0; read = t.1.1 }

pub returns : goal.returns
returns c =
    let a = c.args in
    let t = step_left _ _ (state (whole a.j a.m.now) a.reply.now a.out.now a.handed)
    (sym c.is_line.ensures ∙ c.if-is_line.false) c.next_line-reading.ensures.read in
    record { made = t.0; written = t.1.0; read = t.1.1 }
