use mathlib.Core.Path.{sym, ap, ◌∙◌}
use native.Mathlib.Omega.{arith}
use lib.ListN.{length-take}
use Rattle.journal_calls.specs.declared.State.{State as Numbers}
use Rattle.journal_calls.specs.Calls.{whole}
use Rattle.journal_text.proofs.Inputs.{blank_lent, opened_state, opened_none}
use Rattle.circuit_questions.proofs.Replaying.{unread_first, refused_first, good_first}
use Rattle.circuit_questions.proofs.replay.Goals as goal

pub returns-then-has_failed : goal.returns-then-has_failed
returns-then-has_failed c =
    let p = c.requires in
    unread_first _ _ (λ (s : Numbers). whole s c.args.m.now) (blank_lent p.1 p.2) c.next_line-reading.ensures.read p.0 (sym c.has_failed.ensures ∙ c.if-has_failed.true)

pub slice_bounds-open_into-end-2 : goal.slice_bounds-open_into-end-2
slice_bounds-open_into-end-2 c = simp length-take (omega (arith, c.next_line-reading.ensures.used))

pub run-requires : goal.run-requires
run-requires c = omega (arith, c.requires.0, c.next_line-reading.auto.line)

pub returns-in-Some : goal.returns-in-Some
returns-in-Some c =
    let p = c.requires in
    let t = opened_state _ (sym (rw c.has_feed.ensures at c.open_into-opening.ensures.state) ∙ c.in-Some.is) in
    good_first _ _ (λ (s : Numbers). whole s c.args.m.now) (blank_lent p.1 p.2) c.next_line-reading.ensures.read p.0 t.1
    (ap (λ (s : Numbers). whole s c.args.m.now) t.0 ∙ blank_lent p.1 p.2 _) (rw c.has_feed.ensures at c.open_into-opening.ensures.bytes) c.run.ensures

pub returns-in-None : goal.returns-in-None
returns-in-None c =
    let p = c.requires in
    refused_first _ _ (λ (s : Numbers). whole s c.args.m.now) (blank_lent p.1 p.2) c.next_line-reading.ensures.read p.0 (sym c.has_failed.ensures ∙ c.if-has_failed.false)
    (opened_none _ (sym (rw c.has_feed.ensures at c.open_into-opening.ensures.state) ∙ c.in-None.is)) _ (rw c.has_feed.ensures at c.open_into-opening.ensures.bytes) (rw c.has_feed.ensures at c.open_into-opening.ensures.place)
