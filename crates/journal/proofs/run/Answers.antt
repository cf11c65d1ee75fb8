use mathlib.Core.Path.{refl, sym, ◌∙◌}
use native.Mathlib.Omega.{arith}
use Rattle.prelude.specs.Numbers.{max_u64}
use Rattle.line_program.proofs.GoingOn.{apart}
use Rattle.journal.proofs.Stepping.{step_room}
use Rattle.journal.proofs.Running.{begin, going, finished}
use Rattle.journal.proofs.run.Goals as goal
use Rattle.journal.proofs.run.Goals.{else-loop-turn-test, then-loop-turn-test+then-not-has_feed, then-not-has_feed-via-then-not-has_feed, then-not-has_feed-via-else-not-has_feed+then-not-s}

pub loop-turn-init : goal.loop-turn-init
loop-turn-init c = (refl, refl, refl, refl, omega (arith, c.take_step-s.auto.line, c.requires), step_room _ _ _ _ _ _ _ c.take_step-s.ensures.waiting (sym c.take_step-s.auto.out) (omega (arith, c.take_step-s.auto.out, c.requires)), λ before had g. g)

pub loop-turn-preserved : goal.loop-turn-preserved
loop-turn-preserved c = (c.take_step-s-in-loop-turn.auto.block ∙ c.loop-turn.invariant.0, c.take_step-s-in-loop-turn.auto.line ∙ c.loop-turn.invariant.1, c.take_step-s-in-loop-turn.auto.reply ∙ c.loop-turn.invariant.2, c.take_step-s-in-loop-turn.auto.out ∙ c.loop-turn.invariant.3, omega (arith, c.take_step-s-in-loop-turn.auto.line, c.loop-turn.invariant.4), step_room _ _ _ _ _ _ _ c.take_step-s-in-loop-turn.ensures.waiting (sym c.take_step-s-in-loop-turn.auto.out) (omega (arith, c.take_step-s-in-loop-turn.auto.out, c.loop-turn.invariant.5)), λ before had g. going ((c.loop-turn.invariant.6 before had g).goes (sym c.has_feed.ensures ∙ c.if-not-has_feed.false)) c.loop-turn.invariant.4 c.loop-turn.invariant.5 _ (c.take_step-s-in-loop-turn.ensures.journal, (c.take_step-s-in-loop-turn.ensures.reply, (c.take_step-s-in-loop-turn.ensures.out, (c.take_step-s-in-loop-turn.ensures.waiting, (c.take_step-s-in-loop-turn.ensures.whole, (c.take_step-s-in-loop-turn.ensures.written, c.take_step-s-in-loop-turn.ensures.read)))))) _ (omega arith))

pub shape_of-block : goal.shape_of-block
shape_of-block c = c.loop-turn.invariant.0 ∙ c.take_step-s.auto.block

pub shape_of-line : goal.shape_of-line
shape_of-line c = c.loop-turn.invariant.1 ∙ c.take_step-s.auto.line

pub shape_of-reply : goal.shape_of-reply
shape_of-reply c = c.loop-turn.invariant.2 ∙ c.take_step-s.auto.reply

pub shape_of-out : goal.shape_of-out
shape_of-out c = c.loop-turn.invariant.3 ∙ c.take_step-s.auto.out

pub returns-clause-ran : goal.returns-clause-ran
returns-clause-ran c =
    let e = c.take_step-s.ensures in
    finished _ _ (c.loop-turn.invariant.6 _ _ (going (begin _ _ _ _ max_u64 (omega arith)) c.requires.0 c.requires.1 _ (e.journal, (e.reply, (e.out, (e.waiting, (e.whole, (e.written, e.read)))))) _ (omega arith)))
    (λ d v. elim c.loop-turn-test.branch [
      | else-loop-turn-test w ↦ omega (arith, w.loop-turn-test.false)
      | then-loop-turn-test+then-not-has_feed u ↦ elim u.then-not-has_feed.branch [
        | then-not-has_feed-via-then-not-has_feed w ↦ apart (sym d ∙ sym u.has_feed.ensures ∙ w.if-not-has_feed.true)
        | then-not-has_feed-via-else-not-has_feed+then-not-s w ↦ apart (sym (rw v at w.if-not-s.true))
      ]
    ])
