use mathlib.Core.Path.{refl, sym, ◌∙◌}
use native.Mathlib.Omega.{arith}
use Rattle.prelude.specs.Numbers.{max_u64}
use Rattle.line_program.proofs.GoingOn.{apart}
use Rattle.circuit_questions.proofs.Running.{begin, going, finished}
use Rattle.circuit_questions.proofs.run.Goals as goal
use Rattle.circuit_questions.proofs.run.Goals.{else-loop-turn-test, then-loop-turn-test+then-not-has_feed, then-not-has_feed-via-then-not-has_feed, then-not-has_feed-via-else-not-has_feed+then-not-s}

pub loop-turn-init : goal.loop-turn-init
loop-turn-init c = (refl, refl, refl, refl, omega (arith, c.take_step-s.auto.line, c.requires), λ before had g. g)

pub loop-turn-preserved : goal.loop-turn-preserved
loop-turn-preserved c = (
  c.take_step-s-in-loop-turn.auto.block ∙ c.loop-turn.invariant.0,
  c.take_step-s-in-loop-turn.auto.line ∙ c.loop-turn.invariant.1,
  c.take_step-s-in-loop-turn.auto.reply ∙ c.loop-turn.invariant.2,
  c.take_step-s-in-loop-turn.auto.out ∙ c.loop-turn.invariant.3,
  omega (arith, c.take_step-s-in-loop-turn.auto.line, c.loop-turn.invariant.4),
  λ before had g. going ((c.loop-turn.invariant.5 before had g).goes (sym c.has_feed.ensures ∙ c.if-not-has_feed.false)) c.loop-turn.invariant.4 _ (c.take_step-s-in-loop-turn.ensures.made, (c.take_step-s-in-loop-turn.ensures.written, c.take_step-s-in-loop-turn.ensures.read)) _ (omega arith),
)

pub shape_of-block : goal.shape_of-block
shape_of-block c = c.loop-turn.invariant.0 ∙ c.take_step-s.auto.block

pub shape_of-line : goal.shape_of-line
shape_of-line c = c.loop-turn.invariant.1 ∙ c.take_step-s.auto.line

pub shape_of-reply : goal.shape_of-reply
shape_of-reply c = c.loop-turn.invariant.2 ∙ c.take_step-s.auto.reply

pub shape_of-out : goal.shape_of-out
shape_of-out c = c.loop-turn.invariant.3 ∙ c.take_step-s.auto.out

pub returns : goal.returns
returns c =
    finished _ _
    (c.loop-turn.invariant.5 _ _ (going (begin _ _ max_u64 (omega arith)) c.requires _ (c.take_step-s.ensures.made, (c.take_step-s.ensures.written, c.take_step-s.ensures.read)) _ (omega arith)))
    (λ d v. elim c.loop-turn-test.branch [
      | else-loop-turn-test w ↦ omega (arith, w.loop-turn-test.false)
      | then-loop-turn-test+then-not-has_feed u ↦ elim u.then-not-has_feed.branch [
        | then-not-has_feed-via-then-not-has_feed w ↦ apart (sym d ∙ sym u.has_feed.ensures ∙ w.if-not-has_feed.true)
        | then-not-has_feed-via-else-not-has_feed+then-not-s w ↦ apart (sym (rw v at w.if-not-s.true))
      ]
    ])
