use Rattle.std.proofs.Common.{arith}
use Rattle.calls.proofs.Running.{begun, stepped, standing}
use Rattle.calls.proofs.run.Goals as goal

pub loop-turn-init : goal.loop-turn-init
loop-turn-init c = (omega (arith, c.take_step-s.auto.line, c.requires), λ kept words g. g)

pub loop-turn-preserved : goal.loop-turn-preserved
loop-turn-preserved c =
    let s = c.take_step-s-in-loop-turn in (
      omega (arith, s.auto.line, c.loop-turn.invariant.0),
      λ kept words g. stepped (standing (c.loop-turn.invariant.1 kept words g)) _ c.loop-turn.invariant.0 s.ensures.read s.ensures.kept s.ensures.words,
    )

pub returns-then-not-has_more : goal.returns-then-not-has_more
returns-then-not-has_more c = c.loop-turn.invariant.1 _ _ (stepped (begun _ _ c.args.block.now) _ c.requires c.take_step-s.ensures.read c.take_step-s.ensures.kept c.take_step-s.ensures.words)

pub returns-after-loop-turn : goal.returns-after-loop-turn
returns-after-loop-turn c = c.loop-turn.invariant.1 _ _ (stepped (begun _ _ c.args.block.now) _ c.requires c.take_step-s.ensures.read c.take_step-s.ensures.kept c.take_step-s.ensures.words)
