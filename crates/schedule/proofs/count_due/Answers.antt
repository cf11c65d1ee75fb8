use native.Mathlib.Omega.{arith}
use Rattle.schedule.proofs.Schedule.{due_none, due_some}
use Rattle.schedule.proofs.count_due.Goals as goal

pub returns-then-limit-at : goal.returns-then-limit-at
returns-then-limit-at c = due_none c.args.at c.args.until c.args.interval c.args.now c.min-limit.result c.min-limit.ensures (omega arith)

pub returns : goal.returns
returns c =
    due_some c.args.at c.args.until c.args.interval c.args.now c.min-limit.result c.min-limit.ensures
    c.step.result _ c.step.ensures c.if-limit-at.false c.saturating_add.ensures
