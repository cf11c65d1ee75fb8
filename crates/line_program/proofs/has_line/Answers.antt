use Rattle.line_program.proofs.GoingOn.{none_left, tested}
use Rattle.line_program.proofs.has_line.Goals as goal

pub returns-then-stop-from : goal.returns-then-stop-from
returns-then-stop-from c = none_left _ _ _ c.min-stop.ensures c.if-stop-from.true

pub returns : goal.returns
returns c = tested _ _ _ c.min-stop.ensures c.if-stop-from.false c.length_before.ensures
