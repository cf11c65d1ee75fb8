use Rattle.budget.proofs.Laws.{deadline_first}
use Rattle.budget.proofs.deadline_first.Goals as goal

pub returns : goal.returns
returns c = deadline_first
