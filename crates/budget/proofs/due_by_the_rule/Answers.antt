use Rattle.budget.proofs.Told.{told}
use Rattle.budget.proofs.due_by_the_rule.Goals as goal

pub returns : goal.returns
returns c = told
