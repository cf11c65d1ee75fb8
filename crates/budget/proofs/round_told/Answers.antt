use Rattle.budget.proofs.Laws.{round_told}
use Rattle.budget.proofs.round_told.Goals as goal

pub returns : goal.returns
returns c = round_told
