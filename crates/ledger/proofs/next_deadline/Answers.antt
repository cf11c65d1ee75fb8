use Rattle.ledger.specs.Ledger.{next_deadline}
use Rattle.ledger.proofs.next_deadline.Goals as goal

pub returns : goal.returns
unfolding next_deadline
returns c = c.soonest_end.ensures
