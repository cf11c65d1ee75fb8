use Rattle.ledger.specs.Ledger.{refuses_punches}
use Rattle.ledger.proofs.refuses_punches.Goals as goal

pub returns : goal.returns
unfolding refuses_punches
returns c = c.is_crowded.ensures
