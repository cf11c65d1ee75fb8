use Rattle.ledger_laws.proofs.Names.{nothing_left}
use Rattle.ledger_laws.proofs.nothing_is_left.Goals as goal

pub returns : goal.returns
returns c = nothing_left
