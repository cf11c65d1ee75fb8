use Rattle.ledger_laws.proofs.Names.{one_of_five}
use Rattle.ledger_laws.proofs.one_of_five.Goals as goal

pub returns : goal.returns
returns c = one_of_five
