use Rattle.ledger_laws.proofs.Names.{row_says}
use Rattle.ledger_laws.proofs.row_says_answer.Goals as goal

pub returns : goal.returns
returns c = row_says
