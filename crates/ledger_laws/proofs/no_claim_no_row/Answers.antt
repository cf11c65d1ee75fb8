use Rattle.ledger_laws.proofs.Full.{no_row_lem}
use Rattle.ledger_laws.proofs.no_claim_no_row.Goals as goal

pub returns : goal.returns
returns c = no_row_lem
