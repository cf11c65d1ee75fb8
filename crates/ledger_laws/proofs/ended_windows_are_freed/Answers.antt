use Rattle.ledger_laws.proofs.Names.{freed}
use Rattle.ledger_laws.proofs.ended_windows_are_freed.Goals as goal

pub returns : goal.returns
returns c = freed
