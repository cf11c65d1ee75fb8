use Rattle.ledger_laws.proofs.Names.{name_kept_all}
use Rattle.ledger_laws.proofs.name_is_kept.Goals as goal

pub returns : goal.returns
returns c = name_kept_all
