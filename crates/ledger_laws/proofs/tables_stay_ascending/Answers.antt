use Rattle.ledger_laws.proofs.Order.{empty_order, all_order}
use Rattle.ledger.specs.Ledger.{empty_ledger}
use Rattle.ledger_laws.proofs.tables_stay_ascending.Goals as goal

pub returns : goal.returns
returns c = all_order empty_ledger empty_order
