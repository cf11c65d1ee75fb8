use Rattle.ledger_laws.proofs.Names.{other_window, other_closed}
use Rattle.ledger_laws.proofs.window_is_its_peers.Goals as goal

pub returns : goal.returns
returns c = record { closed = other_closed; opened = other_window }
