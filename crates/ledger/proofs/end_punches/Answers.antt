use Rattle.rows.specs.declared.Keep.TheVariants.{Other}
use Rattle.rows.specs.Rows.{keeps_row}
use Rattle.ledger.specs.Ledger.{end_punches}
use Rattle.ledger.proofs.Laws.{windows_such}
use Rattle.ledger.proofs.end_punches.Goals as goal

pub returns : goal.returns
unfolding end_punches
returns c = record { tables = (windows_such c.args.l.now c.known.ensures (keeps_row (Other c.args.peer.0)) c.remove.ensures).0; words = (windows_such c.args.l.now c.known.ensures (keeps_row (Other c.args.peer.0)) c.remove.ensures).1 }
