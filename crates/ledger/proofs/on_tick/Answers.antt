use Rattle.rows.specs.declared.Keep.TheVariants.{Lasting}
use Rattle.rows.specs.Rows.{keeps_row}
use Rattle.ledger.specs.Ledger.{ticked}
use Rattle.ledger.proofs.Laws.{windows_such}
use Rattle.ledger.proofs.on_tick.Goals as goal

pub returns : goal.returns
unfolding ticked
returns c = record { tables = (windows_such c.args.l.now c.known.ensures (keeps_row (Lasting c.args.reading)) c.retain.ensures).0; words = (windows_such c.args.l.now c.known.ensures (keeps_row (Lasting c.args.reading)) c.retain.ensures).1 }
