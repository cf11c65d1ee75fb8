use Rattle.rows.specs.declared.Keep.TheVariants.{Other}
use Rattle.rows.specs.Rows.{keeps_row}
use Rattle.ledger.specs.Ledger.{finish_dial}
use Rattle.ledger.proofs.Laws.{dials_such}
use Rattle.ledger.proofs.finish_dial.Goals as goal

pub returns : goal.returns
unfolding finish_dial
returns c =
    let d = dials_such c.args.l.now c.known.ensures (keeps_row (Other c.args.conn.0)) c.remove.ensures in
    record { answer = c.dial_at-dial.ensures; tables = d.0; words = d.1 }
