use Rattle.ledger.specs.Ledger.{dial_started}
use Rattle.ledger.proofs.Laws.{dials_entered}
use Rattle.ledger.proofs.dial_started.Goals as goal
use mathlib.Core.Path.{◌∙◌}

pub returns : goal.returns
unfolding dial_started
returns c =
    let e = rw c.row_of.ensures at c.insert.ensures.answer in
    let d = dials_entered c.args.l.now c.known.ensures _ (rw c.row_of.ensures at c.insert.ensures.words) in
    record { answer = e ∙ d.outcome; tables = d.tables; words = d.words }
