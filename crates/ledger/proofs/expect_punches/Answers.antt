use mathlib.Core.Path.{◌∙◌}
use Rattle.ledger.specs.Ledger.{expect_punches, refuses_punches}
use Rattle.ledger.proofs.Laws.{windows_entered}
use Rattle.ledger.proofs.expect_punches.Goals as goal

pub returns : goal.returns
unfolding expect_punches refuses_punches
returns c =
    let e = rw c.row_of.ensures at c.insert.ensures.answer in
    let d = windows_entered c.args.l.now c.known.ensures _ (rw (c.row_of.ensures, c.punch_end-end.ensures) at c.insert.ensures.words) in
    record { answer = e ∙ d.outcome; tables = d.tables; words = d.words }
