use Rattle.carried.proofs.Carries.{window_kept, window_removed, window_opened}
use Rattle.carried.specs.Carried.{ledger_after}
use Rattle.carried.proofs.settle_window.Goals as goal

pub returns-in-Kept : goal.returns-in-Kept
unfolding ledger_after
returns-in-Kept c = record { tables = (window_kept c.args.source c.args.ledger.now c.known.ensures c.in-Kept.is).0; words = (window_kept c.args.source c.args.ledger.now c.known.ensures c.in-Kept.is).1 }

pub returns-in-Removed : goal.returns-in-Removed
unfolding ledger_after
returns-in-Removed c = record { tables = (window_removed c.args.source c.args.ledger.now c.in-Removed.is (c.end_punches.ensures.tables, c.end_punches.ensures.words)).0; words = (window_removed c.args.source c.args.ledger.now c.in-Removed.is (c.end_punches.ensures.tables, c.end_punches.ensures.words)).1 }

pub returns-in-Opened : goal.returns-in-Opened
unfolding ledger_after
returns-in-Opened c = record { tables = (window_opened c.args.source c.args.ledger.now c.in-Opened.is (c.expect_punches.ensures.tables, c.expect_punches.ensures.words)).0; words = (window_opened c.args.source c.args.ledger.now c.in-Opened.is (c.expect_punches.ensures.tables, c.expect_punches.ensures.words)).1 }
