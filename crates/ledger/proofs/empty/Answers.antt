use mathlib.Core.Path.{ap}
use Rattle.ledger.specs.Ledger.{empty_ledger, tables_of}
use Rattle.ledger.proofs.empty.Goals as goal

pub returns : goal.returns
unfolding empty_ledger
returns c = record { tables = ap tables_of c.empty.ensures; words = c.empty.ensures }
