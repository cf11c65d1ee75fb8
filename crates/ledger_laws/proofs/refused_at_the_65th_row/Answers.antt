use Rattle.ledger_laws.proofs.Full.{dials_full, windows_full, paths_full}
use Rattle.ledger_laws.proofs.refused_at_the_65th_row.Goals as goal

pub returns : goal.returns
returns c = record { dials = dials_full; windows = windows_full; paths = paths_full }
