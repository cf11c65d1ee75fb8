use Rattle.journal_laws.proofs.Counts.{counts}
use Rattle.journal_laws.proofs.every_line_counts.Goals as goal

pub returns : goal.returns
returns c = counts
