use Rattle.journal_laws.proofs.Refusals.{refused_left}
use Rattle.journal_laws.proofs.refused_line_changes_nothing.Goals as goal

pub returns : goal.returns
returns c = refused_left
