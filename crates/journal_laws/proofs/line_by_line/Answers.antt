use Rattle.journal_text.proofs.Cutting.{lines}
use Rattle.journal_laws.proofs.line_by_line.Goals as goal

pub returns : goal.returns
returns c = lines
