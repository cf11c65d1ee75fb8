use Rattle.journal_text.proofs.Cutting.{long_lines}
use Rattle.journal_laws.proofs.long_lines_are_one.Goals as goal

pub returns : goal.returns
returns c = long_lines
