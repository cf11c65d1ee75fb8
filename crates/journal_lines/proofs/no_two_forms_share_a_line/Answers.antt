use Rattle.journal_lines.proofs.Made.{no_shared_line}
use Rattle.journal_lines.proofs.no_two_forms_share_a_line.Goals as goal

pub returns : goal.returns
returns c = no_shared_line
