use Rattle.call_lines.proofs.Apart.{no_shared_line}
use Rattle.call_lines.proofs.no_two_rows_share_a_line.Goals as goal

pub returns : goal.returns
returns c = no_shared_line
