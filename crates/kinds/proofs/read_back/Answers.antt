use Rattle.kinds.proofs.EntryRows.{entry_back}
use Rattle.kinds.proofs.read_back.Goals as goal

pub returns : goal.returns
returns c = entry_back
