use Rattle.candidates.proofs.Promises.{selection_complete}
use Rattle.candidates.proofs.selection_is_complete.Goals as goal

pub returns : goal.returns
returns c = selection_complete
