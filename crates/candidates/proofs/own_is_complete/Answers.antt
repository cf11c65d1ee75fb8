use Rattle.candidates.proofs.Promises.{own_complete}
use Rattle.candidates.proofs.own_is_complete.Goals as goal

pub returns : goal.returns
returns c = own_complete
