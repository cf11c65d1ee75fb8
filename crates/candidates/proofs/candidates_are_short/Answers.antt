use Rattle.candidates.proofs.Promises.{selection_short, own_short}
use Rattle.candidates.proofs.candidates_are_short.Goals as goal

pub returns : goal.returns
returns c = record { selected = selection_short; own = own_short }
