use Rattle.candidates.proofs.Promises.{selection_limits}
use Rattle.candidates.proofs.selection_keeps_limits.Goals as goal

pub returns : goal.returns
returns c = selection_limits
