use Rattle.candidates.proofs.Promises.{own_limits}
use Rattle.candidates.proofs.own_keeps_limits.Goals as goal

pub returns : goal.returns
returns c = own_limits
