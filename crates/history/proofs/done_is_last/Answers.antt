use Rattle.history.proofs.Extras.{done_is_last}
use Rattle.history.proofs.done_is_last.Goals as goal

pub returns : goal.returns
returns c = done_is_last
