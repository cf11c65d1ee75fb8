use Rattle.names.proofs.Lines.{names_follow}
use Rattle.names.proofs.names_follow.Goals as goal

pub returns : goal.returns
returns c = names_follow
