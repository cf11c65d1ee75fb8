use Rattle.history.proofs.Refuses.{start_by_the_rule}
use Rattle.history.proofs.start_by_the_rule.Goals as goal

pub returns : goal.returns
returns c = start_by_the_rule
