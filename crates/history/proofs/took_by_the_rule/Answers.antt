use Rattle.history.proofs.Took.{took_by_the_rule}
use Rattle.history.proofs.took_by_the_rule.Goals as goal

pub returns : goal.returns
returns c = took_by_the_rule
