use Rattle.history.proofs.Refuses.{refusals_by_the_rule}
use Rattle.history.proofs.refusals_by_the_rule.Goals as goal

pub returns : goal.returns
returns c = refusals_by_the_rule
