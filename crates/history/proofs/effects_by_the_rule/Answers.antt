use Rattle.history.proofs.Answers.{effects_by_the_rule}
use Rattle.history.proofs.effects_by_the_rule.Goals as goal

pub returns : goal.returns
returns c = effects_by_the_rule
