use Rattle.history.proofs.TurnedBack.{refused_by_the_rule}
use Rattle.history.proofs.refused_by_the_rule.Goals as goal

pub returns : goal.returns
returns c = refused_by_the_rule
