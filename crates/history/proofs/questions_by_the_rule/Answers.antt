use Rattle.history.proofs.Questions.{questions_by_the_rule}
use Rattle.history.proofs.questions_by_the_rule.Goals as goal

pub returns : goal.returns
returns c = questions_by_the_rule
