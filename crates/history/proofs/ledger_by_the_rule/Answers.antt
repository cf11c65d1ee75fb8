use Rattle.history.proofs.Answers.{ledger_by_the_rule}
use Rattle.history.proofs.ledger_by_the_rule.Goals as goal

pub returns : goal.returns
returns c = ledger_by_the_rule
