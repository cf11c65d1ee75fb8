-- An empty ledger's words are not counted one by one.
use Rattle.ledger_calls.specs.Calls.{change_turn}
use Rattle.ledger_calls.proofs.change.Goals as goal

pub returns-in-0-clause-words : goal.returns-in-0-clause-words
unfolding change_turn
returns-in-0-clause-words c = rw c.in-0.is c.empty.ensures.words
