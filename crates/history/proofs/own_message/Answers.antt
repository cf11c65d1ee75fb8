use Rattle.history.proofs.Answers.{own_message}
use Rattle.history.proofs.own_message.Goals as goal

pub returns : goal.returns
returns c = own_message
