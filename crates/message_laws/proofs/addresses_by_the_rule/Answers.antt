use Rattle.message_laws.proofs.ByRule.{stored_told}
use Rattle.message_laws.proofs.addresses_by_the_rule.Goals as goal

pub returns : goal.returns
returns c = stored_told
