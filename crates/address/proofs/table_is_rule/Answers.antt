use Rattle.address.proofs.Meaning.{table_is_rule}
use Rattle.address.proofs.table_is_rule.Goals as goal

pub returns : goal.returns
returns c = table_is_rule
