use Rattle.history.proofs.Buffers.{buffers_by_the_rule}
use Rattle.history.proofs.buffers_by_the_rule.Goals as goal

pub returns : goal.returns
returns c = buffers_by_the_rule
