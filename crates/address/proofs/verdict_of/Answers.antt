use Rattle.address.specs.Ranges.{table}
use Rattle.address.proofs.Longest.{first_verdict}
use Rattle.address.proofs.verdict_of.Goals as goal

pub returns : goal.returns
unfolding table
returns c = first_verdict c.args.ip c.search.ensures
