use Rattle.address.proofs.Meaning.{judged}
use Rattle.address.proofs.eligible.Goals as goal

pub returns : goal.returns
returns c = judged c.args.private c.args.ip c.judged_as.ensures.value c.judged_as.ensures.bits c.verdict_of.ensures c.permits.ensures
