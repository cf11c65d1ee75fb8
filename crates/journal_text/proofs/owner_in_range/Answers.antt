use Rattle.journal_text.proofs.Ranges.{attempt_fits, inbound_fits, none_fits}
use Rattle.journal_text.proofs.owner_in_range.Goals as goal

pub returns-in-Some-Attempt : goal.returns-in-Some-Attempt
returns-in-Some-Attempt c = attempt_fits c.in-Some-Attempt.is (rw c.in-Some-Attempt.is at c.in-Some-Attempt.field-0-is) c.in_range.ensures.0

pub returns-in-Some-Inbound : goal.returns-in-Some-Inbound
returns-in-Some-Inbound c = inbound_fits c.in-Some-Inbound.is (rw c.in-Some-Inbound.is at c.in-Some-Inbound.field-0-is)

pub returns-in-None : goal.returns-in-None
returns-in-None c = none_fits c.in-None.is
