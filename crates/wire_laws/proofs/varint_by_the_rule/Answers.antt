use Rattle.wire_laws.proofs.ByRule.{read_by, malformed_by}
use Rattle.wire_laws.proofs.varint_by_the_rule.Goals as goal

pub returns : goal.returns
returns c = record { read = read_by; malformed = malformed_by }
