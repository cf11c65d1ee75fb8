use Rattle.address_laws.proofs.Joined.{read_as}
use Rattle.address_laws.proofs.Parts.{only_as}
use Rattle.address_laws.proofs.address_by_the_rule.Goals as goal

pub returns : goal.returns
returns c = record { read = read_as; only = only_as }
