use Rattle.address.proofs.Longest.{first_is_longest}
use Rattle.address.proofs.first_match_is_longest.Goals as goal

pub returns : goal.returns
returns c = first_is_longest
