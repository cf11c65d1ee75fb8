use Rattle.candidates.proofs.Promises.{numbers}
use Rattle.candidates.proofs.usual_numbers.Goals as goal

pub returns : goal.returns
returns c = numbers
