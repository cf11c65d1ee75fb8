-- `frames::count_stays_below` meets its contract: it is the law `count_below`.
use Rattle.frames.proofs.Gathers.{count_below}
use Rattle.frames.proofs.count_stays_below.Goals as goal

pub returns : goal.returns
returns c = count_below
