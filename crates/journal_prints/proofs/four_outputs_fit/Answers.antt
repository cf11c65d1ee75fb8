use Rattle.journal_prints.proofs.Room.{four_whole}
use Rattle.journal_prints.proofs.four_outputs_fit.Goals as goal

pub returns : goal.returns
returns c = four_whole
