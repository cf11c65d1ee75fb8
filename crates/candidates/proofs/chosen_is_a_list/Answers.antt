use Rattle.candidates.proofs.Promises.{selection_list, own_list}
use Rattle.candidates.proofs.chosen_is_a_list.Goals as goal

pub returns : goal.returns
returns c = record { selected = selection_list; own = own_list }
