use Rattle.ledger_calls.proofs.Back.{purpose_back, path_back, owner_back, number_back}
use Rattle.ledger_calls.proofs.read_back.Goals as goal

pub returns : goal.returns
returns c =
    record {
      purposes = purpose_back;
      paths = path_back;
      owners = owner_back;
      numbers = number_back;
    }
