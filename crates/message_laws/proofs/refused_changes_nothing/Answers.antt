use Rattle.message_laws.proofs.Refusals.{read_kept, written_kept, framed_kept}
use Rattle.message_laws.proofs.refused_changes_nothing.Goals as goal

pub returns : goal.returns
returns c =
    record {
      read = read_kept;
      written = written_kept;
      framed = framed_kept;
    }
