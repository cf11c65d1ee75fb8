use Rattle.message_laws.proofs.ByRule.{read_told, written_told, framed_told}
use Rattle.message_laws.proofs.refused_by_the_rule.Goals as goal

pub returns : goal.returns
returns c =
    record {
      read = read_told;
      written = written_told;
      framed = framed_told;
    }
