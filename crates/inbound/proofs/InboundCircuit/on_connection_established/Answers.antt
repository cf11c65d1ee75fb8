use Rattle.inbound.specs.Circuits.{answer_of}
use mathlib.Core.Path.{refl}
use Rattle.inbound.proofs.Answering.{made_answer}
use Rattle.inbound.specs.Circuits.{up_answer}
use Rattle.inbound.proofs.InboundCircuit.on_connection_established.Goals as goal

pub returns : goal.returns
unfolding up_answer answer_of
returns c =
    record {
      answer = made_answer c.args.self.connect c.made.ensures c.on_connection_established-d.ensures.answer c.on_connection_established-d.ensures.connect refl c.on_connection_established-d.ensures.sent c.blank-sent.ensures;
      tables = c.on_connection_established-d.ensures.tables;
      words = c.on_connection_established-d.ensures.words;
    }
