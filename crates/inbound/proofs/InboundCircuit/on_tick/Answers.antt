use Rattle.inbound.specs.Circuits.{answer_of}
use mathlib.Core.Path.{refl}
use Rattle.inbound.proofs.Answering.{made_answer}
use Rattle.inbound.specs.Circuits.{tick_answer}
use Rattle.inbound.proofs.InboundCircuit.on_tick.Goals as goal

pub returns : goal.returns
unfolding tick_answer answer_of
returns c =
    record {
      answer = made_answer c.args.self.connect c.made.ensures c.on_tick-d.ensures.answer c.on_tick-d.ensures.connect refl c.on_tick-d.ensures.sent c.blank-sent.ensures;
      tables = c.on_tick-d.ensures.tables;
      words = c.on_tick-d.ensures.words;
    }
