use Rattle.inbound.specs.Circuits.{answer_of}
use Rattle.inbound.proofs.Answering.{made_answer}
use Rattle.inbound.specs.Circuits.{input_buffer}
use Rattle.inbound.specs.Circuits.{input_answer}
use Rattle.inbound.proofs.InboundCircuit.on_dcutr_stream_input.Goals as goal

pub returns : goal.returns
unfolding input_answer input_buffer answer_of
returns c =
    record {
      answer = made_answer c.args.self.connect c.made.ensures c.on_dcutr_stream_input-d.ensures.answer c.on_dcutr_stream_input-d.ensures.connect c.on_dcutr_stream_input-d.ensures.targets c.on_dcutr_stream_input-d.ensures.sent c.blank-sent.ensures;
      tables = c.on_dcutr_stream_input-d.ensures.tables;
      words = c.on_dcutr_stream_input-d.ensures.words;
      buffer = c.on_dcutr_stream_input-d.ensures.buffer;
    }
