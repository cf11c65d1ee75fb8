use Rattle.lent.specs.Calls.{input_of}
use Rattle.circuit.specs.State.{terms_of}
use Rattle.lent.proofs.Hears.{done_input}
use Rattle.lent.proofs.calls.on_dcutr_stream_input.Goals as goal

pub returns : goal.returns
unfolding input_of
returns c =
    let a = c.args in
    let t = done_input (terms_of a.c.settings) a.own.now a.connect.now a.sent.now a.ledger.now a.c.source a.targets.now _ a.c a.host.at
    a.buffer.now a.stream a.input a.bytes.now (c.input_in-d.ensures.answer, (c.input_in-d.ensures.targets, c.input_in-d.ensures.buffer)) c.terms-terms.ensures (c.carry_out.ensures.answer, (c.carry_out.ensures.connect, (c.carry_out.ensures.sent, (c.carry_out.ensures.tables, c.carry_out.ensures.words)))) in
    record { answer = t.0; connect = t.1.0; targets = t.1.1.0; sent = t.1.1.1.0; tables = t.1.1.1.1.0; words = t.1.1.1.1.1.0; buffer = t.1.1.1.1.1.1 }
