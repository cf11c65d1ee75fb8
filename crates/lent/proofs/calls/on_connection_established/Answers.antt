use Rattle.lent.specs.Calls.{up_of}
use Rattle.circuit.specs.State.{terms_of}
use Rattle.carried.proofs.Carries.{done}
use Rattle.lent.proofs.calls.on_connection_established.Goals as goal

pub returns : goal.returns
unfolding up_of
returns c =
    let a = c.args in
    let t = done (terms_of a.c.settings) a.own.now a.connect.now a.sent.now a.ledger.now a.c.source c.up_in-d.ensures c.terms-terms.ensures (c.carry_out.ensures.answer, (c.carry_out.ensures.connect, (c.carry_out.ensures.sent, (c.carry_out.ensures.tables, c.carry_out.ensures.words)))) in
    record { answer = t.0; connect = t.1.0; sent = t.1.1.0; tables = t.1.1.1.0; words = t.1.1.1.1 }
