use Rattle.journal_calls.specs.Calls.{memory_of}
use Rattle.journal_calls.proofs.Turning.{up_left}
use Rattle.journal_calls.proofs.up_turn.Goals as goal

pub returns : goal.returns
returns c targets =
    let a = c.args in
    let e = c.on_connection_established-d.ensures in
    up_left a.j (memory_of a.connect.now targets a.sent.now a.ledger.now) c.known.ensures a.host a.own.now a.peer a.conn a.circuit c.state.ensures c.settle.ensures e.answer e.connect e.sent e.tables e.words
