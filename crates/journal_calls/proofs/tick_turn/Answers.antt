use Rattle.journal_calls.specs.Calls.{memory_of}
use Rattle.journal_calls.proofs.Turning.{tick_left}
use Rattle.journal_calls.proofs.tick_turn.Goals as goal

pub returns : goal.returns
returns c targets =
    let a = c.args in
    let e = c.on_tick-d.ensures in
    tick_left a.j (memory_of a.connect.now targets a.sent.now a.ledger.now) c.known.ensures a.host a.own.now c.state.ensures c.settle.ensures e.answer e.connect e.sent e.tables e.words
    c.expire.ensures.tables c.expire.ensures.words
