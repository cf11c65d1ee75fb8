use Rattle.journal_calls.specs.Calls.{memory_of}
use Rattle.journal_calls.proofs.Turning.{input_left}
use Rattle.journal_calls.proofs.input_turn.Goals as goal

pub returns-clause-turn : goal.returns-clause-turn
returns-clause-turn c =
    let a = c.args in
    let e = c.on_dcutr_stream_input-d.ensures in
    input_left a.j (memory_of a.connect.now a.targets.now a.sent.now a.ledger.now) c.known.ensures a.host a.own.now a.reply.now a.stream a.kind a.bytes.now a.pending
    c.state.ensures c.settle.ensures e.answer e.connect e.targets e.sent e.tables e.words
