-- `initiator::read_ahead` meets its contract: the message of the copy is the one that the buffer would have.
use Prim.Native.Nat.{ℕ}
use lib.ListN.{length-replicate}
use Rattle.initiator.proofs.Peeks.{read_copy}
use Rattle.initiator.proofs.read_ahead.Goals as goal

pub returns : goal.returns
returns c =
    let a = c.args in
    let t = read_copy _ a.buffer.now a.bytes.now a.count a.start a.len a.out.now (length-replicate {A = ℕ} 4098 0)
    c.requires.0 c.requires.1 c.put_bytes.ensures c.put_bytes-2.ensures c.read_message.ensures.answer c.read_message.ensures.stored in
    record { answer = t.0; stored = t.1 }
