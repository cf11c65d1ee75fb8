use Rattle.lent.proofs.Hears.{heard_then}
use Rattle.carried.specs.Carried.{targets_after}
use Rattle.lent.proofs.calls.hear.Goals as goal

pub returns : goal.returns
unfolding targets_after
returns c =
    let t = heard_then c.args.c _ c.args.host c.args.targets.now c.args.buffer.now c.args.stream c.args.input c.args.bytes.now c.args.pending c.frame_bytes-count.ensures c.terms.ensures c.peek_data-peeked.ensures c.refuses_punches-full.ensures c.input-d.ensures c.is_ok.ensures.value c.store.ensures c.take_targets.ensures in
    record { answer = t.0; targets = t.1.0; buffer = t.1.1 }
