use Rattle.lent.proofs.Hears.{short_left, turned_left, heard_left, unheard_left}
use Rattle.carried.specs.Carried.{targets_after}
use Rattle.lent.specs.Calls.{input_in}
use Rattle.lent.specs.Calls.{buffer_after}
use Rattle.lent.proofs.calls.input_in.Goals as goal

pub returns-then-buffer-lt-MAX_FRAME_SIZE : goal.returns-then-buffer-lt-MAX_FRAME_SIZE
unfolding buffer_after input_in targets_after
returns-then-buffer-lt-MAX_FRAME_SIZE c =
    let t = short_left c.args.c _ c.args.host c.args.targets.now c.args.buffer.now c.args.stream c.args.input c.args.bytes.now c.args.pending c.args.own.now c.if-buffer-lt-MAX_FRAME_SIZE.true c.refused.ensures in
    record { answer = t.0; targets = t.1.0; buffer = t.1.1 }

pub returns-in-Err : goal.returns-in-Err
unfolding buffer_after input_in targets_after
returns-in-Err c =
    let t = turned_left c.args.c _ c.args.host c.args.targets.now c.args.buffer.now c.args.stream c.args.input c.args.bytes.now c.args.pending c.args.own.now c.if-buffer-lt-MAX_FRAME_SIZE.false c.checked.ensures c.in-Err.is c.refused-in-Err.ensures in
    record { answer = t.0; targets = t.1.0; buffer = t.1.1 }

pub returns-in-Ok : goal.returns-in-Ok
unfolding buffer_after input_in targets_after
returns-in-Ok c =
    let t = heard_left c.args.c _ c.args.host c.args.targets.now c.args.buffer.now c.args.stream c.args.input c.args.bytes.now c.args.pending c.args.own.now c.if-buffer-lt-MAX_FRAME_SIZE.false c.checked.ensures c.in-Ok.is c.awaits_reply.ensures c.if-awaits_reply.true (c.hear.ensures.answer, (c.hear.ensures.targets, c.hear.ensures.buffer)) in
    record { answer = t.0; targets = t.1.0; buffer = t.1.1 }

pub returns-in-Ok-2 : goal.returns-in-Ok-2
unfolding buffer_after input_in targets_after
returns-in-Ok-2 c =
    let t = unheard_left c.args.c _ c.args.host c.args.targets.now c.args.buffer.now c.args.stream c.args.input c.args.bytes.now c.args.pending c.args.own.now c.if-buffer-lt-MAX_FRAME_SIZE.false c.checked.ensures c.in-Ok.is c.awaits_reply.ensures c.if-awaits_reply.false c.input.ensures in
    record { answer = t.0; targets = t.1.0; buffer = t.1.1 }
