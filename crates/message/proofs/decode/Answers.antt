-- `message::decode` meets its contract: each answer by what was measured.
use mathlib.Core.Path.{◌∙◌}
use native.Mathlib.Omega.{arith}
use Rattle.message.proofs.Answers.{passed, read_long, read_refused, read_good, read_short, read_done}
use Rattle.message.proofs.decode.Goals as goal

pub returns-then-message-gt-MAX_MESSAGE_SIZE : goal.returns-then-message-gt-MAX_MESSAGE_SIZE
returns-then-message-gt-MAX_MESSAGE_SIZE c =
    let t = read_long c.args.message.now c.args.out.now c.if-message-gt-MAX_MESSAGE_SIZE.true in record { answer = t.0; stored = t.1 }

pub returns-then-out-size : goal.returns-then-out-size
returns-then-out-size c =
    let t = read_short c.args.message.now c.args.out.now c.if-message-gt-MAX_MESSAGE_SIZE.false c.measure.ensures c.in_ok-kind.was c.if-out-size.true in
    record { answer = t.0; stored = t.1 }

pub put_addresses-requires : goal.put_addresses-requires
put_addresses-requires c = (omega arith, read_good c.args.message.now c.args.out.now c.if-message-gt-MAX_MESSAGE_SIZE.false c.measure.ensures c.in_ok-kind.was)

pub returns : goal.returns
returns c =
    let t = read_done c.args.message.now c.args.out.now c.if-message-gt-MAX_MESSAGE_SIZE.false c.measure.ensures c.in_ok-kind.was c.if-out-size.false c.put_addresses.ensures in
    record { answer = t.0; stored = t.1 }

pub returns-in_err-kind : goal.returns-in_err-kind
returns-in_err-kind c =
    let p = passed c.from_residual.ensures.1 in
    let t = read_refused c.args.message.now c.args.out.now c.if-message-gt-MAX_MESSAGE_SIZE.false c.measure.ensures c.in_err-kind.was in
    record { answer = p ∙ t.0; stored = t.1 }
