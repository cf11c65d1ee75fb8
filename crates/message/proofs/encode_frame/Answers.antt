-- `message::encode_frame` meets its contract: each answer by the message's size and the room.
use mathlib.Core.Path.{◌≡◌, ap, ◌∙◌}
use mathlib.Core.List.{◌++◌}
use Prim.Native.Nat.{ℕ}
use native.Mathlib.Omega.{arith}
use lib.ListN.{length}
use lib.Seq.{sets}
use Rattle.wire.specs.Varint.{encoded}
use Rattle.wire.specs.Lists.{entries}
use Rattle.wire.proofs.VarintAgain.{groups_most}
use Rattle.message.specs.Encoding.{type_field, address_fields, message_bytes, frame_bytes, encode_of, frame_encode_of, frame_encode_into}
use Rattle.message.proofs.Answers.{passed, message_adds, size_is, write_refused, write_short, write_done, frame_adds, frame_stored}
use Rattle.message.proofs.encode_frame.Goals as goal

pub overflow_add-head : goal.overflow_add-head
unfolding encode_of
overflow_add-head c =
    let a = c.args in
    let m = message_bytes a.kind (entries a.list.now) in
    let z = size_is a.list.now m c.message_size.ensures c.in_ok-size.was in
    omega (arith, groups_most 9 (length m), ap (λ (x : ℕ). length (encoded x)) z.1)

pub returns-then-out-head : goal.returns-then-out-head
unfolding encode_of frame_encode_of frame_encode_into
returns-then-out-head c =
    let a = c.args in
    let xs = entries a.list.now in
    let m = message_bytes a.kind xs in
    let b = frame_bytes a.kind xs in
    let z = size_is a.list.now m c.message_size.ensures c.in_ok-size.was in
    let f = frame_adds m z.1 c.varint_len-head.ensures in record { answer = (write_short a.list.now m b a.out.now c.message_size.ensures c.in_ok-size.was (omega arith)).0; stored = (write_short a.list.now m b a.out.now c.message_size.ensures c.in_ok-size.was (omega arith)).1 }

pub put_message-requires : goal.put_message-requires
unfolding encode_of
put_message-requires c =
    let a = c.args in
    let xs = entries a.list.now in
    let m = message_bytes a.kind xs in
    let z = size_is a.list.now m c.message_size.ensures c.in_ok-size.was in
    let b = message_adds a.kind xs c.type_number-number.ensures in
    let k : length c.put_varint.new.out ≡ length a.out.now = c.put_varint.auto.out in
    omega arith

pub returns : goal.returns
unfolding encode_of frame_encode_of frame_encode_into
returns c =
    let a = c.args in
    let xs = entries a.list.now in
    let m = message_bytes a.kind xs in
    let b = frame_bytes a.kind xs in
    let z = size_is a.list.now m c.message_size.ensures c.in_ok-size.was in
    let f = frame_adds m z.1 c.varint_len-head.ensures in
    let t = write_done a.list.now m b a.out.now c.message_size.ensures c.in_ok-size.was (omega arith) f
    (frame_stored a.out.now m z.1 c.varint_len-head.ensures c.put_varint.ensures
    (c.put_message.ensures ∙ ap (λ (x : ℕ). sets c.put_varint.new.out c.varint_len-head.result (type_field x ++ address_fields xs)) c.type_number-number.ensures)) in
    record { answer = t.0; stored = t.1 }

pub returns-in_err-size : goal.returns-in_err-size
unfolding encode_of frame_encode_of frame_encode_into
returns-in_err-size c =
    let a = c.args in
    let xs = entries a.list.now in
    let p = passed c.from_residual.ensures.1 in
    let t = write_refused a.list.now (message_bytes a.kind xs) (frame_bytes a.kind xs) a.out.now c.message_size.ensures c.in_err-size.was in
    record { answer = p ∙ t.0; stored = t.1 }
