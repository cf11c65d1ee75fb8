-- `message::encode` meets its contract: each answer by the message's size and the room.
use mathlib.Core.Path.{ap, ◌∙◌}
use mathlib.Core.List.{◌++◌}
use Prim.Native.Nat.{ℕ}
use native.Mathlib.Omega.{arith}
use lib.Seq.{sets}
use Rattle.wire.specs.Lists.{entries}
use Rattle.message.specs.Encoding.{type_field, address_fields, message_bytes, encode_of, encode_into}
use Rattle.message.proofs.Answers.{passed, message_adds, size_is, write_refused, write_short, write_done}
use Rattle.message.proofs.encode.Goals as goal

pub returns-then-out-size : goal.returns-then-out-size
unfolding encode_of encode_into
returns-then-out-size c =
    let a = c.args in
    let m = message_bytes a.kind (entries a.list.now) in
    let z = size_is a.list.now m c.message_size.ensures c.in_ok-size.was in record { answer = (write_short a.list.now m m a.out.now c.message_size.ensures c.in_ok-size.was (omega arith)).0; stored = (write_short a.list.now m m a.out.now c.message_size.ensures c.in_ok-size.was (omega arith)).1 }

pub put_message-requires : goal.put_message-requires
unfolding encode_of
put_message-requires c =
    let a = c.args in
    let m = message_bytes a.kind (entries a.list.now) in
    let z = size_is a.list.now m c.message_size.ensures c.in_ok-size.was in
    let b = message_adds a.kind (entries a.list.now) c.type_number-number.ensures in
    omega arith

pub returns : goal.returns
unfolding encode_of encode_into
returns c =
    let a = c.args in
    let m = message_bytes a.kind (entries a.list.now) in
    let z = size_is a.list.now m c.message_size.ensures c.in_ok-size.was in
    let t = write_done a.list.now m m a.out.now c.message_size.ensures c.in_ok-size.was (omega arith) z.1
    (c.put_message.ensures ∙ ap (λ (x : ℕ). sets a.out.now 0 (type_field x ++ address_fields (entries a.list.now))) c.type_number-number.ensures) in
    record { answer = t.0; stored = t.1 }

pub returns-in_err-size : goal.returns-in_err-size
unfolding encode_of encode_into
returns-in_err-size c =
    let a = c.args in
    let m = message_bytes a.kind (entries a.list.now) in
    let p = passed c.from_residual.ensures.1 in
    let t = write_refused a.list.now m m a.out.now c.message_size.ensures c.in_err-size.was in
    record { answer = p ∙ t.0; stored = t.1 }
