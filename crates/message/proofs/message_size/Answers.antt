-- `message::message_size` meets its contract: each answer by the tests on the way.
use native.Mathlib.Omega.{arith}
use Rattle.wire.specs.Lists.{entries}
use Rattle.wire.proofs.VarintAgain.{groups_most}
use Rattle.message.specs.Encoding.{message_bytes, encode_of}
use Rattle.message.proofs.Answers.{message_long, message_adds, size_broken, size_long, size_good}
use Rattle.message.proofs.message_size.Goals as goal

pub returns-then-is_broken : goal.returns-then-is_broken
unfolding encode_of
returns-then-is_broken c = size_broken c.args.list.now (message_bytes c.args.kind (entries c.args.list.now)) c.is_broken.ensures c.if-is_broken.true

pub returns-then-rest-gt-MAX_MESSAGE_SIZE : goal.returns-then-rest-gt-MAX_MESSAGE_SIZE
unfolding encode_of
returns-then-rest-gt-MAX_MESSAGE_SIZE c =
    let a = c.args in
    let xs = entries a.list.now in
    let b = message_long a.kind xs in
    size_long a.list.now (message_bytes a.kind xs) c.is_broken.ensures c.if-is_broken.false (omega arith)

pub overflow_add-size : goal.overflow_add-size
overflow_add-size c = omega (arith, groups_most 9 c.type_number-number.result)

pub overflow_add-size-2 : goal.overflow_add-size-2
overflow_add-size-2 c = omega (arith, groups_most 9 c.type_number-number.result)

pub returns-then-size-gt-MAX_MESSAGE_SIZE : goal.returns-then-size-gt-MAX_MESSAGE_SIZE
unfolding encode_of
returns-then-size-gt-MAX_MESSAGE_SIZE c =
    let a = c.args in
    let xs = entries a.list.now in
    let b = message_adds a.kind xs c.type_number-number.ensures in
    size_long a.list.now (message_bytes a.kind xs) c.is_broken.ensures c.if-is_broken.false (omega arith)

pub returns : goal.returns
unfolding encode_of
returns c =
    let a = c.args in
    let xs = entries a.list.now in
    let b = message_adds a.kind xs c.type_number-number.ensures in
    size_good a.list.now (message_bytes a.kind xs) c.is_broken.ensures c.if-is_broken.false (omega arith) (omega arith)
