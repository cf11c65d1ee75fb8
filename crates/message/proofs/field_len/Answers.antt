-- `message::field_len` meets its contract: the length has at most ten bytes.
use Rattle.std.proofs.Common.{arith, length}
use Rattle.wire.proofs.VarintAgain.{groups_most}
use Rattle.message.proofs.field_len.Goals as goal

pub overflow_add-result : goal.overflow_add-result
overflow_add-result c = omega (arith, groups_most 9 (length c.args.address.now), c.varint_len.ensures)

pub overflow_add-result-2 : goal.overflow_add-result-2
overflow_add-result-2 c = omega (arith, groups_most 9 (length c.args.address.now), c.varint_len.ensures)
