-- `message::fields_size` meets its contract: the whole is at most twice as long as the list, so the sums fit.
use Rattle.std.proofs.Common.{arith, length}
use Rattle.wire.specs.Lists.{entries}
use Rattle.message.specs.Encoding.{address_fields}
use Rattle.message.proofs.FieldList.{fields_bound, count_more, count_all}
use Rattle.message.proofs.fields_size.Goals as goal

pub overflow_add-size : goal.overflow_add-size
overflow_add-size c = omega (arith, count_more c.loop-address.size (length (address_fields (entries c.args.list.now))) c.in-Some.ensures.steps c.loop-address.invariant, c.field_len-size.ensures, fields_bound c.args.list.now)

pub loop-address-preserved : goal.loop-address-preserved
loop-address-preserved c = rw c.field_len-size.ensures (count_more c.loop-address.size _ c.in-Some.ensures.steps c.loop-address.invariant)

pub returns : goal.returns
returns c = count_all c.loop-address.size _ c.in-None.ensures.steps.0 c.loop-address.invariant
