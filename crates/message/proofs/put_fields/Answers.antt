-- `message::put_fields` meets its contract, field by field.
use Rattle.std.proofs.Common.{arith, ◌∙◌}
use Rattle.message.proofs.FieldList.{store_room, store_more, store_all}
use Rattle.message.proofs.put_fields.Goals as goal

pub overflow_add-p : goal.overflow_add-p
overflow_add-p c = omega (arith, store_room c.in-Some.ensures.steps c.loop-address.invariant.0, c.field_len-p.ensures, c.requires)

pub loop-address-preserved : goal.loop-address-preserved
loop-address-preserved c = (rw c.field_len-p.ensures (store_more c.in-Some.ensures.steps c.loop-address.invariant.0 c.put_field.ensures), c.put_field.auto.out ∙ c.loop-address.invariant.1)

pub returns : goal.returns
returns c = store_all c.in-None.ensures.steps.0 c.loop-address.invariant.0
