-- `message::put_message` meets its contract: the type and the addresses are stored one behind the other.
use mathlib.Core.Path.{◌≡◌, ◌∙◌}
use native.Mathlib.Omega.{arith}
use lib.ListN.{length, length-set}
use Rattle.wire.specs.Lists.{entries}
use Rattle.wire.proofs.Stores.{parts_stored}
use Rattle.message.specs.Encoding.{type_field, address_fields}
use Rattle.message.proofs.FieldList.{type_stored}
use Rattle.message.proofs.put_message.Goals as goal

pub put_fields-requires : goal.put_fields-requires
put_fields-requires c =
    let k : length c.put_varint.new.out ≡ length c.args.out.now = c.put_varint.auto.out ∙ simp length-set in
    omega arith

pub shape_of-out : goal.shape_of-out
shape_of-out c = c.put_fields.auto.out ∙ c.put_varint.auto.out ∙ simp length-set

pub returns : goal.returns
returns c = parts_stored c.args.out.now c.args.at (type_field c.args.number) (address_fields (entries c.args.list.now)) (omega arith) (type_stored c.args.out.now c.args.at c.args.number c.put_varint.ensures) c.put_fields.ensures
