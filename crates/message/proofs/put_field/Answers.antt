-- `message::put_field` meets its contract: the tag, the length and the address are stored one behind the other.
use mathlib.Core.Path.{sym, ap, ◌∙◌}
use Prim.Native.Nat.{ℕ, ◌+◌}
use native.Mathlib.Omega.{arith}
use lib.ListN.{length, length-set}
use Rattle.message.specs.Encoding.{address_field}
use Rattle.wire.proofs.Stores.{sets_out}
use Rattle.wire.proofs.VarintAgain.{groups_most}
use Rattle.message.proofs.FieldList.{field_stored}
use Rattle.message.proofs.put_field.Goals as goal

pub returns-then-out-at : goal.returns-then-out-at
returns-then-out-at c = sym (sets_out c.args.out.now c.args.at (address_field c.args.address.now) c.if-out-at.true)

pub overflow_add-p : goal.overflow_add-p
overflow_add-p c = omega (arith, groups_most 9 (length c.args.address.now))

pub overflow_add-p-2 : goal.overflow_add-p-2
overflow_add-p-2 c = omega (arith, groups_most 9 (length c.args.address.now))

pub shape_of-out : goal.shape_of-out
shape_of-out c = c.put_bytes.auto.out ∙ c.put_varint.auto.out ∙ simp length-set

pub returns : goal.returns
returns c = field_stored c.args.out.now c.args.address.now c.args.at (ap (λ (n : ℕ). c.args.at + 1 + n) c.varint_len.ensures) c.put_varint.ensures c.put_bytes.ensures
