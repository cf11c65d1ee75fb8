-- `message::fields_size` meets its contract: the invariant: the bytes so far and those still to come make up the whole.
use Rattle.std.proofs.Common.{◌≡◌, ◌+◌, length}
use Rattle.wire.specs.Lists.{entries}
use Rattle.message.specs.Encoding.{address_fields}
use Rattle.message.proofs.fields_size.Given as goal

abbrev pub invariant-loop-address : goal.invariant-loop-address
invariant-loop-address l = l.size + length (address_fields l.address-iterator) ≡ length (address_fields (entries l.list))
