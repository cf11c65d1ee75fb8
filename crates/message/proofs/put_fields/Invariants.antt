-- `message::put_fields` meets its contract: the invariant is `Storing`: storing the fields still to come gives what storing all gives.
use Rattle.std.proofs.Common.{◌≡◌, ◌+◌, length}
use lib.Seq.{sets}
use Rattle.wire.specs.Lists.{entries}
use Rattle.message.specs.Encoding.{address_fields}
use Rattle.message.proofs.FieldList.{Storing}
use Rattle.message.proofs.put_fields.Given as goal

abbrev pub invariant-loop-address : goal.invariant-loop-address
invariant-loop-address l =
    Storing l.address-iterator l.out l.p (sets l.initial.out l.from (address_fields (entries l.list))) (l.from + length (address_fields (entries l.list))) × (length l.out ≡ length l.initial.out)
