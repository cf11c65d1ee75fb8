-- `wire::put_entry` meets its contract: the length, as far as there is room, then the address.
use Rattle.wire.proofs.Stores.{no_entry}
use Rattle.wire.proofs.put_entry.Goals as goal

pub returns-else-at-out : goal.returns-else-at-out
returns-else-at-out c = no_entry c.args.out.now c.args.address.now c.args.at c.if-at-out.false
