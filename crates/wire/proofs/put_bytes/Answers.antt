-- `wire::put_bytes` meets its contract: as many bytes are copied as there is room for.
use Rattle.std.proofs.Common.{sym, arith, ◌+◌}
use borrow.Rule.Slice.PartMut.{Post-is}
use Rattle.wire.proofs.Stores.{sets_out, sets_within}
use Rattle.wire.proofs.put_bytes.Goals as goal

pub returns-then-at-out : goal.returns-then-at-out
returns-then-at-out c =
    rw (c.copy_from_slice.ensures.after, Post-is c.args.at (c.args.at + c.min-n.result) c.args.out.now (omega arith))
    (sets_within c.args.out.now c.args.src.now c.args.at (omega arith) c.min-n.ensures)

pub returns-else-at-out : goal.returns-else-at-out
returns-else-at-out c = sym (sets_out c.args.out.now c.args.at c.args.src.now c.if-at-out.false)
