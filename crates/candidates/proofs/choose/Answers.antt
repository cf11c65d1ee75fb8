-- What is kept, turn by turn: `Keeping` says what the bytes are and how many they can be.
use Rattle.std.proofs.Common.{subst, sym, ◌∙◌}
use Rattle.wire.specs.Lists.{entries}
use Rattle.candidates.proofs.Keeping.{Keeping, keep_none, keep_skip, keep_more}
use Rattle.candidates.proofs.choose.Goals as goal

pub loop-a-init : goal.loop-a-init
loop-a-init c =
    subst (Keeping c.args.l c.args.source (entries c.args.list.now) c.empty-len.result.bytes c.empty-len.result.len) (sym (c.into_iter-a-iterator.ensures.into_iter_gives ∙ c.entries-a-items.ensures))
    (keep_none c.args.l c.args.source (entries c.args.list.now) c.empty-len.ensures)

pub loop-a-preserved-then-wanted : goal.loop-a-preserved-then-wanted
loop-a-preserved-then-wanted c = keep_more c.requires c.loop-a.invariant c.in-Some.ensures.steps c.wanted.ensures c.if-wanted.true c.put_entry.ensures

pub loop-a-preserved : goal.loop-a-preserved
loop-a-preserved c = keep_skip c.requires c.loop-a.invariant c.in-Some.ensures.steps c.wanted.ensures c.if-wanted.false
