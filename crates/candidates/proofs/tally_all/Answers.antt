-- `candidates::tally_all` meets its contract: there are never more addresses than bytes, so the sums fit.
use Rattle.std.proofs.Common.{arith, subst}
use Rattle.wire.specs.Lists.{entries}
use Rattle.wire.proofs.EntryByEntry.{entries_few}
use Rattle.candidates.proofs.Loops.{Counting, count_more, count_all}
use Rattle.candidates.proofs.tally_all.Goals as goal

pub tally-n-requires : goal.tally-n-requires
tally-n-requires c = let h = c.loop-a.invariant in omega (arith, entries_few c.args.list.now)

pub loop-a-preserved : goal.loop-a-preserved
loop-a-preserved c = count_more (subst (Counting (entries c.args.list.now) c.args.ip c.loop-a.n) c.in-Some.ensures.steps c.loop-a.invariant) c.tally-n.ensures

pub returns : goal.returns
returns c = count_all (subst (Counting (entries c.args.list.now) c.args.ip c.loop-a.n) c.in-None.ensures.steps.0 c.loop-a.invariant)
