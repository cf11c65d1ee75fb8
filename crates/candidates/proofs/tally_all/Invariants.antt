-- `candidates::tally_all` meets its contract: the invariant is `Counting`: what is counted and what is left make up the whole.
use Rattle.wire.specs.Lists.{entries}
use Rattle.candidates.proofs.Loops.{Counting}
use Rattle.candidates.proofs.tally_all.Given as goal

abbrev pub invariant-loop-a : goal.invariant-loop-a
invariant-loop-a l = Counting (entries l.list) l.ip l.n l.a-iterator
