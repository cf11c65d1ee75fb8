-- The invariant is `Keeping`: the addresses kept so far, the bytes that they make, and what is still to come.
use Rattle.wire.specs.Lists.{entries}
use Rattle.candidates.proofs.Keeping.{Keeping}
use Rattle.candidates.proofs.choose.Given as goal

abbrev pub invariant-loop-a : goal.invariant-loop-a
invariant-loop-a l = Keeping l.l l.source (entries l.list) l.bytes l.len l.a-iterator
