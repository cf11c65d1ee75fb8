-- `frames::look_ahead` meets its contract: the invariant is `Ahead`: gathering what is left gives what gathering all gives.
use Rattle.frames.proofs.Gathers.{Ahead}
use Rattle.frames.proofs.look_ahead.Given as goal

abbrev pub invariant-loop-byte : goal.invariant-loop-byte
invariant-loop-byte l = Ahead l.input l.buffer l.count l.n l._byte-index
