use native.Mathlib.Omega.{arith}
use Rattle.wire.proofs.Frames.{none_there}
use Rattle.wire.proofs.frame_so_far.Goals as goal

pub returns-in-empty : goal.returns-in-empty
returns-in-empty c = none_there c.args.s.now (omega arith)
