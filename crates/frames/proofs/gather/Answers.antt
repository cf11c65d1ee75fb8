-- `frames::gather` meets its contract: what is stored is the front of the input that `look_ahead` counted.
use mathlib.Core.Path.{◌∙◌}
use native.Mathlib.Omega.{arith}
use lib.ListN.{length-take}
use Rattle.frames.proofs.Gathers.{span_of, stored_of}
use Rattle.frames.proofs.gather.Goals as goal

pub overflow_sub-n : goal.overflow_sub-n
overflow_sub-n c = omega (arith, span_of c.args.input.now c.args.buffer.now c.args.count c.look_ahead-g.ensures)

pub slice_bounds-put_bytes-end : goal.slice_bounds-put_bytes-end
slice_bounds-put_bytes-end c = simp length-take (omega (arith, span_of c.args.input.now c.args.buffer.now c.args.count c.look_ahead-g.ensures))

pub returns : goal.returns
returns c = record { answer = c.look_ahead-g.ensures; stored = c.put_bytes.ensures ∙ stored_of c.args.input.now c.args.buffer.now c.args.count c.look_ahead-g.ensures }
