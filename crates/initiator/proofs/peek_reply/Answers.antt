-- `initiator::peek_reply` meets its contract: each answer by the frame that was gathered.
use native.Mathlib.Omega.{arith}
use lib.ListN.{length-take}
use Rattle.frames.proofs.Gathers.{span_of}
use Rattle.initiator.proofs.Peeks.{whole_inside, reply_more, reply_broken, reply_whole}
use Rattle.initiator.proofs.peek_reply.Goals as goal

pub overflow_sub-n : goal.overflow_sub-n
overflow_sub-n c = omega (arith, span_of c.args.input.now c.args.buffer.now c.args.count c.look_ahead-g.ensures)

pub slice_bounds-read_ahead-end : goal.slice_bounds-read_ahead-end
slice_bounds-read_ahead-end c = simp length-take (omega (arith, span_of c.args.input.now c.args.buffer.now c.args.count c.look_ahead-g.ensures))

pub read_ahead-requires : goal.read_ahead-requires
read_ahead-requires c = whole_inside c.args.input.now c.args.buffer.now c.args.count c.args.out.now c.look_ahead-g.ensures c.in-Whole.is

pub returns-in-More : goal.returns-in-More
returns-in-More c = let t = reply_more c.args.input.now c.args.buffer.now c.args.count c.args.out.now c.look_ahead-g.ensures c.in-More.is in record { answer = t.0; stored = t.1 }

pub returns-in-Broken : goal.returns-in-Broken
returns-in-Broken c = let t = reply_broken c.args.input.now c.args.buffer.now c.args.count c.args.out.now c.look_ahead-g.ensures c.in-Broken.is in record { answer = t.0; stored = t.1 }

pub returns-in-Whole : goal.returns-in-Whole
returns-in-Whole c = let t = reply_whole c.args.input.now c.args.buffer.now c.args.count c.args.out.now c.look_ahead-g.ensures c.in-Whole.is c.read_ahead.ensures.answer c.read_ahead.ensures.stored in record { answer = t.0; stored = t.1 }
