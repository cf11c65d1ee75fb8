-- `frames::look_ahead` meets its contract: the invariant is `Ahead`: gathering what is left gives what gathering all gives.
use Rattle.frames.proofs.Gathers.{ahead_none, ahead_full, ahead_more, ahead_ends, ahead_all}
use Rattle.frames.proofs.look_ahead.Goals as goal

pub loop-byte-init : goal.loop-byte-init
loop-byte-init c = ahead_none _ _ _

pub returns-then-buffer-n : goal.returns-then-buffer-n
returns-then-buffer-n c = ahead_full _ _ _ _ _ c.loop-byte.invariant c.loop-byte-test.true c.if-buffer-n.true

pub loop-byte-preserved : goal.loop-byte-preserved
loop-byte-preserved c = ahead_more _ _ _ _ _ c.loop-byte.invariant c.loop-byte-test.true c.if-buffer-n.false c.frame_byte-first.ensures c.frame_byte-second.ensures c.frame_from.ensures c.in-More.is

pub returns-in_default : goal.returns-in_default
returns-in_default c = ahead_ends _ _ _ _ _ c.loop-byte.invariant c.loop-byte-test.true c.if-buffer-n.false c.frame_byte-first.ensures c.frame_byte-second.ensures c.frame_from.ensures c.in_default.not-More

pub returns : goal.returns
returns c = ahead_all _ _ _ _ _ c.loop-byte.invariant c.loop-byte-test.false
