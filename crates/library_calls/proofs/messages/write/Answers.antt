use native.Mathlib.Omega.{arith}
use mathlib.Core.Path.{◌∙◌}
use lib.ListN.{length-take}
use Rattle.library_calls.proofs.Messaging.{filled_length, write_long, write_shown}
use Rattle.library_calls.proofs.messages.write.Goals as goal

pub returns-then-room-gt-ROOM : goal.returns-then-room-gt-ROOM
returns-then-room-gt-ROOM c = c.say.ensures ∙ write_long _ _ _ c.if-room-gt-ROOM.true

pub slice_bounds-encode-end : goal.slice_bounds-encode-end
slice_bounds-encode-end c = simp length-take (omega (arith, filled_length c.filled-buffer.ensures))

pub returns : goal.returns
returns c = c.encoded_said.ensures ∙ write_shown _ _ c.if-room-gt-ROOM.false c.filled-buffer.ensures c.encode-e.auto.out _ c.encode-e.ensures.answer c.encode-e.ensures.stored
