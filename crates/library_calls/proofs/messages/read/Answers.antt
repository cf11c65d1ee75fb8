use native.Mathlib.Omega.{arith}
use mathlib.Core.Path.{◌∙◌}
use lib.ListN.{length-take}
use Rattle.library_calls.proofs.Messaging.{filled_length, read_long, read_shown}
use Rattle.library_calls.proofs.messages.read.Goals as goal

pub returns-then-room-gt-ROOM : goal.returns-then-room-gt-ROOM
returns-then-room-gt-ROOM c = c.say.ensures ∙ read_long _ _ c.if-room-gt-ROOM.true

pub slice_bounds-decode-end : goal.slice_bounds-decode-end
slice_bounds-decode-end c = simp length-take (omega (arith, filled_length c.filled-buffer.ensures))

pub returns : goal.returns
returns c = c.decoded_said.ensures ∙ read_shown _ _ c.if-room-gt-ROOM.false c.filled-buffer.ensures c.decode-d.auto.out c.decode-d.ensures.answer c.decode-d.ensures.stored
