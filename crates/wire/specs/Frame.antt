-- Frames (RULES.md, section 4).
use Rattle.std.specs.Prelude.{ℕ, ◌+◌, ◌*◌, ◌%◌, List, ◌++◌, length, get_or, ltb, leb, eqb}
use Rattle.prelude.specs.Choice.{pick}
use Rattle.wire.specs.Varint.{encoded}
use Rattle.wire.specs.declared.Frame.{Frame}
use Rattle.wire.specs.declared.Frame.TheVariants.{More, Whole, Broken}

-- the most bytes of a message
abbrev pub max_message_size : ℕ
max_message_size = 4096

-- the most bytes of a frame: two of length, then the message
abbrev pub max_frame_size : ℕ
max_frame_size = 4098

-- a message behind its length
abbrev pub framed : List ℕ → List ℕ
framed m = encoded (length m) ++ m

-- of a frame with start bytes of length and len bytes of message, count bytes are there
abbrev pub reached : ℕ → ℕ → ℕ → Frame
reached start len count = pick (leb (start + len) count) (Whole start len) More

-- the length that two bytes give
abbrev pub two_byte_length : ℕ → ℕ → ℕ
two_byte_length first second = second * 128 + first % 128

-- the frame with these first two bytes, of which count bytes are there; a byte that is not there plays no part
unfoldable pub frame_from : ℕ → ℕ → ℕ → Frame
frame_from first second count =
    pick (eqb count 0) More
    (pick (ltb first 128) (reached 1 first count)
    (pick (eqb count 1) More
    (pick (eqb second 0) Broken
    (pick (ltb 127 second) Broken
    (pick (ltb max_message_size (two_byte_length first second)) Broken (reached 2 (two_byte_length first second) count))))))

-- the frame whose bytes so far are these
abbrev pub frame_of : List ℕ → Frame
frame_of s = frame_from (get_or s 0 0) (get_or s 1 0) (length s)
