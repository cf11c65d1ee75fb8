-- What the bytes of an input bring (RULES.md, sections 3, 4 and 11.7).
use Rattle.std.specs.Prelude.{ℕ, List, eqb}
use Rattle.prelude.specs.Choice.{pick}
use Rattle.wire.specs.declared.Frame.{Frame}
use Rattle.wire.specs.declared.Frame.TheVariants.{More, Whole, Broken}
use Rattle.message.specs.Message.{Content, says, refused, content_of, type_number}
use Rattle.message.specs.declared.Kind.TheVariants.{Connect}
use Rattle.frames.specs.Gathering.{gathered, gathered_into}
use Rattle.initiator.specs.Replies.{message_at}

-- so many frame bytes and no whole frame; a broken frame, or a message that is no CONNECT; a CONNECT with its addresses
pub data Brought : Type 0 where
  unfinished : ℕ → Brought
  failed : Brought
  connect : List (List ℕ) → Brought

abbrev pub from_content : Content → Brought
from_content (says type addresses) = pick (eqb type (type_number Connect)) (connect addresses) failed
from_content (refused why) = failed

abbrev pub from_frame : Frame → ℕ → List ℕ → Brought
from_frame More n buffer = unfinished n
from_frame (Whole start len) n buffer = from_content (content_of (message_at start len buffer))
from_frame Broken n buffer = failed

-- the input's bytes, behind the n frame bytes of the buffer
unfoldable pub brought_by : List ℕ → List ℕ → ℕ → Brought
brought_by bytes buffer n =
    from_frame (gathered bytes buffer n).frame (gathered bytes buffer n).count (gathered_into bytes buffer n)
