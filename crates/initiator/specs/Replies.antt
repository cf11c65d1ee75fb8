-- What the gathered bytes answer (RULES.md, sections 3 and 4).
use Rattle.std.specs.Prelude.{ℕ, List, take, drop, Err, None, Ok, Option, Result, Some}
use Rattle.wire.specs.declared.Frame.{Frame}
use Rattle.wire.specs.declared.Frame.TheVariants as f
use Rattle.message.specs.Message.{decode_of, decode_into}
use Rattle.message.specs.declared.Kind.TheVariants.{Connect, Sync}
use Rattle.frames.specs.Gathering.{gathered, gathered_into}
use Rattle.initiator.specs.declared.Reply.{Reply}
use Rattle.initiator.specs.declared.Reply.TheVariants as r
use Rattle.message.specs.declared.Kind.{Kind}
use Rattle.refusal.specs.declared.Refusal.{Refusal}

-- only a CONNECT is a reply; every other message fails the exchange, and so does a broken frame
abbrev pub replied : Result (Kind × ℕ) Refusal → Option Reply
replied (Ok (Connect, size)) = Some (r.Connect size)
replied (Ok (Sync, size)) = None
replied (Err why) = None

-- the message of a whole frame
abbrev pub message_at : ℕ → ℕ → List ℕ → List ℕ
message_at start len b = take len (drop start b)

-- of the frame in the buffer b, of n bytes; there is so much room for the list of addresses
abbrev pub reply_from : Frame → ℕ → List ℕ → ℕ → Option Reply
reply_from f.More n b room = Some (r.More n)
reply_from (f.Whole start len) n b room = replied (decode_of (message_at start len b) room)
reply_from f.Broken n b room = None

-- the list of addresses into a buffer; its other bytes stay
abbrev pub list_from : Frame → List ℕ → List ℕ → List ℕ
list_from f.More b out = out
list_from (f.Whole start len) b out = decode_into (message_at start len b) out
list_from f.Broken b out = out

-- the reply after an input xs, where n frame bytes stood in the buffer b. A list that finds no room fails too; a room of 4,096
-- bytes is always enough
unfoldable pub reply_of : List ℕ → List ℕ → ℕ → ℕ → Option Reply
reply_of xs b n room = reply_from (gathered xs b n).frame (gathered xs b n).count (gathered_into xs b n) room

unfoldable pub reply_into : List ℕ → List ℕ → ℕ → List ℕ → List ℕ
reply_into xs b n out = list_from (gathered xs b n).frame (gathered_into xs b n) out
