-- Calls of `wire` and `message` (RULES.md, sections 2 to 5): each row's call, and what is answered to it.
use Rattle.std.specs.Prelude.{ℕ, List, [], ◌∷◌, ◌++◌, length, take, replicate, get_or, ltb, eqb, Err, None, Ok, Option, Result, Some}
use Rattle.prelude.specs.Choice.{pick}
use Rattle.text.specs.Words.{ascii}
use Rattle.text.specs.Printed.{printed}
use Rattle.refusal.specs.Number.{number_of}
use Rattle.wire.specs.Varint.{varint_of, encoded}
use Rattle.wire.specs.Frame.{frame_of}
use Rattle.wire.specs.Lists.{entries, broken}
use Rattle.wire.specs.declared.Frame.{Frame}
use Rattle.wire.specs.declared.Frame.TheVariants as frame
use Rattle.message.specs.Message.{decode_of, decode_into}
use Rattle.message.specs.Encoding.{encode_of, encode_into}
use Rattle.message.specs.declared.Kind.{Kind}
use Rattle.message.specs.declared.Kind.TheVariants.{Connect, Sync}
use Rattle.call_table.specs.Tables.{bytes_in, none, says, shows, no_bytes, text_by}
use Rattle.call_table.specs.declared.Said.{Said}
use Rattle.call_table.specs.declared.Call.{Call}
use Rattle.refusal.specs.declared.Refusal.{Refusal}

unfoldable pub messages_table : List ℕ
messages_table =
    ascii "do=varint in=%|value=# next=#|malformed\n"
    ++ ascii "do=encode value=#|out=%\n"
    ++ ascii "do=frame in=% count=#|whole start=# len=#|more|broken\n"
    ++ ascii "do=list in=%|count=#|broken\n"
    ++ ascii "do=read in=% room=#|kind=(connect/sync) size=# out=%|refused why=# out=%|bad\n"
    ++ ascii "do=write kind=connect list=% room=#|size=# out=%|refused why=# out=%|bad\n"
    ++ ascii "do=write kind=sync list=% room=#|size=# out=%|refused why=# out=%|bad"

abbrev pub varint_said : Option (ℕ × ℕ) → Said
varint_said (Some (v, next)) = says 1 (v ∷ next ∷ 0 ∷ 0 ∷ 0 ∷ 0 ∷ [])
varint_said None = says 2 none

-- the bytes shown are the first
unfoldable pub encode_said : ℕ → Said
encode_said v = shows 1 (0 ∷ length (encoded v) ∷ 0 ∷ 0 ∷ 0 ∷ 0 ∷ []) (printed no_bytes 0 (encoded v))

abbrev pub frame_said : Frame → Said
frame_said (frame.Whole start len) = says 1 (start ∷ len ∷ 0 ∷ 0 ∷ 0 ∷ 0 ∷ [])
frame_said frame.More = says 2 none
frame_said frame.Broken = says 3 none

unfoldable pub list_said : List ℕ → Said
list_said s = pick (broken s) (says 2 none) (says 1 (length (entries s) ∷ 0 ∷ 0 ∷ 0 ∷ 0 ∷ 0 ∷ []))

-- a buffer before a call; after it what the call made of its first bytes, of which a line says how many there are, stands first
unfoldable pub filler : ℕ → List ℕ
filler room = replicate room 0xee

unfoldable pub after : List ℕ → List ℕ
after written = printed (filler 8192) 0 written

abbrev pub kind_place : Kind → ℕ
kind_place Connect = 0
kind_place Sync = 1

-- a message read, with the buffer after it; a buffer may have 8,192 bytes
abbrev pub decoded_said : Result (Kind × ℕ) Refusal → ℕ → List ℕ → Said
decoded_said (Ok (kind, size)) room buffer = shows 1 (kind_place kind ∷ size ∷ 0 ∷ room ∷ 0 ∷ 0 ∷ []) buffer
decoded_said (Err why) room buffer = shows 2 (number_of why ∷ 0 ∷ room ∷ 0 ∷ 0 ∷ 0 ∷ []) buffer

unfoldable pub read_said : List ℕ → ℕ → Said
read_said m room = pick (ltb 8192 room) (says 3 none) (decoded_said (decode_of m room) room (after (decode_into m (filler room))))

-- a message written, with the buffer after it
abbrev pub encoded_said : Result ℕ Refusal → ℕ → List ℕ → Said
encoded_said (Ok size) room buffer = shows 1 (size ∷ 0 ∷ room ∷ 0 ∷ 0 ∷ 0 ∷ []) buffer
encoded_said (Err why) room buffer = shows 2 (number_of why ∷ 0 ∷ room ∷ 0 ∷ 0 ∷ 0 ∷ []) buffer

unfoldable pub write_said : Kind → List ℕ → ℕ → Said
write_said kind s room = pick (ltb 8192 room) (says 3 none) (encoded_said (encode_of kind s room) room (after (encode_into kind s (filler room))))

-- what is answered to each row's call, with its words and its bytes
unfoldable pub message_said : ℕ → List ℕ → List ℕ → Said
message_said row w bytes =
    pick (eqb row 0) (varint_said (varint_of bytes))
    (pick (eqb row 1) (encode_said (get_or w 0 0))
    (pick (eqb row 2) (frame_said (frame_of (take (get_or w 2 0) bytes)))
    (pick (eqb row 3) (list_said bytes)
    (pick (eqb row 4) (read_said bytes (get_or w 2 0))
    (pick (eqb row 5) (write_said Connect bytes (get_or w 2 0)) (write_said Sync bytes (get_or w 2 0)))))))

abbrev pub said_of : List ℕ → Call → Said
said_of line c = message_said c.row c.words (bytes_in line (get_or c.words 0 0) (get_or c.words 1 0))

-- what is printed of a line; nothing where it is none of these calls
abbrev pub messages_text : List ℕ → List ℕ
messages_text line = text_by messages_table (said_of line) line
