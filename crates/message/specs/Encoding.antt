-- Messages written (RULES.md, section 3).
use Rattle.std.specs.Prelude.{ℕ, List, [], ◌∷◌, ◌++◌, length, ltb, Err, Ok, Result}
use Rattle.prelude.specs.Choice.{pick}
use Rattle.refusal.specs.declared.Refusal.TheVariants.{BrokenList, MessageTooLong, OutputTooShort}
use Rattle.wire.specs.Varint.{encoded}
use Rattle.wire.specs.Frame.{max_message_size, framed}
use Rattle.wire.specs.Lists.{entries, broken}
use Rattle.message.specs.Message.{type_number, over}
use Rattle.message.specs.declared.Kind.{Kind}
use Rattle.refusal.specs.declared.Refusal.{Refusal}

-- field 1 as a varint, and field 2 as bytes
abbrev pub type_field : ℕ → List ℕ
type_field number = 0x08 ∷ encoded number

abbrev pub address_field : List ℕ → List ℕ
address_field a = 0x12 ∷ (encoded (length a) ++ a)

unfoldable pub address_fields : List (List ℕ) → List ℕ
address_fields [] = []
address_fields (a ∷ xs) = address_field a ++ address_fields xs

-- the type, then the addresses in order
abbrev pub message_bytes : Kind → List (List ℕ) → List ℕ
message_bytes k xs = type_field (type_number k) ++ address_fields xs

-- the answer for a list s, whose message is m: the bytes b, m itself or its frame, where there is so much room
abbrev pub sent : List ℕ → List ℕ → List ℕ → ℕ → Result ℕ Refusal
sent s m b room =
    pick (broken s) (Err BrokenList)
    (pick (ltb max_message_size (length m)) (Err MessageTooLong)
    (pick (ltb room (length b)) (Err OutputTooShort) (Ok (length b))))

-- the buffer after it
abbrev pub sent_into : List ℕ → List ℕ → List ℕ → List ℕ → List ℕ
sent_into s m b out =
    pick (broken s) out (pick (ltb max_message_size (length m)) out (pick (ltb (length out) (length b)) out (over b out)))

unfoldable pub encode_of : Kind → List ℕ → ℕ → Result ℕ Refusal
encode_of k s room = sent s (message_bytes k (entries s)) (message_bytes k (entries s)) room

unfoldable pub encode_into : Kind → List ℕ → List ℕ → List ℕ
encode_into k s out = sent_into s (message_bytes k (entries s)) (message_bytes k (entries s)) out

-- the message behind its length
abbrev pub frame_bytes : Kind → List (List ℕ) → List ℕ
frame_bytes k xs = framed (message_bytes k xs)

unfoldable pub frame_encode_of : Kind → List ℕ → ℕ → Result ℕ Refusal
frame_encode_of k s room = sent s (message_bytes k (entries s)) (frame_bytes k (entries s)) room

unfoldable pub frame_encode_into : Kind → List ℕ → List ℕ → List ℕ
frame_encode_into k s out = sent_into s (message_bytes k (entries s)) (frame_bytes k (entries s)) out
