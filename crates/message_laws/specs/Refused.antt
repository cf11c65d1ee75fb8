-- By which number a message is refused, read and written, as a table over its fields (RULES.md, sections 2 and 3).
use Rattle.std.specs.Prelude.{ℕ, zero, suc, ◌+◌, ◌/◌, ◌%◌, List, [], ◌∷◌, Bool, length, take, drop, ltb, leb, eqb, Err, None, Ok, Option, Result, Some}
use Rattle.prelude.specs.Choice.{pick, both, either}
use Rattle.refusal.specs.Number.{number_of}
use Rattle.wire.specs.Varint.{varint_of}
use Rattle.wire.specs.Lists.{entries, broken, listed}
use Rattle.message.specs.declared.Kind.{Kind}
use Rattle.message.specs.declared.Kind.TheVariants.{Connect, Sync}
use Rattle.refusal.specs.declared.Refusal.{Refusal}

-- ---- the fields of a message (section 2)

-- the number of a varint, and how many bytes it has; both are 0 where it is malformed
abbrev pub number_in : Option (ℕ × ℕ) → ℕ
number_in (Some (v, n)) = v
number_in None = 0

abbrev pub bytes_in : Option (ℕ × ℕ) → ℕ
bytes_in (Some (v, n)) = n
bytes_in None = 0

-- how many bytes a payload of wire type w has, by the varint in front of it; 0 where it is malformed
abbrev pub payload_size : ℕ → Option (ℕ × ℕ) → ℕ
payload_size w v = pick (eqb w 0) (bytes_in v) (pick (eqb w 1) 8 (pick (eqb w 2) (bytes_in v + number_in v) (pick (eqb w 5) 4 0)))

-- the field that stands first: its number and its wire type, by its tag
abbrev pub field_number : List ℕ → ℕ
field_number s = number_in (varint_of s) / 8

abbrev pub wire_type : List ℕ → ℕ
wire_type s = number_in (varint_of s) % 8

-- what follows its tag, and the varint that its payload may begin with
abbrev pub behind_tag : List ℕ → List ℕ
behind_tag s = drop (bytes_in (varint_of s)) s

abbrev pub begins : List ℕ → Option (ℕ × ℕ)
begins s = varint_of (behind_tag s)

-- the size of its payload, and its own
abbrev pub payload_bytes : List ℕ → ℕ
payload_bytes s = payload_size (wire_type s) (begins s)

abbrev pub field_size : List ℕ → ℕ
field_size s = bytes_in (varint_of s) + payload_bytes s

-- it is well formed: a number from 1 to 536,870,911, and a payload that ends in the message
abbrev pub well_formed : List ℕ → Bool
well_formed s =
    both (both (leb 1 (field_number s)) (leb (field_number s) 536_870_911))
    (both (leb 1 (payload_bytes s)) (leb (payload_bytes s) (length (behind_tag s))))

-- what a field says (section 3)
pub data Said : Type 0 where
  typed : ℕ → Said
  address : List ℕ → Said
  skipped : Said
  malformed : Said

-- field 1 of wire type 0 is the type, field 2 of wire type 2 an address; v begins the payload, which is the front of s
abbrev pub said_by : ℕ → ℕ → Option (ℕ × ℕ) → List ℕ → Said
said_by n w v s =
    pick (both (eqb n 1) (eqb w 0)) (typed (number_in v))
    (pick (both (eqb n 2) (eqb w 2)) (address (take (number_in v) (drop (bytes_in v) s))) skipped)

abbrev pub said : List ℕ → Said
said s = said_by (field_number s) (wire_type s) (begins s) (behind_tag s)

-- field by field from the front, at most n of them; nothing is read behind a malformed one
unfoldable pub fields : ℕ → List ℕ → List Said
fields zero s = []
fields (suc n) [] = []
fields (suc n) (b ∷ s) =
    pick (well_formed (b ∷ s)) (said (b ∷ s) ∷ fields n (drop (field_size (b ∷ s)) (b ∷ s))) (malformed ∷ [])

-- there are never more fields than bytes
abbrev pub fields_of : List ℕ → List Said
fields_of m = fields (length m) m

-- ---- a table of numbers: the first that fits is the answer

abbrev pub fits : Bool → ℕ → ℕ
fits case number = pick case number 0

-- 0 where none fits
unfoldable pub first : List ℕ → ℕ
first [] = 0
first (n ∷ ns) = pick (eqb n 0) (first ns) n

-- ---- read (section 3)

abbrev pub fault : Said → ℕ
fault (typed v) = pick (either (eqb v 100) (eqb v 300)) 0 10
fault (address a) = 0
fault skipped = 0
fault malformed = 8

unfoldable pub faults : List Said → List ℕ
faults [] = []
faults (x ∷ xs) = fault x ∷ faults xs

unfoldable pub types : List Said → List ℕ
types [] = []
types (typed v ∷ xs) = v ∷ types xs
types (address a ∷ xs) = types xs
types (skipped ∷ xs) = types xs
types (malformed ∷ xs) = types xs

unfoldable pub addresses : List Said → List (List ℕ)
addresses [] = []
addresses (typed v ∷ xs) = addresses xs
addresses (address a ∷ xs) = a ∷ addresses xs
addresses (skipped ∷ xs) = addresses xs
addresses (malformed ∷ xs) = addresses xs

-- the list of the addresses
abbrev pub address_list : List ℕ → List ℕ
address_list m = listed (addresses (fields_of m))

-- longer than 4,096 bytes, a fault, no type, a list longer than the output
abbrev pub read_table : List ℕ → ℕ → List ℕ
read_table m room =
    fits (ltb 4096 (length m)) 6
    ∷ first (faults (fields_of m))
    ∷ fits (eqb (length (types (fields_of m))) 0) 9
    ∷ fits (ltb room (length (address_list m))) 7
    ∷ []

unfoldable pub read_number : List ℕ → ℕ → ℕ
read_number m room = first (read_table m room)

-- the number that was met last, where k was met before
unfoldable pub last_of : ℕ → List ℕ → ℕ
last_of k [] = k
last_of k (v ∷ vs) = last_of v vs

-- an answer by numbers: a refusal's number; or 0, the type and the size
abbrev pub read_values : Result (Kind × ℕ) Refusal → List ℕ
read_values (Ok (Connect, n)) = 0 ∷ 100 ∷ n ∷ []
read_values (Ok (Sync, n)) = 0 ∷ 300 ∷ n ∷ []
read_values (Err why) = number_of why ∷ []

abbrev pub read_by : List ℕ → ℕ → List ℕ
read_by m room =
    pick (eqb (read_number m room) 0) (0 ∷ last_of 0 (types (fields_of m)) ∷ length (address_list m) ∷ []) (read_number m room ∷ [])

-- ---- written (section 3)

-- how many bytes a number below 2,097,152 has as a varint
abbrev pub varint_size : ℕ → ℕ
varint_size n = pick (ltb n 128) 1 (pick (ltb n 16_384) 2 3)

-- 12, the length and the bytes of each address
unfoldable pub address_bytes : List (List ℕ) → ℕ
address_bytes [] = 0
address_bytes (a ∷ xs) = 1 + varint_size (length a) + length a + address_bytes xs

-- 08 64 or 08 ac 02, and the addresses of a list
abbrev pub message_size : Kind → List ℕ → ℕ
message_size Connect s = 2 + address_bytes (entries s)
message_size Sync s = 3 + address_bytes (entries s)

-- the message behind its length (section 4)
abbrev pub frame_size : Kind → List ℕ → ℕ
frame_size k s = varint_size (message_size k s) + message_size k s

-- a broken list, a message longer than 4,096 bytes, bytes in all that are more than the output has
abbrev pub write_table : List ℕ → ℕ → ℕ → ℕ → List ℕ
write_table s message whole room = fits (broken s) 5 ∷ fits (ltb 4096 message) 6 ∷ fits (ltb room whole) 7 ∷ []

unfoldable pub write_number : List ℕ → ℕ → ℕ → ℕ → ℕ
write_number s message whole room = first (write_table s message whole room)

abbrev pub write_values : Result ℕ Refusal → List ℕ
write_values (Ok n) = 0 ∷ n ∷ []
write_values (Err why) = number_of why ∷ []

abbrev pub written_by : List ℕ → ℕ → ℕ → ℕ → List ℕ
written_by s message whole room = pick (eqb (write_number s message whole room) 0) (0 ∷ whole ∷ []) (write_number s message whole room ∷ [])
