-- The frames that go out (RULES.md, sections 3 and 4).
use Rattle.std.specs.Prelude.{ℕ, ◌+◌, ◌*◌, List, [], ◌∷◌, ◌++◌, length, take, replicate, leb}
use Rattle.prelude.specs.Choice.{pick}
use Rattle.wire.specs.Lists.{entries, broken, listed}
use Rattle.message.specs.Encoding.{frame_bytes}
use Rattle.message.specs.declared.Kind.TheVariants.{Connect, Sync}
use Rattle.candidates.specs.Selection.{Chosen}
use Rattle.address.specs.Multiaddr.{longest4, longest6}
use Rattle.candidates.specs.declared.Limits.{Limits}
use Rattle.candidates.specs.Selection.{usual, held, own}
use Rattle.wire.specs.declared.Packed.{Packed}
use Rattle.wire.specs.Packed as wire

-- two bytes of length and the type's field; and a field with its tag and a length of two bytes at most before the address
abbrev pub head_size : ℕ
head_size = 4

abbrev pub field_size : ℕ → ℕ
field_size n = 3 + n

-- the most bytes of a frame that goes out: CONNECT with the usual limit of each family's longest addresses
abbrev pub frame_capacity : ℕ
frame_capacity = head_size + (usual.family * field_size longest4 + usual.family * field_size longest6)

-- a frame in that room, zero bytes behind it
abbrev pub Framed : Type 0
Framed = Packed frame_capacity

abbrev pub packed : List ℕ → Framed
packed s = wire.packed frame_capacity s

-- a frame's bytes where it has room, else nothing
abbrev pub fitted : List ℕ → Framed
fitted f = pick (leb (length f) frame_capacity) (packed f) (packed [])

-- the framed CONNECT with the addresses of a list; nothing for a broken list
unfoldable pub connect_frame : List ℕ → Framed
connect_frame s = pick (broken s) (packed []) (fitted (frame_bytes Connect (entries s)))

-- the framed SYNC, which has no address
unfoldable pub sync_frame : Framed
sync_frame = packed (frame_bytes Sync [])

-- the framed CONNECT of chosen candidates
unfoldable pub chosen_connect : Chosen → Framed
chosen_connect c = connect_frame (take c.len c.bytes)

-- the framed CONNECT with the candidates of an own list (section 7); nothing for a broken list
unfoldable pub own_connect : Limits → List ℕ → Framed
own_connect l list = pick (broken list) (packed []) (fitted (frame_bytes Connect (own (held l) (entries list))))

-- the longest own list: four addresses of each family, each with a name of 127 bytes
abbrev pub with_name : List ℕ → List ℕ
with_name a = a ++ (0xa5 ∷ 0x03 ∷ 127 ∷ replicate 127 0x5a)

abbrev pub own4 : ℕ → List ℕ
own4 host = with_name (0x04 ∷ 198 ∷ 51 ∷ 100 ∷ host ∷ 0x91 ∷ 0x02 ∷ 0x10 ∷ 0xe1 ∷ 0xcd ∷ 0x03 ∷ [])

abbrev pub own6 : ℕ → List ℕ
own6 host = with_name (0x29 ∷ 0x20 ∷ 0x01 ∷ 0x0d ∷ 0xb8 ∷ (replicate 11 0 ++ (host ∷ 0x91 ∷ 0x02 ∷ 0x10 ∷ 0xe1 ∷ 0xcd ∷ 0x03 ∷ [])))

unfoldable pub longest_own : List ℕ
longest_own = listed (own4 1 ∷ own4 2 ∷ own4 3 ∷ own4 4 ∷ own6 1 ∷ own6 2 ∷ own6 3 ∷ own6 4 ∷ [])
