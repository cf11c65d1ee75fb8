-- Numbers as eight bytes, the first byte first: the live connections of an abort, and the lists that it answers (RULES.md, section 10.4).
use Rattle.std.specs.Prelude.{ℕ, zero, suc, ◌+◌, ◌*◌, ◌/◌, ◌%◌, ◌^◌, min, List, [], ◌∷◌, ◌++◌, map, length, take, drop, get_or}
use Rattle.rows.specs.Rows.{capacity}
use Rattle.ids.specs.declared.NatToken.{NatToken}
use Rattle.ids.specs.declared.ConnectionId.{ConnectionId}
use Rattle.dials.specs.declared.Column.{Column}
use Rattle.dials.specs.Dials.{each}
use Rattle.live_dials.specs.declared.Live.{Live}

-- what stands at the places up to one, one behind the other
unfoldable pub up_to : {A : Type 0} → (ℕ → List A) → ℕ → List A
up_to f zero = []
up_to f (suc n) = up_to f n ++ f n

-- ---- read

-- the number that four bytes from a place on are, and that eight are
unfoldable pub half : List ℕ → ℕ → ℕ
half s at = ((get_or s at 0 * 256 + get_or s (at + 1) 0) * 256 + get_or s (at + 2) 0) * 256 + get_or s (at + 3) 0

abbrev pub number : List ℕ → ℕ → ℕ
number s at = half s at * 2 ^ 32 + half s (at + 4)

-- a record is a peer and a connection of it
abbrev pub live_at : List ℕ → ℕ → Live
live_at s at = record { peer = record { 0 = number s at }; connection = record { 0 = number s (at + 8) } }

-- a line's bytes are no more than 1,024 records; those behind the last whole one play no part
abbrev pub records : List ℕ → ℕ
records s = min (length s / 16) 1024

unfoldable pub lives_in : List ℕ → List Live
lives_in s = up_to (λ k. live_at s (16 * k) ∷ []) (records s)

-- room for as many once they stand over its start
unfoldable pub lives_over : List Live → List ℕ → List Live
lives_over room s = lives_in s ++ drop (records s) room

-- ---- written

unfoldable pub octets : ℕ → List ℕ
octets v =
    (v / 2 ^ 56) ∷ (v / 2 ^ 48 % 256) ∷ (v / 2 ^ 40 % 256) ∷ (v / 2 ^ 32 % 256) ∷ (v / 2 ^ 24 % 256) ∷ (v / 2 ^ 16 % 256) ∷ (v / 256 % 256) ∷ (v % 256) ∷ []

abbrev pub numbers_bytes : List ℕ → List ℕ
numbers_bytes = each octets

-- those in use, each by its number
abbrev pub used_numbers : {A : Type 0} → (A → ℕ) → Column A → List ℕ
used_numbers number column = take (min column.count capacity) (map number column.values)

unfoldable pub tokens_bytes : Column NatToken → List ℕ
tokens_bytes column = numbers_bytes (used_numbers (λ (t : NatToken). t.0) column)

unfoldable pub connections_bytes : Column ConnectionId → List ℕ
connections_bytes column = numbers_bytes (used_numbers (λ (c : ConnectionId). c.0) column)
