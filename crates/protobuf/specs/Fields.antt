-- The fields of a HolePunch message (RULES.md, section 2).
use Rattle.std.specs.Prelude.{ℕ, ◌+◌, ◌/◌, ◌%◌, List, length, drop, ltb, leb, eqb, None, Option, Some}
use Rattle.prelude.specs.Choice.{pick}
use Rattle.wire.specs.Varint.{varint_of}
use Rattle.protobuf.specs.declared.Field.{Field}
use Rattle.protobuf.specs.declared.Field.TheVariants as f

-- the largest field number, 2^29 - 1
abbrev pub max_field : ℕ
max_field = 536_870_911

-- field n, behind a tag of t bytes. Wire type 0: a varint, the type where n is 1
abbrev pub varint_field : ℕ → ℕ → Option (ℕ × ℕ) → Option Field
varint_field n t (Some (v, k)) = Some (pick (eqb n 1) (f.Typed v (t + k)) (f.Other (t + k)))
varint_field n t None = None

-- wire types 1 and 5: k bytes
abbrev pub fixed_field : ℕ → ℕ → List ℕ → Option Field
fixed_field k t s = pick (leb k (length s)) (Some (f.Other (t + k))) None

-- wire type 2: a length and so many bytes, an address where n is 2
abbrev pub bytes_field : ℕ → ℕ → List ℕ → Option (ℕ × ℕ) → Option Field
bytes_field n t s (Some (v, k)) = pick (leb (k + v) (length s)) (Some (pick (eqb n 2) (f.Address (t + k) v) (f.Other (t + k + v)))) None
bytes_field n t s None = None

-- field n of wire type w; types 3, 4, 6 and 7 are malformed
abbrev pub payload_of : ℕ → ℕ → ℕ → List ℕ → Option Field
payload_of n w t s =
    pick (eqb w 0) (varint_field n t (varint_of s))
    (pick (eqb w 1) (fixed_field 8 t s)
    (pick (eqb w 2) (bytes_field n t s (varint_of s)) (pick (eqb w 5) (fixed_field 4 t s) None)))

-- a tag is a field number, 1 to max_field, times 8 and a wire type
abbrev pub tagged : List ℕ → Option (ℕ × ℕ) → Option Field
tagged s (Some (v, t)) = pick (eqb (v / 8) 0) None (pick (ltb max_field (v / 8)) None (payload_of (v / 8) (v % 8) t (drop t s)))
tagged s None = None

-- the field that stands first, with its size, and of an address where its bytes stand; none where it is malformed
unfoldable pub field_of : List ℕ → Option Field
field_of s = tagged s (varint_of s)
