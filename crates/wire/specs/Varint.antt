-- Base 128 varints (RULES.md, section 2).
use Rattle.std.specs.Prelude.{ℕ, zero, suc, ◌+◌, ◌*◌, ◌/◌, ◌%◌, List, [], ◌∷◌, get_or, take, ltb, leb, eqb, None, Option, Some}
use Rattle.prelude.specs.Choice.{pick}

-- the number that bytes stand for: seven bits of each, the least significant group first
unfoldable pub value_of : List ℕ → ℕ
value_of [] = 0
value_of (b ∷ bs) = value_of bs * 128 + b % 128

-- a length behind one more byte; 0 stands for none
abbrev pub behind : ℕ → ℕ
behind zero = 0
behind (suc n) = suc (suc n)

-- how many bytes the varint has that stands first, if that is at most n: the first byte below 128 ends it
unfoldable pub span_of : ℕ → List ℕ → ℕ
span_of zero s = 0
span_of (suc n) [] = 0
span_of (suc n) (b ∷ bs) = pick (ltb b 128) 1 (behind (span_of n bs))

-- the same as an option, of at most ten bytes
abbrev pub span_at : List ℕ → Option ℕ
span_at s = pick (eqb (span_of 10 s) 0) None (Some (span_of 10 s))

-- the varint of the first n bytes: at most ten, the tenth at most 1
abbrev pub valued : ℕ → List ℕ → Option (ℕ × ℕ)
valued n s =
    pick (eqb n 0) None
    (pick (ltb n 10) (Some (value_of (take n s), n)) (pick (leb (get_or s 9 0) 1) (Some (value_of (take n s), n)) None))

-- the varint that stands first: its value and its length
unfoldable pub varint_of : List ℕ → Option (ℕ × ℕ)
varint_of s = valued (span_of 10 s) s

-- a number's groups, in at most n + 1 bytes
unfoldable pub groups : ℕ → ℕ → List ℕ
groups zero v = v ∷ []
groups (suc n) v = pick (ltb v 128) (v ∷ []) ((128 + v % 128) ∷ groups n (v / 128))

-- the shortest form of a number of 64 bits
abbrev pub encoded : ℕ → List ℕ
encoded v = groups 9 v
