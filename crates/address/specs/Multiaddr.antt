-- An address as the bytes of a multiaddr (RULES.md, section 6).
use Rattle.std.specs.Prelude.{ℕ, ◌+◌, ◌*◌, ◌-◌, Bool, true, List, [], ◌∷◌, eqb, leb, length, get_or, take, drop, None, Option, Some}
use Rattle.prelude.specs.Choice.{pick, both}
use Rattle.address.specs.declared.Ip.TheVariants.{V4, V6}
use Rattle.address.specs.declared.Ip.{Ip}

-- the number whose digits to the base 256 follow those of n, the first byte first
unfoldable pub big_endian : ℕ → List ℕ → ℕ
big_endian n [] = n
big_endian n (b ∷ bs) = big_endian (n * 256 + b) bs

-- the number that the bytes from a up to e stand for
abbrev pub number : ℕ → ℕ → List ℕ → ℕ
number a e s = big_endian 0 (take (e - a) (drop a s))

-- the bytes beside the IP: the family's code, udp with a port of two bytes, and quic-v1
abbrev pub beside : ℕ
beside = 7

-- a peer name: p2p and a length byte before it, and the most bytes that it has
abbrev pub name_head : ℕ
name_head = 3

abbrev pub longest_name : ℕ
longest_name = 127

-- the most bytes of an address of each family
abbrev pub longest4 : ℕ
longest4 = 4 + beside + name_head + longest_name

abbrev pub longest6 : ℕ
longest6 = 16 + beside + name_head + longest_name

-- p2p, a length byte of 1 to 127, as many bytes, and nothing more
unfoldable pub is_name : List ℕ → Bool
is_name s =
    both (eqb (get_or s 0 0) 0xa5)
    (both (eqb (get_or s 1 0) 0x03)
    (both (leb 1 (get_or s 2 0)) (both (leb (get_or s 2 0) longest_name) (eqb (length s) (name_head + get_or s 2 0)))))

-- what stands behind quic-v1: nothing, or a peer name
unfoldable pub ends_well : List ℕ → Bool
ends_well [] = true
ends_well (b ∷ s) = is_name (b ∷ s)

-- a family's code, n bytes of IP, udp with a port of two bytes, quic-v1, and a peer name or nothing
unfoldable pub has_form : ℕ → ℕ → List ℕ → Bool
has_form family n s =
    both (leb (n + beside) (length s))
    (both (eqb (get_or s 0 0) family)
    (both (eqb (get_or s (n + 1) 0) 0x91)
    (both (eqb (get_or s (n + 2) 0) 0x02)
    (both (eqb (get_or s (n + 5) 0) 0xcd) (both (eqb (get_or s (n + 6) 0) 0x03) (ends_well (drop (n + beside) s)))))))

-- ip4 is 04, ip6 is 29
unfoldable pub parsed : List ℕ → Option (Ip × ℕ)
parsed s =
    pick (has_form 0x04 4 s) (Some (V4 (number 1 5 s), number 7 9 s))
    (pick (has_form 0x29 16 s) (Some (V6 (number 1 9 s) (number 9 17 s), number 19 21 s)) None)
