-- The ranges in words: which addresses may be targets (RULES.md, section 6).
use Rattle.std.specs.Prelude.{ℕ, ◌+◌, ◌*◌, ◌/◌, ◌%◌, ◌^◌, ◌<◌, Bool, eqb, leb}
use Rattle.prelude.specs.Choice.{pick, both, either, no}
use Rattle.address.specs.declared.Ip.{Ip}
use Rattle.address.specs.declared.Ip.TheVariants.{V4, V6}

-- l to u, both included
abbrev pub within : ℕ → ℕ → ℕ → Bool
within l u x = both (leb l x) (leb x u)

-- private targets off: refused, by the four bytes of an IPv4 address
abbrev pub refused4 : ℕ → ℕ → ℕ → ℕ → Bool
refused4 a b c d =
    either (eqb a 0)
    (either (eqb a 10)
    (either (both (eqb a 172) (within 16 31 b))
    (either (both (eqb a 192) (eqb b 168))
    (either (both (eqb a 100) (within 64 127 b))
    (either (eqb a 127)
    (either (both (eqb a 169) (eqb b 254))
    (either (both (both (both (eqb a 192) (eqb b 0)) (eqb c 0)) (no (either (eqb d 9) (eqb d 10))))
    (either (both (both (eqb a 192) (eqb b 0)) (eqb c 2))
    (either (both (both (eqb a 198) (eqb b 51)) (eqb c 100))
    (either (both (both (eqb a 203) (eqb b 0)) (eqb c 113))
    (either (both (eqb a 198) (within 18 19 b)) (leb 224 a))))))))))))

unfoldable pub global_unicast4 : ℕ → Bool
global_unicast4 n = no (refused4 (n / 2 ^ 24) (n / 2 ^ 16 % 2 ^ 8) (n / 2 ^ 8 % 2 ^ 8) (n % 2 ^ 8))

-- private targets on: refused are 0.0.0.0, multicast and 255.255.255.255
unfoldable pub unicast4 : ℕ → Bool
unicast4 n = no (either (eqb n 0) (either (within 224 239 (n / 2 ^ 24)) (eqb n 0xffff_ffff)))

-- private targets off: passing, by an IPv6 address and its first three groups of 16 bits
abbrev pub passes6 : ℕ → ℕ → ℕ → ℕ → Bool
passes6 n s t u =
    both (within 0x2000 0x3fff s)
    (both (no (eqb s 0x2002))
    (both (no (both (eqb s 0x2001) (eqb t 0xdb8)))
    (both (no (both (eqb s 0x3fff) (within 0 0xfff t)))
    (either (no (both (eqb s 0x2001) (within 0 0x1ff t)))
    (either (eqb n 0x2001_0001_0000_0000_0000_0000_0000_0001)
    (either (eqb n 0x2001_0001_0000_0000_0000_0000_0000_0002)
    (either (both (eqb s 0x2001) (eqb t 0x3))
    (either (both (both (eqb s 0x2001) (eqb t 0x4)) (eqb u 0x112))
    (either (both (eqb s 0x2001) (within 0x20 0x2f t)) (both (eqb s 0x2001) (within 0x30 0x3f t)))))))))))

unfoldable pub global_unicast6 : ℕ → Bool
global_unicast6 n = passes6 n (n / 2 ^ 112) (n / 2 ^ 96 % 2 ^ 16) (n / 2 ^ 80 % 2 ^ 16)

-- private targets on: refused are :: and multicast
unfoldable pub unicast6 : ℕ → Bool
unicast6 n = no (either (eqb n 0) (leb 0xff (n / 2 ^ 120)))

-- ::ffff:0:0/96
abbrev pub is_mapped : ℕ → ℕ → Bool
is_mapped h l = both (eqb h 0) (eqb (l / 2 ^ 32) 0xffff)

-- the address that is judged: of a mapped one, with private targets on, the IPv4 address that it carries
abbrev pub judged_as : Bool → Ip → Ip
judged_as private (V4 n) = V4 n
judged_as private (V6 h l) = pick (both private (is_mapped h l)) (V4 (l % 2 ^ 32)) (V6 h l)

-- whether an address may be a target, private targets off or on
abbrev pub passes : Bool → Ip → Bool
passes private (V4 n) = pick private (unicast4 n) (global_unicast4 n)
passes private (V6 h l) = pick private (unicast6 (h * 2 ^ 64 + l)) (global_unicast6 (h * 2 ^ 64 + l))

unfoldable pub may_be_target : Bool → Ip → Bool
may_be_target private ip = passes private (judged_as private ip)

-- the numbers of an address are of 32 bits, or of 64 bits each
abbrev pub InBits : Ip → Type 0
InBits (V4 n) = n < 2 ^ 32
InBits (V6 h l) = (h < 2 ^ 64) × (l < 2 ^ 64)
