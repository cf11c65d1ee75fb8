-- Which addresses are kept (RULES.md, section 7).
use Rattle.std.specs.Prelude.{ℕ, ◌+◌, ◌*◌, Bool, leb, ltb, length, Result, Err, Ok}
use mathlib.Core.List.{List, [], ◌∷◌, ◌++◌, foldl}
use Rattle.prelude.specs.Lists.{padded, count, such}
use Rattle.prelude.specs.Choice.{pick, both}
use Rattle.refusal.specs.declared.Refusal.{Refusal}
use Rattle.refusal.specs.declared.Refusal.TheVariants.{BrokenList}
use Rattle.wire.specs.Lists.{broken, listed}
use Rattle.address.specs.Multiaddr.{longest4, longest6}
use Rattle.address.specs.Words.{may_be_target}
use Rattle.address.specs.declared.Ip.{Ip}
use Rattle.address.specs.declared.Ip.TheVariants.{V4, V6}
use Rattle.candidates.specs.Entries.{contains, of_address, is_address, in_family, has_ip}
use Rattle.candidates.specs.declared.Limits.{Limits}
use Rattle.candidates.specs.declared.Terms.{Terms}
use Rattle.candidates.specs.declared.Counts.{Counts}
use Rattle.wire.specs.declared.Packed.{Packed}
use Rattle.wire.specs.Packed as wire

abbrev pub usual : Limits
usual = record { total = 8; family = 4; ip = 2; port = 1024 }

abbrev pub usually : Bool → Terms
usually private = record { limits = usual; private = private }

-- the most addresses that an answer has room for; a total over it counts as it
abbrev pub most : ℕ
most = usual.total

abbrev pub held : Limits → Limits
held l = record { total = pick (leb l.total most) l.total most; family = l.family; ip = l.ip; port = l.port }

abbrev pub held_terms : Terms → Terms
held_terms t = record { limits = held t.limits; private = t.private }

abbrev pub counted : Ip → List (List ℕ) → Counts
counted ip xs = record { total = length xs; family = count (in_family ip) xs; ip = count (has_ip ip) xs }

-- a high enough port, and no limit met
abbrev pub room_for : Limits → Counts → ℕ → Bool
room_for l n port =
    both (leb l.port port)
    (both (ltb n.total l.total) (both (ltb n.family l.family) (ltb n.ip l.ip)))

unfoldable pub room : Limits → List (List ℕ) → List ℕ → Bool
room l xs a = of_address (λ ip port. room_for l (counted ip xs) port) a

-- each address in turn is kept behind the others if there is room
abbrev pub keep : Limits → List (List ℕ) → List ℕ → List (List ℕ)
keep l xs a = pick (room l xs a) (xs ++ (a ∷ [])) xs

unfoldable pub bounded : Limits → List (List ℕ) → List (List ℕ)
bounded l xs = foldl (keep l) [] xs

-- the peer's: those that may be targets, then bounded
abbrev pub punchable : Bool → List ℕ → Bool
punchable private = of_address (λ ip port. may_be_target private ip)

unfoldable pub selected : Terms → List (List ℕ) → List (List ℕ)
selected t xs = bounded t.limits (such (punchable t.private) xs)

-- one's own: each form once, its first, then bounded
abbrev pub unless_there : List (List ℕ) → List ℕ → List (List ℕ)
unless_there xs a = pick (contains a xs) xs (xs ++ (a ∷ []))

unfoldable pub once : List (List ℕ) → List (List ℕ)
once xs = foldl unless_there [] xs

unfoldable pub own : Limits → List (List ℕ) → List (List ℕ)
own l xs = bounded l (once (such is_address xs))

-- an address stands in a list behind its length of two bytes (section 5)
abbrev pub entry_size : ℕ → ℕ
entry_size n = 2 + n

-- the most bytes of an address with an IP
abbrev pub longest_of : Ip → ℕ
longest_of (V4 a) = longest4
longest_of (V6 h l) = longest6

-- the most bytes of an address, and room for a list of as many of them
abbrev pub longest : ℕ
longest = longest6

abbrev pub capacity : ℕ
capacity = most * entry_size longest

-- the most bytes of a list under limits: each family has as many as its limit, all of them its longest
abbrev pub most_bytes : Limits → ℕ
most_bytes l = entry_size longest4 * l.family + entry_size longest6 * l.family

-- a list of addresses in that room, zero bytes behind it
abbrev pub Chosen : Type 0
Chosen = Packed capacity

abbrev pub packed : List ℕ → Chosen
packed s = wire.packed capacity s

-- the answer for a list s of which xs are kept
unfoldable pub answered : List ℕ → List (List ℕ) → Result Chosen Refusal
answered s xs = pick (broken s) (Err BrokenList) (Ok (packed (listed xs)))
