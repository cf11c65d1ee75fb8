-- The entries of an address list, and how many of them have a property (RULES.md, section 7).
use Rattle.std.specs.Prelude.{ℕ, Bool, true, false, List, [], ◌∷◌, eqb, ltb, length, None, Option, Some}
use Rattle.prelude.specs.Choice.{both, either}
use Rattle.address.specs.Multiaddr.{parsed}
use Rattle.address.specs.declared.Ip.{Ip}
use Rattle.address.specs.declared.Ip.TheVariants.{V4, V6}

unfoldable pub same_bytes : List ℕ → List ℕ → Bool
same_bytes [] [] = true
same_bytes [] (y ∷ ys) = false
same_bytes (x ∷ xs) [] = false
same_bytes (x ∷ xs) (y ∷ ys) = both (eqb x y) (same_bytes xs ys)

unfoldable pub contains : List ℕ → List (List ℕ) → Bool
contains a [] = false
contains a (b ∷ bs) = either (same_bytes a b) (contains a bs)

-- a mapped address is of the IPv6 family
abbrev pub same_family : Ip → Ip → Bool
same_family (V4 a) (V4 b) = true
same_family (V4 a) (V6 h l) = false
same_family (V6 h l) (V4 b) = false
same_family (V6 h l) (V6 g k) = true

abbrev pub same_ip : Ip → Ip → Bool
same_ip (V4 a) (V4 b) = eqb a b
same_ip (V4 a) (V6 h l) = false
same_ip (V6 h l) (V4 b) = false
same_ip (V6 h l) (V6 g k) = both (eqb h g) (eqb l k)

-- what a test says of the IP and the port of an entry; one that is no address does not pass
abbrev pub of_parsed : Option (Ip × ℕ) → (Ip → ℕ → Bool) → Bool
of_parsed (Some (ip, port)) f = f ip port
of_parsed None f = false

abbrev pub of_address : (Ip → ℕ → Bool) → List ℕ → Bool
of_address f a = of_parsed (parsed a) f

abbrev pub is_address : List ℕ → Bool
is_address = of_address (λ ip port. true)

abbrev pub in_family : Ip → List ℕ → Bool
in_family ip = of_address (λ other port. same_family ip other)

abbrev pub has_ip : Ip → List ℕ → Bool
has_ip ip = of_address (λ other port. same_ip ip other)

abbrev pub longer_than : ℕ → List ℕ → Bool
longer_than n a = ltb n (length a)
