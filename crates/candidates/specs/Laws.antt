-- What the candidates keep to (RULES.md, section 7).
use Rattle.std.specs.Prelude.{◌≡◌, Bool, true, false, List, [], ◌∷◌, ◌++◌, ◌⊎◌, ℕ, ◌<◌, ◌≤◌, leb, length, take, Some}
use Rattle.prelude.specs.Lists.{count}
use Rattle.wire.specs.Lists.{entries, broken, listed}
use Rattle.address.specs.Multiaddr.{parsed, longest4, longest6}
use Rattle.address.specs.declared.Ip.{Ip}
use Rattle.candidates.specs.Entries.{of_address, in_family, has_ip, longer_than}
use Rattle.candidates.specs.Selection.{usual, longest_of, most_bytes}
use Rattle.candidates.specs.declared.Limits.{Limits}
use Rattle.candidates.specs.Selection.{Chosen}

-- every entry passes the test
abbrev pub AllPass : (List ℕ → Bool) → List (List ℕ) → Type 0
AllPass p xs = count p xs ≡ length xs

-- the first list is the second with some entries left out
pub data Sublist : List (List ℕ) → List (List ℕ) → Type 0 where
  nil : Sublist [] []
  skip : {a : List ℕ} {xs ys : List (List ℕ)} → Sublist xs ys → Sublist xs (a ∷ ys)
  keep : {a : List ℕ} {xs ys : List (List ℕ)} → Sublist xs ys → Sublist (a ∷ xs) (a ∷ ys)

-- of a list xs these are kept under limits
pub record KeepsLimits (l : Limits) (xs kept : List (List ℕ)) : Type 0 where
  pub total : length kept ≤ l.total
  pub family : (ip : Ip) → count (in_family ip) kept ≤ l.family
  pub ip : (i : Ip) → count (has_ip i) kept ≤ l.ip
  pub port : AllPass (of_address (λ i p. leb l.port p)) kept
  pub order : Sublist kept xs

-- those kept meet a limit for an address of this IP and port
abbrev pub LimitMet : Limits → List (List ℕ) → Ip → ℕ → Type 0
LimitMet l kept ip port =
    (port < l.port) ⊎ ((l.total ≤ length kept) ⊎ ((l.family ≤ count (in_family ip) kept) ⊎ (l.ip ≤ count (has_ip ip) kept)))

-- a wanted address stands right behind what is kept of those before it, or those meet a limit
abbrev pub DropsOnlyAtLimits : Limits → (List (List ℕ) → List (List ℕ)) → (List (List ℕ) → List ℕ → Bool) → Type 0
DropsOnlyAtLimits l keeps wanted =
    (before after : List (List ℕ)) (a : List ℕ) (ip : Ip) (port : ℕ) → parsed a ≡ Some (ip, port) → wanted before a ≡ true
    → ((rest : List (List ℕ)) × (keeps (before ++ (a ∷ after)) ≡ keeps before ++ (a ∷ rest))) ⊎ LimitMet l (keeps before) ip port

-- each is no longer than its family's longest; so no more of them than a family's limit are longer than an IPv4 address, and none is
-- longer than an IPv6 one
pub record Short (l : Limits) (kept : List (List ℕ)) : Type 0 where
  pub each : AllPass (λ a. of_address (λ ip port. leb (length a) (longest_of ip)) a) kept
  pub v4 : count (longer_than longest4) kept ≤ l.family
  pub v6 : count (longer_than longest6) kept ≡ 0
  pub all : length (listed kept) ≤ most_bytes l

pub record IsListOf (kept : List (List ℕ)) (c : Chosen) : Type 0 where
  pub whole : broken (take c.len c.bytes) ≡ false
  pub read : entries (take c.len c.bytes) ≡ kept

-- the numbers of section 7
pub record UsualNumbers : Type 0 where
  pub total : usual.total ≡ 8
  pub family : usual.family ≡ 4
  pub ip : usual.ip ≡ 2
  pub port : usual.port ≡ 1024
  pub v4 : longest4 ≡ 141
  pub v6 : longest6 ≡ 153
  pub bytes : most_bytes usual ≡ 1192
