-- Address lists (RULES.md, section 5).
use Rattle.std.specs.Prelude.{ℕ, zero, suc, Option, Some, None, ◌+◌, ◌*◌, ◌-◌, ◌/◌, ◌%◌, Bool, true, false, List, [], ◌∷◌, ◌++◌, eqb, leb, length, get_or, take, drop}
use Rattle.prelude.specs.Choice.{pick, both}

-- the length that stands in front: two bytes, the higher first
abbrev pub size_at : List ℕ → ℕ
size_at s = get_or s 0 0 * 256 + get_or s 1 0

-- a length stands in front, and as many bytes follow it
abbrev pub opens : List ℕ → Bool
opens s = both (leb 2 (length s)) (leb (size_at s) (length s - 2))

-- goes along a list from its front, over at most k entries: what the end gives, what a break gives, and what an address
-- before the rest gives
unfoldable pub along : {A : Type 0} → A → A → (List ℕ → A → A) → ℕ → List ℕ → A
along end break more zero s = end
along end break more (suc k) s =
    pick (eqb (length s) 0) end
    (pick (opens s) (more (take (size_at s) (drop 2 s)) (along end break more k (drop (2 + size_at s) s))) break)

-- the addresses of a list, in order, up to its end or break; there are never more entries than bytes
abbrev pub entries : List ℕ → List (List ℕ)
entries s = along [] [] (λ a xs. a ∷ xs) (length s) s

-- the list stops in the middle of a length or of an address
abbrev pub broken : List ℕ → Bool
broken s = along false true (λ a b. b) (length s) s

-- an address behind its length, which is below 65,536
abbrev pub entry : List ℕ → List ℕ
entry a = (length a / 256 % 256) ∷ (length a % 256) ∷ a

-- the list of some addresses
unfoldable pub listed : List (List ℕ) → List ℕ
listed [] = []
listed (a ∷ xs) = entry a ++ listed xs

-- the address that stands first in a list, and what follows it; nothing at the end or a break
abbrev pub first_entry : List ℕ → Option (List ℕ × List ℕ)
first_entry s = pick (opens s) (Some (take (size_at s) (drop 2 s), drop (2 + size_at s) s)) None
