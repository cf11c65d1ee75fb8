-- Which bytes are a varint, and of which number (RULES.md, section 2).
use Rattle.std.specs.Prelude.{◌≡◌, List, [], ◌∷◌, ℕ, ◌+◌, ◌*◌, ◌%◌, ◌<◌, ◌≤◌, length, get_or}

-- a byte of 128 or more has another behind it; the first below 128 is the last
pub data Ends : List ℕ → Type 0 where
  last : {b : ℕ} → b < 128 → Ends (b ∷ [])
  more : {b : ℕ} {bs : List ℕ} → 128 ≤ b → Ends bs → Ends (b ∷ bs)

-- at most ten bytes, and the tenth is 0 or 1
pub record IsVarint (bs : List ℕ) : Type 0 where
  pub ends : Ends bs
  pub ten : length bs ≤ 10
  pub tenth : length bs ≡ 10 → get_or bs 9 0 ≤ 1

-- the sum of each byte's remainder by 128, times 128 for each byte before it; the first counts w times
unfoldable pub sum : ℕ → List ℕ → ℕ
sum w [] = 0
sum w (b ∷ bs) = b % 128 * w + sum (w * 128) bs
