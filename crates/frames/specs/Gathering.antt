-- The reply gathered in the lent buffer (RULES.md, section 4).
use Rattle.std.specs.Prelude.{ℕ, ◌+◌, ◌-◌, List, [], ◌∷◌, length, get_or, take, set, leb, ltb}
use Rattle.prelude.specs.Choice.{pick}
use Rattle.wire.specs.Frame.{frame_of}
use Rattle.wire.specs.declared.Frame.{Frame}
use Rattle.wire.specs.declared.Frame.TheVariants.{More, Whole, Broken}
use Rattle.frames.specs.declared.Gathered.{Gathered}

-- the buffer, and how many frame bytes it has and what frame they are
pub record Gathering : Type 0 where
  pub buffer : List ℕ
  pub answer : Gathered

abbrev pub ends : List ℕ → ℕ → Frame → Gathering
ends b n f = record { buffer = b; answer = record { count = n; frame = f } }

-- the frame f stands in the buffer b, of n bytes: while it is not whole, what follows decides
abbrev pub judged : Frame → List ℕ → ℕ → Gathering → Gathering
judged More b n rest = rest
judged (Whole start len) b n rest = ends b n (Whole start len)
judged Broken b n rest = ends b n Broken

-- the input's bytes, stored one by one behind the n bytes of the buffer b, the frame judged after each from the buffer's first
-- byte. A byte for which the buffer has no room breaks the frame
unfoldable pub gathering : List ℕ → List ℕ → ℕ → Gathering
gathering [] b n = ends b n More
gathering (x ∷ xs) b n =
    pick (leb (length b) n) (ends b n Broken)
    (judged (frame_of (take (n + 1) (set b n x))) (set b n x) (n + 1) (gathering xs (set b n x) (n + 1)))

abbrev pub gathered : List ℕ → List ℕ → ℕ → Gathered
gathered xs b n = (gathering xs b n).answer

abbrev pub gathered_into : List ℕ → List ℕ → ℕ → List ℕ
gathered_into xs b n = (gathering xs b n).buffer

-- the byte at place p of the frame: in the buffer before n, else in the input
abbrev pub frame_byte : List ℕ → List ℕ → ℕ → ℕ → ℕ
frame_byte xs b n p = pick (ltb p n) (get_or b p 0) (get_or xs (p - n) 0)
