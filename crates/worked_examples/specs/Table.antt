-- The worked examples of the rule, in one table: what a definition gives, and what it must be (RULES.md, sections 4, 6, 7 and 9).
use Rattle.std.specs.Prelude.{◌≡◌, false, List, [], ◌∷◌, ℕ, ◌/◌, ◌%◌, replicate}
use Rattle.wire.specs.Frame.{frame_of}
use Rattle.wire.specs.declared.Frame.TheVariants.{Whole, Broken}
use Rattle.candidates.specs.Selection.{usually, selected}
use Rattle.schedule.specs.Instants.{half_of, start_of, instants}
use Rattle.schedule.specs.Schedule.{due_of}
use Rattle.schedule.specs.declared.BlastSchedule.TheVariants.{Next, Over}

-- the address /ip4/a.b.c.d/udp/port/quic-v1
abbrev pub address4 : ℕ → ℕ → ℕ → ℕ → ℕ → List ℕ
address4 a b c d port = 0x04 ∷ a ∷ b ∷ c ∷ d ∷ 0x91 ∷ 0x02 ∷ (port / 256) ∷ (port % 256) ∷ 0xcd ∷ 0x03 ∷ []

-- the targets among some addresses, private targets off
abbrev pub targets : List (List ℕ) → List (List ℕ)
targets = selected (usually false)

-- one IP at three ports, the last of which meets the limit of two
abbrev pub three_ports : List (List ℕ)
three_ports = address4 8 8 8 8 4001 ∷ address4 8 8 8 8 4002 ∷ address4 8 8 8 8 4003 ∷ []

-- five addresses of one family, the last of which meets the limit of four
abbrev pub five : List (List ℕ)
five = address4 8 8 8 1 4001 ∷ address4 8 8 8 2 4001 ∷ address4 8 8 8 3 4001 ∷ address4 8 8 8 4 4001 ∷ address4 8 8 8 5 4001 ∷ []

pub record WorkedExamples : Type 0 where
  -- ranges
  pub anycast : targets (address4 192 0 0 9 4001 ∷ []) ≡ address4 192 0 0 9 4001 ∷ []
  pub protocol : targets (address4 192 0 0 8 4001 ∷ []) ≡ []
  pub private : targets (address4 172 31 255 255 4001 ∷ []) ≡ []
  pub behind : targets (address4 172 32 0 0 4001 ∷ []) ≡ address4 172 32 0 0 4001 ∷ []
  -- ports
  pub low : targets (address4 8 8 8 8 1023 ∷ []) ≡ []
  pub lowest : targets (address4 8 8 8 8 1024 ∷ []) ≡ address4 8 8 8 8 1024 ∷ []
  -- limits
  pub third : targets three_ports ≡ address4 8 8 8 8 4001 ∷ address4 8 8 8 8 4002 ∷ []
  pub fifth :
      targets five
      ≡ address4 8 8 8 1 4001 ∷ address4 8 8 8 2 4001 ∷ address4 8 8 8 3 4001 ∷ address4 8 8 8 4 4001 ∷ []
  -- half of a round trip
  pub half : half_of 41 ≡ 21
  -- a reply at 60 whose CONNECT went out at 20, and a window of 100 at an interval of 40, looked at by ticks at 130 and 180
  pub start : start_of 60 40 ≡ 80
  pub window : instants 80 40 180 ≡ 80 ∷ 120 ∷ 160 ∷ []
  pub two : due_of (Next 80 180) 40 130 ≡ record { schedule = Next 160 180; times = 2 }
  pub one : due_of (Next 160 180) 40 180 ≡ record { schedule = Over; times = 1 }
  -- a reply at 9960 with a round trip of 41, and a window at an interval of 10 that the deadline cuts at 10010
  pub start_cut : start_of 9960 41 ≡ 9981
  pub window_cut : instants 9981 10 10010 ≡ 9981 ∷ 9991 ∷ 10001 ∷ []
  -- the longest frame, and one that is too long at its second length byte
  pub longest : frame_of (0x80 ∷ 0x20 ∷ replicate 4096 0) ≡ Whole 2 4096
  pub over : frame_of (0x81 ∷ 0x20 ∷ []) ≡ Broken
