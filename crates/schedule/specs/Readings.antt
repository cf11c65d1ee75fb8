-- What a list of readings brings (RULES.md, section 9).
use Rattle.std.specs.Prelude.{◌≡◌, ℕ, ◌+◌, ◌<◌, max, List, [], ◌∷◌, ◌++◌, Bool, false, length, get_or, take, drop, leb, eqb}
use Rattle.prelude.specs.Lists.{count}
use Rattle.prelude.specs.Choice.{both, either}
use Rattle.schedule.specs.Instants.{instants}
use Rattle.schedule.specs.Schedule.{ahead, due_of, opened_of}
use Rattle.schedule.specs.declared.BlastSchedule.{BlastSchedule}

-- the largest of some readings, if there was one
pub data Largest : Type 0 where
  none : Largest
  reading : ℕ → Largest

abbrev pub larger : ℕ → Largest → Largest
larger at none = reading at
larger at (reading m) = reading (max m at)

-- the largest after some more readings
unfoldable pub largest_of : Largest → List ℕ → Largest
largest_of m [] = m
largest_of m (at ∷ ats) = largest_of (larger at m) ats

abbrev pub reached : Largest → ℕ → Bool
reached none t = false
reached (reading m) t = leb t m

-- an instant counts when it is no later than the largest reading; at round trip 0 the first always counts
abbrev pub counts : Largest → ℕ → ℕ → ℕ → Bool
counts m rtt start t = either (reached m t) (both (eqb rtt 0) (eqb t start))

-- how many instants of a window count
unfoldable pub counted : ℕ → ℕ → ℕ → ℕ → Largest → ℕ
counted i start until rtt m = count (counts m rtt start) (instants start i until)

-- the counts of the answers at the readings, added up
unfoldable pub sum_of : BlastSchedule → ℕ → List ℕ → ℕ
sum_of q i [] = 0
sum_of q i (at ∷ ats) = (due_of q i at).times + sum_of (due_of q i at).schedule i ats

-- the instants that the answers stand for: of those ahead the first, as many as each answer counts
unfoldable pub sent_of : BlastSchedule → ℕ → List ℕ → List ℕ
sent_of q i [] = []
sent_of q i (at ∷ ats) = take (due_of q i at).times (ahead i q) ++ sent_of (due_of q i at).schedule i ats

-- the same of a window from its reply on
unfoldable pub sum_all : ℕ → ℕ → ℕ → ℕ → List ℕ → ℕ
sum_all start until i rtt ats = (opened_of start until i rtt).times + sum_of (opened_of start until i rtt).schedule i ats

unfoldable pub sent_all : ℕ → ℕ → ℕ → ℕ → List ℕ → List ℕ
sent_all start until i rtt ats =
    take (opened_of start until i rtt).times (instants start i until)
    ++ sent_of (opened_of start until i rtt).schedule i ats

-- the instants that went out are the first of the window's, as many as were counted, and none of them twice
pub record Once (start until i rtt : ℕ) (ats : List ℕ) : Type 0 where
  pub front : sent_all start until i rtt ats ≡ take (sum_all start until i rtt ats) (instants start i until)
  pub ascending : (j k : ℕ) → j < k → k < length (sent_all start until i rtt ats)
      → get_or (sent_all start until i rtt ats) j 0 < get_or (sent_all start until i rtt ats) k 0

-- at round trip 0 the first instant is counted with the reply, and those ahead are later
pub record FirstWithReply (start until i : ℕ) : Type 0 where
  pub one : (opened_of start until i 0).times ≡ 1
  pub rest : ahead i (opened_of start until i 0).schedule ≡ drop 1 (instants start i until)
  pub later : (k : ℕ) → k < length (ahead i (opened_of start until i 0).schedule)
      → start < get_or (ahead i (opened_of start until i 0).schedule) k 0
