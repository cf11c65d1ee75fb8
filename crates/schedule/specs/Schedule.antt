-- A schedule and what is newly due (RULES.md, section 9).
use Rattle.std.specs.Prelude.{ℕ, min, List, [], ◌∷◌, drop, leb, eqb}
use Rattle.prelude.specs.Choice.{pick}
use Rattle.time.specs.Time.{last}
use Rattle.schedule.specs.Instants.{instants, count_to}
use Rattle.schedule.specs.declared.BlastSchedule.{BlastSchedule}
use Rattle.schedule.specs.declared.BlastSchedule.TheVariants.{Next, Over}
use Rattle.schedule.specs.declared.NewlyDue.{NewlyDue}

-- the instants that did not go out yet
unfoldable pub ahead : ℕ → BlastSchedule → List ℕ
ahead i (Next at until) = instants at i until
ahead i Over = []

-- the schedule with these instants ahead, in a window with that end
abbrev pub schedule_of : ℕ → List ℕ → BlastSchedule
schedule_of until [] = Over
schedule_of until (t ∷ ts) = Next t until

-- the schedule without its first n instants
unfoldable pub without : ℕ → ℕ → BlastSchedule → BlastSchedule
without n i (Next at until) = schedule_of until (drop n (instants at i until))
without n i Over = Over

-- the count of the instants newly due: those ahead that are no later than the reading. One answer counts at most 2^64 − 1 of them
unfoldable pub times_of : BlastSchedule → ℕ → ℕ → ℕ
times_of q i at = min (count_to at (ahead i q)) last

-- what is newly due at a reading, and the schedule without it
unfoldable pub due_of : BlastSchedule → ℕ → ℕ → NewlyDue
due_of q i at = record { schedule = without (times_of q i at) i q; times = times_of q i at }

-- a window with its start and its end: no instant where the end comes first
unfoldable pub window_of : ℕ → ℕ → BlastSchedule
window_of start until = pick (leb start until) (Next start until) Over

-- a window as the reply opens it: at round trip 0 the first instant goes out with the reply
unfoldable pub opened_of : ℕ → ℕ → ℕ → ℕ → NewlyDue
opened_of start until i rtt =
    pick (eqb rtt 0) (due_of (window_of start until) i start) (record { schedule = window_of start until; times = 0 })

-- the next instant or, where none is left before it, the window's end
unfoldable pub next_of : BlastSchedule → ℕ → ℕ
next_of (Next at until) end = min at (min until end)
next_of Over end = end
