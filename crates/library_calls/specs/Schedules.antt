-- Calls of `schedule` (RULES.md, section 9): what each row's call makes of the schedule, and what is said of it.
use Rattle.std.specs.Prelude.{ℕ, min, List, [], ◌∷◌, ◌++◌, get_or, eqb, None, Option, Some}
use Rattle.std.specs.Option.{is_some, unwrap_or}
use Rattle.prelude.specs.Choice.{pick, bit}
use Rattle.text.specs.Words.{ascii}
use Rattle.time.specs.Time.{plus}
use Rattle.schedule.specs.Instants.{start_of}
use Rattle.schedule.specs.Schedule.{opened_of, due_of}
use Rattle.schedule.specs.declared.BlastSchedule.{BlastSchedule}
use Rattle.schedule.specs.declared.BlastSchedule.TheVariants.{Next, Over}
use Rattle.schedule.specs.declared.NewlyDue.{NewlyDue}
use Rattle.call_table.specs.Tables.{says, turn_by, text_by}
use Rattle.call_table.specs.declared.Said.{Said}
use Rattle.call_table.specs.declared.Call.{Call}
use Rattle.library_calls.specs.declared.Turn.{Turn}

unfoldable pub schedules_table : List ℕ
schedules_table =
    ascii "do=reply at=# rtt=# deadline=# punch=# interval=#|times=# start=# end=# next=*\n"
    ++ ascii "do=tick at=# interval=#|times=# next=*"

-- the next instant, where there is one
abbrev pub next : BlastSchedule → Option ℕ
next (Next at until) = Some at
next Over = None

-- whether there is one, and it
abbrev pub next_given : BlastSchedule → ℕ
next_given s = bit (is_some (next s))

abbrev pub next_at : BlastSchedule → ℕ
next_at s = unwrap_or (next s) 0

abbrev pub turn : BlastSchedule → Said → Turn BlastSchedule
turn s said = record { kept = s; said = said }

-- the end of a window
unfoldable pub end_of : ℕ → ℕ → ℕ → ℕ
end_of start punch deadline = min (plus start punch) deadline

abbrev pub opened_turn : ℕ → ℕ → NewlyDue → Turn BlastSchedule
opened_turn start end d = turn d.schedule (says 1 (d.times ∷ start ∷ end ∷ next_given d.schedule ∷ next_at d.schedule ∷ 0 ∷ []))

-- a window that a reply with this round trip opens
unfoldable pub replied_turn : ℕ → ℕ → ℕ → ℕ → ℕ → Turn BlastSchedule
replied_turn at rtt deadline punch interval =
    opened_turn (start_of at rtt) (end_of (start_of at rtt) punch deadline) (opened_of (start_of at rtt) (end_of (start_of at rtt) punch deadline) interval rtt)

abbrev pub due_turn : NewlyDue → Turn BlastSchedule
due_turn d = turn d.schedule (says 1 (d.times ∷ next_given d.schedule ∷ next_at d.schedule ∷ 0 ∷ 0 ∷ 0 ∷ []))

unfoldable pub schedule_turn : BlastSchedule → ℕ → List ℕ → Turn BlastSchedule
schedule_turn s row w =
    pick (eqb row 0) (replied_turn (get_or w 0 0) (get_or w 1 0) (get_or w 2 0) (get_or w 3 0) (get_or w 4 0)) (due_turn (due_of s (get_or w 1 0) (get_or w 0 0)))

abbrev pub turn_of : BlastSchedule → Call → Turn BlastSchedule
turn_of s call = schedule_turn s call.row call.words

-- a line that is none of these calls leaves the schedule, and nothing is printed of it
abbrev pub schedule_after : BlastSchedule → List ℕ → BlastSchedule
schedule_after s line = turn_by schedules_table s (λ call. (turn_of s call).kept) line

abbrev pub schedules_text : BlastSchedule → List ℕ → List ℕ
schedules_text s line = text_by schedules_table (λ call. (turn_of s call).said) line
