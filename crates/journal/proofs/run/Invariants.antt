use mathlib.Core.Path.{◌≡◌}
use mathlib.Core.List.{List}
use Prim.Native.Nat.{ℕ, ◌+◌, ◌-◌, ◌*◌, ◌≤◌}
use lib.ListN.{length}
use Rattle.journal_prints.specs.Room.{room}
use Rattle.prelude.specs.Numbers.{max_u64}
use Rattle.lines.specs.Lines.{longest}
use Rattle.journal_calls.specs.Calls.{whole}
use Rattle.journal.specs.Steps.{State}
use Rattle.journal.proofs.Running.{Going}
use Rattle.journal.proofs.run.Given as goal

abbrev pub invariant-loop-turn : goal.invariant-loop-turn
invariant-loop-turn l =
    (length l.block ≡ length l.initial.block) × (length l.line ≡ length l.initial.line) × (length l.reply ≡ length l.initial.reply) × (length l.out ≡ length l.initial.out)
    × (longest ≤ length l.line) × (l.s.waiting + 4 * room ≤ length l.out)
    × ((before : State) (had : List ℕ) → Going before had l.initial.block (whole l.initial.s.state l.initial.m) l.initial.reply l.initial.out l.initial.s max_u64
    → Going before had l.block (whole l.s.state l.m) l.reply l.out l.s (max_u64 - l._turn))
