use mathlib.Core.Path.{◌≡◌}
use mathlib.Core.List.{List}
use Prim.Native.Nat.{ℕ, ◌-◌, ◌≤◌}
use lib.ListN.{length}
use Rattle.prelude.specs.Numbers.{max_u64}
use Rattle.lines.specs.Lines.{longest}
use Rattle.journal_calls.specs.Calls.{whole}
use Rattle.circuit_questions.specs.Steps.{State, state}
use Rattle.circuit_questions.proofs.Running.{Going}
use Rattle.circuit_questions.proofs.run.Given as goal

abbrev pub invariant-loop-turn : goal.invariant-loop-turn
invariant-loop-turn l =
    (length l.block ≡ length l.initial.block) × (length l.line ≡ length l.initial.line) × (length l.reply ≡ length l.initial.reply) × (length l.out ≡ length l.initial.out) × (longest ≤ length l.line)
    × ((before : State) (had : List ℕ)
    → Going before had l.initial.block (state (whole l.initial.s.state l.initial.m) l.initial.reply l.initial.out l.initial.s.handed) l.initial.s max_u64
    → Going before had l.block (state (whole l.s.state l.m) l.reply l.out l.s.handed) l.s (max_u64 - l._turn))
