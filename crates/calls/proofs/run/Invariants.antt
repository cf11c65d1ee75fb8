-- What the steps so far did follows from what the first did.
use Rattle.std.proofs.Common.{ℕ, ◌≤◌, List, length}
use Rattle.lines.specs.Lines.{longest}
use Rattle.calls.specs.Runs.{Ran}
use Rattle.library_calls.specs.declared.Kept.{Kept}
use Rattle.calls.proofs.run.Given as goal

abbrev pub invariant-loop-turn : goal.invariant-loop-turn
invariant-loop-turn l =
    (longest ≤ length l.line)
    × ((kept : Kept) (words : List ℕ) → Ran kept words l.initial.block l.initial.kept l.initial.ledger l.initial.s → Ran kept words l.block l.kept l.ledger l.s)
