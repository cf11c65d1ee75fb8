use Prim.Native.Nat.{◌≤◌}
use lib.ListN.{length}
use Rattle.line_program.specs.Reads.{left, Turned}
use Rattle.line_program.proofs.next_line.Given as goal

abbrev pub invariant-loop-turn : goal.invariant-loop-turn
invariant-loop-turn l = (l.s.used ≤ length l.initial.line) × (l.s.until ≤ length l.initial.block) × Turned l._turn l.initial.line 0 (left l.initial.block l.from l.until) l.block l.line l.s
