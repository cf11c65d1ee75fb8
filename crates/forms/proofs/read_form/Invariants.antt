use mathlib.Core.Path.{◌≡◌}
use Prim.Native.Nat.{◌≤◌, ◌-◌}
use lib.ListN.{length}
use Rattle.forms.proofs.Walk.{Walked}
use Rattle.forms.proofs.read_form.Given as goal

abbrev pub invariant-loop-f : goal.invariant-loop-f
invariant-loop-f l = (l.f ≤ length l.form) × (l.i ≤ length l.line) × Walked l.form l.line l.initial.got l.f l.i l.got l.n × (length l.got ≡ length l.initial.got)

abbrev pub decreases-loop-f : goal.decreases-loop-f
decreases-loop-f l = length l.form - l.f
