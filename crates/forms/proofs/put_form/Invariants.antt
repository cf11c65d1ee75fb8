use mathlib.Core.Path.{◌≡◌}
use Prim.Native.Nat.{◌≤◌, ◌-◌}
use mathlib.Core.Bool.{false}
use lib.ListN.{length, drop}
use Rattle.text.specs.Printed.{page, with_text}
use Rattle.forms.specs.Texts.{text, values_in}
use Rattle.forms.proofs.Print.{Left}
use Rattle.forms.proofs.put_form.Given as goal

abbrev pub invariant-loop-f : goal.invariant-loop-f
invariant-loop-f l =
    (l.f ≤ length l.form) × (l.n ≤ length l.words)
    × (with_text (page l.printer) (Left l.source false (drop l.f l.form) (drop l.n l.words)) ≡ with_text (page l.initial.printer) (text l.form (values_in l.source l.form l.words)))

abbrev pub decreases-loop-f : goal.decreases-loop-f
decreases-loop-f l = length l.form - l.f
