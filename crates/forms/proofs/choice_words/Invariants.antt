use mathlib.Core.Path.{◌≡◌}
use Prim.Native.Nat.{◌≤◌, ◌-◌}
use lib.ListN.{length, drop}
use Rattle.forms.specs.Forms.{split, which_word}
use Rattle.forms.proofs.choice_words.Given as goal

abbrev pub invariant-loop-k : goal.invariant-loop-k
invariant-loop-k l = (l.w ≤ length l.choice) × (l.k ≤ l.w) × (which_word 0 (split l.choice) l.value ≡ which_word l.k (split (drop l.w l.choice)) l.value)

abbrev pub decreases-loop-k : goal.decreases-loop-k
decreases-loop-k l = length l.choice - l.w
