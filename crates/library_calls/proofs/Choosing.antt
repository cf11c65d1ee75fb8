-- What is said of each call of `address` and `candidates`. Assumes nothing.
use mathlib.Core.Path.{◌≡◌}
use mathlib.Core.List.{List, [], ◌∷◌}
use Prim.Native.Nat.{ℕ}
use lib.Seq.{sets}
use Rattle.std.specs.Prelude.{Ok, Result}
use Rattle.text.specs.Printed.{printed}
use Rattle.refusal.specs.declared.Refusal.{Refusal}
use Rattle.candidates.specs.Selection.{Chosen}
use Rattle.call_table.specs.Tables.{shows, no_bytes}
use Rattle.library_calls.specs.Choices.{selection_said}

pub kept_shown : (s : Result Chosen Refusal) {c : Chosen} {o x : List ℕ} → s ≡ Ok c → o ≡ no_bytes → x ≡ sets o 0 c.bytes
    → shows 1 (0 ∷ c.len ∷ 0 ∷ 0 ∷ 0 ∷ 0 ∷ []) x ≡ selection_said s
unfolding printed
kept_shown s e f g = rw (e, g, f)
