-- A line that is no call of these libraries. Assumes nothing.
use mathlib.Core.Path.{◌≡◌, refl}
use mathlib.Core.List.{List, []}
use mathlib.Core.Bool.{Bool, true, false}
use Prim.Native.Nat.{ℕ}
use native.Mathlib.Omega.{arith}
use Rattle.prelude.specs.Choice.{pick}
use Rattle.call_table.specs.Tables.{among}
use Rattle.call_table.proofs.Calling.{not_made}
use Rattle.library_calls.specs.Lines.{Turn, turn, keeping, turn_of}
use Rattle.library_calls.specs.declared.Kept.{Kept}
use Rattle.library_calls.specs.Messages.{messages_table}
use Rattle.library_calls.specs.Choices.{choices_table}
use Rattle.library_calls.specs.Budgets.{budgets_table}
use Rattle.library_calls.specs.Schedules.{schedules_table, schedule_after, schedules_text}

-- it changes nothing, and nothing is printed of it
pub unanswered : (k : Kept) (line : List ℕ) → (turn_of k line).found ≡ false → turn_of k line ≡ turn false k []
unfolding turn_of
unanswered k line h = go (among messages_table line) (among choices_table line) (among budgets_table line) (among schedules_table line) refl _ _ _ _ _ _ h
  where
    last : Bool → Turn
    last d = turn d (keeping k.budget (schedule_after k.schedule line)) (schedules_text k.schedule line)

    picked : Bool → Bool → Bool → Bool → Kept → Kept → Kept → List ℕ → List ℕ → List ℕ → Turn
    picked a b c d x y z s t u = pick a (turn true x s) (pick b (turn true y t) (pick c (turn true z u) (last d)))

    go : (a b c d : Bool) → among schedules_table line ≡ d → (x y z : Kept) (s t u : List ℕ) → (picked a b c d x y z s t u).found ≡ false → picked a b c d x y z s t u ≡ turn false k []
    go true b c d e x y z s t u h = let n : ◌≡◌ {A = ℕ} 0 1 = cc in absurd (omega arith)
    go false true c d e x y z s t u h = let n : ◌≡◌ {A = ℕ} 0 1 = cc in absurd (omega arith)
    go false false true d e x y z s t u h = let n : ◌≡◌ {A = ℕ} 0 1 = cc in absurd (omega arith)
    go false false false true e x y z s t u h = let n : ◌≡◌ {A = ℕ} 0 1 = cc in absurd (omega arith)
    go false false false false e x y z s t u h = rw (not_made schedules_table line _ _ e, not_made schedules_table line _ _ e)
