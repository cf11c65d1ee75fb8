-- A step is what the definitions say. Assumes nothing.
use mathlib.Core.Path.{◌≡◌, refl}
use mathlib.Core.List.{List}
use mathlib.Core.Bool.{Bool, true, false}
use Prim.Native.Nat.{ℕ}
use lib.ListN.{take}
use Rattle.text.specs.Printed.{printed, behind}
use Rattle.line_program.specs.Reads.{has_feed}
use Rattle.line_program.specs.declared.Reading.{Reading}
use Rattle.line_program.specs.Waits.{is_line}
use Rattle.line_program.proofs.GoingOn.{apart}
use Rattle.journal_calls.specs.Calls.{Journal}
use Rattle.journal_turns.specs.Turns.{line_turn}
use Rattle.circuit_questions.specs.Answers.{line_text}
use Rattle.circuit_questions.specs.Steps.{State, state, taking, step_of}

module _ (r : Reading) (line : List ℕ) (s : State) where
  abbrev text : List ℕ
  text = line_text s.journal s.reply (take r.used line) (has_feed r.end)

  pub step_made : {a : Journal} {b x : List ℕ} {q : ℕ} {v : Bool} {R : Type 0} → is_line r.end r.used ≡ true
      → (a ≡ (line_turn s.journal s.reply (take r.used line) (has_feed r.end)).turn.journal)
      × ((b ≡ (line_turn s.journal s.reply (take r.used line) (has_feed r.end)).reply) × ((x ≡ printed s.out 0 text) × (q ≡ behind s.out 0 text)))
      → R
      → (state a b x q ≡ step_of r line s) × ((is_line r.end r.used ≡ false → v ≡ true) × R)
  unfolding step_of taking
  step_made e f g = rw e (rw (f.0, f.1.0, f.1.1.0, f.1.1.1), (λ d. apart d, g))

  pub step_left : {R : Type 0} → is_line r.end r.used ≡ false
      → R
      → (s ≡ step_of r line s) × ((is_line r.end r.used ≡ false → true ≡ true) × R)
  unfolding step_of
  step_left e g = rw e (refl, (λ _. refl, g))
