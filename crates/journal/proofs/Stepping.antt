-- What the program makes of a line is what the definitions say. Assumes nothing.
use mathlib.Core.Path.{◌≡◌, refl, sym, ap, ◌∙◌}
use mathlib.Core.List.{List, [], ◌++◌, append-nil}
use mathlib.Core.Bool.{Bool, true, false}
use Prim.Native.Nat.{ℕ, ◌+◌, ◌*◌, ◌≤◌}
use native.Mathlib.Omega.{arith}
use lib.ListN.{length, take}
use Rattle.prelude.specs.Choice.{pick}
use Rattle.text.specs.Printed.{printed, behind}
use Rattle.text.proofs.Printing.{length_kept, behind_within}
use Rattle.line_program.specs.declared.Reading.{Reading}
use Rattle.line_program.specs.Reads.{left, has_line, has_feed}
use Rattle.journal_prints.specs.Room.{room}
use Rattle.journal_calls.specs.Calls.{Journal}
use Rattle.journal_turns.specs.Turns.{line_turn}
use Rattle.journal_text.specs.Texts.{line_text}
use Rattle.line_program.specs.Waits.{is_line, waiting_after, handed_after}
use Rattle.line_program.proofs.HandsOver.{all_there, room_kept}
use Rattle.journal.specs.Steps.{State, state, taking, step_of, step_text, NothingWaits}

pub nothing_waits : NothingWaits
unfolding taking waiting_after
nothing_waits s l = refl

length_printed : (o : List ℕ) (p : ℕ) (t : List ℕ) → length (printed o p t) ≡ length o
length_printed o p t = length_kept {q = behind o p t} (record { bytes = refl; place = refl })

-- ---- a step

module _ (s : Reading) (block line : List ℕ) (j : Journal) (reply out : List ℕ) (waiting : ℕ) where
  abbrev text : List ℕ
  text = line_text j reply (take s.used line) (has_feed s.end)

  abbrev follows : Bool
  follows = has_line (left block s.from s.until)

  pub step_made : {a : Journal} {b x : List ℕ} {w q : ℕ} {v : Bool} {R : Type 0} → is_line s.end s.used ≡ true
      → (w ≡ waiting_after (4 * room) follows x q) × (q ≤ length x → handed_after (4 * room) follows x q ≡ [] → v ≡ true)
      → (a ≡ (line_turn j reply (take s.used line) (has_feed s.end)).turn.journal)
      × ((b ≡ (line_turn j reply (take s.used line) (has_feed s.end)).reply)
      × ((x ≡ printed out waiting text) × ((q ≡ behind out waiting text) × (waiting + 4 * room ≤ length out → take q x ≡ take waiting out ++ text))))
      → R
      → (a ≡ (step_of s block line j reply out waiting).journal)
      × ((b ≡ (step_of s block line j reply out waiting).reply)
      × ((x ≡ (step_of s block line j reply out waiting).out)
      × ((w ≡ (step_of s block line j reply out waiting).waiting)
      × ((waiting + 4 * room ≤ length out → (step_of s block line j reply out waiting).handed ++ take w x ≡ take waiting out ++ step_text s line j reply)
      × ((waiting + 4 * room ≤ length out → (step_of s block line j reply out waiting).handed ≡ [] → v ≡ true) × R)))))
  unfolding step_of step_text taking
  step_made {x = x} {w = w} {q = q} {v = v} e f g r =
      let p : x ≡ printed out waiting text = g.1.1.0 in
      let k : q ≡ behind out waiting text = g.1.1.1.0 in
      let over : handed_after (4 * room) follows x q ≡ handed_after (4 * room) follows (printed out waiting text) (behind out waiting text) = rw (p, k) in
      let there : waiting + 4 * room ≤ length out → handed_after (4 * room) follows (printed out waiting text) (behind out waiting text) ++ take w x ≡ take waiting out ++ text =
      λ h. ap (λ (d : List ℕ). d ++ take w x) (sym over) ∙ ap (λ (n : ℕ). handed_after (4 * room) follows x q ++ take n x) f.0 ∙ all_there (4 * room) follows x q ∙ g.1.1.1.1 h
      in
      let within : waiting + 4 * room ≤ length out → q ≤ length x =
      λ h. omega (arith, k, behind_within out waiting text (omega arith), ap length p, length_printed out waiting text)
      in
      rw e (g.0, (g.1.0, (p, (f.0 ∙ rw (p, k), (there, (λ h z. f.1 (within h) (over ∙ z), r))))))

  pub step_left : {R : Type 0} → is_line s.end s.used ≡ false
      → R
      → (j ≡ (step_of s block line j reply out waiting).journal)
      × ((reply ≡ (step_of s block line j reply out waiting).reply)
      × ((out ≡ (step_of s block line j reply out waiting).out)
      × ((waiting ≡ (step_of s block line j reply out waiting).waiting)
      × ((waiting + 4 * room ≤ length out → (step_of s block line j reply out waiting).handed ++ take waiting out ≡ take waiting out ++ step_text s line j reply)
      × ((waiting + 4 * room ≤ length out → (step_of s block line j reply out waiting).handed ≡ [] → true ≡ true) × R)))))
  unfolding step_of step_text
  step_left e r = rw e (refl, (refl, (refl, (refl, (λ _. sym (append-nil (take waiting out)), (λ _ _. refl, r))))))

  kept : (t : Bool) → waiting + 4 * room ≤ length out
      → (pick {A = State} t (taking (state j reply out waiting []) (take s.used line, has_feed s.end) follows) (state j reply out waiting [])).waiting + 4 * room ≤ length out
  unfolding taking
  kept true h =
      omega (
        arith,
        length_printed out waiting text,
        room_kept (4 * room) follows (printed out waiting text) (behind out waiting text) (omega (arith, length_printed out waiting text)),
      )
  kept false h = h

  -- behind a step too there is room for a line's output lines
  pub step_room : {w size : ℕ} → w ≡ (step_of s block line j reply out waiting).waiting → length out ≡ size → waiting + 4 * room ≤ size → w + 4 * room ≤ size
  unfolding step_of
  step_room e f h = rw (e, ← f) (kept (is_line s.end s.used) (rw f h))

pub opened_within : (o t : List ℕ) {q : ℕ} → q ≡ behind o 0 t → q ≤ length o
opened_within o t e = rw e (behind_within o 0 t (omega arith))
