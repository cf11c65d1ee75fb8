-- Step by step: each reads on where the one before it stopped. Assumes nothing.
use mathlib.Core.Path.{◌≡◌, refl, sym, ap, ◌∙◌}
use mathlib.Core.List.{List, [], ◌∷◌, ◌++◌, append_assoc}
use mathlib.Core.Bool.{Bool, true, false}
use Prim.Native.Nat.{ℕ, ◌≤◌, ◌<◌}
use native.Mathlib.Omega.{arith}
use lib.Dec.{leb, ltb}
use lib.ListN.{length, take, length-take}
use lib.Seq.{length-sets}
use borrow.Author.Tests.{leb-true, leb-false, lt-ltb, le-ltb}
use Rattle.prelude.specs.Choice.{both}
use Rattle.text.specs.Words.{ascii}
use Rattle.text.specs.Printed.{printed, behind}
use Rattle.text.proofs.Printing.{fits, fits_place, full_place}
use Rattle.lines.specs.Lines.{longest}
use Rattle.line_program.specs.declared.Reading.{Reading}
use Rattle.line_program.specs.Reads.{left, NextLine, has_feed}
use Rattle.line_program.proofs.Ends.{as_many}
use Rattle.call_lines.specs.Turns.{turn, line_turn}
use Rattle.calls.specs.Steps.{step_of}
use Rattle.calls.specs.Runs.{Got, got_turn, bytes_of, taken, Ran}
use Rattle.library_calls.specs.declared.Kept.{Kept}
use Rattle.calls.specs.declared.Step.{Step}

never : (ended : Bool) → both ended false ≡ false
never true = refl
never false = refl

-- a line too long is bad, whatever its bytes
too_long : (k : Kept) (ws line : List ℕ) (ended : Bool) → longest ≤ length line → line_turn k ws line ended ≡ turn k ws (ascii "bad\n")
unfolding line_turn
too_long k ws line ended h = rw (le-ltb (length line) longest h, never ended)

module _ (k : Kept) (ws line text : List ℕ) (r : Reading) (room : longest ≤ length line) (used : r.used ≡ behind line 0 text) where
  abbrev got : Got
  got = record { text = text; end = r.end }

  -- where the line fits its buffer
  fitting : length text ≤ length line → step_of r (printed line 0 text) k ws ≡ got_turn k ws got
  unfolding step_of got_turn
  fitting h =
      let t : take r.used (printed line 0 text) ≡ text = rw used (fits line text h) in
      let u : r.used ≡ length text = used ∙ fits_place line text h in
      rw (t, u)

  filled : length line < length text → length (take r.used (printed line 0 text)) ≡ length line
  unfolding printed
  filled h = length-take r.used (printed line 0 text) ∙ omega (arith, used, full_place line text (omega arith), length-sets line 0 text)

  filling : length line < length text → step_of r (printed line 0 text) k ws ≡ got_turn k ws got
  unfolding step_of got_turn
  filling h =
      let u : ltb 0 r.used ≡ true = lt-ltb 0 r.used (omega (arith, used, full_place line text (omega arith))) in
      let v : ltb 0 (length text) ≡ true = lt-ltb 0 (length text) (omega arith) in
      let a = too_long k ws (take r.used (printed line 0 text)) (has_feed r.end) (omega (arith, filled h)) in
      let b = too_long k ws text (has_feed r.end) (omega arith) in
      let w = as_many r.end r.used (length text) (u ∙ sym v) in
      rw (w, a, b)

  pub as_read : step_of r (printed line 0 text) k ws ≡ got_turn k ws got
  as_read = go (leb (length text) (length line)) refl
    where
      go : (t : Bool) → leb (length text) (length line) ≡ t → step_of r (printed line 0 text) k ws ≡ got_turn k ws got
      go true e = fitting (leb-true _ _ e)
      go false e = filling (leb-false _ _ e)

-- ---- before the first step, and a step more

-- the same before a step: of bytes that are left, and of what is kept
pub record Stood (kept : Kept) (words had : List ℕ) (k : Kept) (ws : List ℕ) : Type 0 where
  pub brought : List ℕ
  pub steps : List Got
  pub whole : brought ≡ bytes_of steps ++ had
  pub keeps : k ≡ (taken kept words steps).kept
  pub leaves : ws ≡ (taken kept words steps).words

pub begun : (kept : Kept) (words block : List ℕ) → Stood kept words (left block 0 0) kept words
unfolding bytes_of taken
begun kept words block = record { brought = []; steps = []; whole = refl; keeps = refl; leaves = refl }

module _ {kept : Kept} {words had : List ℕ} {k : Kept} {ws : List ℕ} (b : Stood kept words had k ws)
    {line block after ws' : List ℕ} (s : Step) (room : longest ≤ length line) (n : NextLine line had block after s.reading)
    {k' : Kept} (e : k' ≡ (step_of s.reading after k ws).kept) (f : ws' ≡ (step_of s.reading after k ws).words) where
  one : step_of s.reading after k ws ≡ got_turn k ws (record { text = n.read.text; end = s.reading.end })
  one = rw n.read.bytes (as_read k ws line n.read.text s.reading room n.read.place)

  pub stepped : Ran kept words block k' ws' s
  unfolding bytes_of taken
  stepped =
      let g : Got = record { text = n.read.text; end = s.reading.end } in
      record {
        brought = b.brought ++ n.read.brought;
        steps = g ∷ b.steps;
        whole = rw b.whole (rw (append_assoc, append_assoc, append_assoc) (ap (λ (x : List ℕ). bytes_of b.steps ++ x) n.read.whole));
        keeps = e ∙ rw (one, b.keeps, b.leaves);
        leaves = f ∙ rw (one, b.keeps, b.leaves);
      }

pub standing : {kept : Kept} {words block : List ℕ} {k : Kept} {ws : List ℕ} {s : Step} → Ran kept words block k ws s → Stood kept words (left block s.reading.from s.reading.until) k ws
standing r = record { brought = r.brought; steps = r.steps; whole = r.whole; keeps = r.keeps; leaves = r.leaves }
