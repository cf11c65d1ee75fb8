-- Line after line, from the bytes that were read. Assumes nothing.
use mathlib.Core.Path.{◌≡◌, refl, sym, ap, ◌∙◌}
use mathlib.Core.List.{List, [], ◌∷◌, ◌++◌, append-nil}
use mathlib.Core.Bool.{Bool, true, false}
use Prim.Native.Nat.{ℕ, ◌+◌, ◌<◌, ◌≤◌}
use native.Mathlib.Omega.{arith}
use lib.Dec.{ltb}
use lib.ListN.{length, length-append}
use Rattle.prelude.specs.Numbers.{max_u64}
use Rattle.text.specs.Printed.{printed, behind}
use Rattle.line_program.specs.declared.Reading.{Reading}
use Rattle.line_program.specs.Reads.{left, feed, NextLine, has_feed, has_more, has_failed}
use Rattle.line_program.specs.Waits.{is_line}
use Rattle.line_program.proofs.GoingOn.{apart}
use Rattle.line_program.proofs.Ends.{with_feed, without_feed, with_failure}
use Rattle.lines.specs.Lines.{longest}
use Rattle.journal_calls.specs.Calls.{Journal, Taken}
use Rattle.journal_calls.specs.declared.State.{State as Numbers}
use Rattle.journal_text.specs.Journals.{lines_of, bytes_of, endless}
use Rattle.journal_text.proofs.Inputs.{Line, same_line, some, at_end, Ended, none_ended, all_cut, more_long, more_whole, left_whole, more_ended, last_cut, last_dry}
use Rattle.circuit_questions.specs.declared.Step.{Step}
use Rattle.circuit_questions.specs.Answers.{turn_text, line_text}
use Rattle.circuit_questions.specs.Steps.{State, state, taking, taken, step_of}
use Rattle.circuit_questions.specs.Runs.{Ran}

-- ---- one line more

taken_more : (s : State) (xs : List Line) (l : Line) → taken s (xs ++ (l ∷ [])) ≡ taking (taken s xs) l
unfolding taken
taken_more s [] l = refl
taken_more s (x ∷ xs) l = taken_more (taking s x) xs l

never_none : (xs : List Line) (l : Line) {v : Bool} → xs ++ (l ∷ []) ≡ [] → v ≡ true
never_none xs l e = absurd (omega (arith, ap length e, length-append xs (l ∷ [])))

-- ---- how far a run has come

-- each line so far was ended by a line feed
pub record Open (before : State) (had rest : List ℕ) (s : State) (v : Bool) (turns : ℕ) : Type 0 where
  pub brought : List ℕ
  pub lines : List Line
  pub whole : had ++ brought ≡ bytes_of lines ++ rest
  pub makes : s ≡ taken before lines
  pub ended : Ended lines
  pub unwritten : lines ≡ [] → v ≡ true
  pub counted : max_u64 ≤ turns + length (bytes_of lines)

-- the last reading met no line feed
pub record Closed (before : State) (had rest : List ℕ) (s : State) (v : Bool) (r : Reading) : Type 0 where
  pub brought : List ℕ
  pub lines : List Line
  pub unfinished : List ℕ
  pub whole : had ++ brought ≡ bytes_of lines ++ (unfinished ++ rest)
  pub makes : s ≡ taken before lines
  pub cutting : lines_of (bytes_of lines) ≡ lines
  pub unwritten : lines ≡ [] → v ≡ true
  pub dry : has_failed r.end ≡ false → length (bytes_of lines) < endless → (has_more r.end ≡ false) × (unfinished ++ rest ≡ [])

pub record Going (before : State) (had block : List ℕ) (s : State) (t : Step) (turns : ℕ) : Type 0 where
  pub goes : has_feed t.reading.end ≡ true → Open before had (left block t.reading.from t.reading.until) s t.written turns
  pub stops : has_feed t.reading.end ≡ false → Closed before had (left block t.reading.from t.reading.until) s t.written t.reading

pub begin : (s : State) (had : List ℕ) (turns : ℕ) → max_u64 ≤ turns → Open s had had s true turns
unfolding bytes_of taken
begin s had turns h =
    record { brought = []; lines = []; whole = append-nil had; makes = refl; ended = none_ended; unwritten = λ _. refl; counted = omega arith }

-- ---- a step

module _ {before : State} {had mid line : List ℕ} {s : State} {v : Bool} {turns : ℕ} (o : Open before had mid s v turns) (hl : longest ≤ length line)
    (t : Step) {block line' : List ℕ} {s' : State}
    (k : (s' ≡ step_of t.reading line' s)
    × ((is_line t.reading.end t.reading.used ≡ false → t.written ≡ true) × NextLine line mid block line' t.reading)) where
  abbrev x : NextLine line mid block line' t.reading
  x = k.1.1

  abbrev rest : List ℕ
  rest = left block t.reading.from t.reading.until

  abbrev l : Line
  l = (x.read.text, has_feed t.reading.end)

  -- where there is a line it is taken
  module _ (e : is_line t.reading.end t.reading.used ≡ true) where
    -- a state by what the line does
    abbrev by_turn : Taken → State
    by_turn d = state d.turn.journal d.reply (printed s.out 0 (turn_text d.turn)) (behind s.out 0 (turn_text d.turn))

    stepped : step_of t.reading line' s ≡ taking s l
    unfolding step_of taking line_text
    stepped = rw e (ap by_turn (same_line x hl s.journal s.reply))

    took : s' ≡ taken before (o.lines ++ (l ∷ []))
    took = k.0 ∙ stepped ∙ ap (λ (z : State). taking z l) o.makes ∙ sym (taken_more before o.lines l)

  -- a line feed ended the line
  module _ (e : has_feed t.reading.end ≡ true) where
    gone : (turns' : ℕ) → turns ≤ turns' + 1 → Open before had rest s' t.written turns'
    gone turns' h =
        record {
          brought = o.brought ++ x.read.brought;
          lines = o.lines ++ (l ∷ []);
          whole = more_whole o.lines x had o.brought o.whole;
          makes = took (with_feed _ _ e);
          ended = more_ended o.lines x o.ended e;
          unwritten = never_none o.lines l;
          counted =
              let f : length (feed (has_feed t.reading.end)) ≡ 1 = ap (λ (d : Bool). length (feed d)) e in
              omega (arith, o.counted, more_long o.lines x);
        }

  -- none did
  module _ (e : has_feed t.reading.end ≡ false) where
    left_over : is_line t.reading.end t.reading.used ≡ false → Closed before had rest s' t.written t.reading
    unfolding step_of
    left_over n =
        record {
          brought = o.brought ++ x.read.brought;
          lines = o.lines;
          unfinished = x.read.text;
          whole = left_whole o.lines x had o.brought o.whole e;
          makes = k.0 ∙ rw n o.makes;
          cutting = all_cut o.ended;
          unwritten = λ _. k.1.0 n;
          dry = λ f _. at_end x hl e (sym (without_feed _ _ f e) ∙ n);
        }

    last : is_line t.reading.end t.reading.used ≡ true → Closed before had rest s' t.written t.reading
    last y =
        record {
          brought = o.brought ++ x.read.brought;
          lines = o.lines ++ (l ∷ []);
          unfinished = [];
          whole = more_whole o.lines x had o.brought o.whole;
          makes = took y;
          cutting = last_cut o.lines x o.ended e (some x hl (used (has_failed t.reading.end) refl));
          unwritten = never_none o.lines l;
          dry = λ _. last_dry o.lines x e;
        }
      where
        used : (b : Bool) → has_failed t.reading.end ≡ b → ltb 0 t.reading.used ≡ true
        used true f = apart (sym y ∙ with_failure _ _ f)
        used false f = sym (without_feed _ _ f e) ∙ y

  pub going : (turns' : ℕ) → turns ≤ turns' + 1 → Going before had block s' t turns'
  going turns' h = record { goes = λ e. gone e turns' h; stops = λ e. go e (is_line t.reading.end t.reading.used) refl }
    where
      go : has_feed t.reading.end ≡ false → (b : Bool) → is_line t.reading.end t.reading.used ≡ b
          → Closed before had rest s' t.written t.reading
      go e true y = last e y
      go e false n = left_over e n

-- ---- the run

pub finished : {before : State} {had block reply out : List ℕ} {turns : ℕ} (lent : Numbers → Journal) (t : Step)
    → Going before had block (state (lent t.state) reply out t.handed) t turns → (has_feed t.reading.end ≡ true → t.written ≡ true → turns ≡ 0)
    → Ran before had block lent reply out (record { reading = t.reading; handed = t.handed; written = t.written })
finished {before} {had} {block} {reply} {out} {turns} lent t g z = go (has_feed t.reading.end) refl
  where
    go : (b : Bool) → has_feed t.reading.end ≡ b → Ran before had block lent reply out (record { reading = t.reading; handed = t.handed; written = t.written })
    go true e =
        let o = g.goes e in
        record {
          brought = o.brought;
          lines = o.lines;
          unfinished = [];
          whole = o.whole;
          cut = all_cut o.ended;
          numbers = t.state;
          makes = o.makes;
          stopped = λ v f b. absurd (omega (arith, z e v, o.counted));
          unwritten = o.unwritten;
        }
    go false e =
        let c = g.stops e in
        record {
          brought = c.brought;
          lines = c.lines;
          unfinished = c.unfinished;
          whole = c.whole;
          cut = c.cutting;
          numbers = t.state;
          makes = c.makes;
          stopped = λ v f b. c.dry f b;
          unwritten = c.unwritten;
        }
