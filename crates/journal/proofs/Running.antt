-- Line after line, from the bytes that were read to what is printed. Assumes nothing.
use mathlib.Core.Path.{◌≡◌, refl, sym, ap, ◌∙◌}
use mathlib.Core.List.{List, [], ◌∷◌, ◌++◌, append-nil, append_assoc}
use mathlib.Core.Bool.{Bool, true, false}
use Prim.Native.Nat.{ℕ, ◌+◌, ◌*◌, ◌<◌, ◌≤◌}
use native.Mathlib.Omega.{arith}
use lib.Dec.{ltb}
use lib.ListN.{length, take, length-append}
use Rattle.prelude.specs.Numbers.{max_u64}
use Rattle.text.specs.Printed.{printed, behind}
use Rattle.line_program.specs.declared.Reading.{Reading}
use Rattle.line_program.specs.Reads.{left, has_line, feed, NextLine, has_feed, has_more, has_failed}
use Rattle.journal_prints.specs.Room.{room}
use Rattle.lines.specs.Lines.{longest}
use Rattle.journal_calls.specs.Calls.{Journal, Taken}
use Rattle.journal_calls.specs.declared.State.{State as Numbers}
use Rattle.journal_text.specs.Texts.{turn_text, line_text}
use Rattle.journal_text.specs.Journals.{lines_of, bytes_of, lines_text, endless}
use Rattle.journal_text.proofs.Inputs.{Line, same_line, some, at_end, Ended, none_ended, all_cut, more_long, more_whole, left_whole, more_ended, last_cut, last_dry}
use Rattle.line_program.proofs.GoingOn.{apart, had_none}
use Rattle.line_program.proofs.Ends.{with_feed, without_feed, with_failure}
use Rattle.journal.specs.declared.Step.{Step}
use Rattle.line_program.specs.Waits.{is_line, waiting_after, handed_after}
use Rattle.journal.specs.Steps.{State, state, answered, taking, taken, step_of, step_text, put}
use Rattle.journal.specs.Runs.{Ran}

-- ---- one line more

taken_more : (s : State) (xs : List Line) (fs : List Bool) (l : Line) (f : Bool) → length fs ≡ length xs
    → taken s (xs ++ (l ∷ [])) (fs ++ (f ∷ [])) ≡ taking (taken s xs fs) l f
unfolding taken
taken_more s [] [] l f e = refl
taken_more s [] (g ∷ fs) l f e = absurd (omega arith)
taken_more s (x ∷ xs) [] l f e = absurd (omega arith)
taken_more s (x ∷ xs) (g ∷ fs) l f e = taken_more (taking s x g) xs fs l f (omega arith)

text_more : (s : State) (xs : List Line) (fs : List Bool) (l : Line)
    → lines_text s.journal s.reply (xs ++ (l ∷ []))
    ≡ lines_text s.journal s.reply xs ++ line_text (taken s xs fs).journal (taken s xs fs).reply l.0 l.1
unfolding lines_text taken taking
text_more s [] fs l = append-nil (line_text s.journal s.reply l.0 l.1)
text_more s (x ∷ xs) [] l =
    ap (λ (r : List ℕ). line_text s.journal s.reply x.0 x.1 ++ r) (text_more (taking s x false) xs [] l)
    ∙ sym
    (append_assoc
    (line_text s.journal s.reply x.0 x.1)
    (lines_text (taking s x false).journal (taking s x false).reply xs)
    (line_text (taken (taking s x false) xs []).journal (taken (taking s x false) xs []).reply l.0 l.1))
text_more s (x ∷ xs) (f ∷ fs) l =
    ap (λ (r : List ℕ). line_text s.journal s.reply x.0 x.1 ++ r) (text_more (taking s x f) xs fs l)
    ∙ sym
    (append_assoc
    (line_text s.journal s.reply x.0 x.1)
    (lines_text (taking s x f).journal (taking s x f).reply xs)
    (line_text (taken (taking s x f) xs fs).journal (taken (taking s x f) xs fs).reply l.0 l.1))

same_state : {j j' : Journal} {a a' x x' : List ℕ} {v v' : ℕ} (h : List ℕ) → j ≡ j' → a ≡ a' → x ≡ x' → v ≡ v' → state j a x v h ≡ state j' a' x' v' h
same_state h p q r t = rw (p, q, r, t)

end_none : (a b : List ℕ) → a ++ b ≡ [] → b ≡ []
end_none [] b e = e
end_none (x ∷ a) b e = absurd (omega (arith, ap length e))

-- ---- how far a run has come

-- each line so far was ended by a line feed
pub record Open (before : State) (had rest : List ℕ) (j : Journal) (reply out : List ℕ) (w : ℕ) (v : Bool) (turns : ℕ) : Type 0 where
  pub brought : List ℕ
  pub lines : List Line
  pub follow : List Bool
  pub told : length follow ≡ length lines
  pub handed : List ℕ
  pub whole : had ++ brought ≡ bytes_of lines ++ rest
  pub stood : state j reply out w handed ≡ taken before lines follow
  pub text : put (state j reply out w handed) ≡ lines_text before.journal before.reply lines
  pub ended : Ended lines
  pub given : v ≡ false → handed ≡ [] → ⊥
  pub live : has_line rest ≡ false → w ≡ 0
  pub counted : max_u64 ≤ turns + length (bytes_of lines)

-- the last reading met no line feed
pub record Closed (before : State) (had rest : List ℕ) (j : Journal) (reply out : List ℕ) (w : ℕ) (v : Bool) (r : Reading) : Type 0 where
  pub brought : List ℕ
  pub lines : List Line
  pub follow : List Bool
  pub told : length follow ≡ length lines
  pub unfinished : List ℕ
  pub handed : List ℕ
  pub whole : had ++ brought ≡ bytes_of lines ++ (unfinished ++ rest)
  pub stood : state j reply out w handed ≡ taken before lines follow
  pub text : put (state j reply out w handed) ≡ lines_text before.journal before.reply lines
  pub cutting : lines_of (bytes_of lines) ≡ lines
  pub dry : has_failed r.end ≡ false → length (bytes_of lines) < endless → (has_more r.end ≡ false) × (unfinished ++ rest ≡ [])
  pub given : v ≡ false → handed ≡ [] → ⊥
  pub live : has_line rest ≡ false → w ≡ 0

pub record Going (before : State) (had block : List ℕ) (j' : Journal) (reply out : List ℕ) (s : Step) (turns : ℕ) : Type 0 where
  pub goes : has_feed s.reading.end ≡ true → Open before had (left block s.reading.from s.reading.until) j' reply out s.waiting s.written turns
  pub stops : has_feed s.reading.end ≡ false
      → Closed before had (left block s.reading.from s.reading.until) j' reply out s.waiting s.written s.reading

pub begin : (j : Journal) (reply out had : List ℕ) (turns : ℕ) → max_u64 ≤ turns → Open (state j reply out 0 []) had had j reply out 0 true turns
unfolding bytes_of taken lines_text
begin j reply out had turns h =
    record { brought = []; lines = []; follow = []; told = refl; handed = []; whole = append-nil had; stood = refl; text = refl; ended = none_ended; given = λ f _. apart f; live = λ _. refl; counted = omega arith }

-- ---- a step

-- what the contract of a step says
abbrev Stepping : List ℕ → List ℕ → List ℕ → List ℕ → Journal → ℕ → List ℕ → List ℕ → Journal → List ℕ → List ℕ → Step → Type 0
Stepping mid line reply out j w block' line' j' reply' out' s =
    (j' ≡ (step_of s.reading block' line' j reply out w).journal)
    × ((reply' ≡ (step_of s.reading block' line' j reply out w).reply)
    × ((out' ≡ (step_of s.reading block' line' j reply out w).out)
    × ((s.waiting ≡ (step_of s.reading block' line' j reply out w).waiting)
    × ((w + 4 * room ≤ length out
    → (step_of s.reading block' line' j reply out w).handed ++ take s.waiting out' ≡ take w out ++ step_text s.reading line' j reply)
    × ((w + 4 * room ≤ length out → (step_of s.reading block' line' j reply out w).handed ≡ [] → s.written ≡ true)
    × NextLine line mid block' line' s.reading)))))

module _ {before : State} {had mid line reply out : List ℕ} {j : Journal} {w : ℕ} {v : Bool} {turns : ℕ}
    (o : Open before had mid j reply out w v turns) (hl : longest ≤ length line) (ho : w + 4 * room ≤ length out)
    (s : Step) {block' line' : List ℕ} {j' : Journal} {reply' out' : List ℕ} (k : Stepping mid line reply out j w block' line' j' reply' out' s) where
  abbrev x : NextLine line mid block' line' s.reading
  x = k.1.1.1.1.1.1

  abbrev rest : List ℕ
  rest = left block' s.reading.from s.reading.until

  -- where there is a line it is taken
  module _ (e : is_line s.reading.end s.reading.used ≡ true) where
    abbrev l : Line
    l = (x.read.text, has_feed s.reading.end)

    -- what is handed over behind it
    abbrev gives : List ℕ
    gives = handed_after (4 * room) (has_line rest) (answered (state j reply out w []) l).out (answered (state j reply out w []) l).waiting

    -- a state by what the line does
    abbrev by_turn : Taken → State
    by_turn t =
        record {
          journal = t.turn.journal;
          reply = t.reply;
          out = printed out w (turn_text t.turn);
          waiting = waiting_after (4 * room) (has_line rest) (printed out w (turn_text t.turn)) (behind out w (turn_text t.turn));
          handed = [] ++ handed_after (4 * room) (has_line rest) (printed out w (turn_text t.turn)) (behind out w (turn_text t.turn));
        }

    stepped : step_of s.reading block' line' j reply out w ≡ taking (state j reply out w []) l (has_line rest)
    unfolding step_of taking line_text
    stepped = rw e (ap by_turn (same_line x hl j reply))

    printing : step_text s.reading line' j reply ≡ line_text j reply l.0 l.1
    unfolding step_text line_text
    printing = rw (e, same_line x hl j reply)

    took_stood : state j' reply' out' s.waiting (o.handed ++ gives) ≡ taken before (o.lines ++ (l ∷ [])) (o.follow ++ (has_line rest ∷ []))
    unfolding taking
    took_stood =
        same_state (o.handed ++ gives)
        (k.0 ∙ ap (λ (z : State). z.journal) stepped)
        (k.1.0 ∙ ap (λ (z : State). z.reply) stepped)
        (k.1.1.0 ∙ ap (λ (z : State). z.out) stepped)
        (k.1.1.1.0 ∙ ap (λ (z : State). z.waiting) stepped)
        ∙ ap (λ (z : State). taking z l (has_line rest)) o.stood
        ∙ sym (taken_more before o.lines o.follow l (has_line rest) o.told)

    over : (step_of s.reading block' line' j reply out w).handed ≡ gives
    unfolding taking
    over = ap (λ (z : State). z.handed) stepped

    took_text : put (state j' reply' out' s.waiting (o.handed ++ gives))
        ≡ lines_text before.journal before.reply (o.lines ++ (l ∷ []))
    took_text =
        append_assoc o.handed (gives) (take s.waiting out')
        ∙ ap (λ (b : List ℕ). o.handed ++ (b ++ take s.waiting out')) (sym over)
        ∙ ap (λ (b : List ℕ). o.handed ++ b) (k.1.1.1.1.0 ho)
        ∙ ap (λ (b : List ℕ). o.handed ++ (take w out ++ b)) printing
        ∙ sym (append_assoc o.handed (take w out) (line_text j reply l.0 l.1))
        ∙ ap (λ (b : List ℕ). b ++ line_text j reply l.0 l.1) o.text
        ∙ ap (λ (z : State). lines_text before.journal before.reply o.lines ++ line_text z.journal z.reply l.0 l.1) o.stood
        ∙ sym (text_more before o.lines o.follow l)

    took_given : s.written ≡ false → o.handed ++ gives ≡ [] → ⊥
    took_given f z = apart (sym (k.1.1.1.1.1.0 ho (over ∙ end_none o.handed (gives) z)) ∙ f)

    took_told : length (o.follow ++ (has_line rest ∷ [])) ≡ length (o.lines ++ (l ∷ []))
    took_told = omega (arith, o.told, length-append o.follow (has_line rest ∷ []), length-append o.lines (l ∷ []))

    took_live : has_line rest ≡ false → s.waiting ≡ 0
    unfolding taking waiting_after
    took_live f =
        k.1.1.1.0
        ∙ ap (λ (z : State). z.waiting) stepped
        ∙ ap (λ (d : Bool). (taking (state j reply out w []) l d).waiting) f

  -- where there is none nothing changes
  module _ (e : is_line s.reading.end s.reading.used ≡ false) where
    stayed : step_of s.reading block' line' j reply out w ≡ state j reply out w []
    unfolding step_of
    stayed = rw e

    left_stood : state j' reply' out' s.waiting o.handed ≡ taken before o.lines o.follow
    left_stood = rw (k.0, k.1.0, k.1.1.0, k.1.1.1.0, stayed) o.stood

    left_given : s.written ≡ false → o.handed ≡ [] → ⊥
    left_given f _ = apart (sym (k.1.1.1.1.1.0 ho (ap (λ (z : State). z.handed) stayed)) ∙ f)

    -- what the block had was all read without a line feed
    left_live : has_feed s.reading.end ≡ false → has_more s.reading.end ≡ false → s.waiting ≡ 0
    left_live d m = k.1.1.1.0 ∙ ap (λ (z : State). z.waiting) stayed ∙ o.live (had_none x.read d m)

    left_text : put (state j' reply' out' s.waiting o.handed) ≡ lines_text before.journal before.reply o.lines
    left_text = rw (k.1.1.0, k.1.1.1.0, stayed) o.text

  -- a line feed ended the line
  module _ (e : has_feed s.reading.end ≡ true) where
    gone : (turns' : ℕ) → turns ≤ turns' + 1 → Open before had rest j' reply' out' s.waiting s.written turns'
    gone turns' h =
        let t : is_line s.reading.end s.reading.used ≡ true = with_feed _ _ e in
        record {
          brought = o.brought ++ x.read.brought;
          lines = o.lines ++ (l t ∷ []);
          follow = o.follow ++ (has_line rest ∷ []);
          told = took_told t;
          handed = o.handed ++ gives t;
          whole = more_whole o.lines x had o.brought o.whole;
          stood = took_stood t;
          text = took_text t;
          ended = more_ended o.lines x o.ended e;
          given = took_given t;
          live = took_live t;
          counted =
              let f : length (feed (has_feed s.reading.end)) ≡ 1 = ap (λ (d : Bool). length (feed d)) e in
              omega (arith, o.counted, more_long o.lines x);
        }

  -- none did
  module _ (e : has_feed s.reading.end ≡ false) where
    failing : has_failed s.reading.end ≡ true → Closed before had rest j' reply' out' s.waiting s.written s.reading
    failing f =
        let n : is_line s.reading.end s.reading.used ≡ false = with_failure _ _ f in
        record {
          brought = o.brought ++ x.read.brought;
          lines = o.lines;
          follow = o.follow;
          told = o.told;
          unfinished = x.read.text;
          handed = o.handed;
          whole = left_whole o.lines x had o.brought o.whole e;
          stood = left_stood n;
          text = left_text n;
          cutting = all_cut o.ended;
          dry = λ g _. apart (sym f ∙ g);
          given = left_given n;
          live = λ _. left_live n e (x.read.failing f);
        }

    module _ (f : has_failed s.reading.end ≡ false) where
      ending : ltb 0 s.reading.used ≡ false → Closed before had rest j' reply' out' s.waiting s.written s.reading
      ending u =
          let n : is_line s.reading.end s.reading.used ≡ false = without_feed _ _ f e ∙ u in
          record {
            brought = o.brought ++ x.read.brought;
            lines = o.lines;
            follow = o.follow;
            told = o.told;
            unfinished = x.read.text;
            handed = o.handed;
            whole = left_whole o.lines x had o.brought o.whole e;
            stood = left_stood n;
            text = left_text n;
            cutting = all_cut o.ended;
            dry = λ _ _. at_end x hl e u;
            given = left_given n;
            live = λ _. left_live n e (at_end x hl e u).0;
          }

      last : ltb 0 s.reading.used ≡ true → Closed before had rest j' reply' out' s.waiting s.written s.reading
      last u =
          let t : is_line s.reading.end s.reading.used ≡ true = without_feed _ _ f e ∙ u in
          record {
            brought = o.brought ++ x.read.brought;
            lines = o.lines ++ (l t ∷ []);
            follow = o.follow ++ (has_line rest ∷ []);
            told = took_told t;
            unfinished = [];
            handed = o.handed ++ gives t;
            whole = more_whole o.lines x had o.brought o.whole;
            stood = took_stood t;
            text = took_text t;
            cutting = last_cut o.lines x o.ended e (some x hl u);
            dry = λ _. last_dry o.lines x e;
            given = took_given t;
            live = took_live t;
          }

      stopped : Closed before had rest j' reply' out' s.waiting s.written s.reading
      stopped = go (ltb 0 s.reading.used) refl
        where
          go : (t : Bool) → ltb 0 s.reading.used ≡ t → Closed before had rest j' reply' out' s.waiting s.written s.reading
          go true u = last u
          go false u = ending u

  pub going : (turns' : ℕ) → turns ≤ turns' + 1 → Going before had block' j' reply' out' s turns'
  going turns' h = record { goes = λ e. gone e turns' h; stops = λ e. go e (has_failed s.reading.end) refl }
    where
      go : has_feed s.reading.end ≡ false → (t : Bool) → has_failed s.reading.end ≡ t → Closed before had rest j' reply' out' s.waiting s.written s.reading
      go e true f = failing e f
      go e false f = stopped e f

-- ---- the run

pub finished : {before : State} {had block reply out : List ℕ} {turns : ℕ} (lent : Numbers → Journal) (s : Step)
    → Going before had block (lent s.state) reply out s turns → (has_feed s.reading.end ≡ true → s.written ≡ true → turns ≡ 0)
    → Ran before had block lent reply out (record { reading = s.reading; waiting = s.waiting; written = s.written })
finished {before} {had} {block} {reply} {out} {turns} lent s g z = go (has_feed s.reading.end) refl
  where
    go : (t : Bool) → has_feed s.reading.end ≡ t → Ran before had block lent reply out (record { reading = s.reading; waiting = s.waiting; written = s.written })
    go true e =
        let o = g.goes e in
        record {
          brought = o.brought;
          lines = o.lines;
          follow = o.follow;
          told = o.told;
          unfinished = [];
          whole = o.whole;
          cut = all_cut o.ended;
          numbers = s.state;
          journals = ap (λ (x : State). x.journal) o.stood;
          replies = ap (λ (x : State). x.reply) o.stood;
          prints = ap (λ (x : State). x.out) o.stood;
          waits = ap (λ (x : State). x.waiting) o.stood;
          text = ap put (sym o.stood) ∙ o.text;
          stopped = λ v f b. absurd (omega (arith, z e v, o.counted));
          unwritten = λ f n. o.given f (ap (λ (x : State). x.handed) o.stood ∙ n);
          live = o.live;
        }
    go false e =
        let c = g.stops e in
        record {
          brought = c.brought;
          lines = c.lines;
          follow = c.follow;
          told = c.told;
          unfinished = c.unfinished;
          whole = c.whole;
          cut = c.cutting;
          numbers = s.state;
          journals = ap (λ (x : State). x.journal) c.stood;
          replies = ap (λ (x : State). x.reply) c.stood;
          prints = ap (λ (x : State). x.out) c.stood;
          waits = ap (λ (x : State). x.waiting) c.stood;
          text = ap put (sym c.stood) ∙ c.text;
          stopped = λ v f b. c.dry f b;
          unwritten = λ f n. c.given f (ap (λ (x : State). x.handed) c.stood ∙ n);
          live = c.live;
        }
