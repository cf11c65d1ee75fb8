-- The first line and those behind it. Assumes nothing.
use mathlib.Core.Path.{◌≡◌, refl, sym, ap, ◌∙◌}
use mathlib.Core.List.{List, [], ◌∷◌, ◌++◌, append-nil}
use mathlib.Core.Bool.{Bool, true, false}
use Prim.Native.Nat.{ℕ, ◌*◌, ◌<◌, ◌≤◌}
use native.Mathlib.Omega.{arith}
use lib.Dec.{ltb}
use lib.ListN.{length, take, replicate}
use Rattle.std.specs.Prelude.{None, Option, Some}
use Rattle.prelude.specs.Choice.{pick}
use Rattle.text.specs.Printed.{printed, behind}
use Rattle.text.proofs.Printing.{laid_none, fits}
use Rattle.refusal.specs.declared.Refusal.TheVariants.{UnknownLine}
use Rattle.wire.specs.Frame.{max_frame_size}
use Rattle.line_program.specs.declared.Reading.{Reading}
use Rattle.line_program.specs.Reads.{left, NextLine, has_feed, has_failed}
use Rattle.journal_prints.specs.Room.{room, is_refused}
use Rattle.journal_prints.proofs.Room.{short}
use Rattle.lines.specs.Lines.{longest}
use Rattle.journal_calls.specs.Calls.{Journal, state_of}
use Rattle.journal_calls.specs.declared.State.{State as Numbers}
use Rattle.journal_text.specs.Texts.{first_of, is_good, opened, opening_text}
use Rattle.journal_text.specs.Journals.{cut, lines_of, bytes_of, lines_text, opening, text_of, journal_text, endless, first_in, behind_first, unread}
use Rattle.journal_text.proofs.Inputs.{Line, same_first, some, at_end, none_ended, all_cut, more_whole, left_whole, more_ended, last_cut, last_dry, silent, unended, never_good, first_whole, first_cut, shorter}
use Rattle.journal.specs.declared.Ending.{Ending}
use Rattle.journal.specs.Steps.{State, state, taken, put}
use Rattle.journal.specs.Runs.{Ran, replayed, Replayed}
use Rattle.line_program.proofs.GoingOn.{apart}
use Rattle.vocabulary.specs.declared.Settings.{Settings}

-- a first line that is not good prints its refusal, for which there is room
refusing : (f : Option Settings) → is_good f ≡ false → (out : List ℕ) → 4 * room ≤ length out
    → take (behind out 0 (opening_text f)) (printed out 0 (opening_text f)) ≡ opening_text f
refusing (Some s) g out h = apart g
refusing None g out h = fits out (opening_text None) (omega (arith, short (is_refused 0 UnknownLine (omega arith))))

-- what the definitions say in each case
module _ (reply out : List ℕ) (ls : List Line) where
  bad_state : (failed : Bool) → unread failed ls ≡ false → is_good (first_in ls) ≡ false
      → replayed failed reply out ls []
      ≡ state (opened (first_in ls)) reply (printed out 0 (opening_text (first_in ls))) (behind out 0 (opening_text (first_in ls))) []
  unfolding replayed
  bad_state failed v n = rw (v, n)

  good_state : (failed : Bool) (follow : List Bool) → unread failed ls ≡ false → is_good (first_in ls) ≡ true
      → replayed failed reply out ls follow ≡ taken (state (opened (first_in ls)) reply out 0 []) (behind_first ls) follow
  unfolding replayed
  good_state failed follow v n = rw (v, n)

bad_text : (ls : List Line) → is_good (first_in ls) ≡ false → text_of ls ≡ opening_text (first_in ls)
unfolding opening
bad_text [] n = rw n
bad_text (l ∷ rest) n = rw n

good_text : (l : Line) (rest : List Line) → is_good (first_of l.0 l.1) ≡ true
    → text_of (l ∷ rest) ≡ lines_text (opened (first_of l.0 l.1)) (replicate max_frame_size 0) rest
unfolding opening
good_text l rest n = rw n

module _ (reply out : List ℕ) (zero : reply ≡ replicate max_frame_size 0) (ho : 4 * room ≤ length out) (lent : Numbers → Journal)
    (blank : (f : Option Settings) → lent (state_of (opened f)) ≡ opened f) {line block line' : List ℕ} {r : Reading} (x : NextLine line [] block line' r) (hl : longest ≤ length line) where
  abbrev rest : List ℕ
  rest = left block r.from r.until

  -- what the buffer says of the first line
  abbrev said : (Option Settings)
  said = first_of (take r.used line') (has_feed r.end)

  abbrev l : Line
  l = (x.read.text, has_feed r.end)

  -- reading failed in the first line
  pub unread_first : has_failed r.end ≡ true → Replayed reply out block lent reply out (record { reading = r; waiting = 0; written = true })
  unfolding bytes_of cut replayed
  unread_first f =
      record {
        brought = x.read.brought;
        lines = [];
        follow = [];
        told = refl;
        unfinished = x.read.text;
        whole = left_whole [] x [] [] refl (x.read.dry (x.read.failing f)).0;
        cut = refl;
        numbers = state_of (opened (first_of [] false));
        journals = rw f (blank (first_of [] false));
        replies = rw f;
        prints = rw f;
        waits = rw f;
        text = rw f;
        stopped = λ _ g _ _. apart (sym f ∙ g);
        unwritten = λ g _. apart g;
        live = λ _ _. refl;
        all = λ _ g _. apart (sym f ∙ g);
      }

  -- a first line that is not good
  module _ (f : has_failed r.end ≡ false) (g : is_good said ≡ false) {out' : List ℕ} {q : ℕ}
      (p : out' ≡ printed out 0 (opening_text said)) (b : q ≡ behind out 0 (opening_text said)) where
    made : (ls : List Line) (u : List ℕ) → 0 ≡ length (behind_first ls) → said ≡ first_in ls → unread (has_failed r.end) ls ≡ false
        → x.read.brought ≡ bytes_of ls ++ (u ++ rest) → lines_of (bytes_of ls) ≡ ls
        → (length (bytes_of ls) < endless → text_of (lines_of x.read.brought) ≡ opening_text (first_in ls))
        → Replayed reply out block lent reply out' (record { reading = r; waiting = q; written = true })
    unfolding journal_text
    made ls u only same v whole cutting whole-text =
        let n : is_good (first_in ls) ≡ false = ap is_good (sym same) ∙ g in
        let shown : put (replayed (has_failed r.end) reply out ls []) ≡ opening_text (first_in ls) =
        ap put (bad_state reply out ls (has_failed r.end) v n) ∙ refusing (first_in ls) n out ho
        in
        record {
          brought = x.read.brought;
          lines = ls;
          follow = [];
          told = only;
          unfinished = u;
          whole = whole;
          cut = cutting;
          numbers = state_of (opened (first_in ls));
          journals = blank (first_in ls) ∙ sym (ap (λ (z : State). z.journal) (bad_state reply out ls (has_failed r.end) v n));
          replies = sym (ap (λ (z : State). z.reply) (bad_state reply out ls (has_failed r.end) v n));
          prints =
              p
              ∙ ap (λ (z : Option Settings). printed out 0 (opening_text z)) same
              ∙ sym (ap (λ (z : State). z.out) (bad_state reply out ls (has_failed r.end) v n));
          waits =
              b
              ∙ ap (λ (z : Option Settings). behind out 0 (opening_text z)) same
              ∙ sym (ap (λ (z : State). z.waiting) (bad_state reply out ls (has_failed r.end) v n));
          text = shown ∙ sym (ap (λ (t : Bool). pick t [] (text_of ls)) v ∙ bad_text ls n);
          stopped = λ _ _ _ good. apart (sym good ∙ n);
          unwritten = λ v _. apart v;
          live = λ good _. apart (sym good ∙ n);
          all = λ _ _ h. shown ∙ sym (whole-text h);
        }

    -- it is there, and perhaps others behind it
    only : lines_of (bytes_of (l ∷ [])) ≡ l ∷ [] → (others : List Line) → (length (bytes_of (l ∷ [])) < endless → lines_of x.read.brought ≡ l ∷ others)
        → Replayed reply out block lent reply out' (record { reading = r; waiting = q; written = true })
    unfolding bytes_of
    only cutting others h =
        made (l ∷ []) [] refl (same_first x hl) refl (more_whole [] x [] [] refl) cutting
        (λ n. ap text_of (h n) ∙ bad_text (l ∷ others) (ap is_good (sym (same_first x hl)) ∙ g))

    ended : has_feed r.end ≡ true → Replayed reply out block lent reply out' (record { reading = r; waiting = q; written = true })
    unfolding bytes_of
    ended e =
        only (all_cut (more_ended [] x none_ended e)) (lines_of rest)
        (λ _. ap lines_of (more_whole [] x [] [] refl) ∙ more_ended [] x none_ended e rest)

    module _ (e : has_feed r.end ≡ false) where
      last : lines_of (bytes_of (l ∷ [])) ≡ l ∷ [] → Replayed reply out block lent reply out' (record { reading = r; waiting = q; written = true })
      unfolding bytes_of
      last cutting =
          only cutting []
          (λ n.
          ap lines_of
          (more_whole [] x [] [] refl ∙ ap (λ (d : List ℕ). bytes_of (l ∷ []) ++ d) (last_dry [] x e n).1 ∙ append-nil (bytes_of (l ∷ [])))
          ∙ cutting)

      -- there is none
      missing : ltb 0 r.used ≡ false → Replayed reply out block lent reply out' (record { reading = r; waiting = q; written = true })
      unfolding bytes_of cut
      missing u =
          made [] x.read.text refl (unended (take r.used line') e) f (left_whole [] x [] [] refl e) refl
          (λ _. ap (λ (d : List ℕ). text_of (lines_of d)) (left_whole [] x [] [] refl e ∙ (at_end x hl e u).1) ∙ bad_text [] never_good)

      unended_first : (t : Bool) → ltb 0 r.used ≡ t → Replayed reply out block lent reply out' (record { reading = r; waiting = q; written = true })
      unended_first true u = last (last_cut [] x none_ended e (some x hl u))
      unended_first false u = missing u

    pub refused_first : Replayed reply out block lent reply out' (record { reading = r; waiting = q; written = true })
    refused_first = go (has_feed r.end) refl
      where
        go : (t : Bool) → has_feed r.end ≡ t → Replayed reply out block lent reply out' (record { reading = r; waiting = q; written = true })
        go true e = ended e
        go false e = unended_first e (ltb 0 r.used) refl

  -- a good one
  module _ (g : is_good said ≡ true) {j : Journal} {out₁ : List ℕ} (jo : j ≡ opened said) (p : out₁ ≡ printed out 0 (opening_text said))
      {block' : List ℕ} {lent' : Numbers → Journal} {reply' out' : List ℕ} {e : Ending}
      (ran : Ran (state j reply out₁ 0 []) rest block' lent' reply' out' e) where
    good : is_good (first_of l.0 l.1) ≡ true
    good = ap is_good (sym (same_first x hl)) ∙ g

    start : state j reply out₁ 0 [] ≡ state (opened (first_of l.0 l.1)) reply out 0 []
    start =
        ap (λ (z : Journal). state z reply out₁ 0 []) (jo ∙ ap opened (same_first x hl))
        ∙ ap (λ (z : List ℕ). state (opened (first_of l.0 l.1)) reply z 0 []) (p ∙ ap (printed out 0) (silent said g) ∙ sym (laid_none out 0).bytes)

    abbrev all_lines : List Line
    all_lines = l ∷ ran.lines

    abbrev over : List ℕ
    over = ran.unfinished ++ left block' e.reading.from e.reading.until

    good_whole : x.read.brought ++ ran.brought ≡ bytes_of all_lines ++ over
    good_whole = first_whole x ran.lines ran.brought over ran.whole

    good_cut : lines_of (bytes_of all_lines) ≡ all_lines
    good_cut = first_cut x ran.lines good ran.cut

    stood : replayed (has_failed e.reading.end) reply out all_lines ran.follow ≡ taken (state j reply out₁ 0 []) ran.lines ran.follow
    stood = good_state reply out all_lines (has_failed e.reading.end) ran.follow refl good ∙ ap (λ (z : State). taken z ran.lines ran.follow) (sym start)

    good_put : put (replayed (has_failed e.reading.end) reply out all_lines ran.follow) ≡ text_of all_lines
    good_put =
        ap put stood
        ∙ ran.text
        ∙ ap (λ (z : State). lines_text z.journal z.reply ran.lines) start
        ∙ ap (λ (d : List ℕ). lines_text (opened (first_of l.0 l.1)) d ran.lines) zero
        ∙ sym (good_text l ran.lines good)

    pub good_first : Replayed reply out block' lent' reply' out' e
    unfolding journal_text
    good_first =
        record {
          brought = x.read.brought ++ ran.brought;
          lines = all_lines;
          follow = ran.follow;
          told = ran.told;
          unfinished = ran.unfinished;
          whole = good_whole;
          cut = good_cut;
          numbers = ran.numbers;
          journals = ran.journals ∙ sym (ap (λ (z : State). z.journal) stood);
          replies = ran.replies ∙ sym (ap (λ (z : State). z.reply) stood);
          prints = ran.prints ∙ sym (ap (λ (z : State). z.out) stood);
          waits = ran.waits ∙ sym (ap (λ (z : State). z.waiting) stood);
          text = good_put;
          stopped = λ v f h _. ran.stopped v f (shorter x ran.lines h);
          unwritten = λ v z. ran.unwritten v (sym (ap (λ (d : State). d.handed) stood) ∙ z);
          live = λ _. ran.live;
          all =
              λ v f h.
              good_put
              ∙ ap text_of
              (sym
              (ap lines_of (good_whole ∙ ap (λ (d : List ℕ). bytes_of all_lines ++ d) (ran.stopped v f (shorter x ran.lines h)).1 ∙ append-nil (bytes_of all_lines))
              ∙ good_cut));
        }
