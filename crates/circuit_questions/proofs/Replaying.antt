-- The first line and those behind it. Assumes nothing.
use mathlib.Core.Path.{◌≡◌, refl, sym, ap, ◌∙◌}
use mathlib.Core.List.{List, [], ◌∷◌, ◌++◌}
use mathlib.Core.Bool.{Bool, true, false}
use Prim.Native.Nat.{ℕ, ◌≤◌}
use lib.Dec.{ltb}
use lib.ListN.{length, take}
use borrow.Author.Tests.{eqb-true}
use Rattle.std.specs.Prelude.{Option}
use Rattle.text.specs.Printed.{printed, behind}
use Rattle.text.proofs.Printing.{laid_none}
use Rattle.line_program.specs.declared.Reading.{Reading}
use Rattle.line_program.specs.Reads.{left, NextLine, has_feed, has_failed}
use Rattle.line_program.proofs.GoingOn.{apart}
use Rattle.lines.specs.Lines.{longest}
use Rattle.journal_calls.specs.Calls.{Journal, state_of}
use Rattle.journal_calls.specs.declared.State.{State as Numbers}
use Rattle.journal_text.specs.Texts.{first_of, is_good, opened, opening_text}
use Rattle.journal_text.specs.Journals.{cut, lines_of, bytes_of, first_in, behind_first, unread}
use Rattle.journal_text.proofs.Inputs.{Line, none, same_first, some, none_ended, all_cut, more_whole, left_whole, more_ended, last_cut, silent, unended, first_whole, first_cut, shorter}
use Rattle.circuit_questions.specs.declared.Ending.{Ending}
use Rattle.circuit_questions.specs.Steps.{State, state, taken}
use Rattle.circuit_questions.specs.Runs.{Ran, replayed, Replayed}
use Rattle.vocabulary.specs.declared.Settings.{Settings}

module _ (reply out : List ℕ) (lent : Numbers → Journal) (blank : (f : Option Settings) → lent (state_of (opened f)) ≡ opened f)
    {line block line' : List ℕ} {r : Reading} (x : NextLine line [] block line' r) (hl : longest ≤ length line) where
  abbrev rest : List ℕ
  rest = left block r.from r.until

  -- what the buffer says of the first line
  abbrev said : (Option Settings)
  said = first_of (take r.used line') (has_feed r.end)

  -- reading failed in the first line
  pub unread_first : has_failed r.end ≡ true → Replayed reply out block lent reply out (record { reading = r; handed = 0; written = true })
  unfolding bytes_of cut replayed
  unread_first f =
      record {
        brought = x.read.brought;
        lines = [];
        unfinished = x.read.text;
        whole = left_whole [] x [] [] refl (x.read.dry (x.read.failing f)).0;
        cut = refl;
        alone = λ _. refl;
        numbers = state_of (opened (first_of [] false));
        makes = rw f (ap (λ (j : Journal). state j reply out 0) (blank (first_of [] false)));
        stopped = λ _ g _ _. apart (sym f ∙ g);
        unwritten = λ _. refl;
      }

  -- a first line that is not good
  module _ (f : has_failed r.end ≡ false) (g : is_good said ≡ false) (v : Bool) {out' : List ℕ} {q : ℕ}
      (p : out' ≡ printed out 0 (opening_text said)) (b : q ≡ behind out 0 (opening_text said)) where
    made : (ls : List Line) (u : List ℕ) → behind_first ls ≡ [] → said ≡ first_in ls → unread (has_failed r.end) ls ≡ false
        → x.read.brought ≡ bytes_of ls ++ (u ++ rest) → lines_of (bytes_of ls) ≡ ls
        → Replayed reply out block lent reply out' (record { reading = r; handed = q; written = v })
    unfolding replayed
    made ls u only same w whole cutting =
        let n : is_good (first_in ls) ≡ false = ap is_good (sym same) ∙ g in
        record {
          brought = x.read.brought;
          lines = ls;
          unfinished = u;
          whole = whole;
          cut = cutting;
          alone = λ _. only;
          numbers = state_of (opened (first_in ls));
          makes = rw (w, n, p, b, same) (ap (λ (j : Journal). state j reply (printed out 0 (opening_text (first_in ls))) (behind out 0 (opening_text (first_in ls)))) (blank (first_in ls)));
          stopped = λ _ _ _ good. apart (sym good ∙ n);
          unwritten = λ d. apart (sym (rw (w, n) at d));
        }

    -- it is there
    only : lines_of (bytes_of ((x.read.text, has_feed r.end) ∷ [])) ≡ (x.read.text, has_feed r.end) ∷ []
        → Replayed reply out block lent reply out' (record { reading = r; handed = q; written = v })
    unfolding bytes_of
    only = made ((x.read.text, has_feed r.end) ∷ []) [] refl (same_first x hl) refl (more_whole [] x [] [] refl)

    -- there is none
    missing : has_feed r.end ≡ false → Replayed reply out block lent reply out' (record { reading = r; handed = q; written = v })
    unfolding bytes_of cut
    missing e =
        made [] x.read.text refl (unended (take r.used line') e) f (left_whole [] x [] [] refl e) refl

    unended_first : has_feed r.end ≡ false → (t : Bool) → ltb 0 r.used ≡ t
        → Replayed reply out block lent reply out' (record { reading = r; handed = q; written = v })
    unended_first e true u = only (last_cut [] x none_ended e (some x hl u))
    unended_first e false u = missing e

    pub refused_first : Replayed reply out block lent reply out' (record { reading = r; handed = q; written = v })
    refused_first = go (has_feed r.end) refl
      where
        go : (t : Bool) → has_feed r.end ≡ t → Replayed reply out block lent reply out' (record { reading = r; handed = q; written = v })
        go true e = only (all_cut (more_ended [] x none_ended e))
        go false e = unended_first e (ltb 0 r.used) refl

  -- a good one
  module _ (g : is_good said ≡ true) {j : Journal} {out₁ : List ℕ} (jo : j ≡ opened said) (p : out₁ ≡ printed out 0 (opening_text said))
      {block' : List ℕ} {lent' : Numbers → Journal} {reply' out' : List ℕ} {e : Ending}
      (ran : Ran (state j reply out₁ 0) rest block' lent' reply' out' e) where
    good : is_good (first_of x.read.text (has_feed r.end)) ≡ true
    good = ap is_good (sym (same_first x hl)) ∙ g

    start : state j reply out₁ 0 ≡ state (opened (first_of x.read.text (has_feed r.end))) reply out 0
    start =
        ap (λ (z : Journal). state z reply out₁ 0) (jo ∙ ap opened (same_first x hl))
        ∙ ap (λ (z : List ℕ). state (opened (first_of x.read.text (has_feed r.end))) reply z 0) (p ∙ ap (printed out 0) (silent said g) ∙ sym (laid_none out 0).bytes)

    pub good_first : Replayed reply out block' lent' reply' out' e
    unfolding replayed
    good_first =
        record {
          brought = x.read.brought ++ ran.brought;
          lines = (x.read.text, has_feed r.end) ∷ ran.lines;
          unfinished = ran.unfinished;
          whole = first_whole x ran.lines ran.brought (ran.unfinished ++ left block' e.reading.from e.reading.until) ran.whole;
          cut = first_cut x ran.lines good ran.cut;
          alone = λ n. apart (sym good ∙ n);
          numbers = ran.numbers;
          makes = rw good (ran.makes ∙ ap (λ (z : State). taken z ran.lines) start);
          stopped = λ v f h _. ran.stopped v f (shorter x ran.lines h);
          unwritten = λ d. ran.unwritten (none ran.lines (eqb-true (length ran.lines) 0 (rw good at d)));
        }
