use native.Mathlib.Omega.{arith}
use lib.ListN.{length-take}
use Rattle.journal_calls.specs.declared.State.{State as Numbers}
use Rattle.journal_calls.specs.Calls.{whole}
use Rattle.journal.proofs.Stepping.{opened_within}
use Rattle.journal_text.proofs.Inputs.{blank_lent, opened_state, opened_none}
use Rattle.journal.proofs.Replaying.{unread_first, refused_first, good_first}
use mathlib.Core.Path.{sym, ap, ◌∙◌}
use borrow.Author.Rules.{rules}
use Rattle.journal.proofs.replay.Goals as goal

pub returns-then-has_failed : goal.returns-then-has_failed
returns-then-has_failed c =
    record { bound = search rules; replayed = unread_first _ _ c.requires.2 c.requires.1 (λ (s : Numbers). whole s c.args.m.now) (blank_lent c.requires.3 c.requires.4) c.next_line-reading.ensures.read c.requires.0 (sym c.has_failed.ensures ∙ c.if-has_failed.true) }

pub slice_bounds-open_into-end-2 : goal.slice_bounds-open_into-end-2
slice_bounds-open_into-end-2 c = simp length-take (omega (arith, c.next_line-reading.ensures.used))

pub run-requires : goal.run-requires
run-requires c = (omega (arith, c.requires.0, c.next_line-reading.auto.line), omega (arith, c.requires.1, c.open_into-opening.auto.out))

pub returns-in-Some : goal.returns-in-Some
returns-in-Some c =
    let t = opened_state _ (sym (rw c.has_feed.ensures at c.open_into-opening.ensures.state) ∙ c.in-Some.is) in
    record {
      bound = omega (arith, c.run.ensures.bound, c.open_into-opening.auto.out);
      replayed =
          good_first _ _ c.requires.2 c.requires.1 (λ (s : Numbers). whole s c.args.m.now) (blank_lent c.requires.3 c.requires.4) c.next_line-reading.ensures.read c.requires.0 t.1
          (ap (λ (s : Numbers). whole s c.args.m.now) t.0 ∙ blank_lent c.requires.3 c.requires.4 _) (rw c.has_feed.ensures at c.open_into-opening.ensures.bytes) c.run.ensures.ran;
    }

pub returns-in-None : goal.returns-in-None
returns-in-None c =
    record {
      bound = opened_within _ _ (rw c.has_feed.ensures at c.open_into-opening.ensures.place);
      replayed =
          refused_first _ _ c.requires.2 c.requires.1 (λ (s : Numbers). whole s c.args.m.now) (blank_lent c.requires.3 c.requires.4) c.next_line-reading.ensures.read c.requires.0 (sym c.has_failed.ensures ∙ c.if-has_failed.false)
          (opened_none _ (sym (rw c.has_feed.ensures at c.open_into-opening.ensures.state) ∙ c.in-None.is)) (rw c.has_feed.ensures at c.open_into-opening.ensures.bytes) (rw c.has_feed.ensures at c.open_into-opening.ensures.place);
    }
