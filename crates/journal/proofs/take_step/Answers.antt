use native.Mathlib.Omega.{arith}
use lib.ListN.{length-take}
use mathlib.Core.Path.{sym, ◌∙◌}
use Rattle.journal_calls.specs.Calls.{whole}
use Rattle.journal.proofs.Stepping.{step_made, step_left}
use Rattle.journal.proofs.take_step.Goals as goal

pub slice_bounds-answer-end-then-is_line : goal.slice_bounds-answer-end-then-is_line
slice_bounds-answer-end-then-is_line c = simp length-take (omega (arith, c.next_line-reading.ensures.used))

pub shape_of-block-then-is_line : goal.shape_of-block-then-is_line
shape_of-block-then-is_line c = c.next_line-reading.auto.block

pub returns-then-is_line : goal.returns-then-is_line
returns-then-is_line c =
    let t = step_made c.next_line-reading.result c.next_line-reading.new.block c.next_line-reading.new.line (whole c.args.j c.args.m.now) c.args.reply.now c.args.out.now c.args.waiting (sym c.is_line.ensures ∙ c.if-is_line.true) (c.hand_over-w.ensures.bytes, c.hand_over-w.ensures.written) (rw c.has_feed.ensures at c.answer-end.ensures.journal, (rw c.has_feed.ensures at c.answer-end.ensures.reply, (rw c.has_feed.ensures at c.answer-end.ensures.bytes, (rw c.has_feed.ensures at c.answer-end.ensures.place, rw c.has_feed.ensures at c.answer-end.ensures.whole)))) c.next_line-reading.ensures.read in
    record {
      journal = t.0;
      reply = t.1.0;
      out = t.1.1.0;
      waiting = t.1.1.1.0;
      whole = t.1.1.1.1.0;
      written = t.1.1.1.1.1.0;
      read = t.1.1.1.1.1.1;
    }

pub returns : goal.returns
returns c =
    let t = step_left c.next_line-reading.result c.next_line-reading.new.block c.next_line-reading.new.line (whole c.args.j c.args.m.now) c.args.reply.now c.args.out.now c.args.waiting (sym c.is_line.ensures ∙ c.if-is_line.false) c.next_line-reading.ensures.read in
    record {
      journal = t.0;
      reply = t.1.0;
      out = t.1.1.0;
      waiting = t.1.1.1.0;
      whole = t.1.1.1.1.0;
      written = t.1.1.1.1.1.0;
      read = t.1.1.1.1.1.1;
    }
