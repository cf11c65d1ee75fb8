use mathlib.Core.Path.{refl}
use Rattle.line_program.specs.Reads.{left, has_line}
use Rattle.line_program.proofs.HandsOver.{kept_none, kept_all, over_all, over_some}
use Rattle.line_program.proofs.hand_over.Goals as goal
use Rattle.line_program.proofs.hand_over.Goals.{then-waiting-eq0-via-then-waiting-eq0, then-waiting-eq0-via-else-waiting-eq0+then-may_stay}

pub returns-then-waiting-eq0 : goal.returns-then-waiting-eq0
returns-then-waiting-eq0 c =
    let kept = has_line (left c.args.block.now c.args.from c.args.until) in
    elim c.then-waiting-eq0.branch [
      | then-waiting-eq0-via-then-waiting-eq0 w ↦ record { bytes = kept_none _ _ _ _ w.if-waiting-eq0.true; written = λ _ _. refl }
      | then-waiting-eq0-via-else-waiting-eq0+then-may_stay w ↦ record { bytes = kept_all c.args.room kept c.args.out.now c.args.waiting w.may_stay.ensures w.if-may_stay.true; written = λ _ _. refl }
    ]

pub returns : goal.returns
returns c = record { bytes = over_all c.args.room (has_line (left c.args.block.now c.args.from c.args.until)) c.args.out.now c.args.waiting c.may_stay.ensures c.if-may_stay.false; written = over_some c.args.room (has_line (left c.args.block.now c.args.from c.args.until)) c.args.out.now c.args.waiting c.may_stay.ensures c.if-may_stay.false c.if-waiting-eq0.false }
