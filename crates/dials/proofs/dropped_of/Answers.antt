use mathlib.Core.Path.{refl, ap, sym, ◌∙◌}
use native.Mathlib.Omega.{arith}
use lib.ListN.{get_or}
use Rattle.std.specs.Prelude.{None, Some}
use Rattle.kinds.specs.declared.Row.{Row}
use Rattle.rows.specs.declared.Table.TheVariants.{Dials}
use Rattle.rows.specs.Words.{rows_of, no_row}
use Rattle.dials.specs.Dials.{fate_at, retired_by, closed_by, abort_with}
use Rattle.dials.proofs.Gathered.{token_given, none_closed, none_yet, gives, gives_none, all_given}
use Rattle.dials.proofs.dropped_of.Goals as goal
use Rattle.dials.proofs.dropped_of.Goals.{in-Stays2, in-Closes}

pub loop-i-init : goal.loop-i-init
loop-i-init c = (none_yet c.empty_column-retired.ensures, none_yet c.empty_column-close.ensures)

pub loop-i-preserved-in_default : goal.loop-i-preserved-in_default
loop-i-preserved-in_default c =
    let fs = c.args.firsts in
    let r = get_or (rows_of Dials c.args.l.now) c.loop-i.i no_row in
    let f = sym (c.fate_at.ensures ∙ ap (λ (r : Row). fate_at c.args.id r (get_or fs c.loop-i.i None)) c.row_at-row.ensures) ∙ c.in_default.is in (
      gives_none c.loop-i.invariant.0 (omega arith) (omega arith) (ap retired_by f),
      gives_none c.loop-i.invariant.1 (omega arith) (omega arith) (ap (closed_by r) f),
    )

pub loop-i-preserved : goal.loop-i-preserved
loop-i-preserved c =
    let fs = c.args.firsts in
    let r = get_or (rows_of Dials c.args.l.now) c.loop-i.i no_row in
    let f = sym (c.fate_at.ensures ∙ ap (λ (r : Row). fate_at c.args.id r (get_or fs c.loop-i.i None)) c.row_at-row.ensures) ∙ c.in-Some.is in
    elim c.match-fate.branch [
      | in-Stays2 w ↦
          rw (w.retired-is, w.close-is, w.push-in-Stays.ensures) (
            gives c.loop-i.invariant.0 (omega arith) (omega arith) (ap retired_by f ∙ token_given c.in-Some.fate w.in-Stays.token w.in-Stays.is) (omega arith),
            gives_none c.loop-i.invariant.1 (omega arith) (omega arith) (ap (closed_by r) f ∙ none_closed r c.in-Some.fate w.in-Stays.token w.in-Stays.is),
          )
      | in-Closes w ↦
          rw (w.retired-is, w.close-is, w.push.ensures, w.push-in-Closes.ensures, c.row_at-row.ensures) (
            gives c.loop-i.invariant.0 (omega arith) (omega arith) (ap retired_by (f ∙ ap Some w.in-Closes.is)) (omega arith),
            gives c.loop-i.invariant.1 (omega arith) (omega arith) (ap (closed_by r) (f ∙ ap Some w.in-Closes.is)) (omega arith),
          )
    ]

pub returns : goal.returns
unfolding abort_with
returns c =
    rw (all_given c.loop-i.invariant.0 (omega arith) (omega arith), all_given c.loop-i.invariant.1 (omega arith) (omega arith)) refl
