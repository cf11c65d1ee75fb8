use mathlib.Core.Path.{◌≡◌, refl, ap, ◌∙◌}
use native.Mathlib.Omega.{arith}
use lib.ListN.{get_or}
use Rattle.rows.specs.declared.Table.TheVariants.{Dials}
use Rattle.rows.specs.Words.{rows_of, no_row}
use Rattle.rows.proofs.Lists.{map_more, map_all}
use Rattle.dials.specs.Dials.{asked_of}
use Rattle.live_dials.specs.Asking.{asked_rows}
use Rattle.live_dials.proofs.asked_rows.Goals as goal

pub loop-k-init : goal.loop-k-init
loop-k-init c = refl

pub loop-k-preserved : goal.loop-k-preserved
loop-k-preserved c =
    let g = c.args in
    let x = c.loop-k in
    let rs = rows_of Dials g.l.now in
    let e : c.asked_of.result ≡ asked_of g.target (get_or rs x.k no_row) = c.asked_of.ensures ∙ ap (asked_of g.target) c.row_at.ensures in
    rw (x.invariant, e) (map_more (asked_of g.target) g.target rs x.k no_row (omega arith) (omega arith))

pub returns : goal.returns
unfolding asked_rows
returns c =
    let g = c.args in
    let x = c.loop-k in
    x.invariant ∙ map_all (asked_of g.target) g.target (rows_of Dials g.l.now) x.k (omega arith)
