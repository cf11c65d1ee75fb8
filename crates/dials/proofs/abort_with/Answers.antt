use Prim.Native.Nat.{◌≤◌}
use mathlib.Core.Path.{◌≡◌, ap, ◌∙◌}
use mathlib.Core.List.{List}
use native.Mathlib.Omega.{arith}
use lib.ListN.{length}
use Rattle.kinds.specs.declared.Row.{Row}
use mathlib.Core.Bool.{Bool}
use Rattle.rows.specs.declared.Table.TheVariants.{Dials}
use Rattle.rows.specs.Rows.{marked}
use Rattle.rows.specs.Words.{rows_of, laid}
use Rattle.rows.proofs.Words.{used_is}
use Rattle.dials.proofs.Staying.{staying_left}
use Rattle.dials.proofs.abort_with.Goals as goal

pub returns-clause-words : goal.returns-clause-words
returns-clause-words c =
    let a = c.args in
    let w = a.l.now in
    let rs = rows_of Dials w in
    let f64 : length a.firsts ≡ 64 = omega arith in
    let h : length rs ≤ length a.firsts = omega (arith, used_is 0 w) in
    c.retain_marked.ensures ∙ ap (λ (xs : List Row). laid Dials xs w) (ap (λ (ms : List Bool). marked ms rs) c.staying_of-marks.ensures ∙ staying_left a.id rs a.firsts h)
