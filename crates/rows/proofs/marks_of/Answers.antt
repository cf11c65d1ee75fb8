use Prim.Native.Nat.{◌<◌}
use mathlib.Core.Path.{◌≡◌, refl, ap, sym, ◌∙◌}
use mathlib.Core.Bool.{false}
use native.Mathlib.Omega.{arith}
use lib.ListN.{length, get_or}
use lib.Seq.{get_or-take}
use Rattle.rows.specs.Rows.{keeps_row, marks_by}
use Rattle.rows.specs.Words.{at, no_row, places_of, rows_of, start_of}
use Rattle.rows.proofs.Lists.{map_more, map_all}
use Rattle.rows.proofs.Words.{used_is}
use Rattle.rows.proofs.marks_of.Goals as goal

pub loop-i-init : goal.loop-i-init
loop-i-init c = refl

pub loop-i-preserved : goal.loop-i-preserved
loop-i-preserved c =
    let a = c.args in
    let w = a.l.now in
    let b = start_of a.table in
    let x = c.loop-i in
    let rs = rows_of a.table w in
    let h : x.i < length rs = omega arith in
    let k : x.i < at w b = omega (arith, used_is b w) in
    let e : c.keeps.result ≡ keeps_row a.keep (get_or rs x.i no_row) = c.keeps.ensures ∙ ap (keeps_row a.keep) (c.read.ensures ∙ sym (get_or-take (at w b) (places_of b w) x.i no_row k)) in
    rw (x.invariant, e) (map_more (keeps_row a.keep) false rs x.i no_row h (omega (arith, used_is b w)))

pub returns : goal.returns
unfolding marks_by
returns c =
    let a = c.args in
    let x = c.loop-i in
    x.invariant ∙ map_all (keeps_row a.keep) false (rows_of a.table a.l.now) x.i (omega arith)
