use Prim.Native.Nat.{◌≤◌}
use mathlib.Core.Path.{◌≡◌, ◌∙◌}
use mathlib.Core.Bool.{false, cond}
use mathlib.Core.List.{map}
use native.Mathlib.Omega.{arith}
use Rattle.std.specs.Prelude.{None}
use lib.Dec.{ltb}
use lib.ListN.{length, length-map, get_or}
use Rattle.std.proofs.Common.{rules, tests}
use Rattle.rows.specs.declared.Table.TheVariants.{Dials}
use Rattle.rows.specs.Words.{rows_of, no_row}
use Rattle.dials.specs.Dials.{staying, pairs}
use Rattle.rows.proofs.Arrays.{made_padded}
use Rattle.dials.proofs.Each.{length_pairs}
use Rattle.dials.proofs.Staying.{stays_of, mark_place}
use Rattle.dials.proofs.staying_of.Goals as goal

pub returns : goal.returns
unfolding staying
returns c =
    let a = c.args in
    let rs = rows_of Dials a.l.now in
    let fs = a.firsts in
    let h : length rs ≤ length fs = omega arith in
    let n : length (map (stays_of a.id) (pairs rs fs)) ≤ 64 = simp length-map (omega (arith, length_pairs rs fs h)) in
    made_padded false (map (stays_of a.id) (pairs rs fs)) _ c.from_fn.result 64 n c.from_fn.ensures.items (λ i y q l k.
    let s : y ≡ cond (ltb i c.used-n.result) (stays_of a.id (get_or rs i no_row, get_or fs i None)) false = search (rules, tests) in
    (search rules, s ∙ mark_place a.id rs fs i c.used-n.result (omega arith) h))
