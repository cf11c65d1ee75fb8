use Prim.Native.Nat.{◌≤◌, ◌+◌}
use mathlib.Core.Path.{◌∙◌}
use native.Mathlib.Omega.{arith}
use lib.ListN.{length}
use Rattle.rows.specs.Rows.{marked}
use Rattle.rows.specs.Words.{rows_of, places_of, start_of}
use Rattle.rows.proofs.Words.{table_end, length_places}
use Rattle.rows.proofs.Lists.{marked_≤}
use Rattle.rows.proofs.Moves.{length_filled}
use Rattle.rows.proofs.Tables.{settled}
use Rattle.rows.proofs.retain_marked.Goals as goal

pub returns : goal.returns
returns c =
    let a = c.args in
    let w = a.l.now in
    let rs = rows_of a.table w in
    let xs = marked a.marks rs in
    let h : (start_of a.table) + 321 ≤ length w = omega (arith, c.told-l, table_end a.table) in
    let k : length xs ≤ 64 = omega (arith, marked_≤ a.marks rs, c.used-n.ensures) in
    let g : length xs ≤ length (places_of (start_of a.table) w) = omega (arith, length_places (start_of a.table) w) in
    settled (start_of a.table) w h xs k (record { is = c.pack-m.ensures.words; full = length_filled xs (places_of (start_of a.table) w) g ∙ length_places (start_of a.table) w }) c.used-n.result c.pack-m.result c.used-n.ensures.0 c.pack-m.ensures.count.0 c.settle.ensures
