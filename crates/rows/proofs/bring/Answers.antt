use Prim.Native.Nat.{◌≤◌, ◌<◌, ◌+◌}
use mathlib.Core.Path.{◌∙◌}
use native.Mathlib.Omega.{arith}
use lib.ListN.{length, get_or}
use Rattle.rows.specs.Words.{no_row, places_of, brought, start_of}
use Rattle.rows.proofs.Words.{table_end, length_places}
use Rattle.rows.proofs.Moves.{open_length, open_end}
use Rattle.rows.proofs.Tables.{Holds, holds_write, moved_up}
use Rattle.rows.proofs.bring.Goals as goal

pub returns : goal.returns
returns c =
    let a = c.args in
    let w = a.l.now in
    let ps = places_of (start_of a.table) w in
    let n : a.k < length ps = omega (arith, length_places (start_of a.table) w) in
    let h : (start_of a.table) + 321 ≤ length w = omega (arith, c.told-l, table_end a.table) in
    let m : Holds (start_of a.table) w c.copy_within.new.self _ = record { is = rw (c.place.ensures.0, c.place-2.ensures.0, c.place-3.ensures.0) at c.copy_within.ensures.after ∙ moved_up (start_of a.table) w h a.i a.k c.requires.0 c.requires.1; full = open_length ps a.k n a.i c.requires.0 ∙ length_places (start_of a.table) w } in
    (holds_write h m a.i (get_or ps a.k no_row) (brought ps a.i a.k) (rw c.read-row.ensures at c.write.ensures) (open_end ps a.k n a.i c.requires.0)).is
