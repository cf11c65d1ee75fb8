use Prim.Native.Nat.{◌≤◌, ◌<◌, ◌+◌}
use mathlib.Core.Path.{◌≡◌, refl, ap, sym, ◌∙◌}
use mathlib.Core.Bool.{Bool, true, false}
use mathlib.Core.List.{List}
use native.Mathlib.Omega.{arith}
use borrow.Author.Tests.{leb-false}
use lib.ListN.{length}
use Rattle.kinds.specs.declared.Row.{Row}
use Rattle.rows.specs.declared.Keep.TheVariants.{Other}
use Rattle.rows.specs.Rows.{marked, keeps_row, without, inserted, crowded}
use Rattle.rows.specs.Words.{at, rows_of, places_of, tabled, filled, start_of}
use Rattle.rows.proofs.Words.{table_end, length_places}
use Rattle.rows.proofs.Lists.{marks_such}
use Rattle.rows.proofs.Moves.{length_filled}
use Rattle.rows.proofs.Tables.{Holds, laid_own, settled}
use Rattle.rows.proofs.Inserts.{between_them}
use Rattle.rows.proofs.Laws.{length_inserted, inserted_fits}
use Rattle.rows.proofs.insert.Goals as goal

pub returns-then-is_crowded : goal.returns-then-is_crowded
returns-then-is_crowded c =
    let a = c.args in
    let w = a.l.now in
    let h : (start_of a.table) + 321 ≤ length w = omega (arith, c.told-l, table_end a.table) in
    let e : crowded a.row.key (rows_of a.table w) ≡ true = sym c.is_crowded.ensures ∙ c.if-is_crowded.true in
    record { answer = rw e refl; words = rw e (sym (laid_own (start_of a.table) w h)) }

pub divide-m-requires : goal.divide-m-requires
divide-m-requires c =
    let a = c.args in
    let rs = rows_of a.table a.l.now in
    let e : crowded a.row.key rs ≡ false = sym c.is_crowded.ensures ∙ c.if-is_crowded.false in
    let q : marked c.marks_of-marks.result rs ≡ without a.row.key rs = ap (λ (ms : List Bool). marked ms rs) c.marks_of-marks.ensures ∙ marks_such (keeps_row (Other a.row.key)) rs in
    omega (arith, leb-false 64 (length (without a.row.key rs)) e, c.pack-n.ensures.count.0 ∙ ap length q)

pub write-requires : goal.write-requires
write-requires c =
    let a = c.args in
    let rs = rows_of a.table a.l.now in
    let e : crowded a.row.key rs ≡ false = sym c.is_crowded.ensures ∙ c.if-is_crowded.false in
    let q : marked c.marks_of-marks.result rs ≡ without a.row.key rs = ap (λ (ms : List Bool). marked ms rs) c.marks_of-marks.ensures ∙ marks_such (keeps_row (Other a.row.key)) rs in
    omega (arith, leb-false 64 (length (without a.row.key rs)) e, c.pack-n.ensures.count.0 ∙ ap length q)

pub bring-requires : goal.bring-requires
bring-requires c =
    let a = c.args in
    let rs = rows_of a.table a.l.now in
    let e : crowded a.row.key rs ≡ false = sym c.is_crowded.ensures ∙ c.if-is_crowded.false in
    let q : marked c.marks_of-marks.result rs ≡ without a.row.key rs = ap (λ (ms : List Bool). marked ms rs) c.marks_of-marks.ensures ∙ marks_such (keeps_row (Other a.row.key)) rs in
    (omega arith, omega (arith, leb-false 64 (length (without a.row.key rs)) e, c.pack-n.ensures.count.0 ∙ ap length q))

pub settle-requires : goal.settle-requires
settle-requires c =
    let a = c.args in
    let rs = rows_of a.table a.l.now in
    let e : crowded a.row.key rs ≡ false = sym c.is_crowded.ensures ∙ c.if-is_crowded.false in
    let q : marked c.marks_of-marks.result rs ≡ without a.row.key rs = ap (λ (ms : List Bool). marked ms rs) c.marks_of-marks.ensures ∙ marks_such (keeps_row (Other a.row.key)) rs in
    (omega arith, omega (arith, leb-false 64 (length (without a.row.key rs)) e, c.pack-n.ensures.count.0 ∙ ap length q))

pub returns : goal.returns
returns c =
    let a = c.args in
    let w = a.l.now in
    let rs = rows_of a.table w in
    let ps = places_of (start_of a.table) w in
    let h : (start_of a.table) + 321 ≤ length w = omega (arith, c.told-l, table_end a.table) in
    let e : crowded a.row.key rs ≡ false = sym c.is_crowded.ensures ∙ c.if-is_crowded.false in
    let q : marked c.marks_of-marks.result rs ≡ without a.row.key rs = ap (λ (ms : List Bool). marked ms rs) c.marks_of-marks.ensures ∙ marks_such (keeps_row (Other a.row.key)) rs in
    let n : c.pack-n.result ≡ length (without a.row.key rs) = c.pack-n.ensures.count.0 ∙ ap length q in
    let f : c.pack-n.result < 64 = omega (arith, leb-false 64 (length (without a.row.key rs)) e) in
    let g : length (without a.row.key rs) ≤ length ps = omega (arith, length_places (start_of a.table) w) in
    let o : Holds (start_of a.table) w _ (filled (without a.row.key rs) ps) = record { is = c.pack-n.ensures.words ∙ ap (λ (xs : List Row). tabled (start_of a.table) (at w (start_of a.table)) (filled xs ps) w) q; full = length_filled (without a.row.key rs) ps g ∙ length_places (start_of a.table) w } in
    let p = between_them (start_of a.table) w h a.row c.pack-n.result c.divide-m.result n f o c.divide-m.ensures.count.0 c.divide-m.ensures.words c.write.ensures c.bring.ensures in
    let m : c.pack-n.result + 1 ≡ length (inserted a.row rs) = omega (arith, length_inserted a.row rs) in
    record { answer = rw e refl; words = rw e (settled (start_of a.table) w h (inserted a.row rs) (inserted_fits a.row rs e) p c.used-before.result (c.pack-n.result + 1) c.used-before.ensures.0 m c.settle.ensures) }
