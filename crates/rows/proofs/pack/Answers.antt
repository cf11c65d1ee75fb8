use Prim.Native.Nat.{◌≤◌, ◌<◌, ◌+◌}
use mathlib.Core.Path.{◌≡◌, refl, subst, ◌∙◌}
use mathlib.Core.List.{[], ◌∷◌, ◌++◌}
use native.Mathlib.Omega.{arith}
use lib.ListN.{length, get_or, take, length-append}
use Rattle.rows.specs.Rows.{marked}
use Rattle.rows.specs.Words.{at, no_row, places_of, rows_of, filled, start_of}
use Rattle.rows.proofs.Words.{table_end, length_places}
use Rattle.rows.proofs.Lists.{marked_more, marked_skip, marked_all}
use Rattle.rows.proofs.Moves.{fill_read, fill_more, fill_same}
use Rattle.rows.proofs.Tables.{Holds, holds_start, holds_row, holds_write}
use Rattle.rows.proofs.pack.Goals as goal
use Rattle.rows.proofs.pack.Goals.{then-marks-i, then-m-i, else-m-i, else-marks-i}

pub loop-i-init : goal.loop-i-init
unfolding marked
loop-i-init c = (omega arith, refl, holds_start (omega (arith, c.told-l, table_end c.args.table)))

pub loop-i-preserved : goal.loop-i-preserved
loop-i-preserved c =
    let a = c.args in
    let w = a.l.now in
    let x = c.loop-i in
    let ps = places_of (start_of a.table) w in
    let xs = marked (take x.i a.marks) (take x.i (rows_of a.table w)) in
    let h : (start_of a.table) + 321 ≤ length w = omega (arith, c.told-l, table_end a.table) in
    let p : x.i < length ps = omega (arith, length_places (start_of a.table) w) in
    let r : x.i < length (rows_of a.table w) = omega arith in
    elim c.if-marks-i.branch [
      | then-marks-i u ↦
          let q = marked_more a.marks ps (at w (start_of a.table)) x.i no_row r u.if-marks-i.true in
          let l : length xs ≤ length ps = omega arith in
          elim u.if-m-i.branch [
            | then-m-i v ↦
                let e : v.read.result ≡ get_or ps x.i no_row = v.read.ensures ∙ holds_row h x.invariant.2 x.i ∙ fill_read xs ps l x.i (omega arith) in
                rw (u.m-is, u.l-is, v.l-is, q) (omega arith, simp length-append (omega arith), holds_write h x.invariant.2 x.m (get_or ps x.i no_row) (filled (xs ++ (get_or ps x.i no_row ∷ [])) ps) (rw e at v.write.ensures) (fill_more xs ps l (get_or ps x.i no_row) x.m x.invariant.1 (omega arith)))
            | else-m-i v ↦
                let z : x.i ≡ length xs = omega arith in
                rw (u.m-is, u.l-is, v.l-is, q) (omega arith, simp length-append (omega arith), subst (Holds (start_of a.table) w x.l) (fill_same xs ps l x.i z p) x.invariant.2)
          ]
      | else-marks-i u ↦
          let q = marked_skip a.marks ps (at w (start_of a.table)) x.i no_row r u.if-marks-i.false in
          rw (u.m-is, u.l-is, q) (omega arith, x.invariant.1, x.invariant.2)
    ]

pub returns : goal.returns
returns c =
    let a = c.args in
    let w = a.l.now in
    let x = c.loop-i in
    let rs = rows_of a.table w in
    let q = marked_all a.marks rs x.i (omega arith) in
    record { count = (rw q at x.invariant.1, omega (arith, c.used-n.ensures)); words = rw q at x.invariant.2.is }
