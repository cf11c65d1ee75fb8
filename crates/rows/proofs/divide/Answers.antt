use Prim.Native.Nat.{◌≤◌, ◌<◌, ◌+◌}
use mathlib.Core.Path.{◌≡◌, refl, ap, sym, subst, ◌∙◌}
use mathlib.Core.Bool.{true, false}
use mathlib.Core.List.{List}
use native.Mathlib.Omega.{arith}
use borrow.Author.Tests.{lt-ltb, le-ltb}
use lib.ListN.{length, get_or, take}
use lib.Dec.{ltb}
use Rattle.prelude.specs.Lists.{such}
use Rattle.kinds.specs.declared.Row.{Row}
use Rattle.rows.specs.declared.Keep.TheVariants.{Below}
use Rattle.rows.specs.Rows.{kept}
use Rattle.rows.specs.Words.{no_row, places_of, brought, divided, start_of}
use Rattle.rows.proofs.Words.{table_end, length_places}
use Rattle.rows.proofs.Moves.{brought_self, divide_none, divide_length, divide_read, divide_below, divide_above, count_below, count_above}
use Rattle.rows.proofs.Tables.{Holds, holds_start, holds_row, holds_next}
use Rattle.rows.proofs.divide.Goals as goal
use Rattle.rows.proofs.divide.Goals.{then-key_at-key, then-m-i, else-m-i, else-key_at-key}

pub loop-i-init : goal.loop-i-init
unfolding such
loop-i-init c =
    let a = c.args in
    let w = a.l.now in
    (omega arith, refl, subst (Holds (start_of a.table) w w) (sym (divide_none a.key (places_of (start_of a.table) w))) (holds_start (omega (arith, c.told-l, table_end a.table))))

pub loop-i-preserved : goal.loop-i-preserved
loop-i-preserved c =
    let a = c.args in
    let w = a.l.now in
    let x = c.loop-i in
    let ps = places_of (start_of a.table) w in
    let h : (start_of a.table) + 321 ≤ length w = omega (arith, c.told-l, table_end a.table) in
    let p : x.i < length ps = omega (arith, length_places (start_of a.table) w) in
    let e = c.key_at.ensures ∙ ap (λ (r : Row). r.key) (holds_row h x.invariant.2 x.i ∙ divide_read a.key ps x.i p) in
    elim c.if-key_at-key.branch [
      | then-key_at-key b ↦
          let t : ltb (get_or ps x.i no_row).key a.key ≡ true = lt-ltb (get_or ps x.i no_row).key a.key (omega (arith, b.if-key_at-key.true)) in
          let d : x.i < length (divided a.key x.i ps) = omega (arith, divide_length a.key ps x.i (omega arith)) in
          elim b.if-m-i.branch [
            | then-m-i v ↦
                let g : brought (divided a.key x.i ps) x.m x.i ≡ divided a.key (x.i + 1) ps = rw x.invariant.1 (sym (divide_below a.key ps x.i p t)) in
                rw (b.l-is, b.m-is, v.l-is) (omega arith, omega (arith, count_below a.key ps x.i p t), holds_next h x.invariant.2 (λ (xs : List Row). brought xs x.m x.i) (divided a.key (x.i + 1) ps) v.bring.ensures g (divide_length a.key ps (x.i + 1) (omega arith) ∙ length_places (start_of a.table) w))
            | else-m-i v ↦
                let s : length (kept (Below a.key) (take x.i ps)) ≡ x.i = omega arith in
                let g : divided a.key (x.i + 1) ps ≡ divided a.key x.i ps = divide_below a.key ps x.i p t ∙ rw s (brought_self (divided a.key x.i ps) x.i d) in
                rw (b.l-is, b.m-is, v.l-is) (omega arith, omega (arith, count_below a.key ps x.i p t), rw g x.invariant.2)
          ]
      | else-key_at-key b ↦
          let t : ltb (get_or ps x.i no_row).key a.key ≡ false = le-ltb (get_or ps x.i no_row).key a.key (omega (arith, b.if-key_at-key.false)) in
          rw (b.l-is, b.m-is) (omega arith, omega (arith, count_above a.key ps x.i p t), rw (divide_above a.key ps x.i p t) x.invariant.2)
    ]

pub returns : goal.returns
returns c =
    let x = c.loop-i in
    let s : x.i ≡ c.args.n = omega arith in
    record { count = (rw s at x.invariant.1, omega arith); words = rw s at x.invariant.2.is }
