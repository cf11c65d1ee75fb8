use Prim.Native.Nat.{◌≤◌, ◌<◌}
use mathlib.Core.Path.{ap, sym, ◌∙◌}
use native.Mathlib.Omega.{arith}
use borrow.Author.Tests.{eq-eqb, ne_eqb}
use lib.ListN.{length}
use Rattle.std.specs.Prelude.{Some}
use Rattle.kinds.specs.Kinds.{entry_of}
use Rattle.rows.specs.Words.{at, no_row, places_of, rows_of, start_of}
use Rattle.rows.proofs.Lists.{find_here, find_on, find_end}
use Rattle.rows.proofs.find.Goals as goal

pub returns-then-key_at-key : goal.returns-then-key_at-key
returns-then-key_at-key c =
    let a = c.args in
    let w = a.l.now in
    let x = c.loop-i in
    let b : x.i < length (rows_of a.table w) = omega arith in
    ap Some (c.entry_of.ensures ∙ ap entry_of c.read.ensures) ∙ sym (x.invariant ∙ find_here a.key (places_of (start_of a.table) w) (at w (start_of a.table)) x.i no_row b (eq-eqb _ _ (sym c.key_at.ensures ∙ c.if-key_at-key.true)))

pub loop-i-preserved : goal.loop-i-preserved
loop-i-preserved c =
    let a = c.args in
    let w = a.l.now in
    let x = c.loop-i in
    let b : x.i < length (rows_of a.table w) = omega arith in
    (x.invariant ∙ find_on a.key (places_of (start_of a.table) w) (at w (start_of a.table)) x.i no_row b (ne_eqb _ _ (λ q. c.if-key_at-key.false (c.key_at.ensures ∙ q))))

pub returns : goal.returns
returns c =
    let a = c.args in
    let b : length (rows_of a.table a.l.now) ≤ c.loop-i.i = omega arith in
    sym (c.loop-i.invariant ∙ find_end a.key (rows_of a.table a.l.now) c.loop-i.i b)
