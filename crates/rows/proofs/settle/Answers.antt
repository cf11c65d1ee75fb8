use Prim.Native.Nat.{◌≤◌, ◌-◌, ◌+◌}
use mathlib.Core.Path.{◌≡◌, ap, ◌∙◌}
use mathlib.Core.List.{List, ◌++◌}
use native.Mathlib.Omega.{arith}
use borrow.Author.Tests.{eq-eqb, ne_eqb}
use lib.ListN.{length, set, take, drop, replicate, length-append, length-take, length-drop, length-replicate}
use Rattle.std.proofs.Common.{ℕ, rules}
use Rattle.rows.specs.Words.{at, no_row, places_of, start_of}
use Rattle.rows.proofs.Words.{table_end, length_places}
use Rattle.rows.proofs.Tables.{cleared, counted}
use Rattle.rows.proofs.settle.Goals as goal

pub returns-then-n-m : goal.returns-then-n-m
returns-then-n-m c =
    let a = c.args in
    let w = a.l.now in
    let ps = places_of (start_of a.table) w in
    let h : (start_of a.table) + 321 ≤ length w = omega (arith, c.told-l, table_end a.table) in
    let e : c.max.result ≡ a.m + (a.n - a.m) = omega (arith, c.max.ensures) in
    let f : a.m + (a.n - a.m) - a.m ≡ a.n - a.m = omega arith in
    let qs = take a.m ps ++ (replicate (a.n - a.m) no_row ++ drop (a.m + (a.n - a.m)) ps) in
    let k : length qs ≡ 64 = simp (length-append, length-take, length-replicate, length-drop) (omega (arith, length_places (start_of a.table) w)) in
    let z = rw (c.place.ensures.0, c.place-2.ensures.0, e) at c.fill.ensures.after (λ y q. search rules) in
    rw (ne_eqb _ _ c.if-n-m.true, c.start_of.ensures.0, c.place.ensures.0, c.place-2.ensures.0, e)
    (ap (λ (ws : List ℕ). set ws (start_of a.table) a.m) (rw f at (cleared (start_of a.table) w h a.m (a.m + (a.n - a.m)) (omega arith) (omega arith) c.fill.new.self z)) ∙ counted (start_of a.table) w h (at w (start_of a.table)) qs k a.m)

pub returns-else-n-m : goal.returns-else-n-m
returns-else-n-m c =
    let a = c.args in
    let w = a.l.now in
    let h : (start_of a.table) + 321 ≤ length w = omega (arith, c.told-l, table_end a.table) in
    let e : c.max.result ≡ a.m + (a.n - a.m) = omega (arith, c.max.ensures) in
    let f : a.m + (a.n - a.m) - a.m ≡ a.n - a.m = omega arith in
    let z = rw (c.place.ensures.0, c.place-2.ensures.0, e) at c.fill.ensures.after (λ y q. search rules) in
    rw (eq-eqb _ _ c.if-n-m.false, c.place.ensures.0, c.place-2.ensures.0, e) (rw f at (cleared (start_of a.table) w h a.m (a.m + (a.n - a.m)) (omega arith) (omega arith) c.fill.new.self z))
