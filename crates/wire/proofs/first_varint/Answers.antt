-- A varint stands first where a span is found, and its tenth byte is at most 1.
use mathlib.Core.Path.{sym, ◌∙◌}
use Prim.Native.Nat.{◌<◌, ◌≤◌}
use native.Mathlib.Omega.{arith}
use lib.ListN.{get_or}
use Rattle.wire.specs.Varint.{varint_of}
use Rattle.wire.proofs.Spans.{span_found, no_varint, varint_here, varint_large}
use Rattle.wire.proofs.first_varint.Goals as goal
use Rattle.wire.proofs.first_varint.Goals.{Joined-else-n-eq10}

pub bounds-s-9 : goal.bounds-s-9
bounds-s-9 c = omega (arith, span_found c.args.s.now (sym c.span.ensures ∙ c.in_ok-n.was))

pub returns-in_err-n : goal.returns-in_err-n
returns-in_err-n c = c.from_residual.ensures ∙ no_varint c.args.s.now (sym c.span.ensures ∙ c.in_err-n.was)

pub returns-then-s-gt1 : goal.returns-then-s-gt1
unfolding varint_of
returns-then-s-gt1 c = varint_large c.args.s.now (sym c.span.ensures ∙ c.in_ok-n.was) c.if-n-eq10.true c.if-s-gt1.true

-- here the tenth byte, if the span has one, is at most 1
small : (c : Joined-else-n-eq10) → 9 < c.in_ok-n.n → get_or c.args.s.now 9 0 ≤ 1
small c h =
    let f = span_found c.args.s.now (sym c.span.ensures ∙ c.in_ok-n.was) in
    grind arith

pub value-requires : goal.value-requires
value-requires c =
    let f = span_found c.args.s.now (sym c.span.ensures ∙ c.in_ok-n.was) in
    (f.3, f.2, small c)

pub returns : goal.returns
returns c = varint_here c.args.s.now (sym c.span.ensures ∙ c.in_ok-n.was) (small (goal.at.returns c).Joined-else-n-eq10) c.value.ensures
