use mathlib.Core.Path.{sym, ap, ◌∙◌}
use Rattle.std.proofs.Common.{inl, arith, length, Some}
use Rattle.call_table.specs.Tables.{call_from}
use Rattle.call_table.proofs.Calling.{none_left, row_found, row_next, parts_few, begun}
use Rattle.call_table.proofs.call_of.Goals as goal

pub loop-row-init : goal.loop-row-init
loop-row-init c =
    let e = c.into_iter-row-iterator.ensures.into_iter_gives in
    let i = ap (λ r. r.iter) e ∙ c.enumerate-row-items.ensures.source ∙ c.cut.ensures in
    let n = ap (λ r. r.count) e ∙ c.enumerate-row-items.ensures.count in
    let few = parts_few 10 c.args.table.now in
    let l = ap length i in
    (((tt, tt, inl (omega (arith, n, l, few))), tt), omega (arith, n, l, few), begun c.args.table.now c.args.line.now n i)

pub returns-in-Some-try_row : goal.returns-in-Some-try_row
returns-in-Some-try_row c =
    let s = c.in-Some.ensures.steps in
    ap (λ k. Some (record { row = k; words = c.in-Some-try_row.words })) s.1 ∙ row_found _ _ _ c.loop-row.invariant.2 s.0 c.try_row.ensures c.in-Some-try_row.is

pub loop-row-preserved : goal.loop-row-preserved
loop-row-preserved c =
    let s = c.in-Some.ensures.steps in
    let h = c.loop-row.invariant.1 in
    let l = ap length s.0 in
    let n = s.2 in (
      ((tt, tt, inl (omega (arith, l, n, h))), tt),
      omega (arith, l, n, h),
      row_next _ _ _ c.loop-row.invariant.2 s.0 c.try_row.ensures c.in_default.is ∙ ap (λ k. call_from c.args.line.now k c.next.new.self.iter) (sym n),
    )

pub returns : goal.returns
returns c = none_left _ _ _ c.loop-row.invariant.2 c.in-None.ensures.steps.0.0
