-- A part is the first of those left, and the rest behind its separator has the others.
use Rattle.std.proofs.Common.{sym, ◌∙◌, [], ◌≡◌, ◌<◌, length, arith, rules, tests}
use lib.ListN.{length-take}
use Rattle.call_table.proofs.Cutting.{parts_none, parts_first, first_within, nearer}
use Rattle.call_table.proofs.PartsIterator.next.Goals as goal

pub returns-then-is_empty-clause-steps : goal.returns-then-is_empty-clause-steps
returns-then-is_empty-clause-steps c =
    let h : length c.self.inside.rest.now ≡ 0 = search (rules, tests) in
    let e : c.args.self.now ≡ [] = sym c.self.view_is ∙ parts_none _ _ h in
    (e, e)

pub overflow_add-end : goal.overflow_add-end
overflow_add-end c = omega (arith, first_within _ _ c.length_before-end.ensures)

pub slice_bounds-result-end : goal.slice_bounds-result-end
slice_bounds-result-end c = omega (arith, first_within _ _ c.length_before-end.ensures, length-take c.length_before-end.result c.self.inside.rest.now)

pub returns-clause-steps : goal.returns-clause-steps
returns-clause-steps c =
    let h : 0 < length c.self.inside.rest.now = search (rules, tests) in
    sym c.self.view_is ∙ parts_first _ _ c.length_before-end.ensures c.min.ensures h

pub returns-clause-goes : goal.returns-clause-goes
returns-clause-goes c =
    let h : 0 < length c.self.inside.rest.now = search (rules, tests) in
    nearer (sym c.self.view_is ∙ parts_first _ _ c.length_before-end.ensures c.min.ensures h)
