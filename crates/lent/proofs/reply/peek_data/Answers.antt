-- `lent::reply::peek_data` meets its contract: each answer by what the bytes bring.
use mathlib.Core.Path.{ap, ◌∙◌}
use Rattle.std.specs.Prelude.{Some}
use Rattle.lent.proofs.Replies.{peek_more, peek_failed, peek_within, peek_connect, peek_long}
use lib.ListN.{length-take}
use native.Mathlib.Omega.{arith}
use Rattle.lent.proofs.reply.peek_data.Goals as goal

pub returns-in-None : goal.returns-in-None
returns-in-None c =
    let a = c.args in
    peek_failed a.bytes.now a.buffer.now a.count a.terms c.no_list-list.ensures c.peek_reply.ensures.answer c.peek_reply.ensures.stored c.in-None.is c.empty.ensures

pub returns-in-Some-More : goal.returns-in-Some-More
returns-in-Some-More c =
    let a = c.args in
    let d = c.in-Some-More.is ∙ ap Some c.in-Some-More.field-0-is in
    peek_more a.bytes.now a.buffer.now a.count a.terms c.no_list-list.ensures c.peek_reply.ensures.answer c.peek_reply.ensures.stored d c.empty-in-Some-More.ensures

pub slice_bounds-list-end : goal.slice_bounds-list-end
slice_bounds-list-end c =
    let a = c.args in
    let d = c.in-Some-Connect.is ∙ ap Some c.in-Some-Connect.field-0-is in
    omega (arith, peek_within a.bytes.now a.buffer.now a.count a.terms c.no_list-list.ensures c.peek_reply.ensures.answer c.peek_reply.ensures.stored d, peek_long a.bytes.now a.buffer.now a.count a.terms c.no_list-list.ensures c.peek_reply.ensures.answer c.peek_reply.ensures.stored)

pub slice_bounds-targets_from-end : goal.slice_bounds-targets_from-end
slice_bounds-targets_from-end c =
    let a = c.args in
    let d = c.in-Some-Connect.is ∙ ap Some c.in-Some-Connect.field-0-is in
    simp length-take (omega (arith, peek_within a.bytes.now a.buffer.now a.count a.terms c.no_list-list.ensures c.peek_reply.ensures.answer c.peek_reply.ensures.stored d, peek_long a.bytes.now a.buffer.now a.count a.terms c.no_list-list.ensures c.peek_reply.ensures.answer c.peek_reply.ensures.stored))

pub returns-in-Some-Connect : goal.returns-in-Some-Connect
returns-in-Some-Connect c =
    let a = c.args in
    let d = c.in-Some-Connect.is ∙ ap Some c.in-Some-Connect.field-0-is in
    peek_connect a.bytes.now a.buffer.now a.count a.terms c.no_list-list.ensures c.peek_reply.ensures.answer c.peek_reply.ensures.stored d c.targets_from-chosen.ensures
