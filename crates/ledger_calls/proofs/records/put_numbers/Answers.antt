use mathlib.Core.Path.{refl, ap, ◌∙◌}
use native.Mathlib.Omega.{arith}
use Rattle.text.specs.Printed.{page, with_text}
use Rattle.text.proofs.Printing.{printed_all}
use Rattle.ledger_calls.proofs.Numbers.{octets_are, numbers_more, numbers_none}
use Rattle.ledger_calls.proofs.records.put_numbers.Goals as goal

pub loop-v-init : goal.loop-v-init
loop-v-init c = refl

pub loop-v-preserved : goal.loop-v-preserved
loop-v-preserved c =
    let e = c.to_be_bytes.ensures ∙ octets_are _ (omega (arith, c.type_inv.numbers c.loop-v.v-index)) in
    numbers_more _ _ _ c.args.numbers.now _ c.loop-v-test.true (c.put_text.ensures ∙ ap (with_text (page c.loop-v.printer)) e) c.loop-v.invariant

pub returns : goal.returns
returns c = printed_all _ _ (numbers_none c.args.numbers.now _ c.loop-v-test.false) c.loop-v.invariant
