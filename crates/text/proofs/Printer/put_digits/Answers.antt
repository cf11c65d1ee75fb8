use mathlib.Core.Path.{refl}
use Rattle.text.proofs.Printing.{digits_more, digits_none, printed_all}
use Rattle.text.proofs.Printer.put_digits.Goals as goal

pub loop-b-init : goal.loop-b-init
loop-b-init c = refl

pub loop-b-preserved : goal.loop-b-preserved
loop-b-preserved c =
    digits_more _ _ _ _ c.args.bytes.now _ c.loop-b-test.true c.digit.ensures c.digit-in-loop-b.ensures c.put_byte.ensures c.put_byte-in-loop-b.ensures c.loop-b.invariant

pub returns : goal.returns
returns c = printed_all _ _ (digits_none c.args.bytes.now _ c.loop-b-test.false) c.loop-b.invariant
