use native.Mathlib.Omega.{arith}
use Rattle.text.proofs.Reading.{digit_at}
use Rattle.text.proofs.Printing.{converted_more, converted_all}
use Rattle.text.proofs.convert.Goals as goal

pub overflow_mul-part : goal.overflow_mul-part
overflow_mul-part c = omega (arith, digit_at _ _ c.requires.0 (omega arith) c.digit_value.ensures)

pub overflow_add-part : goal.overflow_add-part
overflow_add-part c = omega (arith, digit_at _ _ c.requires.0 (omega arith) c.digit_value.ensures, digit_at _ _ c.requires.0 (omega arith) c.digit_value-in-loop-i.ensures)

pub loop-i-preserved : goal.loop-i-preserved
loop-i-preserved c =
    let high = digit_at _ _ c.requires.0 (omega arith) c.digit_value.ensures in
    let low = digit_at _ _ c.requires.0 (omega arith) c.digit_value-in-loop-i.ensures in
    converted_more _ _ _ (omega arith) (omega arith) c.digit_value.ensures high c.digit_value-in-loop-i.ensures low c.loop-i.invariant

pub returns : goal.returns
returns c = converted_all _ _ _ (omega arith) (omega arith) c.loop-i.invariant
