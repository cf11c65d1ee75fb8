use native.Mathlib.Omega.{arith}
use Rattle.address.proofs.Digits.{address_long, parsed4, parsed6, parsed_other}
use Rattle.address.proofs.parse.Goals as goal

pub number_at-a-requires : goal.number_at-a-requires
number_at-a-requires c = omega (arith, address_long 0x04 4 c.args.s.now c.has_form.ensures c.if-has_form.true)

pub number_at-port-requires : goal.number_at-port-requires
number_at-port-requires c = omega (arith, address_long 0x04 4 c.args.s.now c.has_form.ensures c.if-has_form.true)

pub returns-then-has_form : goal.returns-then-has_form
returns-then-has_form c = parsed4 c.args.s.now c.has_form.ensures c.if-has_form.true c.number_at-a.ensures.value c.number_at-port.ensures.value

pub number_at-h-requires : goal.number_at-h-requires
number_at-h-requires c = omega (arith, address_long 0x29 16 c.args.s.now c.has_form-2.ensures c.if-has_form-2.true)

pub number_at-l-requires : goal.number_at-l-requires
number_at-l-requires c = omega (arith, address_long 0x29 16 c.args.s.now c.has_form-2.ensures c.if-has_form-2.true)

pub number_at-port-requires-then-has_form-2 : goal.number_at-port-requires-then-has_form-2
number_at-port-requires-then-has_form-2 c = omega (arith, address_long 0x29 16 c.args.s.now c.has_form-2.ensures c.if-has_form-2.true)

pub returns-then-has_form-2 : goal.returns-then-has_form-2
returns-then-has_form-2 c = parsed6 c.args.s.now c.has_form.ensures c.if-has_form.false c.has_form-2.ensures c.if-has_form-2.true c.number_at-h.ensures.value c.number_at-l.ensures.value c.number_at-port-then-has_form-2.ensures.value

pub returns : goal.returns
returns c = parsed_other c.args.s.now c.has_form.ensures c.if-has_form.false c.has_form-2.ensures c.if-has_form-2.false
