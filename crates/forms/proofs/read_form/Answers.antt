use mathlib.Core.Path.{refl, ap, sym, ◌∙◌}
use Prim.Native.Nat.{◌+◌}
use native.Mathlib.Omega.{arith}
use Rattle.text.proofs.Printing.{laid, laid_none}
use Rattle.forms.specs.Forms.{is_good}
use Rattle.forms.proofs.Walk.{begin, literal, value_fits, choice_fits, next_fits, unread, cut_off, other_byte, same_byte, bad_value, bad_stored, good_value, put, finished}
use Rattle.forms.proofs.read_form.Goals.{then-line-i-via-then-line-i, then-line-i-via-else-line-i+then-line-i-2}
use Rattle.forms.proofs.read_form.Goals as goal

pub loop-f-init : goal.loop-f-init
loop-f-init c = (omega arith, omega arith, begin _ _ _, refl)

pub returns-then-line-i : goal.returns-then-line-i
returns-then-line-i c =
    let test = c.loop-f-test.true in
    let byte = (literal _ c.is_literal.ensures c.kind_of-kind.ensures c.if-is_literal.true) in
    let t = unread _ _ _ _ (elim c.then-line-i.branch [ then-line-i-via-then-line-i w ↦ cut_off c.loop-f.invariant.2 test byte w.if-line-i.true | then-line-i-via-else-line-i+then-line-i-2 w ↦ other_byte c.loop-f.invariant.2 test byte w.if-line-i.false w.if-line-i-2.true ]) c.loop-f.invariant.2.stored in
    record { good = t.0; words = t.1 }

pub loop-f-preserved-then-is_literal : goal.loop-f-preserved-then-is_literal
loop-f-preserved-then-is_literal c = (omega arith, omega arith, same_byte c.loop-f.invariant.2 c.loop-f-test.true (literal _ c.is_literal.ensures c.kind_of-kind.ensures c.if-is_literal.true) (omega arith) c.if-line-i-2.false, c.loop-f.invariant.3)

pub overflow_add-e : goal.overflow_add-e
overflow_add-e c = omega (arith, value_fits c.args.line.now c.loop-f.i c.loop-f.invariant.1 c.length_before.ensures)

pub overflow_add-c : goal.overflow_add-c
overflow_add-c c = omega (arith, choice_fits c.args.form.now c.kind_of-kind.result (c.loop-f.f + 1) (omega arith) c.choice_length.ensures)

pub slice_bounds-value_words-end : goal.slice_bounds-value_words-end
slice_bounds-value_words-end c = omega (arith, choice_fits c.args.form.now c.kind_of-kind.result (c.loop-f.f + 1) (omega arith) c.choice_length.ensures)

pub slice_bounds-value_words-end-in-loop-f : goal.slice_bounds-value_words-end-in-loop-f
slice_bounds-value_words-end-in-loop-f c = omega (arith, value_fits c.args.line.now c.loop-f.i c.loop-f.invariant.1 c.length_before.ensures)

pub returns-in_default : goal.returns-in_default
returns-in_default c =
    let test = c.loop-f-test.true in
    let mark = (sym c.is_literal.ensures ∙ c.if-is_literal.false) in
    let bad = bad_value c.loop-f.invariant.2 test c.kind_of-kind.ensures mark c.loop-f.invariant.1 c.length_before.ensures c.choice_length.ensures c.value_words.ensures (ap is_good c.in_default.is) in
    let none = bad_stored c.loop-f.invariant.2 test c.kind_of-kind.ensures mark c.loop-f.invariant.1 c.length_before.ensures c.choice_length.ensures c.value_words.ensures (put c.in_default.is (laid_none _ _)) in
    let t = unread _ _ _ _ bad none in
    record { good = t.0; words = t.1 }

pub loop-f-smaller : goal.loop-f-smaller
loop-f-smaller c = omega (arith, next_fits c.args.form.now c.kind_of-kind.result c.loop-f.f c.loop-f-test.true c.choice_length.ensures c.behind_choice-f.ensures)

pub loop-f-preserved : goal.loop-f-preserved
loop-f-preserved c =
    let test = c.loop-f-test.true in
    let mark = (sym c.is_literal.ensures ∙ c.if-is_literal.false) in
    let words = put c.in-Some.is (laid _ _ _ (c.put_words-n.ensures.bytes, c.put_words-n.ensures.place)) in (
      omega (arith, next_fits c.args.form.now c.kind_of-kind.result c.loop-f.f test c.choice_length.ensures c.behind_choice-f.ensures),
      omega (arith, value_fits c.args.line.now c.loop-f.i c.loop-f.invariant.1 c.length_before.ensures),
      good_value c.loop-f.invariant.2 test c.kind_of-kind.ensures mark c.loop-f.invariant.1 c.length_before.ensures c.choice_length.ensures c.value_words.ensures (ap is_good c.in-Some.is) c.behind_choice-f.ensures words,
      c.put_words-n.auto.got ∙ c.loop-f.invariant.3,
    )

pub returns : goal.returns
returns c = let t = finished c.loop-f.invariant.2 c.loop-f-test.false c.loop-f.invariant.1 in record { good = t.0; words = t.1 }
