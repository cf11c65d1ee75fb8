use mathlib.Core.Path.{refl}
use Prim.Native.Nat.{◌+◌, ◌<◌}
use lib.ListN.{length}
use native.Mathlib.Omega.{arith}
use Rattle.forms.specs.Texts.{text, values_in}
use Rattle.forms.proofs.Walk.{choice_fits, next_fits}
use Rattle.forms.proofs.Print.{end, put_run, put_mark, run_fits, marked, literal_not}
use Rattle.forms.proofs.put_form.Goals as goal

pub loop-f-init : goal.loop-f-init
unfolding text values_in
loop-f-init c = (omega arith, omega arith, refl)

pub overflow_add-f : goal.overflow_add-f
overflow_add-f c = omega (arith, run_fits c.args.form.now c.loop-f.f c.put_literals-f.result c.loop-f.invariant.0 c.put_literals-f.ensures.count)

pub returns-then-form-f : goal.returns-then-form-f
returns-then-form-f c =
    let form = c.args.form.now in
    let f = c.loop-f.f in
    let run = put_run c.args.source.now form c.args.words.now f c.loop-f.n _ _ c.loop-f.invariant.2 c.put_literals-f.ensures.count c.put_literals-f.ensures.bytes in
    end c.args.source.now form c.args.words.now (f + c.put_literals-f.result) c.loop-f.n _ _ run c.if-form-f.true

pub overflow_add-c : goal.overflow_add-c
overflow_add-c c = omega (arith, choice_fits c.args.form.now c.kind_of-kind.result (c.loop-f.f + c.put_literals-f.result + 1) (omega arith) c.choice_length.ensures)

pub slice_bounds-put_value-end : goal.slice_bounds-put_value-end
slice_bounds-put_value-end c = omega (arith, choice_fits c.args.form.now c.kind_of-kind.result (c.loop-f.f + c.put_literals-f.result + 1) (omega arith) c.choice_length.ensures)

pub loop-f-preserved : goal.loop-f-preserved
loop-f-preserved c =
    let form = c.args.form.now in
    let f = c.loop-f.f + c.put_literals-f.result in
    let within : f < length form = omega arith in
    let run = put_run c.args.source.now form c.args.words.now c.loop-f.f c.loop-f.n _ _ c.loop-f.invariant.2 c.put_literals-f.ensures.count c.put_literals-f.ensures.bytes in
    let mark = literal_not _ c.kind_of-kind.ensures (marked form c.loop-f.f c.put_literals-f.result c.put_literals-f.ensures.count within) in
    let next = next_fits form c.kind_of-kind.result f within c.choice_length.ensures c.behind_choice-f.ensures in
    let put = put_mark c.args.source.now form c.args.words.now f c.loop-f.n _ _ run within c.kind_of-kind.ensures mark c.choice_length.ensures c.behind_choice-f.ensures c.width_of.ensures c.min-n.ensures c.put_value.ensures in
    (omega (arith, next), omega (arith, c.min-n.ensures), put)
