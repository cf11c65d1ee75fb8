-- `message::measure` meets its contract: a turn takes the field in front, and what follows it is left.
use Rattle.std.proofs.Common.{refl, sym, ap, ◌∙◌, ◌+◌, ◌-◌, arith, length, length-drop, drop, take}
use Rattle.std.specs.Prelude.{Some, Err}
use Rattle.wire.proofs.Spans.{rest_of}
use Rattle.message.specs.Message.{Content, scan, with_room}
use Rattle.message.proofs.Scan.{longer, some_left, none_left, typed_within, address_within, other_within, malformed, typed, wrong, address, address_long, other, scan_end, longer_none, longer_also, met_none, met_some, none_met, one_met, known_met, unknown_met}
use Rattle.message.proofs.Answers.{passed}
use Rattle.message.proofs.measure.Goals as goal

pub loop-field-init : goal.loop-field-init
loop-field-init c = (length c.args.s.now, 0, refl, omega arith, omega arith, longer_none _)

pub loop-field-preserved-in-Typed : goal.loop-field-preserved-in-Typed
loop-field-preserved-in-Typed c =
    let l = c.loop-field in
    let d = c.in-Some.is ∙ ap Some c.in-Typed.is in
    let z = typed_within l.rest.now c.first_field.ensures d in
    let k = known_met c.in-Typed.value (sym c.try_from.ensures ∙ c.in_ok-try_from-in-Typed.was) in
    rw (rest_of l.rest.now c.in-Typed.n) (
      l.invariant.0 - 1,
      c.in-Typed.value,
      k.1,
      omega (arith, length-drop c.in-Typed.n l.rest.now),
      omega (arith, length-drop c.in-Typed.n l.rest.now),
      ap (λ (x : Content). longer l.size (with_room x)) (sym (typed l.rest.now c.first_field.ensures l.invariant.0 l.invariant.1 l.invariant.3 d k.0)) ∙ l.invariant.5,
    )

pub loop-field-preserved-in-Address : goal.loop-field-preserved-in-Address
loop-field-preserved-in-Address c =
    let l = c.loop-field in
    let s = l.rest.now in
    let b = c.in-Address.start in
    let n = c.in-Address.len in
    let d = c.in-Some.is ∙ ap Some c.in-Address.is in
    let z = address_within s c.first_field.ensures d in
    rw (rest_of s (b + n)) (
      l.invariant.0 - 1,
      l.invariant.1,
      l.invariant.2,
      omega (arith, length-drop (b + n) s),
      omega (arith, length-drop (b + n) s),
      sym (longer_also l.size n (take n (drop b s)) (scan (l.invariant.0 - 1) l.invariant.1 (drop (b + n) s)) (address_long s c.first_field.ensures d))
          ∙ ap (λ (x : Content). longer l.size (with_room x)) (sym (address s c.first_field.ensures l.invariant.0 l.invariant.1 l.invariant.3 d))
          ∙ l.invariant.5,
    )

pub loop-field-preserved : goal.loop-field-preserved
loop-field-preserved c =
    let l = c.loop-field in
    let d = c.in-Some.is ∙ ap Some c.in-Other.is in
    let z = other_within l.rest.now c.first_field.ensures d in
    rw (rest_of l.rest.now c.in-Other.n) (
      l.invariant.0 - 1,
      l.invariant.1,
      l.invariant.2,
      omega (arith, length-drop c.in-Other.n l.rest.now),
      omega (arith, length-drop c.in-Other.n l.rest.now),
      ap (λ (x : Content). longer l.size (with_room x)) (sym (other l.rest.now c.first_field.ensures l.invariant.0 l.invariant.1 l.invariant.3 d)) ∙ l.invariant.5,
    )

pub returns-then-not-is_empty : goal.returns-then-not-is_empty
returns-then-not-is_empty c =
    let l = c.loop-field in
    let some = some_left (length l.rest.now) c.is_empty.ensures c.if-not-is_empty.true in
    ap (λ (x : Content). longer l.size (with_room x)) (sym (malformed l.rest.now c.first_field.ensures l.invariant.0 l.invariant.1 l.invariant.3 c.in_default.is some)) ∙ l.invariant.5

pub returns-in_err-try_from-in-Typed : goal.returns-in_err-try_from-in-Typed
returns-in_err-try_from-in-Typed c =
    let l = c.loop-field in
    let d = c.in-Some.is ∙ ap Some c.in-Typed.is in
    let w = unknown_met c.in-Typed.value (sym c.try_from.ensures ∙ c.in_err-try_from-in-Typed.was) in
    let p = passed c.from_residual.ensures.1 in
    p ∙ rw w.1 (ap (λ (x : Content). longer l.size (with_room x)) (sym (wrong l.rest.now c.first_field.ensures l.invariant.0 l.invariant.1 l.invariant.3 d w.0)) ∙ l.invariant.5)

pub returns-in_err-ok_or : goal.returns-in_err-ok_or
returns-in_err-ok_or c =
    let l = c.loop-field in
    let none = none_left (length l.rest.now) c.is_empty.ensures c.if-not-is_empty.false in
    let o = met_none (sym c.ok_or.ensures.value ∙ c.in_err-ok_or.was) in
    let p = passed c.from_residual-in_err-ok_or.ensures.1 in
    p ∙ ap Err o.1 ∙ sym (none_met l.size l.invariant.1 (l.invariant.2 ∙ o.0)) ∙ ap (λ (x : Content). longer l.size (with_room x)) (sym (scan_end l.rest.now l.invariant.0 l.invariant.1 none)) ∙ l.invariant.5

pub returns : goal.returns
returns c =
    let l = c.loop-field in
    let none = none_left (length l.rest.now) c.is_empty.ensures c.if-not-is_empty.false in
    let o = met_some _ (sym c.ok_or.ensures.value ∙ c.in_ok-ok_or.was) in
    sym (one_met l.size l.invariant.1 (l.invariant.2 ∙ o)) ∙ ap (λ (x : Content). longer l.size (with_room x)) (sym (scan_end l.rest.now l.invariant.0 l.invariant.1 none)) ∙ l.invariant.5
