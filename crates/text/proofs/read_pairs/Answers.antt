use mathlib.Core.Path.{◌≡◌, refl}
use mathlib.Core.List.{[], ◌∷◌}
use Prim.Native.Nat.{◌+◌, ◌*◌, ◌/◌, ◌<◌}
use lib.ListN.{length}
use native.Mathlib.Omega.{arith}
use Rattle.text.proofs.Printing.{printed_on, printed_all, high_digit, low_digit, pair_none, pair_wrong, pair_read}
use Rattle.text.proofs.read_pairs.Goals as goal

pub loop-a-init : goal.loop-a-init
loop-a-init c = refl

pub loop-a-preserved : goal.loop-a-preserved
loop-a-preserved c =
    let s = c.args.text.now in
    let within : c.loop-a.a-index < length s / 2 = omega arith in
    let high = high_digit s _ c.loop-a.a-index [] c.as_chunks.ensures.front within c.digit_value-high.ensures in
    let low = low_digit s _ c.loop-a.a-index [] c.as_chunks.ensures.front within c.digit_value-low.ensures in
    let next : (c.loop-a.a-index + 1) * 2 ≡ c.loop-a.a-index * 2 + 2 = omega arith in
    rw next (printed_on _ _ _ (_ ∷ []) _ (pair_read s _ (omega arith) high (omega arith) low (omega arith)) c.put_byte.ensures c.loop-a.invariant)

pub returns-after-loop-a : goal.returns-after-loop-a
returns-after-loop-a c = printed_all _ _ (pair_none c.args.text.now _ (omega arith)) c.loop-a.invariant

pub returns-then-max-ge16 : goal.returns-then-max-ge16
returns-then-max-ge16 c =
    let s = c.args.text.now in
    let within : c.loop-a.a-index < length s / 2 = omega arith in
    let high = high_digit s _ c.loop-a.a-index [] c.as_chunks.ensures.front within c.digit_value-high.ensures in
    let low = low_digit s _ c.loop-a.a-index [] c.as_chunks.ensures.front within c.digit_value-low.ensures in
    printed_all _ _ (pair_wrong s _ (omega arith) high low (omega arith)) c.loop-a.invariant
