use mathlib.Core.Path.{◌≡◌, ap, ◌∙◌}
use mathlib.Core.List.{List, []}
use Prim.Native.Nat.{ℕ, ◌/◌, ◌+◌, ◌≤◌}
use native.Mathlib.Omega.{arith}
use lib.Dec.{eqb}
use lib.ListN.{length, get_or, take, drop}
use Rattle.std.specs.List.{list_any}
use Rattle.text.proofs.Reading.{part_at, passed_over, rest_before, before_within}
use Rattle.text.proofs.length_before.Goals as goal

pub loop-part-preserved : goal.loop-part-preserved
loop-part-preserved c =
    let s = c.args.text.now in
    let room : c.loop-part.passed + 16 ≤ length s = omega arith in
    let part : get_or c.as_chunks.result.0.now c.loop-part.part-index [] ≡ take 16 (drop c.loop-part.passed s) =
    ap (λ (x : List (List ℕ)). get_or x c.loop-part.part-index []) c.as_chunks.ensures.front ∙ part_at 16 (length s / 16) s c.loop-part.part-index [] (omega arith) ∙ rw c.loop-part.invariant.0
    in (omega arith, room, passed_over _ _ _ c.loop-part.invariant.2 16 room (c.if-contains.ensures.value ∙ ap (list_any (λ b. eqb b c.args.stop)) part))

pub overflow_add-result : goal.overflow_add-result
overflow_add-result c = omega (arith, rest_before _ _ _ c.loop-part.invariant.2 c.bytes_before.ensures, before_within c.args.stop c.args.text.now)

pub returns : goal.returns
returns c = rest_before _ _ _ c.loop-part.invariant.2 c.bytes_before.ensures
