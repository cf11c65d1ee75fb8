use mathlib.Core.Path.{◌≡◌, refl, sym, ◌∙◌}
use Rattle.std.proofs.Common.{rules, tests}
use Rattle.std.proofs.lemmas.Iterator.{index_from_first, IsFirst-from_position, YieldsList-from_slice}
use Rattle.text.specs.Words.{length_before}
use Rattle.text.proofs.Reading.{stop_here, stop_later}
use Rattle.text.proofs.bytes_before.Goals as goal

pub returns : goal.returns
unfolding length_before
returns c =
    let stop = c.args.stop in
    let s = c.args.text.now in
    c.unwrap_or.ensures
    ∙ sym (index_from_first (length_before stop) (λ b. b ≡ stop) (λ b. b ≡ stop → ⊥) refl (stop_here stop) (stop_later stop) s c.position.result
    (IsFirst-from_position _ _ _ (λ b. b ≡ stop) (λ b. b ≡ stop → ⊥) c.position.ensures.ran (YieldsList-from_slice s cc) (λ x q k. search (rules, tests)) (λ x q k. search (rules, tests))))
