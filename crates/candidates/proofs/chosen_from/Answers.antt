use mathlib.Core.Path.{ap, ◌∙◌}
use mathlib.Core.List.{[], foldl}
use native.Mathlib.Omega.{arith}
use Rattle.wire.specs.Lists.{entries, listed}
use Rattle.candidates.specs.Selection.{packed}
use Rattle.candidates.specs.OnePass.{kept_from}
use Rattle.candidates.specs.declared.Limits.{Limits}
use Rattle.candidates.proofs.Answers.{held_small, answer_refused, answer_kept}
use Rattle.candidates.proofs.chosen_from.Goals as goal

pub returns-then-is_broken : goal.returns-then-is_broken
returns-then-is_broken c = answer_refused c.args.list.now _ c.is_broken.ensures c.if-is_broken.true

pub choose-requires : goal.choose-requires
choose-requires c = omega (arith, ap (λ (l : Limits). l.total) c.held.ensures, held_small c.args.l)

pub returns : goal.returns
returns c = answer_kept c.args.list.now _ c.is_broken.ensures c.if-is_broken.false (c.choose.ensures ∙ ap (λ (l : Limits). packed (listed (foldl (kept_from l c.args.source) [] (entries c.args.list.now)))) c.held.ensures)
