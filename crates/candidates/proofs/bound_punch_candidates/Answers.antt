use mathlib.Core.Path.{ap, ◌∙◌}
use Rattle.wire.specs.Lists.{entries}
use Rattle.candidates.specs.Selection.{held, answered}
use Rattle.candidates.proofs.Passes.{any_is}
use Rattle.candidates.proofs.bound_punch_candidates.Goals as goal

pub returns : goal.returns
returns c = c.chosen_from.ensures ∙ ap (answered c.args.list.now) (any_is (held c.args.limits) (entries c.args.list.now))
