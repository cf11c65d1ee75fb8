use mathlib.Core.Path.{ap, ◌∙◌}
use Rattle.wire.specs.Lists.{entries}
use Rattle.candidates.specs.Selection.{held, answered}
use Rattle.candidates.proofs.Passes.{peer_is}
use Rattle.candidates.proofs.select_punch_candidates.Goals as goal

pub returns : goal.returns
returns c = c.chosen_from.ensures ∙ ap (answered c.args.list.now) (peer_is (held c.args.terms.limits) c.args.terms.private (entries c.args.list.now))
