-- Whether an entry passes `==`, by what `any` ran over.
use Rattle.std.proofs.Common.{rules, ◌∙◌}
use Rattle.std.proofs.lemmas.Iterator.Consumers.{YieldsList-from_rest}
use Rattle.std.proofs.lemmas.Iterator.Search.{any_from_yields_List}
use Rattle.wire.specs.Lists.{entries}
use Rattle.candidates.specs.Entries.{same_bytes}
use Rattle.candidates.proofs.Answers.{slices_same, contains_is}
use Rattle.candidates.proofs.holds.Goals as goal

pub returns : goal.returns
returns c =
    any_from_yields_List (same_bytes c.args.a.now) _ _ _ c.any.ensures.ran (YieldsList-from_rest (entries c.args.list.now) c.entries.ensures) (λ x b q k. search (rules, slices_same))
    ∙ contains_is c.args.a.now (entries c.args.list.now)
