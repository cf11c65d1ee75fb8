-- The place of the byte that ends the varint, of the first ten.
use mathlib.Core.Path.{◌≡◌, sym, ap, ◌∙◌}
use Rattle.std.proofs.Common.{rules, tests}
use Rattle.std.proofs.lemmas.Iterator.{YieldsList-from_slice, YieldsList-from_take}
use Rattle.std.proofs.lemmas.Iterator.Consumers.{YieldsList-at}
use Rattle.std.proofs.lemmas.Iterator.Search.{position_from_yields_List}
use lib.ListN.{take}
use Rattle.std.specs.List.{position}
use Rattle.wire.proofs.Spans.{ends, one_more, span_at_last}
use Rattle.wire.proofs.span.Goals as goal
use Rattle.wire.proofs.span.Goals.{After-position}

last_is : (c : After-position) → c.position.result ≡ position ends (take 10 c.args.s.now)
last_is c =
    position_from_yields_List ends _ _ c.position.result c.position.ensures.ran
    (YieldsList-from_take 10 (YieldsList-at c.take.ensures.source (YieldsList-from_slice c.args.s.now cc)) c.take.ensures.count)
    (λ x b q k. search (rules, tests))

pub returns-in_err-position : goal.returns-in_err-position
returns-in_err-position c =
    c.from_residual.ensures ∙ ap one_more (sym c.in_err-position.was ∙ last_is (goal.at.returns-in_err-position c).After-position) ∙ span_at_last c.args.s.now

pub returns : goal.returns
returns c = ap one_more (sym c.in_ok-position.was ∙ last_is (goal.at.returns c).After-position) ∙ span_at_last c.args.s.now
