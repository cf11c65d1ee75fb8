-- `candidates::wanted` meets its contract: each answer by what the bytes are and by the tests on the way.
use mathlib.Core.Path.{◌∙◌}
use Rattle.wire.specs.Lists.{entries}
use Rattle.candidates.proofs.Answers.{wanted_other, wanted_not, wanted_room}
use Rattle.candidates.proofs.wanted.Goals as goal

pub returns-then-suits_source : goal.returns-then-suits_source
returns-then-suits_source c = wanted_room c.args.l c.args.source (entries c.args.kept.now) c.args.a.now c.parse.ensures c.in-Some.is c.suits_source.ensures c.if-suits_source.true c.tally_all.ensures c.room_for.ensures

pub returns-in-None : goal.returns-in-None
returns-in-None c = wanted_other c.args.l c.args.source (entries c.args.kept.now) c.args.a.now c.parse.ensures c.in-None.is

pub returns-else-suits_source : goal.returns-else-suits_source
returns-else-suits_source c = c.if-suits_source.false ∙ wanted_not c.args.l c.args.source (entries c.args.kept.now) c.args.a.now c.parse.ensures c.in-Some.is c.suits_source.ensures c.if-suits_source.false
