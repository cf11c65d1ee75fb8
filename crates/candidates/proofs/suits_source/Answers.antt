use Rattle.wire.specs.Lists.{entries}
use Rattle.candidates.proofs.Answers.{suits_peer, suits_own}
use Rattle.candidates.proofs.suits_source.Goals as goal

pub returns-in-Peer : goal.returns-in-Peer
returns-in-Peer c = suits_peer c.args.source (entries c.args.kept.now) c.args.a.now c.args.ip c.in-Peer.is c.eligible.ensures

pub returns-in-Own : goal.returns-in-Own
returns-in-Own c = suits_own c.args.source (entries c.args.kept.now) c.args.a.now c.args.ip c.in-Own.is c.holds.ensures
