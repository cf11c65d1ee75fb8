-- `frames::own_connect` meets its contract: each answer by the tests on the way and by what the callees ensure.
use Rattle.frames.proofs.Owns.{own_broken, own_within, own_kept}
use Rattle.frames.proofs.own_connect.Goals as goal

pub returns-in-Err : goal.returns-in-Err
returns-in-Err c = own_broken c.args.limits c.args.list.now c.own_punch_candidates.ensures c.in-Err.is c.empty.ensures

pub connect_of-requires : goal.connect_of-requires
connect_of-requires c = own_within c.args.limits c.args.list.now c.own_punch_candidates.ensures c.in-Ok.is

pub returns-in-Ok : goal.returns-in-Ok
returns-in-Ok c = own_kept c.args.limits c.args.list.now c.own_punch_candidates.ensures c.in-Ok.is c.connect_of.ensures
