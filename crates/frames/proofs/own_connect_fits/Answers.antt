-- `frames::own_connect_fits` meets its contract: it is the law `own_fits`, and a number that computes.
use mathlib.Core.Path.{refl}
use Rattle.frames.proofs.Owns.{own_fits}
use Rattle.frames.proofs.own_connect_fits.Goals as goal

pub returns : goal.returns
returns c = record { whole = own_fits; most = refl }
