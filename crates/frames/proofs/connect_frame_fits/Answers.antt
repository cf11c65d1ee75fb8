-- `frames::connect_frame_fits` meets its contract: it is the law `connect_listed`.
use Rattle.frames.proofs.Frames.{connect_listed}
use Rattle.frames.proofs.connect_frame_fits.Goals as goal

pub returns : goal.returns
returns c = connect_listed
