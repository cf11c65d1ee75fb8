-- `frames::connect_frame` meets its contract: what the encoder answers and leaves in the buffer makes the frame.
use mathlib.Core.Path.{ap, ◌∙◌}
use Prim.Native.Nat.{ℕ}
use Rattle.frames.specs.Sent.{Framed}
use Rattle.frames.proofs.Frames.{connect_made}
use Rattle.frames.proofs.connect_frame.Goals as goal

pub returns : goal.returns
returns c =
    ap {B = Framed} (λ (n : ℕ). record { bytes = c.encode_frame.new.out; len = n }) c.unwrap_or-len.ensures
    ∙ connect_made c.args.own.now c.blank-bytes.ensures c.encode_frame.ensures.answer c.encode_frame.ensures.stored
