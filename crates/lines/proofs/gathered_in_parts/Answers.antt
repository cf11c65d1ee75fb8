use native.Mathlib.Omega.{arith}
use Rattle.text.proofs.Printing.{in_parts, in_parts_place, fits, full_place}
use Rattle.lines.proofs.gathered_in_parts.Goals as goal

pub returns : goal.returns
returns c = record { joined = in_parts; counted = in_parts_place; whole = λ b s h. fits b s (omega arith); long = full_place }
