use mathlib.Core.Path.{refl}
use Rattle.prelude.specs.Lists.{count, such}
use Rattle.wire.specs.Frame.{frame_from}
use Rattle.address.specs.Multiaddr.{big_endian, ends_well, has_form, parsed}
use Rattle.address.specs.Words.{global_unicast4, may_be_target}
use Rattle.candidates.specs.Selection.{room, bounded, selected}
use Rattle.time.specs.Time.{plus}
use Rattle.schedule.specs.Instants.{half_of, start_of, upto, instants, count_to}
use Rattle.schedule.specs.Schedule.{ahead, without, times_of, due_of}
use Rattle.worked_examples.proofs.worked_examples.Goals as goal

pub returns : goal.returns
unfolding selected bounded such count room parsed ends_well has_form big_endian may_be_target global_unicast4 plus half_of start_of upto instants count_to ahead without times_of due_of frame_from
returns c =
    record {
      anycast = refl;
      protocol = refl;
      private = refl;
      behind = refl;
      low = refl;
      lowest = refl;
      third = refl;
      fifth = refl;
      half = refl;
      start = refl;
      window = refl;
      two = refl;
      one = refl;
      start_cut = refl;
      window_cut = refl;
      longest = refl;
      over = refl;
    }
