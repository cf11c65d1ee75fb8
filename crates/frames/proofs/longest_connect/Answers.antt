use mathlib.Core.Path.{refl}
use Rattle.prelude.specs.Lists.{count, such}
use Rattle.wire.specs.Varint.{groups}
use Rattle.wire.specs.Lists.{along, listed}
use Rattle.message.specs.Encoding.{address_fields}
use Rattle.address.specs.Multiaddr.{big_endian, is_name, ends_well, has_form, parsed}
use Rattle.candidates.specs.Entries.{same_bytes, contains}
use Rattle.candidates.specs.Selection.{room, bounded, once, own}
use Rattle.frames.specs.Sent.{own_connect, longest_own}
use Rattle.frames.proofs.longest_connect.Goals as goal

pub returns : goal.returns
unfolding own_connect longest_own own once bounded room such count contains same_bytes parsed has_form ends_well is_name big_endian listed along groups address_fields
returns c = refl
