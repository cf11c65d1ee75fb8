use mathlib.Core.Path.{◌∙◌}
use Rattle.library_calls.proofs.Messaging.{encode_shown}
use Rattle.library_calls.proofs.messages.encode.Goals as goal

pub returns : goal.returns
returns c = c.show.ensures ∙ encode_shown _ c.no_bytes-bytes.ensures c.put_varint.ensures c.varint_len-n.ensures
