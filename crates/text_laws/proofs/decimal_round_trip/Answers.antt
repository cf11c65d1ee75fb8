use mathlib.Core.Path.{sym}
use Rattle.text.proofs.Decimal.{number_read, number_text}
use Rattle.text_laws.proofs.decimal_round_trip.Goals as goal

pub returns : goal.returns
returns c = record { read = number_read; only = λ s v e. sym (number_text s e) }
