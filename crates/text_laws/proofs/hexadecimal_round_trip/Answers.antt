use Rattle.text.proofs.Hexadecimal.{bytes_read, bytes_taken, text_of_bytes}
use Rattle.text_laws.proofs.hexadecimal_round_trip.Goals as goal

pub returns : goal.returns
returns c = record { read = bytes_read; taken = bytes_taken; only = text_of_bytes }
