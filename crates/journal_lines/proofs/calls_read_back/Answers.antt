use Rattle.journal_lines.proofs.Back.{settings_back, start_back, up_back, input_back, tick_back, wrote_back, down_back, dial_back, forget_back, attribute_back}
use Rattle.journal_lines.proofs.calls_read_back.Goals as goal

pub returns : goal.returns
returns c = record { settings = settings_back; start = start_back; up = up_back; input = input_back; tick = tick_back; wrote = wrote_back; down = down_back; dial = dial_back; forget = forget_back; attribute = attribute_back }
