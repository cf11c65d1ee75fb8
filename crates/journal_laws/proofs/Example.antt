-- The worked example, computed from its text to what it prints. Assumes nothing.
use mathlib.Core.Path.{◌≡◌, refl}
use mathlib.Core.List.{[]}
use Rattle.prelude.specs.Lists.{count, such}
use Rattle.time.specs.Time.{plus}
use Rattle.text.specs.Decimal.{digits_from, decimal_of, digits_of}
use Rattle.text.specs.Hexadecimal.{is_hexadecimal, bytes_of, hexadecimal}
use Rattle.text.specs.Words.{ascii, begins, is_word, length_before}
use Rattle.forms.specs.Forms as forms
use Rattle.forms.specs.Texts.{text, text_from, value_text}
use Rattle.forms.specs.Tables.{said}
use Rattle.budget.specs.Budget.{armed, may_begin, one_more, begun, with_exchange, ended, window_end, upgrade_due, due_at, next_deadline}
use Rattle.schedule.specs.Instants.{half_of, start_of, upto, instants, count_to}
use Rattle.schedule.specs.Schedule.{ahead, without, times_of, due_of, opened_of}
use Rattle.wire.specs.Frame.{frame_from}
use Rattle.wire.specs.Varint.{value_of, span_of, varint_of, groups}
use Rattle.wire.specs.Lists.{along, listed}
use Rattle.protobuf.specs.Fields.{field_of}
use Rattle.message.specs.Message.{scan}
use Rattle.message.specs.Encoding.{address_fields}
use Rattle.frames.specs.Gathering.{gathering}
use Rattle.frames.specs.Sent.{sync_frame, own_connect}
use Rattle.address.specs.Multiaddr.{big_endian, ends_well, has_form, parsed}
use Rattle.address.specs.Words.{global_unicast4, may_be_target}
use Rattle.candidates.specs.Selection.{selected, bounded, room, once, own}
use Rattle.ledger.specs.Ledger.{empty_ledger, refuses_punches}
use Rattle.circuit.specs.State.{in_phase, exchanging_of, punching_of}
use Rattle.circuit.specs.Decisions.{event_of, silence, reset_of, burst_of, sending_of, decided_of, quiet_of}
use Rattle.checks.specs.Refusals.{in_use, check_of}
use Rattle.rounds.specs.Rounds.{is_live, open_round}
use Rattle.upgrade.specs.Ticks.{tick_punching}
use Rattle.upgrade.specs.Ups.{announced, connected_of, up_at}
use Rattle.inputs.specs.Inputs.{closing, in_exchange, write_of, first_input, round_trip, window_of, open_window, exchange_input, awaits_in}
use Rattle.lent.specs.Brought.{brought_by}
use Rattle.lent.specs.Replies.{targets_from, peeked_of}
use Rattle.circuit.specs.Decisions.{length_of}
use Rattle.carried.specs.Carried.{sent_after, ledger_after, opens, connect_after, framed_by, targets_after}
use Rattle.circuit.specs.Calls.{begun_of, started_of}
use Rattle.lent.specs.Calls.{up_in, up_of, tick_in, tick_of, hearing, input_in, input_of, buffer_after}
use Rattle.journal_prints.specs.Outputs.{with_commas, targets_text}
use Rattle.journal_text.specs.Texts.{first_of, opened, line_text}
use Rattle.journal_text.specs.Journals.{cut, lines_text, opening, journal_text}
use Rattle.journal_laws.specs.Example.{input, printed}
use Rattle.schedule.specs.Schedule as schedule
use Rattle.journal_lines.specs.Lines as line
use Rattle.journal_effects.specs.Effects as effects
use Rattle.journal_calls.specs.Calls as calls
use Rattle.journal_turns.specs.Turns as turns

pub example : journal_text input ≡ printed
unfolding plus digits_from decimal_of digits_of is_hexadecimal bytes_of hexadecimal begins is_word length_before forms.kind_of forms.split forms.on_first forms.maybe_words forms.pair_words forms.which_word forms.words_of forms.read_from forms.read_form text text_from value_text said armed may_begin one_more begun with_exchange ended window_end upgrade_due due_at next_deadline half_of start_of upto instants count count_to ahead without times_of due_of opened_of schedule.window_of frame_from value_of span_of varint_of groups along listed field_of scan address_fields gathering sync_frame own_connect big_endian ends_well has_form parsed global_unicast4 may_be_target such selected bounded room once own empty_ledger refuses_punches in_phase exchanging_of punching_of event_of silence reset_of burst_of sending_of decided_of quiet_of in_use check_of is_live open_round tick_punching announced connected_of up_at closing in_exchange write_of first_input round_trip window_of open_window exchange_input awaits_in brought_by targets_from peeked_of length_of sent_after ledger_after opens connect_after framed_by targets_after begun_of started_of up_in up_of tick_in tick_of hearing input_in input_of buffer_after line.settings_of line.line_of with_commas targets_text effects.lines_text effects.no_effect effects.effects_text calls.new_journal turns.counted calls.started calls.no_effects calls.silent calls.effects_of turns.host_of calls.start_turn calls.up_turn calls.input_turn calls.tick_turn turns.turn_of turns.read turns.line_turn first_of opened line_text cut lines_text opening journal_text input
example = refl

pub nothing : journal_text [] ≡ ascii "n=0 out=refused why=11\n"
unfolding digits_of forms.kind_of text text_from value_text first_of cut opening journal_text
nothing = refl
