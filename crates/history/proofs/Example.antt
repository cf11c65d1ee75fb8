-- The worked example and a list with three rounds, computed.
-- Assumes nothing.
use mathlib.Core.Path.{◌≡◌, refl}
use Rattle.prelude.specs.Lists.{count, such}
use Rattle.time.specs.Time.{plus}
use Rattle.budget.specs.Budget.{armed, may_begin, one_more, begun, with_exchange, ended, window_end, upgrade_due, due_at}
use Rattle.schedule.specs.Instants.{half_of, start_of, upto, instants, count_to}
use Rattle.schedule.specs.Schedule.{ahead, without, times_of, due_of, opened_of}
use Rattle.schedule.specs.Schedule as schedule
use Rattle.wire.specs.Frame.{frame_from}
use Rattle.wire.specs.Varint.{value_of, span_of, varint_of, groups}
use Rattle.message.specs.Encoding.{address_fields}
use Rattle.wire.specs.Lists.{along, listed}
use Rattle.protobuf.specs.Fields.{field_of}
use Rattle.message.specs.Message.{scan}
use Rattle.frames.specs.Gathering.{gathering}
use Rattle.address.specs.Multiaddr.{big_endian, ends_well, has_form, parsed}
use Rattle.address.specs.Words.{global_unicast4, may_be_target}
use Rattle.candidates.specs.Selection.{selected, own, once, bounded, room}
use Rattle.ledger.specs.Ledger.{empty_ledger, refuses_punches}
use Rattle.circuit.specs.Decisions.{silence, event_of, reset_of, burst_of, sending_of, decided_of, quiet_of, refused_of}
use Rattle.lent.specs.Brought.{brought_by}
use Rattle.circuit.specs.State.{in_phase, exchanging_of, punching_of}
use Rattle.rounds.specs.Rounds.{is_live, open_round}
use Rattle.upgrade.specs.Ticks.{tick_punching}
use Rattle.checks.specs.Refusals.{in_use, check_of}
use Rattle.upgrade.specs.Ups.{announced, connected_of, up_at}
use Rattle.inputs.specs.Inputs.{closing, in_exchange, write_of, first_input, round_trip, window_of, open_window, exchange_input}
use Rattle.lent.specs.Replies.{targets_from, peeked_of}
use Rattle.carried.specs.Carried.{opens, framed_by, connect_after, targets_after}
use Rattle.circuit.specs.Calls.{started_of, begun_of}
use Rattle.lent.specs.Calls.{up_in, up_of, tick_in, tick_of, hearing, input_in, input_of}
use Rattle.inbound.specs.Circuits.{answer_of, new_answer, up_answer, tick_answer, input_answer}
use Rattle.schedule.specs.Readings.{counted}
use Rattle.history.specs.Heard.{heard}
use Rattle.history.specs.Calls.{to_each, copies, step_of, refusals}
use Rattle.history.specs.Book.{note, notes}
use Rattle.history.specs.Demand3.{due, windows_of}
use Rattle.history.specs.Example.{source, relay, circuit, buffer, calls, each, expected, sayings, lots, lots_of}
use Rattle.history.specs.Tells.{tells, tells_all}
use Rattle.history.specs.Answers.{said_is}
use Rattle.history.specs.Refuses.{refuses, lends_broken, lends_full}
use Rattle.history.specs.ThreeRounds as three
use Rattle.history.specs.Example

pub example : each Example.begun calls ≡ expected
unfolding plus armed may_begin one_more begun with_exchange ended window_end upgrade_due due_at half_of start_of upto instants count count_to ahead without times_of due_of opened_of schedule.window_of frame_from value_of span_of varint_of along listed field_of scan gathering big_endian ends_well has_form parsed global_unicast4 may_be_target such selected bounded room empty_ledger refuses_punches silence event_of reset_of burst_of sending_of decided_of quiet_of brought_by in_phase exchanging_of is_live open_round tick_punching in_use check_of announced connected_of up_at closing in_exchange write_of first_input round_trip punching_of window_of open_window exchange_input targets_from peeked_of opens framed_by connect_after targets_after started_of begun_of up_in up_of tick_in tick_of hearing input_in input_of answer_of new_answer up_answer tick_answer input_answer to_each copies step_of buffer calls each
example = refl

pub three_rounds : each three.begun three.calls ≡ three.expected
unfolding plus armed may_begin one_more begun with_exchange ended window_end upgrade_due due_at half_of start_of upto instants count count_to ahead without times_of due_of opened_of schedule.window_of frame_from value_of span_of varint_of along listed field_of scan gathering big_endian ends_well has_form parsed global_unicast4 may_be_target such selected bounded room empty_ledger refuses_punches silence event_of reset_of burst_of sending_of decided_of quiet_of brought_by in_phase exchanging_of is_live open_round tick_punching in_use check_of announced connected_of up_at closing in_exchange write_of first_input round_trip punching_of window_of open_window exchange_input targets_from peeked_of opens framed_by connect_after targets_after started_of begun_of up_in up_of tick_in tick_of hearing input_in input_of answer_of new_answer up_answer tick_answer input_answer to_each copies step_of buffer refused_of three.calls each
three_rounds = refl

pub three_windows : due three.settings (windows_of source relay circuit three.settings 0 three.calls) ≡ three.all
unfolding plus armed may_begin one_more begun with_exchange ended window_end upgrade_due due_at half_of start_of upto instants count count_to ahead without times_of due_of opened_of schedule.window_of frame_from value_of span_of varint_of along listed field_of scan gathering big_endian ends_well has_form parsed global_unicast4 may_be_target such selected bounded room empty_ledger refuses_punches silence event_of reset_of burst_of sending_of decided_of quiet_of brought_by in_phase exchanging_of is_live open_round tick_punching in_use check_of announced connected_of up_at closing in_exchange write_of first_input round_trip punching_of window_of open_window exchange_input targets_from peeked_of opens framed_by connect_after targets_after started_of begun_of up_in up_of tick_in tick_of hearing input_in input_of answer_of new_answer up_answer tick_answer input_answer to_each copies step_of buffer refused_of refusals note notes heard counted due windows_of three.calls
three_windows = refl

pub example_said : said_is Example.told ≡ sayings
unfolding plus half_of start_of upto instants count frame_from value_of span_of varint_of along listed field_of scan gathering big_endian ends_well has_form parsed global_unicast4 may_be_target such selected bounded room empty_ledger refuses_punches heard counted groups address_fields own once buffer calls note tells tells_all refuses lends_broken lends_full said_is
example_said = refl

pub example_lots : lots_of Example.told ≡ lots
unfolding plus half_of start_of upto instants count frame_from value_of span_of varint_of along listed field_of scan gathering big_endian ends_well has_form parsed global_unicast4 may_be_target such selected bounded room empty_ledger refuses_punches heard counted groups address_fields own once buffer calls note tells tells_all refuses lends_broken lends_full lots_of
example_lots = refl
