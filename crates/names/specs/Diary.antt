-- A diary of a journal (RULES.md, sections 12.5 to 12.7): whether a start was accepted, whose circuit it is, the circuit's book, the reply
-- buffer, and what the accepted lines brought for names. It is fed the lines and nothing else, and tells of each what the journal prints.
use Rattle.std.specs.Prelude.{◌≡◌, ℕ, ◌+◌, Bool, true, false, List, [], ◌∷◌, ◌++◌, eqb, ltb, take, replicate, None, Option, Some}
use Rattle.prelude.specs.Choice.{pick, both, no}
use Rattle.time.specs.Time.{last}
use Rattle.ids.specs.declared.PeerId.{PeerId}
use Rattle.ids.specs.declared.ConnectionId.{ConnectionId}
use Rattle.ids.specs.declared.StreamId.{StreamId}
use Rattle.refusal.specs.Number.{number_of}
use Rattle.wire.specs.Lists.{broken, entries}
use Rattle.path.specs.declared.Path.TheVariants.{Relayed}
use Rattle.path.specs.declared.Owner.TheVariants.{Inbound}
use Rattle.frames.specs.Sent.{Framed}
use Rattle.ledger.specs.Ledger.{empty_ledger}
use Rattle.vocabulary.specs.declared.Settings.{Settings}
use Rattle.vocabulary.specs.declared.Host.{Host}
use Rattle.vocabulary.specs.declared.StreamInput.{StreamInput}
use Rattle.history.specs.Calls.{Call, up, input, tick, wrote, down}
use Rattle.history.specs.Book.{Book, Who, fresh, note}
use Rattle.history.specs.Refuses.{refuses, turned}
use Rattle.history.specs.Tells.{Says, Lot, stays, removed, until, tells, gathers}
use Rattle.history.specs.Answers.{who_of, said_in}
use Rattle.history.specs.Questions.{is_over}
use Rattle.journal_lines.specs.declared.Digits.{Digits}
use Rattle.journal_lines.specs.declared.Line.{Line}
use Rattle.journal_lines.specs.declared.Line.TheVariants.{Start, Up, Input, Tick, Wrote, Down, Dial, Forget, Attribute}
use Rattle.journal_effects.specs.declared.Effects.{Effects}
use Rattle.journal_calls.specs.declared.Said.{Said}
use Rattle.journal_calls.specs.declared.Said.TheVariants as said
use Rattle.journal_calls.specs.Calls.{Journal, Turned, new_journal}
use Rattle.journal_turns.specs.Turns.{digits_bytes, read, line_turn}
use Rattle.names.specs.Events.{Event, dialed, got_name, forgot, replied, gave_up, ticked, direct_name, dialing, named, expected, is_full}
use Rattle.path.specs.declared.Attribution.{Attribution}

pub record Diary : Type 0 where
  pub started : Bool
  pub who : Who
  pub book : Book
  pub reply : List ℕ
  pub events : List Event

-- ---- the circuit's calls that lines make (section 12.5)

abbrev pub host_by : ℕ → Option ConnectionId → Option (ConnectionId × StreamId) → Host
host_by at l o = record { at = at; live = l; offer = o }

-- the book does not look at the ledger that is lent
abbrev pub up_by : List ℕ → ℕ → PeerId → ConnectionId → Bool → Option ConnectionId → Option (ConnectionId × StreamId) → Digits → Call
up_by line at peer conn relayed l o own = up empty_ledger (host_by at l o) (digits_bytes line own) peer conn relayed

abbrev pub input_by : List ℕ → List ℕ → ℕ → StreamId → StreamInput → Digits → Option ConnectionId → Option (ConnectionId × StreamId) → Bool → Digits → Call
input_by line reply at stream k bytes l o pending own =
    input empty_ledger reply (host_by at l o) (digits_bytes line own) stream k (digits_bytes line bytes) pending

abbrev pub tick_by : List ℕ → ℕ → Option ConnectionId → Option (ConnectionId × StreamId) → Digits → Call
tick_by line at l o own = tick empty_ledger (host_by at l o) (digits_bytes line own)

-- ---- what an accepted line adds

-- what becomes of the source's window
abbrev pub of_lot : PeerId → Lot → List Event → List Event
of_lot source stays es = es
of_lot source removed es = gave_up source ∷ es
of_lot source (until deadline) es = replied source deadline ∷ es

-- a call of the circuit
abbrev pub called : Settings → Diary → Call → List ℕ → Diary
called s d k reply =
    record {
      started = d.started;
      who = d.who;
      book = note s d.who d.book k;
      reply = reply;
      events = of_lot d.who.source (tells s d.who d.book k).lot d.events;
    }

abbrev pub adds : Diary → List Event → Diary
adds d es = record { started = d.started; who = d.who; book = d.book; reply = d.reply; events = es }

-- a circuit is relayed, by its relay, where it is the journal's circuit and that is not over; else it gets no name (sections 10.5, 11.9)
abbrev pub name_of : Diary → ℕ → PeerId → ConnectionId → Bool → Option Attribution
name_of d at peer conn true =
    pick (both (eqb conn.0 d.who.circuit.0) (no (is_over d.book.stage)))
    (Some (record { path = Relayed d.who.relay; owner = Some Inbound }))
    None
name_of d at peer conn false = Some (direct_name peer conn at d.events)

abbrev pub is_name : Option Attribution → Bool
is_name None = false
is_name (Some name) = true

abbrev pub entered : Settings → List ℕ → Diary → Option Line → Diary
entered s line d (Some (Start at source relay conn)) =
    record { started = true; who = who_of source relay conn; book = fresh s at; reply = d.reply; events = d.events }
entered s line d (Some (Up at peer conn relayed l o pending own)) = called s d (up_by line at peer conn relayed l o own) d.reply
entered s line d (Some (Input at stream k bytes l o pending own)) =
    called s d (input_by line d.reply at stream k bytes l o pending own)
    (gathers (host_by at l o) d.reply stream k (digits_bytes line bytes) d.book.stage)
entered s line d (Some (Tick at l o own)) = adds after (ticked at ∷ after.events)
  where
    after : Diary
    after = called s d (tick_by line at l o own) d.reply
entered s line d (Some (Wrote at conn stream)) = called s d (wrote at conn stream) d.reply
entered s line d (Some (Down at peer conn)) = called s d (down at peer conn) d.reply
entered s line d (Some (Dial at conn token id)) = adds d (dialed conn id ∷ d.events)
entered s line d (Some (Forget at conn)) = adds d (forgot conn ∷ d.events)
entered s line d (Some (Attribute at peer conn relayed)) = adds d (pick (is_name (name_of d at peer conn relayed)) (got_name conn ∷ d.events) d.events)
entered s line d None = d

-- ---- what is told of a line: its effects, the name that it gives, and the number that it is refused with, 0 where it is accepted

pub record Out : Type 0 where
  pub effects : List Says
  pub name : List (Option Attribution)
  pub number : ℕ

abbrev pub still : Out
still = record { effects = []; name = []; number = 0 }

abbrev pub refused_by : ℕ → Out
refused_by n = record { effects = []; name = []; number = n }

abbrev pub says : Settings → Diary → Call → Out
says s d k = record { effects = (tells s d.who d.book k).said; name = []; number = 0 }

-- an accepted line
abbrev pub out_by : Settings → List ℕ → Diary → Option Line → Out
out_by s line d (Some (Start at source relay conn)) = still
out_by s line d (Some (Up at peer conn relayed l o pending own)) = says s d (up_by line at peer conn relayed l o own)
out_by s line d (Some (Input at stream k bytes l o pending own)) = says s d (input_by line d.reply at stream k bytes l o pending own)
out_by s line d (Some (Tick at l o own)) = says s d (tick_by line at l o own)
out_by s line d (Some (Wrote at conn stream)) = still
out_by s line d (Some (Down at peer conn)) = still
out_by s line d (Some (Dial at conn token id)) = still
out_by s line d (Some (Forget at conn)) = still
out_by s line d (Some (Attribute at peer conn relayed)) = record { effects = []; name = name_of d at peer conn relayed ∷ []; number = 0 }
out_by s line d None = still

-- ---- the number of a refused line (section 12.6)

-- 12 until a start was accepted
abbrev pub once_started : Diary → ℕ → ℕ
once_started d n = pick d.started n 12

-- the source has no window, and 64 others have
abbrev pub no_room : Diary → Bool
no_room d = is_full d.who.source.0 (expected d.events)

-- 11; 12; 3 of a start (section 11.3), by the plain sum; 1, 5, 2 and 4 of the circuit; 4 of a dial, and of an attribute that gives a name
abbrev pub number : Settings → List ℕ → Diary → Option Line → ℕ
number s line d (Some (Start at source relay conn)) = pick (ltb last (at + s.handshake)) 3 0
number s line d (Some (Up at peer conn relayed l o pending own)) =
    once_started d (refuses (broken (digits_bytes line own)) false d.book (up_by line at peer conn relayed l o own))
number s line d (Some (Input at stream k bytes l o pending own)) =
    once_started d (refuses (broken (digits_bytes line own)) (no_room d) d.book (input_by line d.reply at stream k bytes l o pending own))
number s line d (Some (Tick at l o own)) = once_started d (refuses (broken (digits_bytes line own)) false d.book (tick_by line at l o own))
number s line d (Some (Wrote at conn stream)) = once_started d 0
number s line d (Some (Down at peer conn)) = once_started d 0
number s line d (Some (Dial at conn token id)) = once_started d (pick (is_full conn.0 (dialing d.events)) 4 0)
number s line d (Some (Forget at conn)) = once_started d 0
number s line d (Some (Attribute at peer conn relayed)) =
    once_started d (pick (both (is_name (name_of d at peer conn relayed)) (is_full conn.0 (named d.events))) 4 0)
number s line d None = 11

-- ---- all lines, each with whether a line feed ends it; a refused line changes nothing

-- nothing is asked of the circuit before a start is accepted
abbrev pub blank : Settings → Diary
blank s =
    record {
      started = false;
      who = who_of (record { 0 = 0 }) (record { 0 = 0 }) (record { 0 = 0 });
      book = fresh s 0;
      reply = replicate 4098 0;
      events = [];
    }

abbrev pub told_of : Settings → List ℕ → Diary → Option Line → Out
told_of s line d call = pick (turned (number s line d call)) (refused_by (number s line d call)) (out_by s line d call)

abbrev pub next_of : Settings → List ℕ → Diary → Option Line → Diary
next_of s line d call = pick (turned (number s line d call)) d (entered s line d call)

unfoldable pub tells_lines : Settings → Diary → List (List ℕ × Bool) → List Out
tells_lines s d [] = []
tells_lines s d (l ∷ ls) = told_of s l.0 d (read l.0 l.1) ∷ tells_lines s (next_of s l.0 d (read l.0 l.1)) ls

-- ---- what the journal says

-- the four places, with the message in the bytes that are lent for it, and the targets in those of the circuit
abbrev pub says_in : Effects → (sent aims : List ℕ) → List Says
says_in e sent aims =
    said_in message targets e.first
    ++ (said_in message targets e.second ++ (said_in message targets e.third ++ said_in message targets e.fourth))
  where
    message : Framed
    message = record { bytes = sent; len = e.message }

    targets : List (List ℕ)
    targets = entries (take e.targets aims)

abbrev pub out_in : Effects → (sent aims : List ℕ) → Said → Out
out_in e sent aims said.Effects = record { effects = says_in e sent aims; name = []; number = 0 }
out_in e sent aims (said.Attributed f) = record { effects = []; name = f ∷ []; number = 0 }
out_in e sent aims (said.Refused why) = refused_by (number_of why)

abbrev pub out_of : Turned → Out
out_of t = out_in t.effects t.journal.sent t.journal.circuit.targets t.said

unfoldable pub outs : Journal → List ℕ → List (List ℕ × Bool) → List Out
outs j reply [] = []
outs j reply (l ∷ ls) =
    out_of (line_turn j reply l.0 l.1).turn
    ∷ outs (line_turn j reply l.0 l.1).turn.journal (line_turn j reply l.0 l.1).reply ls

-- what each line of any journal says is what the diary tells of it
abbrev pub NamesFollow : Type 0
NamesFollow = (s : Settings) (lines : List (List ℕ × Bool)) → outs (new_journal s) (replicate 4098 0) lines ≡ tells_lines s (blank s) lines
