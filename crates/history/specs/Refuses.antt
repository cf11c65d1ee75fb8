-- The number that a call is refused with, by the book (RULES.md, section 11.3); 0 where it is accepted. So the book is fed the settings and
-- the calls, and nothing else.
use Rattle.std.specs.Prelude.{ℕ, Bool, false, List, [], ◌∷◌, ltb, eqb, length, Option}
use Rattle.prelude.specs.Choice.{pick, both, no}
use Rattle.ids.specs.declared.StreamId.{StreamId}
use Rattle.wire.specs.Lists.{broken}
use Rattle.ledger.specs.Ledger.{refuses_punches}
use Rattle.vocabulary.specs.declared.Settings.{Settings}
use Rattle.vocabulary.specs.declared.Host.{Host}
use Rattle.vocabulary.specs.declared.StreamInput.{StreamInput}
use Rattle.history.specs.Heard.{heard}
use Rattle.history.specs.Calls.{Call, up, input, tick, wrote, down}
use Rattle.history.specs.Numbers.{is_pair, went_out, is_data, is_connect}
use Rattle.history.specs.Book.{Stage, handshaking, asking, within, over, Book, Who, note}
use Rattle.ids.specs.declared.ConnectionId.{ConnectionId}

-- 2: an exchange runs, and the offer is its pair
abbrev pub offered : Stage → Option (ConnectionId × StreamId) → Bool
offered (handshaking end) o = false
offered (asking x) o = is_pair x.conn x.stream o
offered (within w) o = false
offered over o = false

-- 4: the input would open a window
abbrev pub completes : Host → List ℕ → StreamId → StreamInput → List ℕ → Stage → Bool
completes h buffer stream kind bytes (handshaking end) = false
completes h buffer stream kind bytes (asking x) =
    both (eqb x.stream.0 stream.0)
    (both (ltb h.at x.end) (both (went_out x.connect) (both (is_data kind) (is_connect (heard bytes buffer x.count)))))
completes h buffer stream kind bytes (within w) = false
completes h buffer stream kind bytes over = false

-- 5, then 2, then what else a call is refused with
abbrev pub before : (broken : Bool) → Stage → Option (ConnectionId × StreamId) → ℕ → ℕ
before broken stage o other = pick broken 5 (pick (offered stage o) 2 other)

-- the own list is broken; the source has no window in the ledger, and 64 others have
unfoldable pub refuses : (broken full : Bool) → Book → Call → ℕ
refuses broken full b (up l h own peer conn relayed) = before broken b.stage h.offer 0
refuses broken full b (input l buffer h own stream kind bytes pending) =
    pick (ltb (length buffer) 4098) 1
    (before broken b.stage h.offer (pick (both (completes h buffer stream kind bytes b.stage) full) 4 0))
refuses broken full b (tick l h own) = before broken b.stage h.offer 0
refuses broken full b (wrote at conn stream) = 0
refuses broken full b (down at peer conn) = 0

-- both of what a call lends
unfoldable pub lends_broken : Call → Bool
lends_broken (up l h own peer conn relayed) = broken own
lends_broken (input l buffer h own stream kind bytes pending) = broken own
lends_broken (tick l h own) = broken own
lends_broken (wrote at conn stream) = false
lends_broken (down at peer conn) = false

unfoldable pub lends_full : Who → Call → Bool
lends_full who (up l h own peer conn relayed) = refuses_punches l who.source
lends_full who (input l buffer h own stream kind bytes pending) = refuses_punches l who.source
lends_full who (tick l h own) = refuses_punches l who.source
lends_full who (wrote at conn stream) = false
lends_full who (down at peer conn) = false

abbrev pub refusal : Who → Book → Call → ℕ
refusal who b k = refuses (lends_broken k) (lends_full who k) b k

abbrev pub turned : ℕ → Bool
turned n = no (eqb n 0)

-- ---- all calls

-- the book behind a call; a refused call changes nothing
abbrev pub next : Settings → Who → Book → Call → Book
next s who b k = pick (turned (refusal who b k)) b (note s who b k)

unfoldable pub next_all : Settings → Who → Book → List Call → Book
next_all s who b [] = b
next_all s who b (k ∷ ks) = next_all s who (next s who b k) ks

-- each call's number
unfoldable pub numbers : Settings → Who → Book → List Call → List ℕ
numbers s who b [] = []
numbers s who b (k ∷ ks) = refusal who b k ∷ numbers s who (next s who b k) ks

unfoldable pub turned_all : List ℕ → List Bool
turned_all [] = []
turned_all (n ∷ ns) = turned n ∷ turned_all ns
