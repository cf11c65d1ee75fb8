-- What a circuit answers when it is asked, after any list of calls (RULES.md, section 11.9).
use Rattle.std.specs.Prelude.{◌≡◌, ℕ, ◌+◌, min, Bool, true, false, List, [], ◌∷◌, ltb, eqb, drop, None, Option, Some}
use Rattle.prelude.specs.Choice.{pick, both, either, no}
use Rattle.time.specs.Time.{last}
use Rattle.ids.specs.declared.PeerId.{PeerId}
use Rattle.ids.specs.declared.ConnectionId.{ConnectionId}
use Rattle.schedule.specs.Instants.{instants}
use Rattle.schedule.specs.Readings.{counted}
use Rattle.path.specs.declared.Claim.{Claim}
use Rattle.path.specs.declared.Claim.TheVariants.{Circuit}
use Rattle.path.specs.declared.Owner.TheVariants.{Inbound}
use Rattle.vocabulary.specs.declared.Settings.{Settings}
use Rattle.inbound.specs.declared.InboundCircuit.{InboundCircuit}
use Rattle.questions.specs.Questions.{next_deadline_at, claim_of, promotes_of}
use Rattle.history.specs.Calls.{Call, up, input, tick, wrote, down, step_of}
use Rattle.history.specs.Book.{Window, Stage, handshaking, asking, within, over, Book, Who, fresh}
use Rattle.history.specs.Refuses.{refusal, turned, next, next_all}
use Rattle.history.specs.Demand3.{begun}
use Rattle.history.specs.Tells.{is_none}
use Rattle.history.specs.Answers.{who_of}

-- the instants of a window that did not go out yet
abbrev pub waiting : Settings → Window → List ℕ
waiting s w = drop (counted s.interval w.start w.end w.trip w.largest) (instants w.start s.interval w.end)

-- the first of a list, or the limit where that is smaller
abbrev pub sooner : List ℕ → ℕ → ℕ
sooner [] limit = limit
sooner (t ∷ ts) limit = min t limit

-- when the circuit is to be looked at again
abbrev pub again : Settings → Book → Stage → Option ℕ
again s b (handshaking end) = Some end
again s b (asking x) = Some (min x.end b.deadline)
again s b (within w) = Some (pick (is_none w.list) (min w.end b.deadline) (sooner (waiting s w) (min w.end b.deadline)))
again s b over = None

abbrev pub is_over : Stage → Bool
is_over (handshaking end) = false
is_over (asking x) = false
is_over (within w) = false
is_over over = true

-- the connection is the circuit's, and the circuit is not over
abbrev pub claims : Who → Book → ConnectionId → Option Claim
claims who b conn = pick (both (eqb conn.0 who.circuit.0) (no (is_over b.stage))) (Some (Circuit who.relay (Some Inbound))) None

-- an accepted tick came at or past the handshake's end
abbrev pub lapses : ℕ → Stage → Bool
lapses at (handshaking end) = no (ltb at end)
lapses at (asking x) = false
lapses at (within w) = false
lapses at over = false

unfoldable pub lapsed : Book → Call → Bool
lapsed b (up l h own peer conn relayed) = false
lapsed b (input l buffer h own stream kind bytes pending) = false
lapsed b (tick l h own) = lapses h.at b.stage
lapsed b (wrote at conn stream) = false
lapsed b (down at peer conn) = false

unfoldable pub ran_out : Settings → Who → Book → List Call → Bool
ran_out s who b [] = false
ran_out s who b (k ∷ ks) = either (both (no (turned (refusal who b k))) (lapsed b k)) (ran_out s who (next s who b k) ks)

-- the connection is the circuit's, and neither was its start refused nor did its handshake run out
abbrev pub promotes : PeerId → PeerId → ConnectionId → Settings → ℕ → List Call → ConnectionId → Bool
promotes source relay circuit s at calls conn =
    both (eqb conn.0 circuit.0) (no (either (ltb last (at + s.handshake)) (ran_out s (who_of source relay circuit) (fresh s at) calls)))

-- the circuit after all calls, and its book
unfoldable pub after_all : InboundCircuit → List Call → InboundCircuit
after_all c [] = c
after_all c (k ∷ ks) = after_all (step_of c k).circuit ks

abbrev pub book_after : PeerId → PeerId → ConnectionId → Settings → ℕ → List Call → Book
book_after source relay circuit s at calls = next_all s (who_of source relay circuit) (fresh s at) calls

pub record QuestionsByTheRule (source relay : PeerId) (circuit : ConnectionId) (s : Settings) (at : ℕ) (calls : List Call) : Type 0 where
  pub deadline : next_deadline_at (after_all (begun source relay circuit s at) calls).core
      (after_all (begun source relay circuit s at) calls).core.phase
      ≡ again s (book_after source relay circuit s at calls) (book_after source relay circuit s at calls).stage
  pub claim : (conn : ConnectionId)
      → claim_of (after_all (begun source relay circuit s at) calls).core conn
      ≡ claims (who_of source relay circuit) (book_after source relay circuit s at calls) conn
  pub promote : (conn : ConnectionId) → promotes_of (after_all (begun source relay circuit s at) calls).core conn
      ≡ promotes source relay circuit s at calls conn
