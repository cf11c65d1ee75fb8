-- Done is never left, and no answer has more than three effects.
-- Assumes nothing.
use mathlib.Core.Path.{◌≡◌, refl, sym, subst}
use mathlib.Core.Bool.{Bool, true, false}
use mathlib.Core.List.{List, [], ◌∷◌}
use Prim.Native.Nat.{ℕ, ◌≤◌}
use native.Mathlib.Omega.{arith}
use lib.Dec.{ltb, eqb}
use lib.ListN.{length, length-append}
use Rattle.std.specs.Prelude.{Err, None, Ok, Option, Result, Some, ⊤}
use Rattle.prelude.specs.Choice.{pick, both, either, no}
use Rattle.ids.specs.declared.PeerId.{PeerId}
use Rattle.ids.specs.declared.ConnectionId.{ConnectionId}
use Rattle.ids.specs.declared.StreamId.{StreamId}
use Rattle.refusal.specs.declared.Refusal.{Refusal}
use Rattle.refusal.specs.declared.Refusal.TheVariants.{ReplyBufferTooShort}
use Rattle.candidates.specs.Selection.{Chosen}
use Rattle.candidates.specs.Selection.{selected}
use Rattle.ledger.specs.Ledger.{PathLedger, refuses_punches}
use Rattle.vocabulary.specs.declared.Settings.{Settings}
use Rattle.inbound.specs.declared.InboundCircuit.{InboundCircuit}
use Rattle.circuit.specs.declared.state.Phase.{Phase}
use Rattle.circuit.specs.declared.state.Phase.TheVariants.{Done}
use Rattle.vocabulary.specs.declared.Host.{Host}
use Rattle.vocabulary.specs.declared.StreamInput.{StreamInput}
use Rattle.vocabulary.specs.declared.StreamInput.TheVariants as i
use Rattle.circuit.specs.declared.state.ConnectWrite.{ConnectWrite}
use Rattle.circuit.specs.declared.state.ConnectWrite.TheVariants.{Unsent, Held, Sent}
use Rattle.circuit.specs.declared.decision.Decision.{Decision}
use Rattle.inbound.specs.declared.Answer.{Answer}
use Rattle.circuit.specs.Decisions.{silence, event_of, decided_of, quiet_of, refused_of}
use Rattle.carried.specs.Carried.{targets_after}
use Rattle.carried.specs.Carried as carried
use Rattle.inbound.specs.Circuits.{answer_of, plainly, up_answer, tick_answer, input_answer, wrote_answer, down_answer}
use Rattle.lent.specs.Brought.{Brought, unfinished, failed, connect}
use Rattle.checks.specs.Refusals.{check_of}
use Rattle.upgrade.specs.Ups.{established_at, connected_of, took_of, taking, up_at}
use Rattle.inputs.specs.Inputs.{input_at}
use Rattle.upgrade.specs.Ticks.{tick_at}
use Rattle.circuit.specs.Calls.{unless, wrote_at, wrote_of, down_of}
use Rattle.lent.specs.Calls.{up_in, tick_in, peeked, hearing, input_in}
use Rattle.circuit.specs.State.{done_of, is_done}
use Rattle.history.specs.Heard.{heard}
use Rattle.history.specs.Calls.{Call, up, tick, wrote, down, step_of}
use Rattle.history.specs.Calls as call
use Rattle.history.specs.Book.{terms_of, Asking, Stage, handshaking, asking, within, over, Book, Who, is_circuit, armed, is_closing, trip_of, fresh}
use Rattle.history.specs.Tells.{Says, burst, send, reset, opens, removed, sync, Told, nothing, opening, wants, is_none, blast, newly, tick_tells, up_tells, replied_tells, later_tells, timely_tells, input_tells, tells, tells_all}
use Rattle.history.specs.Answers.{said, said_by, said_is, told_of, who_of, DoneIsLast, AtMostThree, ThreeEffects}
use Rattle.history.specs.Refuses.{refusal, turned, next}
use Rattle.history.proofs.Made.{framed_in, chosen_in, made, up_made, tick_made, input_made}
use Rattle.history.proofs.Answers.{effects_by_the_rule}

-- ---- Done

abbrev Idle : InboundCircuit → Answer → Type 0
Idle c a = (a.circuit ≡ c) × (said_by a ≡ [])

module _ (c : InboundCircuit) (own : List ℕ) (chosen : Chosen) where
  abbrev answer : Decision → Answer
  answer d = made (framed_in c) (chosen_in c) own chosen d

  quiet_idle : Idle c (answer (quiet_of c.core))
  unfolding quiet_of decided_of silence event_of carried.opens targets_after
  quiet_idle = (refl, refl)

  refused_idle : (why : Refusal) → Idle c (answer (refused_of c.core why))
  unfolding refused_of carried.opens targets_after
  refused_idle why = (refl, refl)

  checked : (d : Decision) → Idle c (answer d) → (y : Result ⊤ Refusal) → Idle c (answer (unless c.core d y))
  checked d h (Ok tt) = h
  checked d h (Err why) = refused_idle why

  checked_input : (short : Bool) (d : Decision) → Idle c (answer d)
      → Idle c (answer (pick short (refused_of c.core ReplyBufferTooShort) d))
  checked_input true d h = refused_idle ReplyBufferTooShort
  checked_input false d h = h

plain_idle : (c : InboundCircuit) → Idle c (plainly c (quiet_of c.core))
unfolding answer_of quiet_of decided_of silence event_of
plain_idle c = (refl, refl)

module _ (c : InboundCircuit) (promoted : Bool) (e : c.core.phase ≡ Done promoted) where
  at_last : (P : Phase → Type 0) → P (Done promoted) → P c.core.phase
  at_last P h = subst P (sym e) h

  up_idle : (h : Host) (own : List ℕ) (peer : PeerId) (conn : ConnectionId) (relayed : Bool) → Idle c (up_answer c h own peer conn relayed)
  unfolding up_in up_at connected_of
  up_idle h own peer conn relayed =
      rw (up_made c h own peer conn relayed)
      (checked c own (chosen_in c) _
      (at_last
      (λ p. Idle c
      (answer c own (chosen_in c)
      (taking took (pick (eqb peer.0 c.core.source.0) (established_at c.core h conn relayed p) (quiet_of c.core)))))
      (go (eqb peer.0 c.core.source.0)))
      (check_of c.core.phase h.offer own))
    where
      took : Bool
      took = took_of c.core peer conn relayed

      go : (v : Bool) → Idle c (answer c own (chosen_in c) (taking took (pick v (quiet_of c.core) (quiet_of c.core))))
      go true = quiet_idle c own (chosen_in c)
      go false = quiet_idle c own (chosen_in c)

  input_idle : (l : PathLedger) (buffer : List ℕ) (h : Host) (own : List ℕ) (stream : StreamId) (kind : StreamInput) (bytes : List ℕ)
      (pending : Bool)
      → Idle c (input_answer c l h own buffer stream kind bytes pending)
  unfolding input_in hearing
  input_idle l buffer h own stream kind bytes pending =
      rw (input_made c h own l buffer stream kind bytes pending)
      (checked_input c own chosen (ltb (length buffer) 4098) _
      (checked c own chosen _
      (at_last
      (λ p. Idle c
      (answer c own chosen
      (input_at c.core h stream kind pending (Some (peeked c.core buffer bytes).heard) (refuses_punches l c.core.source) p)))
      (quiet_idle c own chosen))
      (check_of c.core.phase h.offer own)))
    where
      chosen : Chosen
      chosen = (peeked c.core buffer bytes).targets

  tick_idle : (h : Host) (own : List ℕ) → Idle c (tick_answer c h own)
  unfolding tick_in
  tick_idle h own =
      rw (tick_made c h own)
      (checked c own (chosen_in c) _
      (at_last (λ p. Idle c (answer c own (chosen_in c) (tick_at c.core h p))) (quiet_idle c own (chosen_in c)))
      (check_of c.core.phase h.offer own))

  wrote_idle : (at : ℕ) (conn : ConnectionId) (stream : StreamId) → Idle c (wrote_answer c at conn stream)
  unfolding wrote_answer wrote_of
  wrote_idle at conn stream = at_last (λ p. Idle c (plainly c (quiet_of (wrote_at c.core at conn stream p)))) (plain_idle c)

  down_idle : (conn : ConnectionId) → Idle c (down_answer c conn)
  unfolding down_answer down_of
  down_idle conn =
      at_last
      (λ p. Idle c (plainly c (quiet_of (pick (both (eqb conn.0 c.core.circuit.0) (no (is_done p))) (done_of c.core) c.core))))
      (go (eqb conn.0 c.core.circuit.0))
    where
      go : (v : Bool) → Idle c (plainly c (quiet_of (pick (both v false) (done_of c.core) c.core)))
      go true = plain_idle c
      go false = plain_idle c

pub done_is_last : DoneIsLast
unfolding step_of said
done_is_last c promoted e (up l h own peer conn relayed) = up_idle c promoted e h own peer conn relayed
done_is_last c promoted e (call.input l buffer h own stream kind bytes pending) = input_idle c promoted e l buffer h own stream kind bytes pending
done_is_last c promoted e (tick l h own) = tick_idle c promoted e h own
done_is_last c promoted e (wrote at conn stream) = wrote_idle c promoted e at conn stream
done_is_last c promoted e (down at peer conn) = down_idle c promoted e conn

-- ---- three effects

abbrev Few : ℕ → Told → Type 0
Few n t = length t.said ≤ n

pick_few : (n : ℕ) (v : Bool) (a b : Told) → Few n a → Few n b → Few n (pick v a b)
pick_few n true a b h k = h
pick_few n false a b h k = k

-- an effect more, where a round opens
wants_few : (who : Who) (h : Host) (b : Book) (d : List Says) → length d ≤ 2 → Few 3 (wants who h b d)
wants_few who h b d e =
    pick_few 3 (both (is_circuit who h.live) (both (ltb b.rounds 3) (ltb h.at b.deadline))) (opening d h.offer) (record { said = d; lot = removed })
    (go h.offer) (omega arith)
  where
    go : (o : Option (ConnectionId × StreamId)) → Few 3 (opening d o)
    go None = omega arith
    go (Some (conn, stream)) = omega (arith, length-append d (opens conn stream ∷ []))

blast_one : (s : Settings) (times : ℕ) (list : List (List ℕ)) → length (blast s times list) ≤ 1
blast_one s times list = go (either (eqb times 0) (is_none list))
  where
    go : (v : Bool) → length (pick v [] (burst times s.payload list ∷ [])) ≤ 1
    go true = omega arith
    go false = omega arith

module _ (s : Settings) (who : Who) (h : Host) (b : Book) where
  tick_few : (stage : Stage) → Few 3 (tick_tells s who h b stage)
  tick_few (handshaking end) = pick_few 3 (ltb h.at end) _ _ (omega arith) (omega arith)
  tick_few (asking x) =
      pick_few 3 (ltb h.at b.deadline) _ _ (pick_few 3 (ltb h.at x.end) _ _ (omega arith) (wants_few who h b _ (omega arith))) (omega arith)
  tick_few (within w) =
      let n : length (blast s (newly s h.at w) w.list) ≤ 1 = blast_one s (newly s h.at w) w.list in
      pick_few 3 (ltb h.at b.deadline) _ _ (pick_few 3 (ltb h.at w.end) _ _ (omega arith) (wants_few who h b _ (omega arith))) (omega arith)
  tick_few over = omega arith

  up_few : (relayed : Bool) (conn : ConnectionId) (stage : Stage) → Few 3 (up_tells s who h relayed conn b stage)
  up_few relayed conn (handshaking end) =
      pick_few 3 relayed _ _
      (pick_few 3 (eqb conn.0 who.circuit.0) _ _ (pick_few 3 s.upgrades _ _ (wants_few who h (armed s h b) _ (omega arith)) (omega arith)) (omega arith))
      (omega arith)
  up_few relayed conn (asking x) = pick_few 3 relayed _ _ (omega arith) (omega arith)
  up_few relayed conn (within w) = pick_few 3 relayed _ _ (omega arith) (omega arith)
  up_few relayed conn over = omega arith

  replied_few : (x : Asking) (y : Brought) → Few 3 (replied_tells s who h b x y)
  replied_few x (unfinished n) = omega arith
  replied_few x failed = wants_few who h b _ (omega arith)
  replied_few x (connect addresses) =
      let list : List (List ℕ) = selected (terms_of s) addresses in
      let times : ℕ = pick (eqb (trip_of x.connect h.at) 0) 1 0 in
      omega (arith, blast_one s times list, length-append (blast s times list) (send x.conn x.stream sync ∷ reset x.conn x.stream ∷ []))

  later_few : (buffer : List ℕ) (kind : StreamInput) (bytes : List ℕ) (x : Asking) → Few 3 (later_tells s who h buffer kind bytes b x)
  later_few buffer i.Ready bytes x = omega arith
  later_few buffer i.Data bytes x = replied_few x (heard bytes buffer x.count)
  later_few buffer i.RemoteWriteClosed bytes x = wants_few who h b _ (omega arith)
  later_few buffer i.Closed bytes x = wants_few who h b _ (omega arith)

  timely_few : (buffer : List ℕ) (kind : StreamInput) (bytes : List ℕ) (x : Asking) (v : ConnectWrite) → Few 3 (timely_tells s who h buffer kind bytes b x v)
  timely_few buffer kind bytes x Unsent = pick_few 3 (is_closing kind) _ _ (wants_few who h b _ (omega arith)) (omega arith)
  timely_few buffer kind bytes x Held = later_few buffer kind bytes x
  timely_few buffer kind bytes x (Sent t) = later_few buffer kind bytes x

  input_few : (buffer : List ℕ) (stream : StreamId) (kind : StreamInput) (bytes : List ℕ) (stage : Stage)
      → Few 3 (input_tells s who h buffer stream kind bytes b stage)
  input_few buffer stream kind bytes (handshaking end) = omega arith
  input_few buffer stream kind bytes (asking x) =
      pick_few 3 (eqb x.stream.0 stream.0) _ _
      (pick_few 3 (ltb h.at x.end) _ _ (timely_few buffer kind bytes x x.connect) (tick_few (asking x)))
      (omega arith)
  input_few buffer stream kind bytes (within w) = omega arith
  input_few buffer stream kind bytes over = omega arith

tells_few : (s : Settings) (who : Who) (b : Book) (k : Call) → Few 3 (tells s who b k)
unfolding tells
tells_few s who b (up l h own peer conn relayed) = pick_few 3 (eqb peer.0 who.source.0) _ _
    (up_few s who h b relayed conn b.stage) (omega arith)
tells_few s who b (call.input l buffer h own stream kind bytes pending) = input_few s who h b buffer stream kind bytes b.stage
tells_few s who b (tick l h own) = tick_few s who h b b.stage
tells_few s who b (wrote at conn stream) = omega arith
tells_few s who b (down at peer conn) = omega arith

all_few : (s : Settings) (who : Who) (ks : List Call) (b : Book) → AtMostThree (said_is (tells_all s who b ks))
unfolding AtMostThree said_is tells_all
all_few s who [] b = tt
all_few s who (k ∷ ks) b =
    (pick_few 3 (turned (refusal who b k)) nothing (tells s who b k) (omega arith) (tells_few s who b k), all_few s who ks (next s who b k))

pub three_effects : ThreeEffects
unfolding told_of
three_effects source relay circuit s at calls =
    subst AtMostThree (sym (effects_by_the_rule source relay circuit s at calls)) (all_few s (who_of source relay circuit) calls (fresh s at))
