-- Line by line: a journal and its diary go on together, and what the line says is what the diary tells.
-- Assumes nothing.
use Prim.Native.Nat.{ℕ, ◌+◌}
use mathlib.Core.Path.{◌≡◌, refl, sym, ap, ◌∙◌, subst}
use mathlib.Core.Bool.{Bool, true, false}
use mathlib.Core.List.{List, [], ◌∷◌, ◌++◌}
use native.Mathlib.Omega.{arith}
use lib.Dec.{eqb, ltb}
use lib.ListN.{take, replicate}
use Rattle.std.specs.Prelude.{Err, None, Ok, Option, Result, Some, ⊤}
use Rattle.prelude.specs.Choice.{pick, both, no}
use Rattle.ids.specs.declared.PeerId.{PeerId}
use Rattle.ids.specs.declared.ConnectionId.{ConnectionId}
use Rattle.ids.specs.declared.ConnectId.{ConnectId}
use Rattle.ids.specs.declared.NatToken.{NatToken}
use Rattle.ids.specs.declared.StreamId.{StreamId}
use Rattle.refusal.specs.declared.Refusal.{Refusal}
use Rattle.refusal.specs.declared.Refusal.TheVariants.{LedgerFull, NotStarted, UnknownLine, HandshakeTooLate}
use Rattle.path.specs.declared.Path.TheVariants.{Relayed, Punched}
use Rattle.path.specs.declared.Owner.TheVariants.{Inbound}
use Rattle.path.specs.declared.Claim.TheVariants as claim
use Rattle.path.specs.declared.DialPurpose.TheVariants.{Punch}
use Rattle.path.specs.Judged.{judged, circuit_path, direct_path, by_dial, by_claim, by_window, unowned}
use Rattle.rows.specs.Rows.{inserted, crowded}
use Rattle.entries.specs.Entries.{dial_at}
use Rattle.ledger.specs.Ledger.{PathLedger, Attributed, empty_ledger, dials_of, windows_of, paths_of, with_dials, with_paths, dial_row, path_row, full_or, dial_started, attributed, recorded, judged_by, refuses_punches}
use Rattle.budget.specs.declared.UpgradeBudget.{UpgradeBudget}
use Rattle.candidates.specs.Selection.{Chosen}
use Rattle.frames.specs.Sent.{Framed}
use Rattle.vocabulary.specs.declared.Settings.{Settings}
use Rattle.vocabulary.specs.declared.Host.{Host}
use Rattle.vocabulary.specs.declared.StreamInput.{StreamInput}
use Rattle.vocabulary.specs.declared.Effect.{Effect}
use Rattle.vocabulary.specs.declared.Effect.TheVariants.{Path, Burst, Upgrade, Close, Send, Reset, Open}
use Rattle.circuit.specs.declared.state.Phase.{Phase}
use Rattle.circuit.specs.declared.state.Phase.TheVariants.{Handshaking, Done}
use Rattle.circuit.specs.declared.decision.Message.{Message}
use Rattle.circuit.specs.declared.decision.Message.TheVariants as message
use Rattle.circuit.specs.declared.decision.Decision.{Decision}
use Rattle.inbound.specs.declared.InboundCircuit.{InboundCircuit}
use Rattle.inbound.specs.declared.Answer.{Answer}
use Rattle.circuit.specs.State.{is_done}
use Rattle.circuit.specs.Decisions.{event_of, silence, decided_of, quiet_of, refused_of}
use Rattle.carried.specs.Carried.{message_of, sent_after}
use Rattle.circuit.specs.Decisions.{length_of}
use Rattle.circuit.specs.Calls.{begun_of, started_of, wrote_of, down_of}
use Rattle.lent.specs.Calls.{up_of, tick_of}
use Rattle.carried.specs.Carried.{no_frame, no_aims}
use Rattle.inbound.specs.Circuits.{answer_of, new_answer, up_answer, tick_answer, decided_at, input_answer, input_buffer, wrote_answer, down_answer}
use Rattle.questions.specs.Questions.{claim_of}
use Rattle.history.specs.Calls.{Call, up, input, tick, wrote, down, is_refused, step_of}
use Rattle.history.specs.Book.{Stage, Who, fresh, note}
use Rattle.history.specs.Tells.{Says, send, Lot, stays, removed, until, Told, nothing, gathers, tells}
use Rattle.history.specs.Answers.{bytes_of, said_in, said_by, said, back, leaves, left_of, Room, Noted, buffer, buffer_is, who_of}
use Rattle.history.specs.Questions.{is_over}
use Rattle.history.proofs.Relation.{Begun, Together, in_handshake, in_exchange_lem, in_window, at_end, Rel}
use Rattle.history.proofs.Made.{framed_in, chosen_in}
use Rattle.history.proofs.Run.{step_keeps, begun_rel}
use Rattle.history.proofs.Answers.{step_answers}
use Rattle.history.proofs.Buffers.{step_gives}
use Rattle.journal_lines.specs.declared.Line.{Line}
use Rattle.journal_lines.specs.declared.Line.TheVariants.{Start, Up, Input, Tick, Wrote, Down, Dial, Forget, Attribute}
use Rattle.journal_calls.specs.Calls.{Journal, new_journal, started, no_effects, silent, refused, naming, effects_of, Leaves, settled, start_in, start_turn, ledger_by, up_turn, input_turn, expired, tick_turn, wrote_turn, down_turn, dialed_by, dial_turn, forget_turn, claim_for, named_by, attribute_turn, Taken}
use Rattle.journal_turns.specs.Turns.{counted, host_of, digits_bytes, apart, turn_of, read, line_turn}
use Rattle.names.specs.Events.{Event, dialed, got_name, forgot, awaited, dialing, expected, is_full}
use Rattle.names.specs.Events as event
use Rattle.names.specs.Diary.{says_in, Diary, host_by, up_by, input_by, tick_by, of_lot, called, adds, name_of, is_name, says, entered, Out, still, refused_by, out_by, once_started, no_room, number, blank, told_of, next_of, tells_lines, out_of, outs, NamesFollow}
use Rattle.names.proofs.Tallies.{keys_full}
use Rattle.names.proofs.Agrees.{Agrees, empty_agrees, gave_up_agrees, replied_agrees, ticked_agrees, dialed_agrees, forgot_agrees, named_agrees}
use Rattle.time.specs.Time.{last}
use Rattle.refusal.specs.Number.{number_of}
use Rattle.wire.specs.Lists.{broken, entries}
use Rattle.history.specs.Numbers.{number_in, answered_with}
use Rattle.history.specs.Refuses.{refuses, lends_broken, lends_full, turned}
use Rattle.history.proofs.Refuses.{some_number, step_refuses}
use Rattle.path.specs.declared.Attribution.{Attribution}

-- the host's answers, here and there
host_same : (at : ℕ) (l : Option ConnectionId) (o : Option (ConnectionId × StreamId)) → host_by at l o ≡ host_of at l o
unfolding host_of
host_same at l o = refl

-- ---- what is said of a decision that is carried out, and of its answer

-- the message in the bytes that are lent for it
sent_bytes : (connect sent : List ℕ) (x : Option Message) → take (length_of x) (sent_after connect sent x) ≡ bytes_of (message_of connect x)
unfolding length_of sent_after message_of
sent_bytes connect sent None = refl
sent_bytes connect sent (Some (message.Connect n)) = refl
sent_bytes connect sent (Some message.Sync) = refl

-- of a message no more is said than its bytes in use
place_same : (a b : Framed) → bytes_of a ≡ bytes_of b → (targets : List (List ℕ)) (e : Option Effect) → said_in a targets e ≡ said_in b targets e
place_same a b q targets None = refl
place_same a b q targets (Some (Path peer relay conn)) = refl
place_same a b q targets (Some (Burst times payload)) = refl
place_same a b q targets (Some (Upgrade peer old new)) = refl
place_same a b q targets (Some (Close conn)) = refl
place_same a b q targets (Some (Send conn stream)) = ap (λ (z : List ℕ). send conn stream z ∷ []) q
place_same a b q targets (Some (Reset conn stream)) = refl
place_same a b q targets (Some (Open conn stream)) = refl

four : {a b c d e f g h : List Says} → a ≡ e → b ≡ f → c ≡ g → d ≡ h → a ++ (b ++ (c ++ d)) ≡ e ++ (f ++ (g ++ h))
four p q r t = rw (p, q, r, t)

said_same : (e : Decision) (after connect sent aims : List ℕ)
    → says_in (effects_of e) (sent_after connect sent e.message) aims ≡ said_by (answer_of e after aims (message_of connect e.message))
unfolding effects_of answer_of
said_same e after connect sent aims = four (each e.first) (each e.second) (each e.third) (each e.fourth)
  where
    lent : Framed
    lent = record { bytes = sent_after connect sent e.message; len = length_of e.message }

    aimed : List (List ℕ)
    aimed = entries (take e.core.targets aims)

    each : (x : Option Effect) → said_in lent aimed x ≡ said_in (message_of connect e.message) aimed x
    each = place_same lent (message_of connect e.message) (sent_bytes connect sent e.message) aimed

abbrev begun_by : Settings → Who → Begun
begun_by s who = record { source = who.source; relay = who.relay; circuit = who.circuit; settings = s }

record Meets (s : Settings) (j : Journal) (d : Diary) : Type 0 where
  settings : j.settings ≡ s
  begun : j.begun ≡ d.started
  rel : Rel (begun_by s d.who) j.circuit d.book
  ledger : Agrees j.ledger d.events

-- a line: the number that the diary refuses it with, or what it tells of it and the diary that it makes
record Follows (s : Settings) (d : Diary) (t : Taken) (n : ℕ) (o : Out) (d' : Diary) : Type 0 where
  out : out_of t.turn ≡ pick (turned n) (refused_by n) o
  next : Meets s t.turn.journal (pick (turned n) d d')
  reply : t.reply ≡ (pick (turned n) d d').reply

module _ (s : Settings) (j : Journal) (d : Diary) (m : Meets s j d) where
  refused_follows : (why : Refusal) (o : Out) (d' : Diary) → Follows s d (apart d.reply (refused j why)) (number_of why) o d'
  unfolding refused
  refused_follows why o d' = record { out = rw (some_number why); next = rw (some_number why) m; reply = rw (some_number why) }

  -- ---- calls of the circuit

  lot_agrees : (t : Lot) → Room d.who.source j.ledger t → Agrees (leaves d.who.source j.ledger t) (of_lot d.who.source t d.events)
  lot_agrees stays r = m.ledger
  lot_agrees removed r = gave_up_agrees j.ledger d.events m.ledger d.who.source
  lot_agrees (until deadline) r = replied_agrees j.ledger d.events m.ledger d.who.source deadline r

  -- a decision that is carried out, and what it answers
  abbrev answer_by : Decision → Leaves → Answer
  answer_by e x = answer_of e x.connect x.targets (message_of j.circuit.connect e.message)

  settled_follows : (e : Decision) (x : Leaves) (after : List ℕ) (w : Told) (d' : Diary) → d'.who ≡ d.who → d'.started ≡ d.started
      → said_by (answer_by e x) ≡ (pick (is_refused e.outcome) nothing w).said
      → Rel (begun_by s d.who) (answer_by e x).circuit (pick (is_refused e.outcome) d.book d'.book)
      → (is_refused e.outcome ≡ false → Agrees x.ledger d'.events)
      → after ≡ pick (is_refused e.outcome) d.reply d'.reply
      → Follows s d (record { turn = settled j e x e.outcome; reply = after }) (number_in e.outcome)
      (record { effects = w.said; name = []; number = 0 }) d'
  unfolding effects_of refused answer_of
  settled_follows e x after w d' q b f r g h = go e.outcome f r g h
    where
      go : (o : Result ⊤ Refusal) → said_by (answer_by e x) ≡ (pick (is_refused o) nothing w).said
          → Rel (begun_by s d.who) (answer_by e x).circuit (pick (is_refused o) d.book d'.book)
          → (is_refused o ≡ false → Agrees x.ledger d'.events)
          → after ≡ pick (is_refused o) d.reply d'.reply
          → Follows s d (record { turn = settled j e x o; reply = after }) (number_in o) (record { effects = w.said; name = []; number = 0 }) d'
      go (Ok tt) f r g h =
          record {
            out = ap (λ (z : List Says). record { effects = z; name = []; number = 0 })
                (said_same e x.connect j.circuit.connect j.sent x.targets ∙ f);
            next = record {
              settings = m.settings;
              begun = m.begun ∙ sym b;
              rel = subst (λ (z : Who). Rel (begun_by s z) (answer_by e x).circuit d'.book) (sym q) r;
              ledger = g refl;
            };
            reply = h;
          }
      go (Err why) f r g h =
          record { out = rw (some_number why); next = rw (some_number why) m; reply = rw (some_number why) h }

-- what is handed back
first : PathLedger → List PathLedger → PathLedger
first l [] = l
first l (x ∷ xs) = x

buffer_of : List (List ℕ) → List ℕ
buffer_of [] = []
buffer_of (x ∷ xs) = x

-- an accepted tick ticks the ledger
expired_agrees : (o : Result ⊤ Refusal) (l : PathLedger) (es : List Event) (at : ℕ) → is_refused o ≡ false → Agrees l es
    → Agrees (expired o l at) (event.ticked at ∷ es)
expired_agrees (Ok tt) l es at q a = ticked_agrees l es a at
expired_agrees (Err why) l es at q a = absurd (let z : ◌≡◌ {A = ℕ} 0 1 = cc in omega arith)

same_reply : (v : Bool) (x : List ℕ) → x ≡ pick v x x
same_reply true x = refl
same_reply false x = refl

module _ (s : Settings) (j : Journal) (d : Diary) (m : Meets s j d) where
  abbrev k : Begun
  k = begun_by s d.who

  left_agrees : (l : PathLedger) (w : Told) (r : Bool) → l ∷ [] ≡ leaves d.who.source j.ledger (pick r nothing w).lot ∷ []
      → Room d.who.source j.ledger (pick r nothing w).lot → r ≡ false → Agrees l (of_lot d.who.source w.lot d.events)
  unfolding first
  left_agrees l w true e n f = absurd (let z : ◌≡◌ {A = ℕ} 0 1 = cc in omega arith)
  left_agrees l w false e n f =
      subst (λ (x : PathLedger). Agrees x (of_lot d.who.source w.lot d.events)) (sym (ap (first l) e)) (lot_agrees s j d m w.lot n)

  -- the number of the circuit's answer, of the list that the line gives
  numbered : {t : Taken} {n : ℕ} {o : Out} {d' : Diary} (e : ℕ) → n ≡ e → Follows s d t n o d' → Follows s d t e o d'
  numbered {t} {n} {o} {d'} e q f = subst (λ (x : ℕ). Follows s d t x o d') q f

  -- whether the source's window is a 65th
  room_same : refuses_punches j.ledger d.who.source ≡ no_room d
  unfolding refuses_punches
  room_same = keys_full d.who.source.0 (windows_of j.ledger) (expected d.events) m.ledger.window_keys

  up_follows : (at : ℕ) (l : Option ConnectionId) (o : Option (ConnectionId × StreamId)) (own : List ℕ) (peer : PeerId) (conn : ConnectionId) (relayed : Bool)
      → Follows s d (apart d.reply (up_turn j (host_by at l o) own peer conn relayed))
      (refuses (broken own) false d.book (up empty_ledger (host_by at l o) own peer conn relayed))
      (says s d (up empty_ledger (host_by at l o) own peer conn relayed))
      (called s d (up empty_ledger (host_by at l o) own peer conn relayed) d.reply)
  unfolding up_turn up_answer answer_of step_of said back left_of Noted tells note refuses lends_broken lends_full answered_with
  up_follows at l o own peer conn relayed =
      let h : Host = host_by at l o in
      let x : Call = up j.ledger h own peer conn relayed in
      let f = step_answers k j.circuit d.book m.rel x in
      let e : Decision = up_of j.circuit.core h own peer conn relayed in
      let w : Told = tells s d.who d.book x in
      numbered _ (step_refuses k j.circuit d.book m.rel x)
      (settled_follows s j d m e _ d.reply w _ refl refl f.effects (step_keeps k j.circuit d.book m.rel x).rel
      (left_agrees (ledger_by j e) w (is_refused e.outcome) f.ledgers f.room) (same_reply (is_refused e.outcome) d.reply))

  tick_follows : (at : ℕ) (l : Option ConnectionId) (o : Option (ConnectionId × StreamId)) (own : List ℕ)
      → Follows s d (apart d.reply (tick_turn j (host_by at l o) own))
      (refuses (broken own) false d.book (tick empty_ledger (host_by at l o) own))
      (says s d (tick empty_ledger (host_by at l o) own))
      (adds (called s d (tick empty_ledger (host_by at l o) own) d.reply)
      (event.ticked at ∷ (called s d (tick empty_ledger (host_by at l o) own) d.reply).events))
  unfolding tick_turn tick_answer answer_of step_of said back left_of Noted tells note refuses lends_broken lends_full answered_with
  tick_follows at l o own =
      let h : Host = host_by at l o in
      let x : Call = tick j.ledger h own in
      let f = step_answers k j.circuit d.book m.rel x in
      let e : Decision = tick_of j.circuit.core h own in
      let w : Told = tells s d.who d.book x in
      numbered _ (step_refuses k j.circuit d.book m.rel x)
      (settled_follows s j d m e _ d.reply w _ refl refl f.effects (step_keeps k j.circuit d.book m.rel x).rel
      (λ q. expired_agrees e.outcome (ledger_by j e) _ at q
      (left_agrees (ledger_by j e) w (is_refused e.outcome) f.ledgers f.room q))
      (same_reply (is_refused e.outcome) d.reply))

  input_follows : (at : ℕ) (l : Option ConnectionId) (o : Option (ConnectionId × StreamId)) (own : List ℕ) (stream : StreamId) (kind : StreamInput) (bytes : List ℕ) (pending : Bool)
      → Follows s d (input_turn j (host_by at l o) own d.reply stream kind bytes pending)
      (refuses (broken own) (no_room d) d.book (input empty_ledger d.reply (host_by at l o) own stream kind bytes pending))
      (says s d (input empty_ledger d.reply (host_by at l o) own stream kind bytes pending))
      (called s d (input empty_ledger d.reply (host_by at l o) own stream kind bytes pending)
      (gathers (host_by at l o) d.reply stream kind bytes d.book.stage))
  unfolding input_turn input_answer input_buffer answer_of step_of said back left_of Noted tells note buffer buffer_is buffer_of refuses lends_broken lends_full answered_with
  input_follows at l o own stream kind bytes pending =
      let h : Host = host_by at l o in
      let x : Call = input j.ledger d.reply h own stream kind bytes pending in
      let f = step_answers k j.circuit d.book m.rel x in
      let e : Decision = decided_at j.circuit j.ledger h own d.reply stream kind bytes pending in
      let w : Told = tells s d.who d.book x in
      numbered _
      (step_refuses k j.circuit d.book m.rel x ∙ ap (λ (v : Bool). refuses (broken own) v d.book x) room_same)
      (settled_follows s j d m e _ _ w _ refl refl f.effects (step_keeps k j.circuit d.book m.rel x).rel
      (left_agrees (ledger_by j e) w (is_refused e.outcome) f.ledgers f.room)
      (ap buffer_of (step_gives k j.circuit d.book m.rel x)))

  -- ---- a line without effects

  silent_follows : (j' : Journal) (d' : Diary) → d'.reply ≡ d.reply → Meets s j' d' → Follows s d (apart d.reply (silent j')) 0 still d'
  unfolding silent no_effects
  silent_follows j' d' e n = record { out = refl; next = n; reply = sym e }

  wrote_follows : (at : ℕ) (conn : ConnectionId) (stream : StreamId)
      → Follows s d (apart d.reply (wrote_turn j at conn stream)) 0 still (called s d (wrote at conn stream) d.reply)
  unfolding wrote_turn wrote_of quiet_of decided_of silence event_of effects_of wrote_answer answer_of step_of tells
  wrote_follows at conn stream =
      record {
        out = refl;
        next = record {
          settings = m.settings;
          begun = m.begun;
          rel = (step_keeps k j.circuit d.book m.rel (wrote at conn stream)).rel;
          ledger = m.ledger;
        };
        reply = refl;
      }

  down_follows : (at : ℕ) (peer : PeerId) (conn : ConnectionId)
      → Follows s d (apart d.reply (down_turn j conn)) 0 still (called s d (down at peer conn) d.reply)
  unfolding down_turn down_of quiet_of decided_of silence event_of effects_of down_answer answer_of step_of tells
  down_follows at peer conn =
      record {
        out = refl;
        next = record {
          settings = m.settings;
          begun = m.begun;
          rel = (step_keeps k j.circuit d.book m.rel (down at peer conn)).rel;
          ledger = m.ledger;
        };
        reply = refl;
      }

  start_follows : (at : ℕ) (source relay : PeerId) (conn : ConnectionId)
      → Follows s d (apart d.reply (start_turn j at source relay conn)) (pick (ltb last (at + s.handshake)) 3 0) still
      (record { started = true; who = who_of source relay conn; book = fresh s at; reply = d.reply; events = d.events })
  unfolding start_turn started started_of new_answer answer_of quiet_of refused_of decided_of
  start_follows at source relay conn =
      subst
      (λ (z : Settings). Follows s d (apart d.reply (start_in j (started_of source relay conn z at))) (pick (ltb last (at + s.handshake)) 3 0) still
      (record { started = true; who = who_of source relay conn; book = fresh s at; reply = d.reply; events = d.events }))
      (sym m.settings) (go (ltb last (at + s.handshake)) (begun_rel source relay conn s at))
    where
      made : Bool → Decision
      made v =
          pick v (refused_of (begun_of source relay conn s (Done false)) HandshakeTooLate)
          (quiet_of (begun_of source relay conn s (Handshaking (at + s.handshake))))

      go : (v : Bool) → Rel (begun_by s (who_of source relay conn)) (record { core = (made v).core; connect = no_frame; targets = no_aims })
          (fresh s at)
          → Follows s d (apart d.reply (start_in j (made v))) (pick v 3 0) still
          (record { started = true; who = who_of source relay conn; book = fresh s at; reply = d.reply; events = d.events })
      go true r = refused_follows s j d m HandshakeTooLate still _
      go false r = silent_follows _ _ refl (record { settings = m.settings; begun = refl; rel = r; ledger = m.ledger })

  -- ---- dials

  dial_follows : (conn : ConnectionId) (token : NatToken) (id : ConnectId)
      → Follows s d (apart d.reply (dial_turn j conn token id)) (pick (is_full conn.0 (dialing d.events)) 4 0) still
      (adds d (dialed conn id ∷ d.events))
  unfolding dial_turn dial_started
  dial_follows conn token id =
      rw (← keys_full conn.0 (dials_of j.ledger) (dialing d.events) m.ledger.dial_keys) (go (crowded conn.0 (dials_of j.ledger)) refl)
    where
      changed : PathLedger
      changed = with_dials j.ledger (inserted (dial_row conn token (Punch id)) (dials_of j.ledger))

      go : (v : Bool) → crowded conn.0 (dials_of j.ledger) ≡ v
          → Follows s d (apart d.reply (dialed_by j (full_or v j.ledger changed).ledger (full_or v j.ledger changed).outcome)) (pick v 4 0) still
          (adds d (dialed conn id ∷ d.events))
      go true e = refused_follows s j d m LedgerFull still _
      go false e =
          silent_follows _ (adds d (dialed conn id ∷ d.events)) refl
          (record {
            settings = m.settings;
            begun = m.begun;
            rel = m.rel;
            ledger = dialed_agrees j.ledger d.events m.ledger conn token id e;
          })

  forget_follows : (conn : ConnectionId) → Follows s d (apart d.reply (forget_turn j conn)) 0 still (adds d (forgot conn ∷ d.events))
  unfolding forget_turn
  forget_follows conn =
      silent_follows _ (adds d (forgot conn ∷ d.events)) refl
      (record {
        settings = m.settings;
        begun = m.begun;
        rel = m.rel;
        ledger = forgot_agrees j.ledger d.events m.ledger conn;
      })

  -- ---- names

  done_over : (p : Phase) (g : UpgradeBudget) (f : Framed) (t : Chosen) (deadline rounds : ℕ) (stage : Stage) → Together s g f t deadline rounds p stage
      → is_done p ≡ is_over stage
  done_over p g f t deadline rounds stage (in_handshake end) = refl
  done_over p g f t deadline rounds stage (in_exchange_lem conn stream end count connect x) = refl
  done_over p g f t deadline rounds stage (in_window closes q w x) = refl
  done_over p g f t deadline rounds stage (at_end promoted) = refl

  judged_named : (at : ℕ) (peer : PeerId) (conn : ConnectionId) (relayed : Bool)
      → judged_by j.ledger conn peer relayed (claim_for j.circuit.core conn relayed) at ≡ name_of d at peer conn relayed
  unfolding judged_by judged circuit_path direct_path by_claim by_window claim_for claim_of
  judged_named at peer conn true =
      rw (
        ap (λ (c : InboundCircuit). c.core.circuit) m.rel.shape,
        ap (λ (c : InboundCircuit). c.core.relay) m.rel.shape,
        done_over j.circuit.core.phase j.circuit.core.budget (framed_in j.circuit) (chosen_in j.circuit)
            d.book.deadline d.book.rounds d.book.stage m.rel.together,
      )
      (go (both (eqb conn.0 d.who.circuit.0) (no (is_over d.book.stage))))
    where
      go : (v : Bool)
          → circuit_path (pick v (Some (claim.Circuit d.who.relay (Some Inbound))) None)
          ≡ pick v (Some (record { path = Relayed d.who.relay; owner = Some Inbound })) None
      go true = refl
      go false = refl
  judged_named at peer conn false =
      ap Some
      (ap (λ (v : Bool). by_dial (dial_at conn (dials_of j.ledger)) (pick v (record { path = Punched; owner = Some Inbound }) unowned)) (m.ledger.windows peer at)
      ∙ m.ledger.dials conn (pick (awaited peer at d.events) (record { path = Punched; owner = Some Inbound }) unowned))

  -- a name is recorded where it is no 65th; without a name no row is needed
  named_follows : (at : ℕ) (peer : PeerId) (conn : ConnectionId) (relayed : Bool) (f : Option Attribution)
      → judged_by j.ledger conn peer relayed (claim_for j.circuit.core conn relayed) at ≡ f
      → Follows s d (apart d.reply (named_by j (recorded j.ledger conn f).ledger (recorded j.ledger conn f).answer))
      (pick (both (is_name f) (is_full conn.0 (event.named d.events))) 4 0)
      (record { effects = []; name = f ∷ []; number = 0 })
      (adds d (pick (is_name f) (got_name conn ∷ d.events) d.events))
  unfolding naming
  named_follows at peer conn relayed None e =
      record { out = refl; next = record { settings = m.settings; begun = m.begun; rel = m.rel; ledger = m.ledger }; reply = refl }
  named_follows at peer conn relayed (Some x) e =
      rw (← keys_full conn.0 (paths_of j.ledger) (event.named d.events) m.ledger.path_keys) (go (crowded conn.0 (paths_of j.ledger)) refl)
    where
      one : Bool → Attributed
      one v =
          pick v (record { ledger = j.ledger; answer = Err LedgerFull })
          (record { ledger = with_paths j.ledger (inserted (path_row conn x) (paths_of j.ledger)); answer = Ok (Some x) })

      go : (v : Bool) → crowded conn.0 (paths_of j.ledger) ≡ v
          → Follows s d (apart d.reply (named_by j (one v).ledger (one v).answer)) (pick v 4 0) (record { effects = []; name = Some x ∷ []; number = 0 })
          (adds d (got_name conn ∷ d.events))
      go true q = refused_follows s j d m LedgerFull _ _
      go false q =
          record {
            out = refl;
            next = record {
              settings = m.settings;
              begun = m.begun;
              rel = m.rel;
              ledger = named_agrees j.ledger d.events m.ledger conn x peer relayed (claim_for j.circuit.core conn relayed) at e q;
            };
            reply = refl;
          }

  attribute_follows : (at : ℕ) (peer : PeerId) (conn : ConnectionId) (relayed : Bool)
      → Follows s d (apart d.reply (attribute_turn j at peer conn relayed))
      (pick (both (is_name (name_of d at peer conn relayed)) (is_full conn.0 (event.named d.events))) 4 0)
      (record { effects = []; name = name_of d at peer conn relayed ∷ []; number = 0 })
      (adds d (pick (is_name (name_of d at peer conn relayed)) (got_name conn ∷ d.events) d.events))
  unfolding attribute_turn attributed
  attribute_follows at peer conn relayed =
      rw (← judged_named at peer conn relayed)
      (named_follows at peer conn relayed (judged_by j.ledger conn peer relayed (claim_for j.circuit.core conn relayed) at) refl)

-- ---- a line

module _ (s : Settings) (j : Journal) (d : Diary) (m : Meets s j d) where
  -- a call that needs a start
  once : (t : Taken) (n : ℕ) (o : Out) (d' : Diary) → Follows s d t n o d'
      → Follows s d (pick (no j.begun) (apart d.reply (refused j NotStarted)) t) (once_started d n) o d'
  once t n o d' f =
      subst (λ (v : Bool). Follows s d (pick (no v) (apart d.reply (refused j NotStarted)) t) (once_started d n) o d') (sym m.begun) (go d.started)
    where
      go : (v : Bool) → Follows s d (pick (no v) (apart d.reply (refused j NotStarted)) t) (pick v n 12) o d'
      go true = f
      go false = refused_follows s j d m NotStarted o d'

  turn_follows : (line : List ℕ) (call : Option Line)
      → Follows s d (turn_of line j d.reply call) (number s line d call) (out_by s line d call) (entered s line d call)
  unfolding turn_of
  turn_follows line (Some (Start at source relay conn)) = start_follows s j d m at source relay conn
  turn_follows line (Some (Up at peer conn relayed l o pending own)) =
      once _ _ _ _
      (subst
      (λ (h : Host). Follows s d (apart d.reply (up_turn j h (digits_bytes line own) peer conn relayed))
      (refuses (broken (digits_bytes line own)) false d.book (up_by line at peer conn relayed l o own))
      (says s d (up_by line at peer conn relayed l o own)) (called s d (up_by line at peer conn relayed l o own) d.reply))
      (host_same at l o) (up_follows s j d m at l o (digits_bytes line own) peer conn relayed))
  turn_follows line (Some (Input at stream kind bytes l o pending own)) =
      once _ _ _ _
      (subst
      (λ (h : Host). Follows s d (input_turn j h (digits_bytes line own) d.reply stream kind (digits_bytes line bytes) pending)
      (refuses (broken (digits_bytes line own)) (no_room d) d.book (input_by line d.reply at stream kind bytes l o pending own))
      (says s d (input_by line d.reply at stream kind bytes l o pending own))
      (called s d (input_by line d.reply at stream kind bytes l o pending own)
      (gathers (host_by at l o) d.reply stream kind (digits_bytes line bytes) d.book.stage)))
      (host_same at l o)
      (input_follows s j d m at l o (digits_bytes line own) stream kind (digits_bytes line bytes) pending))
  turn_follows line (Some (Tick at l o own)) =
      once _ _ _ _
      (subst
      (λ (h : Host). Follows s d (apart d.reply (tick_turn j h (digits_bytes line own)))
      (refuses (broken (digits_bytes line own)) false d.book (tick_by line at l o own)) (says s d (tick_by line at l o own))
      (adds (called s d (tick_by line at l o own) d.reply) (event.ticked at ∷ (called s d (tick_by line at l o own) d.reply).events)))
      (host_same at l o) (tick_follows s j d m at l o (digits_bytes line own)))
  turn_follows line (Some (Wrote at conn stream)) = once _ _ _ _ (wrote_follows s j d m at conn stream)
  turn_follows line (Some (Down at peer conn)) = once _ _ _ _ (down_follows s j d m at peer conn)
  turn_follows line (Some (Dial at conn token id)) = once _ _ _ _ (dial_follows s j d m conn token id)
  turn_follows line (Some (Forget at conn)) = once _ _ _ _ (forget_follows s j d m conn)
  turn_follows line (Some (Attribute at peer conn relayed)) = once _ _ _ _ (attribute_follows s j d m at peer conn relayed)
  turn_follows line None = refused_follows s j d m UnknownLine _ _

line_follows : (s : Settings) (j : Journal) (d : Diary) → Meets s j d → (line : List ℕ) (ended : Bool)
    → Follows s d (line_turn j d.reply line ended) (number s line d (read line ended)) (out_by s line d (read line ended)) (entered s line d (read line ended))
unfolding line_turn counted
line_follows s j d m line ended =
    turn_follows s (counted j) d (record { settings = m.settings; begun = m.begun; rel = m.rel; ledger = m.ledger }) line (read line ended)

-- ---- all lines

all_follow : (s : Settings) (ls : List (List ℕ × Bool)) (j : Journal) (d : Diary) → Meets s j d → (reply : List ℕ) → reply ≡ d.reply
    → outs j reply ls ≡ tells_lines s d ls
unfolding outs tells_lines
all_follow s [] j d m reply e = refl
all_follow s (l ∷ ls) j d m reply e =
    let call : Option Line = read l.0 l.1 in
    let f : Follows s d (line_turn j reply l.0 l.1) (number s l.0 d call) (out_by s l.0 d call) (entered s l.0 d call)
    = subst (λ (r : List ℕ). Follows s d (line_turn j r l.0 l.1) (number s l.0 d call) (out_by s l.0 d call) (entered s l.0 d call)) (sym e)
    (line_follows s j d m l.0 l.1) in
    rw f.out
    (ap (λ (z : List Out). told_of s l.0 d call ∷ z)
    (all_follow s ls (line_turn j reply l.0 l.1).turn.journal (next_of s l.0 d call) f.next (line_turn j reply l.0 l.1).reply f.reply))

pub names_follow : NamesFollow
unfolding new_journal new_answer answer_of
names_follow s lines =
    all_follow s lines (new_journal s) (blank s)
    (record {
      settings = refl;
      begun = refl;
      rel = begun_rel (record { 0 = 0 }) (record { 0 = 0 }) (record { 0 = 0 }) s 0;
      ledger = empty_agrees;
    })
    (replicate 4098 0) refl
