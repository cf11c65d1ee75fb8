-- What a call leaves of the journal, from what it leaves of its numbers and of its memory.
-- Assumes nothing.
use mathlib.Core.Path.{◌≡◌, refl, ◌∙◌, ap}
use mathlib.Core.Bool.{Bool, true, false}
use mathlib.Core.List.{List}
use Prim.Native.Nat.{ℕ}
use native.Mathlib.Omega.{arith}
use lib.ListN.{length}
use Rattle.std.specs.Prelude.{Err, None, Ok, Option, Result, Some, is_some, ⊤}
use Rattle.rows.specs.Words.{ledger_words}
use Rattle.prelude.specs.Choice.{pick}
use Rattle.refusal.specs.declared.Refusal.{Refusal}
use Rattle.refusal.specs.declared.Refusal.TheVariants.{LedgerFull}
use Rattle.candidates.specs.Selection.{Chosen}
use Rattle.ids.specs.declared.PeerId.{PeerId}
use Rattle.ids.specs.declared.ConnectionId.{ConnectionId}
use Rattle.ids.specs.declared.StreamId.{StreamId}
use Rattle.ids.specs.declared.NatToken.{NatToken}
use Rattle.path.specs.declared.DialPurpose.{DialPurpose}
use Rattle.path.specs.declared.Claim.{Claim}
use Rattle.rows.specs.Rows.{crowded}
use Rattle.ledger.specs.Ledger.{PathLedger, Attributed, tables_of, laid, full_or, dial_started, dial_row, with_dials, judged_by, path_row, with_paths, recorded, attributed, dials_of, paths_of}
use Rattle.rows.specs.Rows.{inserted}
use Rattle.ledger.proofs.Laws.{laid_same}
use Rattle.vocabulary.specs.declared.Host.{Host}
use Rattle.vocabulary.specs.declared.StreamInput.{StreamInput}
use Rattle.circuit.specs.declared.state.Core.{Core}
use Rattle.circuit.specs.declared.decision.Decision.{Decision}
use Rattle.circuit.specs.State.{terms_of}
use Rattle.circuit.specs.Decisions.{refused_of}
use Rattle.carried.specs.Carried.{sent_after, ledger_after, opens, connect_after, targets_after}
use Rattle.lent.specs.Calls.{up_of, tick_of, peeked}
use Rattle.inbound.specs.Circuits.{decided_at}
use Rattle.lent.proofs.Turned.{Whole, up_whole, tick_whole, input_whole}
use Rattle.journal_calls.specs.declared.State.{State}
use Rattle.journal_calls.specs.declared.Running.{Running}
use Rattle.journal_calls.specs.declared.Turn.{Turn}
use Rattle.journal_calls.specs.declared.Memory.{Memory}
use Rattle.journal_calls.specs.Calls.{Journal, core_in, whole, Turned, turned, refused, saying, running, settled_in, Leaves, settled, up_turn, input_turn, expired, tick_turn}
use Rattle.path.specs.declared.Attribution.{Attribution}

-- ---- what a refused decision leaves

module _ (c : Core) (own connect sent : List ℕ) where
  kept_connect : (why : Refusal) → connect_after (terms_of c.settings) own connect (refused_of c why).fourth ≡ connect
  unfolding refused_of connect_after opens
  kept_connect why = refl

  kept_sent : (why : Refusal) → sent_after connect sent (refused_of c why).message ≡ sent
  unfolding refused_of sent_after
  kept_sent why = refl

  kept_ledger : (why : Refusal) (source : PeerId) (l : PathLedger) → ledger_after source l (refused_of c why).window ≡ l
  unfolding refused_of ledger_after
  kept_ledger why source l = refl

kept_aims : (c : Core) (targets : List ℕ) (q : Chosen) (why : Refusal) → targets_after targets q (refused_of c why).window ≡ targets
unfolding refused_of targets_after
kept_aims c targets q why = refl

-- ---- part by part

abbrev made : Turn → (connect targets sent words : List ℕ) → PathLedger → Turned
made t connect targets sent words l =
    record {
      journal = record {
        n = t.state.n;
        begun = is_some t.state.core;
        settings = t.state.settings;
        circuit = record { core = core_in t.state.settings t.state.core; connect = connect; targets = targets };
        ledger = l;
        words = words;
        sent = sent;
      };
      said = t.said;
      effects = t.effects;
    }

parts : {t u : Turn} {c c' a a' n n' w w' : List ℕ} {l l' : PathLedger} → t ≡ u → c ≡ c' → a ≡ a' → n ≡ n' → w ≡ w' → l ≡ l'
    → made t c a n w l ≡ made u c' a' n' w' l'
parts e p q u v w = rw (e, p, q, u, v, w) refl

module _ (b : Running) (m : Memory) (long : length m.ledger ≡ ledger_words) where
  abbrev core : Core
  core = b.core

  abbrev at_circuit : State
  at_circuit = running b

  abbrev j : Journal
  j = whole at_circuit m

  -- a refused decision leaves the memory as it was
  abbrev Stays : Decision → Leaves → Type 0
  Stays d x =
      (why : Refusal) → d.outcome ≡ Err why
      → (x.connect ≡ m.connect) × ((x.targets ≡ m.targets) × ((x.ledger ≡ tables_of m.ledger) × ((x.words ≡ m.ledger) × (sent_after m.connect m.sent d.message ≡ m.sent))))

  settled_left : (d : Decision) (x : Leaves) → Stays d x → {i : State} {e : Decision} {r : Turn} {c a n zs : List ℕ} → i ≡ at_circuit → e ≡ d → r ≡ settled_in i e e.outcome
      → c ≡ x.connect → a ≡ x.targets → n ≡ sent_after m.connect m.sent d.message → tables_of zs ≡ x.ledger → zs ≡ x.words
      → turned r (record { connect = c; targets = a; sent = n; ledger = zs }) ≡ settled j d x d.outcome
  unfolding refused saying
  settled_left d x stays {i} {e} {r} {c} {a} {n} {zs} f g h p q u v w = go d.outcome refl (h ∙ rw (f, g))
    where
      go : (o : Result ⊤ Refusal) → d.outcome ≡ o → r ≡ settled_in at_circuit d o
          → turned r (record { connect = c; targets = a; sent = n; ledger = zs }) ≡ settled j d x o
      go (Ok tt) f e = parts e p q u w v
      go (Err why) f e =
          let z = stays why f in
          parts e (p ∙ z.0) (q ∙ z.1.0) (u ∙ z.1.1.1.1) (w ∙ z.1.1.1.0) (v ∙ z.1.1.0)

  -- ---- up, input and tick

  module _ (own : List ℕ) (d : Decision) (turned : Whole core d) where
    stays_connect : (why : Refusal) → d.outcome ≡ Err why → connect_after (terms_of core.settings) own m.connect d.fourth ≡ m.connect
    stays_connect why e = ap (λ (z : Decision). connect_after (terms_of core.settings) own m.connect z.fourth) (turned why e) ∙ kept_connect core own m.connect m.sent why

    stays_sent : (why : Refusal) → d.outcome ≡ Err why → sent_after m.connect m.sent d.message ≡ m.sent
    stays_sent why e = ap (λ (z : Decision). sent_after m.connect m.sent z.message) (turned why e) ∙ kept_sent core own m.connect m.sent why

    stays_ledger : (why : Refusal) → d.outcome ≡ Err why → ledger_after core.source (tables_of m.ledger) d.window ≡ tables_of m.ledger
    stays_ledger why e =
        ap (λ (z : Decision). ledger_after core.source (tables_of m.ledger) z.window) (turned why e)
        ∙ kept_ledger core own m.connect m.sent why core.source (tables_of m.ledger)

    stays_words : (why : Refusal) → d.outcome ≡ Err why → laid (ledger_after core.source (tables_of m.ledger) d.window) m.ledger ≡ m.ledger
    stays_words why e = ap (λ (l : PathLedger). laid l m.ledger) (stays_ledger why e) ∙ laid_same m.ledger long

    stays_aims : (q : Chosen) (why : Refusal) → d.outcome ≡ Err why → targets_after m.targets q d.window ≡ m.targets
    stays_aims q why e = ap (λ (z : Decision). targets_after m.targets q z.window) (turned why e) ∙ kept_aims core m.targets q why

  pub up_left : (h : Host) (own : List ℕ) (peer : PeerId) (conn : ConnectionId) (relayed : Bool) {i : State} {e : Decision} {r : Turn} {c n zs : List ℕ}
      → i ≡ at_circuit → r ≡ settled_in i e e.outcome → e ≡ up_of core h own peer conn relayed
      → c ≡ connect_after (terms_of core.settings) own m.connect (up_of core h own peer conn relayed).fourth
      → n ≡ sent_after m.connect m.sent (up_of core h own peer conn relayed).message
      → tables_of zs ≡ ledger_after core.source (tables_of m.ledger) (up_of core h own peer conn relayed).window
      → zs ≡ laid (ledger_after core.source (tables_of m.ledger) (up_of core h own peer conn relayed).window) m.ledger
      → turned r (record { connect = c; targets = m.targets; sent = n; ledger = zs }) ≡ up_turn j h own peer conn relayed
  unfolding up_turn
  up_left h own peer conn relayed f g o p q u v =
      settled_left d _
      (λ why e. (stays_connect own d w why e, (refl, (stays_ledger own d w why e, (stays_words own d w why e, stays_sent own d w why e)))))
      f o g p refl q u v
    where
      d : Decision
      d = up_of core h own peer conn relayed

      w : Whole core d
      w = up_whole core h own peer conn relayed

  -- the ledger ticks behind the circuit
  pub tick_left : (h : Host) (own : List ℕ) {i : State} {e : Decision} {r : Turn} {c n ys zs : List ℕ}
      → i ≡ at_circuit → r ≡ settled_in i e e.outcome → e ≡ tick_of core h own
      → c ≡ connect_after (terms_of core.settings) own m.connect (tick_of core h own).fourth
      → n ≡ sent_after m.connect m.sent (tick_of core h own).message
      → tables_of ys ≡ ledger_after core.source (tables_of m.ledger) (tick_of core h own).window
      → ys ≡ laid (ledger_after core.source (tables_of m.ledger) (tick_of core h own).window) m.ledger
      → tables_of zs ≡ expired e.outcome (tables_of ys) h.at
      → zs ≡ laid (expired e.outcome (tables_of ys) h.at) ys
      → turned r (record { connect = c; targets = m.targets; sent = n; ledger = zs }) ≡ tick_turn j h own
  unfolding tick_turn
  tick_left h own {e = e} {ys = ys} f g o p q u v x y =
      settled_left d _
      (λ why e. (stays_connect own d w why e, (refl, (ledger why e, (words why e, stays_sent own d w why e)))))
      f o g p refl q
      (x ∙ rw (o, u))
      (y ∙ ap (λ (z : PathLedger). laid z ys) (rw (o, u)) ∙ ap (λ (z : List ℕ). laid (expired d.outcome l h.at) z) v)
    where
      d : Decision
      d = tick_of core h own

      w : Whole core d
      w = tick_whole core h own

      l : PathLedger
      l = ledger_after core.source (tables_of m.ledger) (tick_of core h own).window

      ledger : (why : Refusal) → d.outcome ≡ Err why → expired d.outcome l h.at ≡ tables_of m.ledger
      ledger why e = ap (λ (o : Result ⊤ Refusal). expired o l h.at) e ∙ stays_ledger own d w why e

      words : (why : Refusal) → d.outcome ≡ Err why → laid (expired d.outcome l h.at) (laid l m.ledger) ≡ m.ledger
      words why e =
          ap (λ (o : Result ⊤ Refusal). laid (expired o l h.at) (laid l m.ledger)) e
          ∙ ap (λ (z : List ℕ). laid l z) (stays_words own d w why e) ∙ stays_words own d w why e

  pub input_left : (h : Host) (own reply : List ℕ) (stream : StreamId) (k : StreamInput) (bytes : List ℕ) (pending : Bool) {i : State} {e : Decision}
      {r : Turn} {c a n zs : List ℕ}
      → i ≡ at_circuit → r ≡ settled_in i e e.outcome → e ≡ decided_at j.circuit (tables_of m.ledger) h own reply stream k bytes pending
      → c ≡ connect_after (terms_of core.settings) own m.connect (decided_at j.circuit (tables_of m.ledger) h own reply stream k bytes pending).fourth
      → a ≡ targets_after m.targets (peeked core reply bytes).targets (decided_at j.circuit (tables_of m.ledger) h own reply stream k bytes pending).window
      → n ≡ sent_after m.connect m.sent (decided_at j.circuit (tables_of m.ledger) h own reply stream k bytes pending).message
      → tables_of zs ≡ ledger_after core.source (tables_of m.ledger) (decided_at j.circuit (tables_of m.ledger) h own reply stream k bytes pending).window
      → zs ≡ laid (ledger_after core.source (tables_of m.ledger) (decided_at j.circuit (tables_of m.ledger) h own reply stream k bytes pending).window) m.ledger
      → turned r (record { connect = c; targets = a; sent = n; ledger = zs }) ≡ (input_turn j h own reply stream k bytes pending).turn
  unfolding input_turn
  input_left h own reply stream k bytes pending f g o p q u v x =
      settled_left d _
      (λ why e. (stays_connect own d w why e, (stays_aims own d w (peeked core reply bytes).targets why e, (stays_ledger own d w why e, (stays_words own d w why e, stays_sent own d w why e)))))
      f o g p q u v x
    where
      d : Decision
      d = decided_at j.circuit (tables_of m.ledger) h own reply stream k bytes pending

      w : Whole core d
      w = input_whole core _ h own reply stream k bytes pending

-- ---- the ledger's calls

-- a refused one leaves the rows
pub undialed : (l : PathLedger) (conn : ConnectionId) (token : NatToken) (p : DialPurpose) {why : Refusal}
    → (dial_started l conn token p).outcome ≡ Err why → (dial_started l conn token p).ledger ≡ l
unfolding dial_started
undialed l conn token p e = go (crowded conn.0 (dials_of l)) e
  where
    x : PathLedger
    x = with_dials l (inserted (dial_row conn token p) (dials_of l))

    go : (v : Bool) {why : Refusal} → (full_or v l x).outcome ≡ Err why → (full_or v l x).ledger ≡ l
    go true e = refl
    go false e = absurd (let z : ◌≡◌ {A = ℕ} 0 1 = cc in omega arith)

pub unnamed : (l : PathLedger) (conn : ConnectionId) (peer : PeerId) (relayed : Bool) (claim : Option Claim) (at : ℕ) {why : Refusal}
    → (attributed l conn peer relayed claim at).answer ≡ Err why → (attributed l conn peer relayed claim at).ledger ≡ l
unfolding attributed
unnamed l conn peer relayed claim at e = of (judged_by l conn peer relayed claim at) e
  where
    of : (f : Option Attribution) {why : Refusal} → (recorded l conn f).answer ≡ Err why → (recorded l conn f).ledger ≡ l
    of None e = refl
    of (Some x) e = by (crowded conn.0 (paths_of l)) e
      where
        kept : Attributed
        kept = record { ledger = l; answer = Err LedgerFull }

        named : Attributed
        named = record { ledger = with_paths l (inserted (path_row conn x) (paths_of l)); answer = Ok (Some x) }

        by : (v : Bool) {why : Refusal} → (pick v kept named).answer ≡ Err why → (pick v kept named).ledger ≡ l
        by true e = refl
        by false e = absurd (let z : ◌≡◌ {A = ℕ} 0 1 = cc in omega arith)
