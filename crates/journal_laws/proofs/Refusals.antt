-- A refused line changes nothing, call by call. Assumes nothing.
use Prim.Native.Nat.{ℕ}
use native.Mathlib.Omega.{arith}
use mathlib.Core.Path.{◌≡◌, refl}
use mathlib.Core.Bool.{Bool, true, false}
use mathlib.Core.List.{List}
use Rattle.std.specs.Prelude.{Err, None, Ok, Option, Result, Some, ⊤}
use Rattle.prelude.specs.Choice.{pick, both, no}
use Rattle.refusal.specs.declared.Refusal.{Refusal}
use Rattle.refusal.specs.declared.Refusal.TheVariants.{NotStarted}
use Rattle.path.specs.declared.DialPurpose.TheVariants.{Punch}
use Rattle.ledger.specs.Ledger.{PathLedger, dial_started, attributed}
use Rattle.vocabulary.specs.declared.Host.{Host}
use Rattle.circuit.specs.declared.state.Core.{Core}
use Rattle.circuit.specs.declared.decision.Decision.{Decision}
use Rattle.circuit.specs.Calls.{started_of, wrote_of, down_of}
use Rattle.lent.specs.Calls.{up_of, tick_of}
use Rattle.inbound.specs.Circuits.{answer_of, decided_at, input_answer, input_buffer}
use Rattle.history.specs.Calls.{is_refused, step_of}
use Rattle.history.specs.Calls as history
use Rattle.history.proofs.Refusals.{refused_changes_nothing}
use Rattle.journal_lines.specs.declared.Line.{Line}
use Rattle.journal_lines.specs.declared.Line.TheVariants.{Start, Up, Input, Tick, Wrote, Down, Dial, Forget, Attribute}
use Rattle.journal_calls.specs.Calls.{Journal, silent, refused, naming, Leaves, settled, started_by, start_turn, up_turn, input_turn, tick_turn, wrote_turn, down_turn, dialed_by, dial_turn, forget_turn, claim_for, named_by, attribute_turn, Taken}
use Rattle.journal_turns.specs.Turns.{counted, digits_bytes, host_of, apart, needs_start, call_turn, turn_of, read, line_turn}
use Rattle.journal_calls.specs.declared.Said.TheVariants as said
use Rattle.journal_laws.specs.Laws.{RefusedChangesNothing}
use Rattle.path.specs.declared.Attribution.{Attribution}

abbrev Left : Journal → List ℕ → Taken → Type 0
Left j reply t = (t.turn.journal ≡ j) × (t.reply ≡ reply)

early : (j : Journal) (reply : List ℕ) → Left j reply (apart reply (refused j NotStarted))
unfolding refused
early j reply = (refl, refl)

module _ (j : Journal) (why : Refusal) where
  started_left : (c : Core) (o : Result ⊤ Refusal) → (started_by j c o).said ≡ said.Refused why → (started_by j c o).journal ≡ j
  unfolding silent refused
  started_left c (Ok tt) e = let z : ◌≡◌ {A = ℕ} 0 1 = cc in absurd (omega arith)
  started_left c (Err w) e = refl

  settled_left : (d : Decision) (x : Leaves) (o : Result ⊤ Refusal) → (settled j d x o).said ≡ said.Refused why → (settled j d x o).journal ≡ j
  unfolding refused
  settled_left d x (Ok tt) e = let z : ◌≡◌ {A = ℕ} 0 1 = cc in absurd (omega arith)
  settled_left d x (Err w) e = refl

  settled_refused : (d : Decision) (x : Leaves) (o : Result ⊤ Refusal) → (settled j d x o).said ≡ said.Refused why → is_refused o ≡ true
  unfolding refused
  settled_refused d x (Ok tt) e = let z : ◌≡◌ {A = ℕ} 0 1 = cc in absurd (omega arith)
  settled_refused d x (Err w) e = refl

  dialed_left : (l : PathLedger) (o : Result ⊤ Refusal) → (dialed_by j l o).said ≡ said.Refused why → (dialed_by j l o).journal ≡ j
  unfolding silent refused
  dialed_left l (Ok tt) e = let z : ◌≡◌ {A = ℕ} 0 1 = cc in absurd (omega arith)
  dialed_left l (Err w) e = refl

  named_left : (l : PathLedger) (n : Result (Option Attribution) Refusal) → (named_by j l n).said ≡ said.Refused why → (named_by j l n).journal ≡ j
  unfolding naming refused
  named_left l (Ok (Some a)) e = let z : ◌≡◌ {A = ℕ} 0 1 = cc in absurd (omega arith)
  named_left l (Ok None) e = let z : ◌≡◌ {A = ℕ} 0 1 = cc in absurd (omega arith)
  named_left l (Err w) e = refl

  never : {A : Type 0} → said.Effects ≡ said.Refused why → A
  never e = let z : ◌≡◌ {A = ℕ} 0 1 = cc in absurd (omega arith)

  call_left : (line reply : List ℕ) (call : Option Line) → (call_turn line j reply call).turn.said ≡ said.Refused why → Left j reply (call_turn line j reply call)
  unfolding silent refused start_turn up_turn input_turn tick_turn wrote_turn down_turn dial_turn forget_turn attribute_turn input_answer input_buffer answer_of step_of
  call_left line reply (Some (Start at source relay conn)) e = (started_left _ (started_of source relay conn j.settings at).outcome e, refl)
  call_left line reply (Some (Up at peer conn relayed l o pending own)) e =
      let d : Decision = up_of j.circuit.core (host_of at l o) (digits_bytes line own) peer conn relayed in
      (settled_left d _ d.outcome e, refl)
  call_left line reply (Some (Input at stream k bytes l o pending own)) e =
      let h : Host = host_of at l o in
      let d : Decision = decided_at j.circuit j.ledger h (digits_bytes line own) reply stream k (digits_bytes line bytes) pending in (
        settled_left d _ d.outcome e,
        (refused_changes_nothing j.circuit
            (history.input j.ledger reply h (digits_bytes line own) stream k (digits_bytes line bytes) pending)
            (settled_refused d _ d.outcome e)
            ).lent.1,
      )
  call_left line reply (Some (Tick at l o own)) e =
      let d : Decision = tick_of j.circuit.core (host_of at l o) (digits_bytes line own) in
      (settled_left d _ d.outcome e, refl)
  call_left line reply (Some (Wrote at conn stream)) e =
      let d : Decision = wrote_of j.circuit.core at conn stream in
      (settled_left d _ d.outcome e, refl)
  call_left line reply (Some (Down at peer conn)) e =
      let d : Decision = down_of j.circuit.core conn in
      (settled_left d _ d.outcome e, refl)
  call_left line reply (Some (Dial at conn token id)) e = (dialed_left _ (dial_started j.ledger conn token (Punch id)).outcome e, refl)
  call_left line reply (Some (Forget at conn)) e = never e
  call_left line reply (Some (Attribute at peer conn relayed)) e =
      (named_left _ (attributed j.ledger conn peer relayed (claim_for j.circuit.core conn relayed) at).answer e, refl)
  call_left line reply None e = (refl, refl)

  turn_left : (line reply : List ℕ) (call : Option Line) → (turn_of line j reply call).turn.said ≡ said.Refused why → Left j reply (turn_of line j reply call)
  unfolding turn_of
  turn_left line reply call = go (both (needs_start call) (no j.begun))
    where
      go : (t : Bool) → (pick {A = Taken} t (apart reply (refused j NotStarted)) (call_turn line j reply call)).turn.said ≡ said.Refused why
          → Left j reply (pick t (apart reply (refused j NotStarted)) (call_turn line j reply call))
      go true e = early j reply
      go false e = call_left line reply call e

pub refused_left : RefusedChangesNothing
unfolding line_turn
refused_left j reply line ended why e = turn_left (counted j) why line reply (read line ended) e
