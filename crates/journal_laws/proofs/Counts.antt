-- Every line counts, call by call. Assumes nothing.
use Prim.Native.Nat.{ℕ}
use mathlib.Core.Path.{◌≡◌, refl}
use mathlib.Core.Bool.{Bool, true, false}
use mathlib.Core.List.{List}
use Rattle.std.specs.Prelude.{Err, None, Ok, Option, Result, Some, ⊤}
use Rattle.prelude.specs.Choice.{pick, both, no}
use Rattle.time.specs.Time.{plus}
use Rattle.refusal.specs.declared.Refusal.TheVariants.{NotStarted}
use Rattle.path.specs.declared.DialPurpose.TheVariants.{Punch}
use Rattle.ledger.specs.Ledger.{PathLedger, dial_started, attributed}
use Rattle.circuit.specs.declared.state.Core.{Core}
use Rattle.circuit.specs.declared.decision.Decision.{Decision}
use Rattle.circuit.specs.Calls.{started_of, wrote_of, down_of}
use Rattle.lent.specs.Calls.{up_of, tick_of}
use Rattle.inbound.specs.Circuits.{decided_at}
use Rattle.journal_lines.specs.declared.Line.{Line}
use Rattle.journal_lines.specs.declared.Line.TheVariants.{Start, Up, Input, Tick, Wrote, Down, Dial, Forget, Attribute}
use Rattle.journal_calls.specs.Calls.{Journal, started, silent, refused, naming, Leaves, settled, started_by, start_turn, up_turn, input_turn, tick_turn, wrote_turn, down_turn, dialed_by, dial_turn, forget_turn, claim_for, named_by, attribute_turn, Taken}
use Rattle.journal_turns.specs.Turns.{counted, digits_bytes, host_of, apart, needs_start, call_turn, turn_of, read, line_turn}
use Rattle.journal_laws.specs.Laws.{EveryLineCounts}
use Rattle.path.specs.declared.Attribution.{Attribution}
use Rattle.refusal.specs.declared.Refusal.{Refusal}

module _ (j : Journal) where
  started_n : (c : Core) (o : Result ⊤ Refusal) → (started_by j c o).journal.n ≡ j.n
  unfolding started silent refused
  started_n c (Ok tt) = refl
  started_n c (Err why) = refl

  settled_n : (d : Decision) (x : Leaves) (o : Result ⊤ Refusal) → (settled j d x o).journal.n ≡ j.n
  unfolding refused
  settled_n d x (Ok tt) = refl
  settled_n d x (Err why) = refl

  dialed_n : (l : PathLedger) (o : Result ⊤ Refusal) → (dialed_by j l o).journal.n ≡ j.n
  unfolding silent refused
  dialed_n l (Ok tt) = refl
  dialed_n l (Err why) = refl

  named_n : (l : PathLedger) (n : Result (Option Attribution) Refusal) → (named_by j l n).journal.n ≡ j.n
  unfolding naming refused
  named_n l (Ok (Some a)) = refl
  named_n l (Ok None) = refl
  named_n l (Err why) = refl

  call_n : (line reply : List ℕ) (call : Option Line) → (call_turn line j reply call).turn.journal.n ≡ j.n
  unfolding silent refused start_turn up_turn input_turn tick_turn wrote_turn down_turn dial_turn forget_turn attribute_turn
  call_n line reply (Some (Start at source relay conn)) = started_n _ (started_of source relay conn j.settings at).outcome
  call_n line reply (Some (Up at peer conn relayed l o pending own)) =
      let d : Decision = up_of j.circuit.core (host_of at l o) (digits_bytes line own) peer conn relayed in
      settled_n d _ d.outcome
  call_n line reply (Some (Input at stream k bytes l o pending own)) =
      let d : Decision =
      decided_at j.circuit j.ledger (host_of at l o) (digits_bytes line own) reply stream k (digits_bytes line bytes) pending in
      settled_n d _ d.outcome
  call_n line reply (Some (Tick at l o own)) =
      let d : Decision = tick_of j.circuit.core (host_of at l o) (digits_bytes line own) in
      settled_n d _ d.outcome
  call_n line reply (Some (Wrote at conn stream)) =
      let d : Decision = wrote_of j.circuit.core at conn stream in
      settled_n d _ d.outcome
  call_n line reply (Some (Down at peer conn)) =
      let d : Decision = down_of j.circuit.core conn in
      settled_n d _ d.outcome
  call_n line reply (Some (Dial at conn token id)) = dialed_n _ (dial_started j.ledger conn token (Punch id)).outcome
  call_n line reply (Some (Forget at conn)) = refl
  call_n line reply (Some (Attribute at peer conn relayed)) =
      named_n _ (attributed j.ledger conn peer relayed (claim_for j.circuit.core conn relayed) at).answer
  call_n line reply None = refl

  turn_n : (line reply : List ℕ) (call : Option Line) → (turn_of line j reply call).turn.journal.n ≡ j.n
  unfolding turn_of refused
  turn_n line reply call = go (both (needs_start call) (no j.begun))
    where
      go : (t : Bool) → (pick {A = Taken} t (apart reply (refused j NotStarted)) (call_turn line j reply call)).turn.journal.n ≡ j.n
      go true = refl
      go false = call_n line reply call

pub counts : EveryLineCounts
unfolding line_turn counted plus
counts j reply line ended = turn_n (counted j) line reply (read line ended)
