-- Refused just at the 65th row; and never where no row is needed. Assumes nothing.
use Prim.Native.Nat.{ℕ, ◌≤◌}
use mathlib.Core.Path.{◌≡◌, refl, ap, sym, ◌∙◌}
use mathlib.Core.Bool.{Bool, true, false}
use native.Mathlib.Omega.{arith}
use lib.ListN.{length}
use Rattle.std.specs.Prelude.{Err, None, Ok, Option, Some}
use Rattle.prelude.specs.Choice.{pick}
use Rattle.refusal.specs.declared.Refusal.{Refusal}
use Rattle.refusal.specs.declared.Refusal.TheVariants.{LedgerFull}
use Rattle.refusal.specs.Number.{number_of}
use Rattle.ids.specs.declared.PeerId.{PeerId}
use Rattle.ids.specs.declared.ConnectionId.{ConnectionId}
use Rattle.ids.specs.declared.NatToken.{NatToken}
use Rattle.path.specs.declared.Attribution.{Attribution}
use Rattle.path.specs.declared.DialPurpose.{DialPurpose}
use Rattle.path.specs.declared.Claim.{Claim}
use Rattle.path.specs.declared.Claim.TheVariants.{Circuit, Direct as DirectClaim}
use Rattle.path.specs.declared.Owner.{Owner}
use Rattle.path.specs.Judged.{judged, circuit_path}
use Rattle.rows.specs.Rows.{inserted, crowded}
use Rattle.rows.proofs.Laws.{crowded_is, is_crowded}
use Rattle.entries.specs.Entries.{punch_end}
use Rattle.ledger.specs.Ledger.{PathLedger, Attributed, dials_of, windows_of, paths_of, with_dials, with_windows, with_paths, dial_row, window_row, path_row, full_or, dial_started, refuses_punches, expect_punches, judged_by, recorded, attributed}
use Rattle.ledger_laws.specs.Laws.{Needs65}

refused_by : (full : Bool) (l changed : PathLedger) (why : Refusal) → (full_or full l changed).outcome ≡ Err why → (number_of why ≡ 4) × ((full_or full l changed).ledger ≡ l) × (full ≡ true)
refused_by true l changed why e = let q : LedgerFull ≡ why = cc in (ap number_of (sym q), refl, refl)
refused_by false l changed why e = let z : ◌≡◌ {A = ℕ} 0 1 = cc in absurd (omega arith)

refused_when : (full : Bool) (l changed : PathLedger) → full ≡ true → (full_or full l changed).outcome ≡ Err LedgerFull
refused_when true l changed e = refl
refused_when false l changed e = let z : ◌≡◌ {A = ℕ} 0 1 = cc in absurd (omega arith)

pub dials_full : (l : PathLedger) → length (dials_of l) ≤ 64 → (conn : ConnectionId) (token : NatToken) (purpose : DialPurpose)
    → ((why : Refusal) → (dial_started l conn token purpose).outcome ≡ Err why → (number_of why ≡ 4) × ((dial_started l conn token purpose).ledger ≡ l) × Needs65 conn.0 (dials_of l))
    × (Needs65 conn.0 (dials_of l) → (dial_started l conn token purpose).outcome ≡ Err LedgerFull)
unfolding dial_started
dials_full l h conn token purpose =
    let full = crowded conn.0 (dials_of l) in
    let changed = with_dials l (inserted (dial_row conn token purpose) (dials_of l)) in (
      λ why e. let r = refused_by full l changed why e in (r.0, r.1, crowded_is conn.0 (dials_of l) h r.2),
      λ n. refused_when full l changed (is_crowded conn.0 (dials_of l) n.0 n.1),
    )

pub windows_full : (l : PathLedger) → length (windows_of l) ≤ 64 → (peer : PeerId) (until : ℕ)
    → ((why : Refusal) → (expect_punches l peer until).outcome ≡ Err why → (number_of why ≡ 4) × ((expect_punches l peer until).ledger ≡ l) × Needs65 peer.0 (windows_of l))
    × (Needs65 peer.0 (windows_of l) → (expect_punches l peer until).outcome ≡ Err LedgerFull)
unfolding expect_punches refuses_punches
windows_full l h peer until =
    let full = crowded peer.0 (windows_of l) in
    let changed = with_windows l (inserted (window_row peer (punch_end peer until (windows_of l))) (windows_of l)) in (
      λ why e. let r = refused_by full l changed why e in (r.0, r.1, crowded_is peer.0 (windows_of l) h r.2),
      λ n. refused_when full l changed (is_crowded peer.0 (windows_of l) n.0 n.1),
    )

abbrev named_or : Bool → PathLedger → ConnectionId → Attribution → Attributed
named_or full l conn a = pick full (record { ledger = l; answer = Err LedgerFull }) (record { ledger = with_paths l (inserted (path_row conn a) (paths_of l)); answer = Ok (Some a) })

unnamed_by : (full : Bool) (l : PathLedger) (conn : ConnectionId) (a : Attribution) (why : Refusal) → (named_or full l conn a).answer ≡ Err why
    → (number_of why ≡ 4) × ((named_or full l conn a).ledger ≡ l) × (full ≡ true)
unnamed_by true l conn a why e = let q : LedgerFull ≡ why = cc in (ap number_of (sym q), refl, refl)
unnamed_by false l conn a why e = let z : ◌≡◌ {A = ℕ} 0 1 = cc in absurd (omega arith)

unnamed_when : (full : Bool) (l : PathLedger) (conn : ConnectionId) (a : Attribution) → full ≡ true → (named_or full l conn a).answer ≡ Err LedgerFull
unnamed_when true l conn a e = refl
unnamed_when false l conn a e = let z : ◌≡◌ {A = ℕ} 0 1 = cc in absurd (omega arith)

recorded_full : (l : PathLedger) → length (paths_of l) ≤ 64 → (conn : ConnectionId) (found : Option Attribution) (why : Refusal) → (recorded l conn found).answer ≡ Err why
    → (number_of why ≡ 4) × ((recorded l conn found).ledger ≡ l) × Needs65 conn.0 (paths_of l)
recorded_full l h conn None why e = let z : ◌≡◌ {A = ℕ} 0 1 = cc in absurd (omega arith)
recorded_full l h conn (Some a) why e =
    let r = unnamed_by (crowded conn.0 (paths_of l)) l conn a why e in
    (r.0, r.1, crowded_is conn.0 (paths_of l) h r.2)

pub paths_full : (l : PathLedger) → length (paths_of l) ≤ 64 → (conn : ConnectionId) (peer : PeerId) (circuit : Bool) (claim : Option Claim) (now : ℕ)
    → ((why : Refusal) → (attributed l conn peer circuit claim now).answer ≡ Err why → (number_of why ≡ 4) × ((attributed l conn peer circuit claim now).ledger ≡ l) × Needs65 conn.0 (paths_of l))
    × ((a : Attribution) → judged_by l conn peer circuit claim now ≡ Some a → Needs65 conn.0 (paths_of l) → (attributed l conn peer circuit claim now).answer ≡ Err LedgerFull)
unfolding attributed
paths_full l h conn peer circuit claim now = (
  recorded_full l h conn (judged_by l conn peer circuit claim now),
  λ a e n. ap (λ (f : Option Attribution). (recorded l conn f).answer) e ∙ unnamed_when (crowded conn.0 (paths_of l)) l conn a (is_crowded conn.0 (paths_of l) n.0 n.1),
)

-- a circuit without a circuit's claim needs no row
pub no_row_lem : (l : PathLedger) (conn : ConnectionId) (peer : PeerId) (claim : Option Claim) (now : ℕ) → ((relay : PeerId) (owner : Option Owner) → claim ≡ Some (Circuit relay owner) → ⊥)
    → ((attributed l conn peer true claim now).answer ≡ Ok None) × ((attributed l conn peer true claim now).ledger ≡ l)
unfolding attributed judged_by judged circuit_path
no_row_lem l conn peer None now n = (refl, refl)
no_row_lem l conn peer (Some (Circuit relay owner)) now n = absurd (n relay owner refl)
no_row_lem l conn peer (Some (DirectClaim id)) now n = (refl, refl)
