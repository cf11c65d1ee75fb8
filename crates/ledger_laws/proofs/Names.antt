-- Why a connection has its name, what its row says, and what leaves it as it is. Assumes nothing.
-- ---- one of five cases
use Prim.Native.Nat.{ℕ}
use mathlib.Core.Path.{◌≡◌, refl, ap, sym, ◌∙◌, subst}
use mathlib.Core.Bool.{Bool, true, false}
use mathlib.Core.List.{List, [], ◌∷◌}
use native.Mathlib.Omega.{arith}
use borrow.Author.Tests.{eqb-false}
use lib.Dec.{eqb}
use Rattle.std.specs.Prelude.{Err, None, Ok, Option, Result, Some}
use Rattle.prelude.specs.Lists.{such}
use Rattle.prelude.specs.Choice.{pick, both, no}
use Rattle.ids.specs.declared.PeerId.{PeerId}
use Rattle.ids.specs.declared.ConnectionId.{ConnectionId}
use Rattle.ids.specs.declared.ConnectId.{ConnectId}
use Rattle.path.specs.declared.Attribution.{Attribution}
use Rattle.path.specs.declared.Path.TheVariants.{Relayed}
use Rattle.path.specs.declared.DialPurpose.{DialPurpose}
use Rattle.path.specs.declared.DialPurpose.TheVariants.{Relay, Punch, Probe, Reserve}
use Rattle.path.specs.declared.Claim.{Claim}
use Rattle.path.specs.declared.Claim.TheVariants.{Circuit, Direct as DirectClaim}
use Rattle.path.specs.Judged.{judged, circuit_path, direct_path, by_purpose, by_dial, by_claim, by_window as windowPath, unowned}
use Rattle.kinds.specs.declared.Entry.TheVariants.{Path as PathEntry}
use Rattle.kinds.specs.declared.Row.{Row}
use Rattle.rows.specs.declared.Keep.TheVariants.{Lasting}
use Rattle.kinds.specs.Kinds.{entry_of}
use Rattle.rows.specs.Rows.{find_in, keeps_row, without, inserted, crowded, lasts as lasting}
use Rattle.rows.proofs.Laws.{find_entered, find_inserted_other, find_without, find_without_other}
use Rattle.entries.specs.Entries.{path_of, path_at, dial_at, end_of, end_at, window_open, punch_end, lasts, read_as}
use Rattle.ledger.specs.Ledger.{PathLedger, Attributed, dials_of, windows_of, paths_of, with_windows, with_paths, path_row, window_row, judged_by, recorded, full_or, refuses_punches, dial_started, finish_dial, aborted_dials, expect_punches, end_punches, ticked, attributed, forgotten}
use Rattle.refusal.specs.declared.Refusal.TheVariants.{LedgerFull}
use Rattle.ledger_laws.specs.Calls.{Call, after, after_all}
use Rattle.ledger_laws.specs.Calls.Call.{dial_start, dial_finish, dials_abort, punches_expect, punches_end, tick, attribute, forget}
use Rattle.ledger_laws.specs.Laws.{PunchDial, Why, spares, spares_all, In}
use Rattle.ledger_laws.specs.Laws.In.{here, there}
use Rattle.ledger_laws.specs.Laws.Why.{relayed, by_punch_dial, by_attempt, by_window, otherwise}
use Rattle.path.specs.declared.Dial.{Dial}
use Rattle.refusal.specs.declared.Refusal.{Refusal}

unpunched_path : (dial : Option Dial) (claim : Option Claim) (lasting : Bool) → ((i : ConnectId) → PunchDial i dial → ⊥) → Why false dial claim lasting (by_claim claim (windowPath lasting unowned))
unfolding by_claim windowPath
unpunched_path dial (Some (DirectClaim id)) lasting n = by_attempt refl n refl
unpunched_path dial (Some (Circuit relay owner)) true n = by_window refl n (λ i e. let z : ◌≡◌ {A = ℕ} 0 1 = cc in omega arith) refl
unpunched_path dial (Some (Circuit relay owner)) false n = otherwise refl n (λ i e. let z : ◌≡◌ {A = ℕ} 0 1 = cc in omega arith) refl
unpunched_path dial None true n = by_window refl n (λ i e. let z : ◌≡◌ {A = ℕ} 0 1 = cc in omega arith) refl
unpunched_path dial None false n = otherwise refl n (λ i e. let z : ◌≡◌ {A = ℕ} 0 1 = cc in omega arith) refl

direct_why : (dial : Option Dial) (claim : Option Claim) (lasting : Bool) → Why false dial claim lasting (direct_path dial claim lasting)
unfolding direct_path by_dial
direct_why None claim lasting = unpunched_path None claim lasting (λ i p. p)
direct_why (Some dial) claim lasting = go dial.purpose refl
  where
    go : (p : DialPurpose) → dial.purpose ≡ p → Why false (Some dial) claim lasting (by_purpose p (by_claim claim (windowPath lasting unowned)))
    go (Punch id) e = by_punch_dial refl e
    go (Relay id relay) e = unpunched_path (Some dial) claim lasting (λ i q. let z : ◌≡◌ {A = ℕ} 0 1 = cc in omega arith)
    go (Probe peer) e = unpunched_path (Some dial) claim lasting (λ i q. let z : ◌≡◌ {A = ℕ} 0 1 = cc in omega arith)
    go (Reserve peer) e = unpunched_path (Some dial) claim lasting (λ i q. let z : ◌≡◌ {A = ℕ} 0 1 = cc in omega arith)

why : (circuit : Bool) (dial : Option Dial) (claim : Option Claim) (lasting : Bool) (a : Attribution) → judged circuit dial claim lasting ≡ Some a → Why circuit dial claim lasting a
unfolding judged circuit_path
why true dial (Some (Circuit relay owner)) lasting a e = let q : record { path = Relayed relay; owner = owner } ≡ a = cc in subst (Why true dial (Some (Circuit relay owner)) lasting) q (relayed refl refl)
why true dial (Some (DirectClaim id)) lasting a e = let z : ◌≡◌ {A = ℕ} 0 1 = cc in absurd (omega arith)
why true dial None lasting a e = let z : ◌≡◌ {A = ℕ} 0 1 = cc in absurd (omega arith)
why false dial claim lasting a e = let q : direct_path dial claim lasting ≡ a = cc in subst (Why false dial claim lasting) q (direct_why dial claim lasting)

-- ---- the row that is left
path_inserted : (conn : ConnectionId) (a : Attribution) (rs : List Row) → crowded conn.0 rs ≡ false → path_at conn (inserted (path_row conn a) rs) ≡ Some a
unfolding path_at path_of
path_inserted conn a rs e = simp (find_entered conn.0 (PathEntry a) rs)

recorded_row : (l : PathLedger) (conn : ConnectionId) (found : Option Attribution) (a : Attribution) → (recorded l conn found).answer ≡ Ok (Some a) → path_at conn (paths_of (recorded l conn found).ledger) ≡ Some a
recorded_row l conn None a e = let z : ◌≡◌ {A = ℕ} 0 1 = cc in absurd (omega arith)
recorded_row l conn (Some b) a e = go (crowded conn.0 (paths_of l)) refl e
  where
    go : (full : Bool) → crowded conn.0 (paths_of l) ≡ full
        → (pick {A = Attributed} full (record { ledger = l; answer = Err LedgerFull }) (record { ledger = with_paths l (inserted (path_row conn b) (paths_of l)); answer = Ok (Some b) })).answer ≡ Ok (Some a)
        → path_at conn (paths_of (pick {A = Attributed} full (record { ledger = l; answer = Err LedgerFull }) (record { ledger = with_paths l (inserted (path_row conn b) (paths_of l)); answer = Ok (Some b) })).ledger) ≡ Some a
    go true f q = let z : ◌≡◌ {A = ℕ} 0 1 = cc in absurd (omega arith)
    go false f q = let r : b ≡ a = cc in path_inserted conn b (paths_of l) f ∙ ap Some r

pub row_says : (l : PathLedger) (conn : ConnectionId) (peer : PeerId) (circuit : Bool) (claim : Option Claim) (now : ℕ) (a : Attribution)
    → (attributed l conn peer circuit claim now).answer ≡ Ok (Some a) → path_at conn (paths_of (attributed l conn peer circuit claim now).ledger) ≡ Some a
unfolding attributed
row_says l conn peer circuit claim now a e = recorded_row l conn (judged_by l conn peer circuit claim now) a e

named_is : (l : PathLedger) (conn : ConnectionId) (found : Option Attribution) (a : Attribution) → (recorded l conn found).answer ≡ Ok (Some a) → found ≡ Some a
named_is l conn None a e = let z : ◌≡◌ {A = ℕ} 0 1 = cc in absurd (omega arith)
named_is l conn (Some b) a e = go (crowded conn.0 (paths_of l)) e
  where
    go : (full : Bool) → (pick {A = Attributed} full (record { ledger = l; answer = Err LedgerFull }) (record { ledger = with_paths l (inserted (path_row conn b) (paths_of l)); answer = Ok (Some b) })).answer ≡ Ok (Some a) → Some b ≡ Some a
    go true q = let z : ◌≡◌ {A = ℕ} 0 1 = cc in absurd (omega arith)
    go false q = let r : b ≡ a = cc in ap Some r

pub one_of_five : (l : PathLedger) (conn : ConnectionId) (peer : PeerId) (circuit : Bool) (claim : Option Claim) (now : ℕ) (a : Attribution)
    → (attributed l conn peer circuit claim now).answer ≡ Ok (Some a) → Why circuit (dial_at conn (dials_of l)) claim (window_open peer now (windows_of l)) a
unfolding attributed judged_by
one_of_five l conn peer circuit claim now a e =
    why circuit (dial_at conn (dials_of l)) claim (window_open peer now (windows_of l)) a (named_is l conn (judged circuit (dial_at conn (dials_of l)) claim (window_open peer now (windows_of l))) a e)

-- ---- a name is kept
path_elsewhere : (conn other : ConnectionId) (a : Attribution) → (conn.0 ≡ other.0 → ⊥) → (rs : List Row) → crowded other.0 rs ≡ false
    → path_at conn (inserted (path_row other a) rs) ≡ path_at conn rs
unfolding path_at
path_elsewhere conn other a n rs e = simp (find_inserted_other conn.0 (path_row other a) n rs)

named_elsewhere : (l : PathLedger) (conn other : ConnectionId) → (conn.0 ≡ other.0 → ⊥) → (found : Option Attribution) → path_at conn (paths_of (recorded l other found).ledger) ≡ path_at conn (paths_of l)
named_elsewhere l conn other n None = refl
named_elsewhere l conn other n (Some a) = go (crowded other.0 (paths_of l)) refl
  where
    go : (full : Bool) → crowded other.0 (paths_of l) ≡ full
        → path_at conn (paths_of (pick {A = Attributed} full (record { ledger = l; answer = Err LedgerFull }) (record { ledger = with_paths l (inserted (path_row other a) (paths_of l)); answer = Ok (Some a) })).ledger) ≡ path_at conn (paths_of l)
    go true f = refl
    go false f = path_elsewhere conn other a n (paths_of l) f

forgotten_elsewhere : (conn other : ConnectionId) → (conn.0 ≡ other.0 → ⊥) → (rs : List Row) → path_at conn (without other.0 rs) ≡ path_at conn rs
unfolding path_at
forgotten_elsewhere conn other n rs =
    simp (find_without_other conn.0 other.0 n rs)

not_same : (conn other : ConnectionId) → no (eqb conn.0 other.0) ≡ true → conn.0 ≡ other.0 → ⊥
not_same conn other e = go (eqb conn.0 other.0) refl e
  where
    go : (t : Bool) → eqb conn.0 other.0 ≡ t → no t ≡ true → conn.0 ≡ other.0 → ⊥
    go true f q = let z : ◌≡◌ {A = ℕ} 0 1 = cc in absurd (omega arith)
    go false f q = eqb-false conn.0 other.0 f

same_paths : (conn : ConnectionId) (full : Bool) (l changed : PathLedger) → paths_of changed ≡ paths_of l → path_at conn (paths_of (full_or full l changed).ledger) ≡ path_at conn (paths_of l)
same_paths conn true l changed e = refl
same_paths conn false l changed e = ap (path_at conn) e

name_kept : (l : PathLedger) (conn : ConnectionId) (c : Call) → spares conn c ≡ true → path_at conn (paths_of (after l c)) ≡ path_at conn (paths_of l)
unfolding after spares dial_started finish_dial aborted_dials expect_punches end_punches ticked attributed forgotten
name_kept l conn (dial_start other token purpose) s = same_paths conn (crowded other.0 (dials_of l)) l _ refl
name_kept l conn (dial_finish other) s = refl
name_kept l conn (dials_abort id target first) s = refl
name_kept l conn (punches_expect peer until) s = same_paths conn (refuses_punches l peer) l _ refl
name_kept l conn (punches_end peer) s = refl
name_kept l conn (tick now) s = refl
name_kept l conn (attribute other peer circuit claim now) s = named_elsewhere l conn other (not_same conn other s) (judged_by l other peer circuit claim now)
name_kept l conn (forget other) s = forgotten_elsewhere conn other (not_same conn other s) (paths_of l)

-- ---- nothing is left
pub nothing_left : (l : PathLedger) (conn : ConnectionId)
    → (find_in conn.0 (dials_of (forgotten l conn).ledger) ≡ None) × (find_in conn.0 (paths_of (forgotten l conn).ledger) ≡ None)
unfolding forgotten
nothing_left l conn = (
  find_without conn.0 (dials_of l),
  find_without conn.0 (paths_of l),
)

-- ---- another peer's window
window_elsewhere : (l : PathLedger) (peer other : PeerId) → (peer.0 ≡ other.0 → ⊥) → (until now : ℕ) → window_open peer now (windows_of (expect_punches l other until).ledger) ≡ window_open peer now (windows_of l)
unfolding expect_punches refuses_punches window_open end_at
window_elsewhere l peer other n until now = go (crowded other.0 (windows_of l)) refl
  where
    row : Row
    row = window_row other (punch_end other until (windows_of l))

    go : (full : Bool) → crowded other.0 (windows_of l) ≡ full
        → lasts now (read_as end_of None (find_in peer.0 (windows_of (full_or full l (with_windows l (inserted row (windows_of l)))).ledger))) ≡ lasts now (read_as end_of None (find_in peer.0 (windows_of l)))
    go true f = refl
    go false f = simp (find_inserted_other peer.0 row n (windows_of l))

full_dials : (full : Bool) (l changed : PathLedger) → dials_of changed ≡ dials_of l → dials_of (full_or full l changed).ledger ≡ dials_of l
full_dials true l changed e = refl
full_dials false l changed e = e

full_paths : (full : Bool) (l changed : PathLedger) → paths_of changed ≡ paths_of l → paths_of (full_or full l changed).ledger ≡ paths_of l
full_paths true l changed e = refl
full_paths false l changed e = e

answer_by : Bool → Attribution → Result (Option Attribution) Refusal
answer_by full a = pick full (Err LedgerFull) (Ok (Some a))

recorded_answer : (l : PathLedger) (conn : ConnectionId) (a : Attribution) → (recorded l conn (Some a)).answer ≡ answer_by (crowded conn.0 (paths_of l)) a
unfolding answer_by
recorded_answer l conn a = go (crowded conn.0 (paths_of l))
  where
    go : (full : Bool) → (pick {A = Attributed} full (record { ledger = l; answer = Err LedgerFull }) (record { ledger = with_paths l (inserted (path_row conn a) (paths_of l)); answer = Ok (Some a) })).answer ≡ pick full (Err LedgerFull) (Ok (Some a))
    go true = refl
    go false = refl

same_answer : (k l : PathLedger) (conn : ConnectionId) → paths_of k ≡ paths_of l → (found : Option Attribution) → (recorded k conn found).answer ≡ (recorded l conn found).answer
same_answer k l conn e None = refl
same_answer k l conn e (Some a) = recorded_answer k conn a ∙ ap (λ (rs : List Row). answer_by (crowded conn.0 rs) a) e ∙ sym (recorded_answer l conn a)

expect_dials : (l : PathLedger) (peer : PeerId) (until : ℕ) → dials_of (expect_punches l peer until).ledger ≡ dials_of l
unfolding expect_punches
expect_dials l peer until = full_dials (refuses_punches l peer) l (with_windows l (inserted (window_row peer (punch_end peer until (windows_of l))) (windows_of l))) refl

expect_paths : (l : PathLedger) (peer : PeerId) (until : ℕ) → paths_of (expect_punches l peer until).ledger ≡ paths_of l
unfolding expect_punches
expect_paths l peer until = full_paths (refuses_punches l peer) l (with_windows l (inserted (window_row peer (punch_end peer until (windows_of l))) (windows_of l))) refl

-- what is judged of a connection looks at the window of its own peer alone
pub other_window : (l : PathLedger) (conn : ConnectionId) (peer other : PeerId) → (peer.0 ≡ other.0 → ⊥) → (circuit : Bool) (claim : Option Claim) (until now : ℕ)
    → (attributed (expect_punches l other until).ledger conn peer circuit claim now).answer ≡ (attributed l conn peer circuit claim now).answer
unfolding attributed judged_by
other_window l conn peer other n circuit claim until now =
    let k = (expect_punches l other until).ledger in
    ap (λ (w : Bool). (recorded k conn (judged circuit (dial_at conn (dials_of k)) claim w)).answer) (window_elsewhere l peer other n until now)
    ∙ ap (λ (rs : List Row). (recorded k conn (judged circuit (dial_at conn rs) claim (window_open peer now (windows_of l)))).answer) (expect_dials l other until)
    ∙ same_answer k l conn (expect_paths l other until) (judged circuit (dial_at conn (dials_of l)) claim (window_open peer now (windows_of l)))

-- a window of another peer that is closed
pub other_closed : (l : PathLedger) (conn : ConnectionId) (peer other : PeerId) → (peer.0 ≡ other.0 → ⊥) → (circuit : Bool) (claim : Option Claim) (now : ℕ)
    → (attributed (end_punches l other) conn peer circuit claim now).answer ≡ (attributed l conn peer circuit claim now).answer
unfolding attributed judged_by end_punches window_open end_at
other_closed l conn peer other n circuit claim now =
    let k = end_punches l other in
    let w : window_open peer now (without other.0 (windows_of l)) ≡ window_open peer now (windows_of l) =
    rw (find_without_other peer.0 other.0 n (windows_of l))
    in
    ap (λ (t : Bool). (recorded k conn (judged circuit (dial_at conn (dials_of l)) claim t)).answer) w
    ∙ same_answer k l conn refl (judged circuit (dial_at conn (dials_of l)) claim (window_open peer now (windows_of l)))

-- ---- over lists of calls
pub name_kept_all : (l : PathLedger) (conn : ConnectionId) (cs : List Call) → spares_all conn cs ≡ true → path_at conn (paths_of (after_all l cs)) ≡ path_at conn (paths_of l)
unfolding after_all spares_all
name_kept_all l conn [] s = refl
name_kept_all l conn (c ∷ cs) s = go (spares conn c) refl (name_kept_all (after l c) conn cs) s
  where
    go : (t : Bool) → spares conn c ≡ t → (spares_all conn cs ≡ true → path_at conn (paths_of (after_all (after l c) cs)) ≡ path_at conn (paths_of (after l c))) → both t (spares_all conn cs) ≡ true → path_at conn (paths_of (after_all (after l c) cs)) ≡ path_at conn (paths_of l)
    go true e ih q = ih q ∙ name_kept l conn c e
    go false e ih q = let z : ◌≡◌ {A = ℕ} 0 1 = cc in absurd (omega arith)

-- ---- the windows that are freed
in_such : (p : Row → Bool) (r : Row) (rs : List Row) → In r (such p rs) → In r rs × (p r ≡ true)
unfolding such
in_such p r [] i = elim i [ ]
in_such p r (x ∷ rs) i = go (p x) refl (in_such p r rs) i
  where
    go : (t : Bool) → p x ≡ t → (In r (such p rs) → In r rs × (p r ≡ true)) → In r (pick t (x ∷ such p rs) (such p rs)) → In r (x ∷ rs) × (p r ≡ true)
    go true e ih (here q) = (here q, ap p q ∙ e)
    go true e ih (there j) = (there (ih j).0, (ih j).1)
    go false e ih j = (there (ih j).0, (ih j).1)

such_in : (p : Row → Bool) (r : Row) (rs : List Row) → p r ≡ true → In r rs → In r (such p rs)
unfolding such
such_in p r [] e i = elim i [ ]
such_in p r (x ∷ rs) e (here q) = rw (ap p (sym q) ∙ e) (here q)
such_in p r (x ∷ rs) e (there i) = go (p x) (such_in p r rs e i)
  where
    go : (t : Bool) → In r (such p rs) → In r (pick t (x ∷ such p rs) (such p rs))
    go true j = there j
    go false j = j

pub freed : (l : PathLedger) (now : ℕ) (r : Row)
    → (In r (windows_of (ticked l now)) → In r (windows_of l) × (lasting now (entry_of r) ≡ true)) × (In r (windows_of l) → lasting now (entry_of r) ≡ true → In r (windows_of (ticked l now)))
unfolding ticked
freed l now r = (in_such (keeps_row (Lasting now)) r (windows_of l), λ i q. such_in (keeps_row (Lasting now)) r (windows_of l) q i)
