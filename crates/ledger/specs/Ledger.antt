-- The calls of the ledger (RULES.md, section 10), on the rows of its three tables.
-- ---- the three tables (section 10.1)
-- the rows in use
use Rattle.std.specs.Prelude.{ℕ, Bool, List, [], length, eqb, Err, None, Ok, Option, Result, Some, ⊤}
use Rattle.prelude.specs.Choice.{pick}
use Rattle.refusal.specs.declared.Refusal.TheVariants.{LedgerFull}
use Rattle.ids.specs.declared.PeerId.{PeerId}
use Rattle.ids.specs.declared.ConnectionId.{ConnectionId}
use Rattle.ids.specs.declared.ConnectId.{ConnectId}
use Rattle.ids.specs.declared.NatToken.{NatToken}
use Rattle.path.specs.declared.Attribution.{Attribution}
use Rattle.path.specs.declared.DialPurpose.{DialPurpose}
use Rattle.path.specs.declared.Claim.{Claim}
use Rattle.path.specs.Judged.{judged, upgrade_of, punched_at}
use Rattle.kinds.specs.declared.Entry.TheVariants.{Dialed, Window, Path as PathEntry}
use Rattle.kinds.specs.declared.Row.{Row}
use Rattle.rows.specs.declared.Table.TheVariants.{Dials, Windows, Paths}
use Rattle.rows.specs.declared.Keep.TheVariants.{Lasting}
use Rattle.kinds.specs.Kinds.{row_of}
use Rattle.rows.specs.Rows.{kept, without, inserted, crowded}
use Rattle.rows.specs.Words.{rows_of}
use Rattle.dials.specs.declared.Column.{Column}
use Rattle.dials.specs.Dials.{each, left_of, retired_of, closed_of, column_of, no_token, no_connection, pairs, with_firsts}
use Rattle.entries.specs.Entries.{dial_at, path_at, window_open, punch_end, soonest}
use Rattle.rows.specs.Words as words
use Rattle.path.specs.declared.Dial.{Dial}
use Rattle.path.specs.declared.Replaced.{Replaced}
use Rattle.refusal.specs.declared.Refusal.{Refusal}

pub record PathLedger : Type 0 where
  pub dials : List Row
  pub windows : List Row
  pub paths : List Row

abbrev pub dials_of : PathLedger → List Row
dials_of l = l.dials

abbrev pub windows_of : PathLedger → List Row
windows_of l = l.windows

abbrev pub paths_of : PathLedger → List Row
paths_of l = l.paths

unfoldable pub empty_ledger : PathLedger
empty_ledger = record { dials = []; windows = []; paths = [] }

-- the tables of a ledger's words
abbrev pub tables_of : List ℕ → PathLedger
tables_of ws = record { dials = rows_of Dials ws; windows = rows_of Windows ws; paths = rows_of Paths ws }

-- the words with these tables laid in them (section 10.9)
unfoldable pub laid : PathLedger → List ℕ → List ℕ
laid l ws = words.laid Dials l.dials (words.laid Windows l.windows (words.laid Paths l.paths ws))

abbrev pub with_dials : PathLedger → List Row → PathLedger
with_dials l rs = record { dials = rs; windows = l.windows; paths = l.paths }

abbrev pub with_windows : PathLedger → List Row → PathLedger
with_windows l rs = record { dials = l.dials; windows = rs; paths = l.paths }

abbrev pub with_paths : PathLedger → List Row → PathLedger
with_paths l rs = record { dials = l.dials; windows = l.windows; paths = rs }

abbrev pub dial_row : ConnectionId → NatToken → DialPurpose → Row
dial_row conn token purpose = row_of conn.0 (Dialed (record { token = token; purpose = purpose }))

abbrev pub window_row : PeerId → ℕ → Row
window_row peer end = row_of peer.0 (Window end)

abbrev pub path_row : ConnectionId → Attribution → Row
path_row conn attribution = row_of conn.0 (PathEntry attribution)

-- ---- what a call leaves, and what it answers
pub record Recorded : Type 0 where
  pub ledger : PathLedger
  pub outcome : Result ⊤ Refusal

pub record Finished : Type 0 where
  pub ledger : PathLedger
  pub dial : Option Dial

pub record Aborted : Type 0 where
  pub ledger : PathLedger
  pub retired : Column NatToken
  pub close : Column ConnectionId

pub record Attributed : Type 0 where
  pub ledger : PathLedger
  pub answer : Result (Option Attribution) Refusal

pub record Forgotten : Type 0 where
  pub ledger : PathLedger
  pub path : Option Attribution

-- ---- dials (sections 10.2 and 10.4)
-- number 4 where a 65th row would be needed
abbrev pub full_refused : Bool → Result ⊤ Refusal
full_refused full = pick full (Err LedgerFull) (Ok tt)

-- the ledger as it was, and number 4, where a 65th row would be needed
abbrev pub full_or : Bool → PathLedger → PathLedger → Recorded
full_or full l changed = pick full (record { ledger = l; outcome = Err LedgerFull }) (record { ledger = changed; outcome = Ok tt })

unfoldable pub dial_started : PathLedger → ConnectionId → NatToken → DialPurpose → Recorded
dial_started l conn token purpose = full_or (crowded conn.0 (dials_of l)) l (with_dials l (inserted (dial_row conn token purpose) (dials_of l)))

unfoldable pub finish_dial : PathLedger → ConnectionId → Finished
finish_dial l conn = record { ledger = with_dials l (without conn.0 (dials_of l)); dial = dial_at conn (dials_of l) }

-- the dials that are left, the tokens of those that are retired and the connections to close
abbrev pub aborted : PathLedger → ConnectId → List (Row × Option ConnectionId) → Aborted
aborted l id ps = record {
  ledger = with_dials l (each (left_of id) ps);
  retired = column_of no_token (each (retired_of id) ps);
  close = column_of no_connection (each (closed_of id) ps);
}

unfoldable pub aborted_with : PathLedger → ConnectId → List (Option ConnectionId) → Aborted
aborted_with l id firsts = aborted l id (pairs (dials_of l) firsts)

unfoldable pub aborted_dials : PathLedger → ConnectId → PeerId → (PeerId → Option ConnectionId) → Aborted
aborted_dials l id target first = aborted l id (with_firsts target first (dials_of l))

-- ---- windows (section 10.3)
unfoldable pub refuses_punches : PathLedger → PeerId → Bool
refuses_punches l peer = crowded peer.0 (windows_of l)

unfoldable pub expect_punches : PathLedger → PeerId → ℕ → Recorded
expect_punches l peer until =
    full_or (refuses_punches l peer) l (with_windows l (inserted (window_row peer (punch_end peer until (windows_of l))) (windows_of l)))

unfoldable pub end_punches : PathLedger → PeerId → PathLedger
end_punches l peer = with_windows l (without peer.0 (windows_of l))

unfoldable pub ticked : PathLedger → ℕ → PathLedger
ticked l now = with_windows l (kept (Lasting now) (windows_of l))

unfoldable pub next_deadline : PathLedger → Option ℕ
next_deadline l = soonest (windows_of l)

unfoldable pub is_quiet : PathLedger → Bool
is_quiet l = eqb (length (windows_of l)) 0

-- ---- paths (sections 10.5 and 10.6)
unfoldable pub judged_by : PathLedger → ConnectionId → PeerId → Bool → Option Claim → ℕ → Option Attribution
judged_by l conn peer circuit claim now = judged circuit (dial_at conn (dials_of l)) claim (window_open peer now (windows_of l))

-- what is judged is recorded; where there is no path no row is needed
abbrev pub recorded : PathLedger → ConnectionId → Option Attribution → Attributed
recorded l conn None = record { ledger = l; answer = Ok None }
recorded l conn (Some attribution) =
    pick (crowded conn.0 (paths_of l))
    (record { ledger = l; answer = Err LedgerFull })
    (record { ledger = with_paths l (inserted (path_row conn attribution) (paths_of l)); answer = Ok (Some attribution) })

unfoldable pub attributed : PathLedger → ConnectionId → PeerId → Bool → Option Claim → ℕ → Attributed
attributed l conn peer circuit claim now = recorded l conn (judged_by l conn peer circuit claim now)

unfoldable pub replaced_by : PathLedger → Attribution → ConnectionId → Option Replaced
replaced_by l old new = upgrade_of old (path_at new (paths_of l))

unfoldable pub forgotten : PathLedger → ConnectionId → Forgotten
forgotten l conn = record {
  ledger = record {
    dials = without conn.0 (dials_of l);
    windows = l.windows;
    paths = without conn.0 (paths_of l);
  };
  path = path_at conn (paths_of l);
}

unfoldable pub is_punched : PathLedger → ConnectionId → Bool
is_punched l conn = punched_at (path_at conn (paths_of l))
