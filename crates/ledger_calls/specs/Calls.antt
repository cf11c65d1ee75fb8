-- Calls of `ledger` (RULES.md, section 10): what each row's call makes of the ledger's words, and what is said of it.
use Rattle.std.specs.Prelude.{ℕ, ◌+◌, List, [], ◌∷◌, ◌++◌, length, get_or, replicate, eqb, ltb, leb, Err, None, Ok, Option, Result, Some, ⊤}
use Rattle.prelude.specs.Choice.{pick}
use Rattle.text.specs.Words.{ascii}
use Rattle.text.specs.Printed.{printed}
use Rattle.refusal.specs.Number.{number_of}
use Rattle.ids.specs.declared.ConnectId.{ConnectId}
use Rattle.ids.specs.declared.ConnectionId.{ConnectionId}
use Rattle.ids.specs.declared.PeerId.{PeerId}
use Rattle.path.specs.declared.Attribution.{Attribution}
use Rattle.kinds.specs.declared.Entry.{Entry}
use Rattle.kinds.specs.declared.Entry.TheVariants as entry
use Rattle.kinds.specs.declared.Row.{Row}
use Rattle.kinds.specs.Kinds.{entry_of}
use Rattle.rows.specs.Words.{ledger_words, no_row, rows_of}
use Rattle.ids.specs.declared.NatToken.{NatToken}
use Rattle.dials.specs.declared.Column.{Column}
use Rattle.live_dials.specs.First.{first_live}
use Rattle.ledger.specs.Ledger.{PathLedger, Recorded, Finished, Aborted, Attributed, Forgotten, tables_of, laid, empty_ledger, dial_started, finish_dial, aborted_dials, expect_punches, end_punches, attributed, replaced_by, forgotten, is_punched, ticked, next_deadline, is_quiet}
use Rattle.call_table.specs.Tables.{bytes_in, none, says, shows, yes_said, no_bytes, turn_by, text_by}
use Rattle.call_table.specs.declared.Said.{Said}
use Rattle.call_table.specs.declared.Call.{Call}
use Rattle.ledger_calls.specs.Values.{purpose_of, purpose_words, path_of, path_words, owner_of, owner_words, claim_of, table_of}
use Rattle.ledger_calls.specs.Records.{lives_in, tokens_bytes, connections_bytes}
use Rattle.path.specs.declared.Dial.{Dial}
use Rattle.path.specs.declared.Replaced.{Replaced}
use Rattle.refusal.specs.declared.Refusal.{Refusal}

unfoldable pub ledger_table : List ℕ
ledger_table =
    ascii "do=empty|ok\n"
    ++ ascii "do=dial conn=# token=# purpose=(relay/punch/probe/reserve) of=# relay=#|ok|refused why=#\n"
    ++ ascii "do=finish conn=#|none|token=# purpose=(relay/punch/probe/reserve) of=# relay=#\n"
    ++ ascii "do=expect peer=# until=#|ok|refused why=#\n"
    ++ ascii "do=close peer=#|ok\n"
    ++ ascii "do=attribute at=# peer=# conn=# via=(direct/circuit) claim=(none/direct/inbound/attempt) relay=# id=#"
    ++ ascii "|path=none|path=(relayed/punched/direct) relay=# owner=(none/inbound/attempt) id=#|refused why=#\n"
    ++ ascii "do=forget conn=#|none|path=(relayed/punched/direct) relay=# owner=(none/inbound/attempt) id=#\n"
    ++ ascii "do=expire at=#|ok\n"
    ++ ascii "do=abort live=% id=# target=#|retired=% close=%\n"
    ++ ascii "do=replaced path=(relayed/punched/direct) relay=# owner=(none/inbound/attempt) id=# new=#"
    ++ ascii "|none|owner=(none/inbound/attempt) id=# from=(relayed/punched/direct) relay=# to=(relayed/punched/direct) by=#\n"
    ++ ascii "do=punched conn=#|yes|no\n"
    ++ ascii "do=next|none|at=#\n"
    ++ ascii "do=quiet|yes|no\n"
    ++ ascii "do=row table=(dials/windows/paths) place=#|none|conn=# token=# purpose=(relay/punch/probe/reserve) of=# relay=#"
    ++ ascii "|peer=# until=#|conn=# path=(relayed/punched/direct) relay=# owner=(none/inbound/attempt) id=#|key=#"

-- ---- what is said of an answer

abbrev pub outcome_said : Result ⊤ Refusal → Said
outcome_said (Ok tt) = says 1 none
outcome_said (Err why) = says 2 (number_of why ∷ 0 ∷ 0 ∷ 0 ∷ 0 ∷ 0 ∷ [])

abbrev pub dial_said : Option Dial → Said
dial_said None = says 1 none
dial_said (Some dial) =
    says 2
    (dial.token.0 ∷ (purpose_words dial.purpose).word ∷ (purpose_words dial.purpose).of ∷ (purpose_words dial.purpose).relay ∷ 0 ∷ 0 ∷ [])

abbrev pub name_said : Attribution → Said
name_said name =
    says 2
    ((path_words name.path).word ∷ (path_words name.path).relay ∷ (owner_words name.owner).word ∷ (owner_words name.owner).id ∷ 0 ∷ 0 ∷ [])

abbrev pub path_said : Option Attribution → Said
path_said None = says 1 none
path_said (Some name) = name_said name

abbrev pub answer_said : Result (Option Attribution) Refusal → Said
answer_said (Ok found) = path_said found
answer_said (Err why) = says 3 (number_of why ∷ 0 ∷ 0 ∷ 0 ∷ 0 ∷ 0 ∷ [])

abbrev pub upgrade_said : Option Replaced → Said
upgrade_said None = says 1 none
upgrade_said (Some u) =
    says 2
    ((owner_words u.owner).word ∷ (owner_words u.owner).id ∷ (path_words u.from).word ∷ (path_words u.from).relay ∷ (path_words u.to).word ∷ (path_words u.to).relay ∷ [])

abbrev pub deadline_said : Option ℕ → Said
deadline_said None = says 1 none
deadline_said (Some end) = says 2 (end ∷ 0 ∷ 0 ∷ 0 ∷ 0 ∷ 0 ∷ [])

-- a row by its key and what it says; one of an unknown kind by its key alone
abbrev pub entry_said : ℕ → Entry → Said
entry_said key (entry.Dialed dial) =
    says 2
    (key ∷ dial.token.0 ∷ (purpose_words dial.purpose).word ∷ (purpose_words dial.purpose).of ∷ (purpose_words dial.purpose).relay ∷ 0 ∷ [])
entry_said key (entry.Window end) = says 3 (key ∷ end ∷ 0 ∷ 0 ∷ 0 ∷ 0 ∷ [])
entry_said key (entry.Path name) =
    says 4
    (key ∷ (path_words name.path).word ∷ (path_words name.path).relay ∷ (owner_words name.owner).word ∷ (owner_words name.owner).id ∷ 0 ∷ [])
entry_said key entry.Other = says 5 (key ∷ 0 ∷ 0 ∷ 0 ∷ 0 ∷ 0 ∷ [])

unfoldable pub row_said : List Row → ℕ → Said
row_said rows place = pick (leb (length rows) place) (says 1 none) (entry_said (get_or rows place no_row).key (entry_of (get_or rows place no_row)))

-- the tokens retired and the connections to close stand one behind the other
unfoldable pub dropped_said : Column NatToken → Column ConnectionId → Said
dropped_said retired close =
    shows 1
    (0 ∷ length (tokens_bytes retired) ∷ length (tokens_bytes retired) ∷ (length (tokens_bytes retired) + length (connections_bytes close)) ∷ 0 ∷ 0 ∷ [])
    (printed no_bytes 0 (tokens_bytes retired ++ connections_bytes close))

-- ---- the ledger after a call, its tables and every word, and what is said of it

pub record Turn : Type 0 where
  pub said : Said
  pub ledger : PathLedger
  pub words : List ℕ

abbrev pub changed : List ℕ → PathLedger → Said → Turn
changed ws l said = record { said = said; ledger = l; words = laid l ws }

abbrev pub unchanged : List ℕ → Said → Turn
unchanged ws said = record { said = said; ledger = tables_of ws; words = ws }

-- a new ledger is zeros
abbrev pub emptied : Turn
emptied = record { said = says 1 none; ledger = empty_ledger; words = replicate ledger_words 0 }

abbrev pub recorded_turn : List ℕ → Recorded → Turn
recorded_turn ws r = changed ws r.ledger (outcome_said r.outcome)

abbrev pub finished_turn : List ℕ → Finished → Turn
finished_turn ws f = changed ws f.ledger (dial_said f.dial)

abbrev pub attributed_turn : List ℕ → Attributed → Turn
attributed_turn ws a = changed ws a.ledger (answer_said a.answer)

abbrev pub forgotten_turn : List ℕ → Forgotten → Turn
forgotten_turn ws f = changed ws f.ledger (path_said f.path)

abbrev pub dropped_turn : List ℕ → Aborted → Turn
dropped_turn ws a = changed ws a.ledger (dropped_said a.retired a.close)

-- ---- the calls

abbrev pub conn : ℕ → ConnectionId
conn n = record { 0 = n }

abbrev pub peer : ℕ → PeerId
peer n = record { 0 = n }

abbrev pub at : List ℕ → ℕ → ℕ
at w k = get_or w k 0

-- empty, dial, finish, expect, close, attribute, forget, expire
unfoldable pub change_turn : List ℕ → ℕ → List ℕ → Turn
change_turn ws row w =
    pick (eqb row 0) emptied
    (pick (eqb row 1) (recorded_turn ws (dial_started (tables_of ws) (conn (at w 0)) (record { 0 = at w 1 }) (purpose_of (at w 2) (at w 3) (at w 4))))
    (pick (eqb row 2) (finished_turn ws (finish_dial (tables_of ws) (conn (at w 0))))
    (pick (eqb row 3) (recorded_turn ws (expect_punches (tables_of ws) (peer (at w 0)) (at w 1)))
    (pick (eqb row 4) (changed ws (end_punches (tables_of ws) (peer (at w 0))) (says 1 none))
    (pick (eqb row 5)
    (attributed_turn ws (attributed (tables_of ws) (conn (at w 2)) (peer (at w 1)) (eqb (at w 3) 1) (claim_of (at w 4) (at w 5) (at w 6)) (at w 0)))
    (pick (eqb row 6) (forgotten_turn ws (forgotten (tables_of ws) (conn (at w 0))))
    (changed ws (ticked (tables_of ws) (at w 0)) (says 1 none))))))))

unfoldable pub abort_turn : List ℕ → ConnectId → PeerId → List ℕ → Turn
abort_turn ws id target bytes = dropped_turn ws (aborted_dials (tables_of ws) id target (first_live (lives_in bytes)))

-- replaced, punched, next, quiet, row
unfoldable pub look_said : List ℕ → ℕ → List ℕ → Said
look_said ws row w =
    pick (eqb row 9)
    (upgrade_said (replaced_by (tables_of ws) (record { path = path_of (at w 0) (at w 1); owner = owner_of (at w 2) (at w 3) }) (conn (at w 4))))
    (pick (eqb row 10) (yes_said (is_punched (tables_of ws) (conn (at w 0))))
    (pick (eqb row 11) (deadline_said (next_deadline (tables_of ws)))
    (pick (eqb row 12) (yes_said (is_quiet (tables_of ws))) (row_said (rows_of (table_of (at w 0)) ws) (at w 1)))))

-- each row's call, with its words and its bytes
unfoldable pub turn_of : List ℕ → ℕ → List ℕ → List ℕ → Turn
turn_of ws row w bytes =
    pick (ltb row 8) (change_turn ws row w)
    (pick (eqb row 8) (abort_turn ws (record { 0 = at w 2 }) (peer (at w 3)) bytes) (unchanged ws (look_said ws row w)))

abbrev pub call_turn : List ℕ → List ℕ → Call → Turn
call_turn ws line call = turn_of ws call.row call.words (bytes_in line (at call.words 0) (at call.words 1))

-- a line that is none of these calls leaves the ledger, and nothing is printed of it
abbrev pub ledger_turn : List ℕ → List ℕ → Turn
ledger_turn ws line = turn_by ledger_table (unchanged ws (says 0 none)) (call_turn ws line) line

abbrev pub ledger_text : List ℕ → List ℕ → List ℕ
ledger_text ws line = text_by ledger_table (λ call. (call_turn ws line call).said) line
