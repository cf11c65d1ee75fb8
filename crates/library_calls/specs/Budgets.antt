-- Calls of `budget` (RULES.md, section 8): what each row's call makes of the budget that is kept, and what is said of it.
use Rattle.std.specs.Prelude.{ℕ, List, [], ◌∷◌, ◌++◌, get_or, eqb, ltb, None, Option, Some}
use Rattle.prelude.specs.Choice.{pick, bit}
use Rattle.text.specs.Words.{ascii}
use Rattle.budget.specs.Budget.{max_rounds, next_deadline, armed, may_begin, begun, ended, window_end, due_at}
use Rattle.budget.specs.declared.UpgradeBudget.{UpgradeBudget}
use Rattle.budget.specs.declared.UpgradeStop.{UpgradeStop}
use Rattle.budget.specs.declared.UpgradeStop.TheVariants.{ExchangeTimeout, UpgradeTimeout}
use Rattle.call_table.specs.Tables.{none, says, turn_by, text_by}
use Rattle.call_table.specs.declared.Said.{Said}
use Rattle.call_table.specs.declared.Call.{Call}
use Rattle.library_calls.specs.declared.Turn.{Turn}

unfoldable pub budgets_table : List ℕ
budgets_table =
    ascii "do=arm at=# upgrade=# exchange=# punch=#|bad|rounds=# left=# deadline=# next=#\n"
    ++ ascii "do=begin at=#|bad|began=# rounds=# left=# deadline=# next=#\n"
    ++ ascii "do=end|bad|rounds=# left=# deadline=# next=#\n"
    ++ ascii "do=window start=#|bad|end=#\n"
    ++ ascii "do=due at=#|bad|due=none|due=exchange round=# ms=#|due=upgrade ms=#"

-- whether a round is left
abbrev pub left : UpgradeBudget → ℕ
left b = bit (ltb b.rounds max_rounds)

unfoldable pub state_said : UpgradeBudget → Said
state_said b = says 2 (b.rounds ∷ left b ∷ b.deadline ∷ next_deadline b ∷ 0 ∷ 0 ∷ [])

abbrev pub turned : UpgradeBudget → Said → Turn (Option UpgradeBudget)
turned b said = record { kept = Some b; said = said }

-- whether a round began, and the budget then
unfoldable pub begun_turn : UpgradeBudget → ℕ → Turn (Option UpgradeBudget)
begun_turn b at =
    turned (begun b at)
    (says 2 (bit (may_begin b at) ∷ (begun b at).rounds ∷ left (begun b at) ∷ (begun b at).deadline ∷ next_deadline (begun b at) ∷ 0 ∷ []))

abbrev pub due_said : Option UpgradeStop → Said
due_said None = says 2 none
due_said (Some (ExchangeTimeout round ms)) = says 3 (round ∷ ms ∷ 0 ∷ 0 ∷ 0 ∷ 0 ∷ [])
due_said (Some (UpgradeTimeout ms)) = says 4 (ms ∷ 0 ∷ 0 ∷ 0 ∷ 0 ∷ 0 ∷ [])

-- begin, end, window and due; before the first arm they are bad
unfoldable pub armed_turn : UpgradeBudget → ℕ → ℕ → Turn (Option UpgradeBudget)
armed_turn b row at =
    pick (eqb row 1) (begun_turn b at)
    (pick (eqb row 2) (turned (ended b) (state_said (ended b)))
    (pick (eqb row 3) (turned b (says 2 (window_end b at ∷ 0 ∷ 0 ∷ 0 ∷ 0 ∷ 0 ∷ []))) (turned b (due_said (due_at b at)))))

abbrev pub kept_turn : Option UpgradeBudget → ℕ → ℕ → Turn (Option UpgradeBudget)
kept_turn None row at = record { kept = None; said = says 1 none }
kept_turn (Some b) row at = armed_turn b row at

abbrev pub arm_turn : UpgradeBudget → Turn (Option UpgradeBudget)
arm_turn b = turned b (state_said b)

unfoldable pub budget_turn : Option UpgradeBudget → ℕ → List ℕ → Turn (Option UpgradeBudget)
budget_turn kept row w =
    pick (eqb row 0) (arm_turn (armed (get_or w 0 0) (get_or w 1 0) (get_or w 2 0) (get_or w 3 0))) (kept_turn kept row (get_or w 0 0))

abbrev pub turn_of : Option UpgradeBudget → Call → Turn (Option UpgradeBudget)
turn_of kept call = budget_turn kept call.row call.words

-- a line that is none of these calls leaves what is kept, and nothing is printed of it
abbrev pub budget_after : Option UpgradeBudget → List ℕ → Option UpgradeBudget
budget_after kept line = turn_by budgets_table kept (λ call. (turn_of kept call).kept) line

abbrev pub budgets_text : Option UpgradeBudget → List ℕ → List ℕ
budgets_text kept line = text_by budgets_table (λ call. (turn_of kept call).said) line
