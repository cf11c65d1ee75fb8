-- What the circuit answers after a line (RULES.md, section 11.9), and what is printed of it (README.md).
use Rattle.std.specs.Prelude.{ℕ, Bool, false, List, [], ◌∷◌, ◌++◌, None, Option, Some, is_some}
use Rattle.prelude.specs.Choice.{pick, bit}
use Rattle.text.specs.Words.{ascii}
use Rattle.forms.specs.Texts.{Value, number, some, absent, word, text}
use Rattle.circuit.specs.declared.state.Core.{Core}
use Rattle.questions.specs.Questions.{promotes_of, claim_of, next_deadline_at}
use Rattle.journal_calls.specs.Calls.{Journal, Turned}
use Rattle.journal_turns.specs.Turns.{line_turn}
use Rattle.circuit_questions.specs.declared.Answers.{Answers}

-- ---- the questions (section 11.9)

-- asked about the connection of the circuit's own number; no circuit is there to be asked until a start was accepted (section 12.5)
unfoldable pub answers_of : Bool → Core → Answers
answers_of begun c =
    pick begun
    (record {
      next = next_deadline_at c c.phase;
      promotes = promotes_of c c.circuit;
      claims = is_some (claim_of c c.circuit);
    })
    (record { next = None; promotes = false; claims = false })

-- ---- what is printed

-- a time or none
abbrev pub deadline_value : Option ℕ → Value
deadline_value (Some end) = some end
deadline_value None = absent

abbrev pub answers_form : List ℕ
answers_form = ascii "n=# next=* promotes=(0/1) claims=(0/1) took=(0/1)"

-- the last is of the line's call itself: whether it took an established connection (section 11.5)
unfoldable pub answers_text : ℕ → Answers → (took : Bool) → List ℕ
answers_text n a took =
    text answers_form (number n ∷ deadline_value a.next ∷ word (bit a.promotes) ∷ word (bit a.claims) ∷ word (bit took) ∷ [])
    ++ ascii "\n"

-- in the line's number, of the circuit as the line leaves it, and of what the line's call answered
abbrev pub turn_text : Turned → List ℕ
turn_text t = answers_text t.journal.n (answers_of t.journal.begun t.journal.circuit.core) t.effects.took

-- the journal before a line, the reply buffer, the line without its line feed, and whether it had one (section 12.7)
unfoldable pub line_text : Journal → List ℕ → List ℕ → Bool → List ℕ
line_text j reply line ended = turn_text (line_turn j reply line ended).turn
