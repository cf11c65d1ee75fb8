-- What a journal prints (RULES.md, sections 12.4 and 12.7).
use Rattle.std.specs.Prelude.{ℕ, Bool, true, false, List, [], ltb, length, None, Option, Some}
use Rattle.prelude.specs.Choice.{pick, both}
use Rattle.refusal.specs.declared.Refusal.TheVariants.{UnknownLine}
use Rattle.vocabulary.specs.declared.Settings.{Settings}
use Rattle.journal_lines.specs.Lines.{settings_of}
use Rattle.journal_prints.specs.Outputs.{attributed_text, refused_text}
use Rattle.journal_effects.specs.Effects.{effects_text}
use Rattle.journal_effects.specs.declared.Effects.{Effects}
use Rattle.lines.specs.Lines.{longest}
use Rattle.journal_calls.specs.Calls.{Journal, Turned, state_of, new_journal}
use Rattle.journal_turns.specs.Turns.{line_turn}
use Rattle.journal_calls.specs.declared.State.{State}
use Rattle.journal_calls.specs.declared.Said.{Said}
use Rattle.journal_calls.specs.declared.Said.TheVariants as said

-- ---- the first line (section 12.4)

-- what it says: nothing known without a line feed, or where it is too long with it
unfoldable pub first_of : List ℕ → Bool → Option Settings
first_of line ended = pick (both ended (ltb (length line) longest)) (settings_of line) None

abbrev pub is_good : Option Settings → Bool
is_good (Some s) = true
is_good None = false

-- the settings of every circuit; where there are none the program ends and none is used
abbrev pub settings_in : Option Settings → Settings
settings_in (Some s) = s
settings_in None =
    record { handshake = 0; upgrade = 0; exchange = 0; punch = 0; interval = 0; payload = 0; private = false; upgrades = false }

unfoldable pub opened : Option Settings → Journal
opened f = new_journal (settings_in f)

-- the numbers of the journal that a good first line opens
abbrev pub state_in : Option Settings → Option State
state_in (Some s) = Some (state_of (new_journal s))
state_in None = None

-- a good first line prints nothing, any other n=0 and 11
abbrev pub opening_text : Option Settings → List ℕ
opening_text (Some s) = []
opening_text None = refused_text 0 UnknownLine

-- ---- the lines behind it (section 12.7)

-- an output line for each effect, with the bytes of the message and of the targets, `none` without one; how a connection was named; the
-- refusal alone
abbrev pub said_text : ℕ → Effects → (sent aims : List ℕ) → Said → List ℕ
said_text n e sent aims said.Effects = effects_text n e sent aims
said_text n e sent aims (said.Attributed f) = attributed_text n f
said_text n e sent aims (said.Refused why) = refused_text n why

-- in the line's number
abbrev pub turn_text : Turned → List ℕ
turn_text t = said_text t.journal.n t.effects t.journal.sent t.journal.circuit.targets t.said

-- what is printed of a line: the journal before it, the reply buffer, the line without its line feed, and whether it had one
unfoldable pub line_text : Journal → List ℕ → List ℕ → Bool → List ℕ
line_text j reply line ended = turn_text (line_turn j reply line ended).turn
