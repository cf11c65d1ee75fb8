-- What is printed of a circuit's answer (RULES.md, sections 11.2 and 12.7).
use Rattle.std.specs.Prelude.{ℕ, min, Bool, List, [], ◌++◌, take, None, Option, Some, is_none}
use Rattle.prelude.specs.Choice.{pick, both}
use Rattle.candidates.specs.Selection.{capacity}
use Rattle.frames.specs.Sent.{frame_capacity}
use Rattle.vocabulary.specs.declared.Effect.{Effect}
use Rattle.vocabulary.specs.declared.Effect.TheVariants.{Path, Burst, Upgrade, Close, Send, Reset, Open}
use Rattle.journal_prints.specs.Outputs.{none_text, path_text, open_text, send_text, reset_text, burst_text, close_text, upgrade_text}
use Rattle.journal_effects.specs.declared.Effects.{Effects}

-- so many of the bytes, and no more than the most there can be
abbrev pub first : (most : ℕ) → ℕ → List ℕ → List ℕ
first most len bytes = take (min len most) bytes

-- of the bytes lent for the message, its frame length in front; of a message that would be longer than any, as many as the longest has
abbrev pub message_of : ℕ → List ℕ → List ℕ
message_of len sent = first frame_capacity len sent

-- of those of the target list likewise
abbrev pub targets_of : ℕ → List ℕ → List ℕ
targets_of len aims = first capacity len aims

-- the line of an effect; none for the effect that is missing
abbrev pub effect_text : ℕ → List ℕ → List ℕ → Option Effect → List ℕ
effect_text n message targets None = []
effect_text n message targets (Some (Path peer relay conn)) = path_text n peer relay conn
effect_text n message targets (Some (Burst times payload)) = burst_text n times payload targets
effect_text n message targets (Some (Upgrade peer old new)) = upgrade_text n peer old new
effect_text n message targets (Some (Close conn)) = close_text n conn
effect_text n message targets (Some (Send conn stream)) = send_text n conn stream message
effect_text n message targets (Some (Reset conn stream)) = reset_text n conn stream
effect_text n message targets (Some (Open conn stream)) = open_text n conn stream

abbrev pub line_of : ℕ → Effects → (sent aims : List ℕ) → Option Effect → List ℕ
line_of n e sent aims effect = effect_text n (message_of e.message sent) (targets_of e.targets aims) effect

-- a line for each effect, in order
unfoldable pub lines_text : ℕ → Effects → (sent aims : List ℕ) → List ℕ
lines_text n e sent aims =
    line_of n e sent aims e.first ++ line_of n e sent aims e.second ++ line_of n e sent aims e.third ++ line_of n e sent aims e.fourth

unfoldable pub no_effect : Effects → Bool
no_effect e = both (is_none e.first) (both (is_none e.second) (both (is_none e.third) (is_none e.fourth)))

-- the line `none` where there is no effect
unfoldable pub effects_text : ℕ → Effects → (sent aims : List ℕ) → List ℕ
effects_text n e sent aims = pick (no_effect e) (none_text n) (lines_text n e sent aims)
