-- The text of each line, and that each is read from its text (RULES.md, sections 12.4 and 12.5).
use Rattle.std.specs.Prelude.{ℕ, ◌≤◌, ◌≡◌, List, [], ◌∷◌, Bool, None, Option, Some}
use Rattle.prelude.specs.Choice.{bit}
use Rattle.prelude.specs.Numbers.{max_u64}
use Rattle.text.specs.Hexadecimal.{Bytes, bytes_of}
use Rattle.forms.specs.Texts.{Value, number, some, absent, pair, unpaired, bytes, word, text, part}
use Rattle.ids.specs.declared.ConnectId.{ConnectId}
use Rattle.ids.specs.declared.ConnectionId.{ConnectionId}
use Rattle.ids.specs.declared.NatToken.{NatToken}
use Rattle.ids.specs.declared.PeerId.{PeerId}
use Rattle.ids.specs.declared.StreamId.{StreamId}
use Rattle.vocabulary.specs.declared.Settings.{Settings}
use Rattle.vocabulary.specs.declared.StreamInput.{StreamInput}
use Rattle.vocabulary.specs.declared.StreamInput.TheVariants as input
use Rattle.journal_lines.specs.Forms.{settings_form, start_form, up_form, input_form, tick_form, wrote_form, down_form, dial_form, forget_form, attribute_form}
use Rattle.journal_lines.specs.Lines.{settings_of, line_of}
use Rattle.journal_lines.specs.declared.Digits.{Digits}
use Rattle.journal_lines.specs.declared.Line.TheVariants.{Start, Up, Input, Tick, Wrote, Down, Dial, Forget, Attribute}

-- ---- values

abbrev pub live_value : Option ConnectionId → Value
live_value (Some conn) = some conn.0
live_value None = absent

abbrev pub offer_value : Option (ConnectionId × StreamId) → Value
offer_value (Some (conn, stream)) = pair conn.0 stream.0
offer_value None = unpaired

-- the second of two words, or the first
abbrev pub chosen : Bool → Value
chosen second = word (bit second)

abbrev pub kind_value : StreamInput → Value
kind_value input.Ready = word 0
kind_value input.Data = word 1
kind_value input.RemoteWriteClosed = word 2
kind_value input.Closed = word 3

-- their numbers are of 64 bits
abbrev pub LiveFits : Option ConnectionId → Type 0
LiveFits (Some conn) = conn.0 ≤ max_u64
LiveFits None = Unit

abbrev pub OfferFits : Option (ConnectionId × StreamId) → Type 0
OfferFits (Some (conn, stream)) = (conn.0 ≤ max_u64) × (stream.0 ≤ max_u64)
OfferFits None = Unit

-- only the kind data may have bytes
abbrev pub MayHave : StreamInput → List ℕ → Type 0
MayHave input.Ready brought = brought ≡ []
MayHave input.Data brought = Unit
MayHave input.RemoteWriteClosed brought = brought ≡ []
MayHave input.Closed brought = brought ≡ []

-- the bytes that digits of a line stand for
abbrev pub stand_for : List ℕ → Digits → List ℕ
stand_for line d = bytes_of (part line d.start d.end)

-- ---- the first line

abbrev pub settings_text : Settings → List ℕ
settings_text s =
    text settings_form
    (number s.handshake ∷ number s.upgrade ∷ number s.exchange ∷ number s.punch ∷ number s.interval ∷ number s.payload ∷ chosen s.private
    ∷ chosen s.upgrades ∷ [])

abbrev pub SettingsAreRead : Type 0
SettingsAreRead =
    (s : Settings) → s.handshake ≤ max_u64 → s.upgrade ≤ max_u64 → s.exchange ≤ max_u64 → s.punch ≤ max_u64 → s.interval ≤ max_u64 → s.payload ≤ max_u64
    → settings_of (settings_text s) ≡ Some s

-- ---- the calls

abbrev pub start_text : ℕ → PeerId → PeerId → ConnectionId → List ℕ
start_text at source relay circuit = text start_form (number at ∷ number source.0 ∷ number relay.0 ∷ number circuit.0 ∷ [])

abbrev pub StartIsRead : Type 0
StartIsRead =
    (at : ℕ) (source relay : PeerId) (circuit : ConnectionId) → at ≤ max_u64 → source.0 ≤ max_u64 → relay.0 ≤ max_u64 → circuit.0 ≤ max_u64
    → line_of (start_text at source relay circuit) ≡ Some (Start at source relay circuit)

abbrev pub up_text : ℕ → PeerId → ConnectionId → Bool → Option ConnectionId → Option (ConnectionId × StreamId) → Bool → List ℕ → List ℕ
up_text at peer conn circuit live offer pending own =
    text up_form
    (number at ∷ number peer.0 ∷ number conn.0 ∷ chosen circuit ∷ live_value live ∷ offer_value offer ∷ chosen pending ∷ bytes own ∷ [])

abbrev pub UpIsRead : Type 0
UpIsRead =
    (at : ℕ) (peer : PeerId) (conn : ConnectionId) (circuit : Bool) (live : Option ConnectionId) (offer : Option (ConnectionId × StreamId)) (pending : Bool) (own : List ℕ)
    → at ≤ max_u64 → peer.0 ≤ max_u64 → conn.0 ≤ max_u64 → LiveFits live → OfferFits offer → Bytes own
    → (d : Digits) × (line_of (up_text at peer conn circuit live offer pending own) ≡ Some (Up at peer conn circuit live offer pending d))
    × (stand_for (up_text at peer conn circuit live offer pending own) d ≡ own)

abbrev pub input_text : ℕ → StreamId → StreamInput → List ℕ → Option ConnectionId → Option (ConnectionId × StreamId) → Bool → List ℕ → List ℕ
input_text at stream kind brought live offer pending own =
    text input_form
    (number at ∷ number stream.0 ∷ kind_value kind ∷ bytes brought ∷ live_value live ∷ offer_value offer ∷ chosen pending ∷ bytes own ∷ [])

abbrev pub InputIsRead : Type 0
InputIsRead =
    (at : ℕ) (stream : StreamId) (kind : StreamInput) (brought : List ℕ) (live : Option ConnectionId) (offer : Option (ConnectionId × StreamId)) (pending : Bool) (own : List ℕ)
    → at ≤ max_u64 → stream.0 ≤ max_u64 → MayHave kind brought → Bytes brought → LiveFits live → OfferFits offer → Bytes own
    → (b d : Digits) × (line_of (input_text at stream kind brought live offer pending own) ≡ Some (Input at stream kind b live offer pending d))
    × (stand_for (input_text at stream kind brought live offer pending own) b ≡ brought)
    × (stand_for (input_text at stream kind brought live offer pending own) d ≡ own)

abbrev pub tick_text : ℕ → Option ConnectionId → Option (ConnectionId × StreamId) → List ℕ → List ℕ
tick_text at live offer own = text tick_form (number at ∷ live_value live ∷ offer_value offer ∷ bytes own ∷ [])

abbrev pub TickIsRead : Type 0
TickIsRead =
    (at : ℕ) (live : Option ConnectionId) (offer : Option (ConnectionId × StreamId)) (own : List ℕ) → at ≤ max_u64 → LiveFits live → OfferFits offer → Bytes own
    → (d : Digits) × (line_of (tick_text at live offer own) ≡ Some (Tick at live offer d)) × (stand_for (tick_text at live offer own) d ≡ own)

abbrev pub wrote_text : ℕ → ConnectionId → StreamId → List ℕ
wrote_text at conn stream = text wrote_form (number at ∷ number conn.0 ∷ number stream.0 ∷ [])

abbrev pub WroteIsRead : Type 0
WroteIsRead =
    (at : ℕ) (conn : ConnectionId) (stream : StreamId) → at ≤ max_u64 → conn.0 ≤ max_u64 → stream.0 ≤ max_u64
    → line_of (wrote_text at conn stream) ≡ Some (Wrote at conn stream)

abbrev pub down_text : ℕ → PeerId → ConnectionId → List ℕ
down_text at peer conn = text down_form (number at ∷ number peer.0 ∷ number conn.0 ∷ [])

abbrev pub DownIsRead : Type 0
DownIsRead =
    (at : ℕ) (peer : PeerId) (conn : ConnectionId) → at ≤ max_u64 → peer.0 ≤ max_u64 → conn.0 ≤ max_u64 → line_of (down_text at peer conn) ≡ Some (Down at peer conn)

abbrev pub dial_text : ℕ → ConnectionId → NatToken → ConnectId → List ℕ
dial_text at conn token id = text dial_form (number at ∷ number conn.0 ∷ number token.0 ∷ number id.0 ∷ [])

abbrev pub DialIsRead : Type 0
DialIsRead =
    (at : ℕ) (conn : ConnectionId) (token : NatToken) (id : ConnectId) → at ≤ max_u64 → conn.0 ≤ max_u64 → token.0 ≤ max_u64 → id.0 ≤ max_u64
    → line_of (dial_text at conn token id) ≡ Some (Dial at conn token id)

abbrev pub forget_text : ℕ → ConnectionId → List ℕ
forget_text at conn = text forget_form (number at ∷ number conn.0 ∷ [])

abbrev pub ForgetIsRead : Type 0
ForgetIsRead = (at : ℕ) (conn : ConnectionId) → at ≤ max_u64 → conn.0 ≤ max_u64 → line_of (forget_text at conn) ≡ Some (Forget at conn)

abbrev pub attribute_text : ℕ → PeerId → ConnectionId → Bool → List ℕ
attribute_text at peer conn circuit = text attribute_form (number at ∷ number peer.0 ∷ number conn.0 ∷ chosen circuit ∷ [])

abbrev pub AttributeIsRead : Type 0
AttributeIsRead =
    (at : ℕ) (peer : PeerId) (conn : ConnectionId) (circuit : Bool) → at ≤ max_u64 → peer.0 ≤ max_u64 → conn.0 ≤ max_u64
    → line_of (attribute_text at peer conn circuit) ≡ Some (Attribute at peer conn circuit)
