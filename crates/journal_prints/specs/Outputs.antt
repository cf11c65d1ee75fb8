-- What the journal prints (RULES.md, section 12.7): the text of each output, in the line n.
use Rattle.std.specs.Prelude.{ℕ, List, [], ◌∷◌, ◌++◌, None, Option, Some}
use Rattle.text.specs.Words.{ascii}
use Rattle.text.specs.Hexadecimal.{hexadecimal}
use Rattle.forms.specs.Texts.{Value, number, bytes, word, text}
use Rattle.wire.specs.Lists.{entries}
use Rattle.journal_prints.specs.Forms.{none_form, path_form, burst_form, upgrade_form, close_form, send_form, reset_form, open_form, owned_form, named_form, refused_form}
use Rattle.refusal.specs.Number.{number_of}
use Rattle.refusal.specs.declared.Refusal.{Refusal}
use Rattle.ids.specs.declared.PeerId.{PeerId}
use Rattle.ids.specs.declared.ConnectionId.{ConnectionId}
use Rattle.ids.specs.declared.StreamId.{StreamId}
use Rattle.path.specs.declared.Path.{Path}
use Rattle.path.specs.declared.Owner.{Owner}
use Rattle.path.specs.declared.Attribution.{Attribution}
use Rattle.path.specs.declared.Path.TheVariants as path
use Rattle.path.specs.declared.Owner.TheVariants as owner

-- the values of a form, and a line feed
abbrev pub line_text : List ℕ → List Value → List ℕ
line_text form vs = text form vs ++ ascii "\n"

abbrev pub none_text : ℕ → List ℕ
none_text n = line_text none_form (number n ∷ [])

abbrev pub path_text : ℕ → PeerId → PeerId → ConnectionId → List ℕ
path_text n peer relay conn = line_text path_form (number n ∷ number peer.0 ∷ number relay.0 ∷ number conn.0 ∷ [])

abbrev pub open_text : ℕ → ConnectionId → StreamId → List ℕ
open_text n conn stream = line_text open_form (number n ∷ number conn.0 ∷ number stream.0 ∷ [])

abbrev pub send_text : ℕ → ConnectionId → StreamId → List ℕ → List ℕ
send_text n conn stream message = line_text send_form (number n ∷ number conn.0 ∷ number stream.0 ∷ bytes message ∷ [])

abbrev pub reset_text : ℕ → ConnectionId → StreamId → List ℕ
reset_text n conn stream = line_text reset_form (number n ∷ number conn.0 ∷ number stream.0 ∷ [])

-- addresses, a comma before each
unfoldable pub with_commas : List (List ℕ) → List ℕ
with_commas [] = []
with_commas (a ∷ xs) = ascii "," ++ hexadecimal a ++ with_commas xs

-- addresses in order, commas between
unfoldable pub targets_text : List (List ℕ) → List ℕ
targets_text [] = []
targets_text (a ∷ xs) = hexadecimal a ++ with_commas xs

abbrev pub burst_text : ℕ → ℕ → ℕ → List ℕ → List ℕ
burst_text n times payload targets = text burst_form (number n ∷ number times ∷ number payload ∷ []) ++ targets_text (entries targets) ++ ascii "\n"

abbrev pub close_text : ℕ → ConnectionId → List ℕ
close_text n conn = line_text close_form (number n ∷ number conn.0 ∷ [])

abbrev pub upgrade_text : ℕ → PeerId → ConnectionId → ConnectionId → List ℕ
upgrade_text n peer old new = line_text upgrade_form (number n ∷ number peer.0 ∷ number old.0 ∷ number new.0 ∷ [])

-- relayed, punched, direct; none of a connection that gets no name
abbrev pub path_place : Path → ℕ
path_place (path.Relayed relay) = 0
path_place path.Punched = 1
path_place path.Direct = 2

abbrev pub no_path : ℕ
no_path = 3

-- an attempt's number, inbound, or none
abbrev pub owned_text : ℕ → ℕ → Option Owner → List ℕ
owned_text n place (Some (owner.Attempt id)) = line_text owned_form (number n ∷ word place ∷ number id.0 ∷ [])
owned_text n place (Some owner.Inbound) = line_text named_form (number n ∷ word place ∷ word 0 ∷ [])
owned_text n place None = line_text named_form (number n ∷ word place ∷ word 1 ∷ [])

abbrev pub attribution_text : ℕ → Attribution → List ℕ
attribution_text n a = owned_text n (path_place a.path) a.owner

abbrev pub unattributed_text : ℕ → List ℕ
unattributed_text n = owned_text n no_path None

abbrev pub attributed_text : ℕ → Option Attribution → List ℕ
attributed_text n (Some a) = attribution_text n a
attributed_text n None = unattributed_text n

abbrev pub refused_text : ℕ → Refusal → List ℕ
refused_text n why = line_text refused_form (number n ∷ number (number_of why) ∷ [])
