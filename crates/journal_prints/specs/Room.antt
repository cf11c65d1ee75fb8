-- How long an output is at most (RULES.md, section 12.7). Numbers are of 64 bits, a framed message is one that goes out, and a target list one
-- that was chosen.
use Rattle.std.specs.Prelude.{ℕ, ◌+◌, ◌*◌, ◌≤◌, ◌≡◌, List, ◌++◌, length, take, Option, Some}
use Rattle.prelude.specs.Numbers.{max_u64}
use Rattle.text.specs.Printed.{printed, behind}
use Rattle.refusal.specs.declared.Refusal.{Refusal}
use Rattle.candidates.specs.Selection.{capacity}
use Rattle.frames.specs.Sent.{frame_capacity}
use Rattle.ids.specs.declared.PeerId.{PeerId}
use Rattle.ids.specs.declared.ConnectionId.{ConnectionId}
use Rattle.ids.specs.declared.ConnectId.{ConnectId}
use Rattle.ids.specs.declared.StreamId.{StreamId}
use Rattle.path.specs.declared.Owner.{Owner}
use Rattle.path.specs.declared.Owner.TheVariants.{Attempt}
use Rattle.path.specs.declared.Attribution.{Attribution}
use Rattle.journal_prints.specs.Outputs.{none_text, path_text, open_text, send_text, reset_text, burst_text, close_text, upgrade_text, attribution_text, unattributed_text, refused_text}

abbrev pub message_most : ℕ
message_most = frame_capacity

abbrev pub list_most : ℕ
list_most = capacity

-- the bytes of a burst before its targets
abbrev pub burst_head : ℕ
burst_head = 96

-- the longest is a burst: two digits for each byte of the list, and the line feed
abbrev pub room : ℕ
room = burst_head + 2 * list_most + 1

-- an owner's number is of 64 bits
abbrev pub OwnerFits : Option Owner → Type 0
OwnerFits owner = (id : ConnectId) → owner ≡ Some (Attempt id) → id.0 ≤ max_u64

-- the texts that are printed
pub data Output : List ℕ → Type 0 where
  is_none : (n : ℕ) → n ≤ max_u64 → Output (none_text n)
  is_path : (n : ℕ) (peer relay : PeerId) (conn : ConnectionId) → n ≤ max_u64 → peer.0 ≤ max_u64 → relay.0 ≤ max_u64 → conn.0 ≤ max_u64 → Output (path_text n peer relay conn)
  is_open : (n : ℕ) (conn : ConnectionId) (stream : StreamId) → n ≤ max_u64 → conn.0 ≤ max_u64 → stream.0 ≤ max_u64 → Output (open_text n conn stream)
  is_send : (n : ℕ) (conn : ConnectionId) (stream : StreamId) (message : List ℕ) → n ≤ max_u64 → conn.0 ≤ max_u64 → stream.0 ≤ max_u64 → length message ≤ message_most
      → Output (send_text n conn stream message)
  is_reset : (n : ℕ) (conn : ConnectionId) (stream : StreamId) → n ≤ max_u64 → conn.0 ≤ max_u64 → stream.0 ≤ max_u64 → Output (reset_text n conn stream)
  is_burst : (n times payload : ℕ) (targets : List ℕ) → n ≤ max_u64 → times ≤ max_u64 → payload ≤ max_u64 → length targets ≤ list_most → Output (burst_text n times payload targets)
  is_close : (n : ℕ) (conn : ConnectionId) → n ≤ max_u64 → conn.0 ≤ max_u64 → Output (close_text n conn)
  is_upgrade : (n : ℕ) (peer : PeerId) (old new : ConnectionId) → n ≤ max_u64 → peer.0 ≤ max_u64 → old.0 ≤ max_u64 → new.0 ≤ max_u64 → Output (upgrade_text n peer old new)
  is_attributed : (n : ℕ) (a : Attribution) → n ≤ max_u64 → OwnerFits a.owner → Output (attribution_text n a)
  is_unattributed : (n : ℕ) → n ≤ max_u64 → Output (unattributed_text n)
  is_refused : (n : ℕ) (why : Refusal) → n ≤ max_u64 → Output (refused_text n why)

-- four texts, printed one behind the other from the buffer's first byte, stand there whole
abbrev pub Whole : List ℕ → List ℕ → List ℕ → List ℕ → List ℕ → Type 0
Whole buffer a b c d = take (behind buffer 0 (a ++ b ++ c ++ d)) (printed buffer 0 (a ++ b ++ c ++ d)) ≡ a ++ b ++ c ++ d
