-- What a journal's accepted lines brought for names (RULES.md, section 10.8), the latest first, and what follows from it: the name of a
-- direct connection, and whether a 65th row would be needed. No table, no row.
use Rattle.std.specs.Prelude.{◌≡◌, ℕ, max, ◌<◌, Bool, true, false, List, [], ◌∷◌, ◌++◌, ltb, leb, eqb, length, None, Some}
use Rattle.prelude.specs.Lists.{such}
use Rattle.prelude.specs.Choice.{pick, both, either, no}
use Rattle.ids.specs.declared.PeerId.{PeerId}
use Rattle.ids.specs.declared.ConnectionId.{ConnectionId}
use Rattle.ids.specs.declared.ConnectId.{ConnectId}
use Rattle.path.specs.declared.Path.TheVariants.{Punched, Direct}
use Rattle.path.specs.declared.Owner.TheVariants.{Attempt, Inbound}
use Rattle.path.specs.declared.Attribution.{Attribution}

-- a punch dial of an attempt was started; a connection got a name; a connection was forgotten; a reply opened the window of a circuit's
-- source to the upgrade's deadline, or extended it; a round was wanted and not had; the ledger was ticked
pub data Event : Type 0 where
  dialed : ConnectionId → ConnectId → Event
  got_name : ConnectionId → Event
  forgot : ConnectionId → Event
  replied : PeerId → (deadline : ℕ) → Event
  gave_up : PeerId → Event
  ticked : (at : ℕ) → Event

-- a reply in the peer's circuit opened or extended a window to a deadline above the number, and since then no round was wanted and not
-- had, and no tick was at or past that deadline
unfoldable pub awaited : PeerId → ℕ → List Event → Bool
awaited peer n [] = false
awaited peer n (dialed conn id ∷ es) = awaited peer n es
awaited peer n (got_name conn ∷ es) = awaited peer n es
awaited peer n (forgot conn ∷ es) = awaited peer n es
awaited peer n (replied of deadline ∷ es) = either (both (eqb peer.0 of.0) (ltb n deadline)) (awaited peer n es)
awaited peer n (gave_up of ∷ es) = pick (eqb peer.0 of.0) false (awaited peer n es)
awaited peer n (ticked at ∷ es) = awaited peer (max n at) es

-- the connection's latest punch dial since it was last forgotten gives the attempt; where there is none, another name
unfoldable pub punched_for : ConnectionId → List Event → Attribution → Attribution
punched_for conn [] other = other
punched_for conn (dialed of id ∷ es) other = pick (eqb conn.0 of.0) (record { path = Punched; owner = Some (Attempt id) }) (punched_for conn es other)
punched_for conn (got_name of ∷ es) other = punched_for conn es other
punched_for conn (forgot of ∷ es) other = pick (eqb conn.0 of.0) other (punched_for conn es other)
punched_for conn (replied of deadline ∷ es) other = punched_for conn es other
punched_for conn (gave_up of ∷ es) other = punched_for conn es other
punched_for conn (ticked at ∷ es) other = punched_for conn es other

-- a direct connection (section 10.5): punched for the attempt; else punched inbound, where a punch is awaited of its peer; else direct
abbrev pub direct_name : PeerId → ConnectionId → ℕ → List Event → Attribution
direct_name peer conn at es =
    punched_for conn es (pick (awaited peer at es) (record { path = Punched; owner = Some Inbound }) (record { path = Direct; owner = None }))

-- ---- number 4 (sections 10.1 and 10.8): connections and peers by their numbers, each once

-- all but one
abbrev pub others : ℕ → List ℕ → List ℕ
others k = such (λ (x : ℕ). no (eqb x k))

-- the connections that were dialed, and not forgotten since
unfoldable pub dialing : List Event → List ℕ
dialing [] = []
dialing (dialed conn id ∷ es) = conn.0 ∷ others conn.0 (dialing es)
dialing (got_name conn ∷ es) = dialing es
dialing (forgot conn ∷ es) = others conn.0 (dialing es)
dialing (replied of deadline ∷ es) = dialing es
dialing (gave_up of ∷ es) = dialing es
dialing (ticked at ∷ es) = dialing es

-- the connections that got a name, and were not forgotten since
unfoldable pub named : List Event → List ℕ
named [] = []
named (dialed conn id ∷ es) = named es
named (got_name conn ∷ es) = conn.0 ∷ others conn.0 (named es)
named (forgot conn ∷ es) = others conn.0 (named es)
named (replied of deadline ∷ es) = named es
named (gave_up of ∷ es) = named es
named (ticked at ∷ es) = named es

-- the peers with a window: a reply gives one; a round that is wanted and not had takes it, and so does a tick at which no punch of the
-- peer is awaited
unfoldable pub expected : List Event → List ℕ
expected [] = []
expected (dialed conn id ∷ es) = expected es
expected (got_name conn ∷ es) = expected es
expected (forgot conn ∷ es) = expected es
expected (replied of deadline ∷ es) = of.0 ∷ others of.0 (expected es)
expected (gave_up of ∷ es) = others of.0 (expected es)
expected (ticked at ∷ es) = such (λ (k : ℕ). awaited (record { 0 = k }) at es) (expected es)

-- one more would be the 65th: there are 64 others
abbrev pub is_full : ℕ → List ℕ → Bool
is_full k xs = leb 64 (length (others k xs))

-- ---- names in sentences

-- no round was wanted and not had in the peer's circuit, and no tick was at or past the deadline
unfoldable pub Lasts : PeerId → ℕ → List Event → Type 0
Lasts peer deadline [] = Unit {0}
Lasts peer deadline (dialed conn id ∷ es) = Lasts peer deadline es
Lasts peer deadline (got_name conn ∷ es) = Lasts peer deadline es
Lasts peer deadline (forgot conn ∷ es) = Lasts peer deadline es
Lasts peer deadline (replied of end ∷ es) = Lasts peer deadline es
Lasts peer deadline (gave_up of ∷ es) = (peer.0 ≡ of.0 → ⊥) × Lasts peer deadline es
Lasts peer deadline (ticked at ∷ es) = (at < deadline) × Lasts peer deadline es

-- some earlier reply of the peer's circuit set a deadline above the number, and it lasts since
pub record Awaits (peer : PeerId) (n : ℕ) (es : List Event) : Type 0 where
  pub of : PeerId
  pub deadline : ℕ
  pub since : List Event
  pub earlier : List Event
  pub whole : es ≡ since ++ (replied of deadline ∷ earlier)
  pub same : peer.0 ≡ of.0
  pub above : n < deadline
  pub lasts : Lasts peer deadline since

pub record AwaitedIs (peer : PeerId) (n : ℕ) (es : List Event) : Type 0 where
  pub there : awaited peer n es ≡ true → Awaits peer n es
  pub back : Awaits peer n es → awaited peer n es ≡ true

-- the connection was neither dialed nor forgotten
unfoldable pub Untouched : ConnectionId → List Event → Type 0
Untouched conn [] = Unit {0}
Untouched conn (dialed of id ∷ es) = (conn.0 ≡ of.0 → ⊥) × Untouched conn es
Untouched conn (got_name of ∷ es) = Untouched conn es
Untouched conn (forgot of ∷ es) = (conn.0 ≡ of.0 → ⊥) × Untouched conn es
Untouched conn (replied of end ∷ es) = Untouched conn es
Untouched conn (gave_up of ∷ es) = Untouched conn es
Untouched conn (ticked at ∷ es) = Untouched conn es

-- what the connection's latest event was: a punch dial of an attempt; that it was forgotten; or there was none
pub record Since (conn : ConnectionId) (e : ConnectionId → Event) (es : List Event) : Type 0 where
  pub of : ConnectionId
  pub since : List Event
  pub earlier : List Event
  pub whole : es ≡ since ++ (e of ∷ earlier)
  pub same : conn.0 ≡ of.0
  pub untouched : Untouched conn since

pub data Latest (conn : ConnectionId) (es : List Event) : Type 0 where
  by_dial : (id : ConnectId) → Since conn (λ of. dialed of id) es
      → ((other : Attribution) → punched_for conn es other ≡ record { path = Punched; owner = Some (Attempt id) }) → Latest conn es
  by_forget : Since conn forgot es → ((other : Attribution) → punched_for conn es other ≡ other) → Latest conn es
  never : Untouched conn es → ((other : Attribution) → punched_for conn es other ≡ other) → Latest conn es

-- so a name follows from the history
pub record FromHistory : Type 0 where
  pub window : (peer : PeerId) (n : ℕ) (es : List Event) → AwaitedIs peer n es
  pub dial : (conn : ConnectionId) (es : List Event) → Latest conn es
