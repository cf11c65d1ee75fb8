-- The worked example (RULES.md, section 12.8): its lines as calls.
use Rattle.std.specs.Prelude.{ℕ, true, false, List, [], ◌∷◌, replicate, Some}
use Rattle.ids.specs.declared.ConnectionId.{ConnectionId}
use Rattle.ids.specs.declared.StreamId.{StreamId}
use Rattle.ids.specs.declared.PeerId.{PeerId}
use Rattle.ledger.specs.Ledger.{empty_ledger}
use Rattle.inbound.specs.declared.InboundCircuit.{InboundCircuit}
use Rattle.vocabulary.specs.declared.Settings.{Settings}
use Rattle.vocabulary.specs.declared.Host.{Host}
use Rattle.vocabulary.specs.declared.StreamInput.TheVariants.{Ready, Data}
use Rattle.inbound.specs.Circuits.{new_answer}
use Rattle.history.specs.Calls.{Call, up, input, tick, Datagram, step_of}
use Rattle.history.specs.Book.{Who, fresh}
use Rattle.history.specs.Tells.{Says, path, burst, send, reset, opens, Lot, stays, until, Told, sync, tells_all}

abbrev pub source : PeerId
source = record { 0 = 5 }

abbrev pub relay : PeerId
relay = record { 0 = 9 }

abbrev pub circuit : ConnectionId
circuit = record { 0 = 7 }

abbrev pub stream : ℕ → StreamId
stream n = record { 0 = n }

abbrev pub settings : Settings
settings =
    record {
      handshake = 1000;
      upgrade = 10000;
      exchange = 2000;
      punch = 100;
      interval = 40;
      payload = 32;
      private = false;
      upgrades = true;
    }

-- live=7 offer=7:n
abbrev pub host : ℕ → ℕ → Host
host at n = record { at = at; live = Some circuit; offer = Some (circuit, stream n) }

-- own=-
abbrev pub own : List ℕ
own = []

-- a reply buffer of the least length
unfoldable pub buffer : List ℕ
buffer = replicate 4098 0

abbrev pub address : List ℕ
address = 0x04 ∷ 0xc0 ∷ 0x00 ∷ 0x00 ∷ 0x09 ∷ 0x91 ∷ 0x02 ∷ 0x0f ∷ 0xa1 ∷ 0xcd ∷ 0x03 ∷ []

-- a CONNECT with this address, behind its length
abbrev pub reply : List ℕ
reply = 0x0f ∷ 0x08 ∷ 0x64 ∷ 0x12 ∷ 0x0b ∷ address

unfoldable pub calls : List Call
calls =
    up empty_ledger (host 10 4) own source circuit true
    ∷ input empty_ledger buffer (host 20 8) own (stream 4) Ready [] false
    ∷ input empty_ledger buffer (host 60 8) own (stream 4) Data reply false
    ∷ tick empty_ledger (host 130 8) own
    ∷ tick empty_ledger (host 180 8) own
    ∷ []

-- the datagrams of each answer
unfoldable pub each : InboundCircuit → List Call → List (List Datagram)
each c [] = []
each c (k ∷ ks) = (step_of c k).sent ∷ each (step_of c k).circuit ks

abbrev pub datagram : Datagram
datagram = record { target = address; payload = 32 }

-- two at 130 and one at 180
abbrev pub expected : List (List Datagram)
expected = [] ∷ [] ∷ [] ∷ (datagram ∷ datagram ∷ []) ∷ (datagram ∷ []) ∷ []

abbrev pub begun : InboundCircuit
begun = (new_answer source relay circuit settings 0).circuit

-- ---- what the book tells of it (section 12.8)

-- CONNECT without an address, behind its length
abbrev pub connect_bytes : List ℕ
connect_bytes = 0x02 ∷ 0x08 ∷ 0x64 ∷ []

abbrev pub sayings : List (List Says)
sayings =
    (path source relay circuit ∷ opens circuit (stream 4) ∷ [])
    ∷ (send circuit (stream 4) connect_bytes ∷ [])
    ∷ (send circuit (stream 4) sync ∷ reset circuit (stream 4) ∷ [])
    ∷ (burst 2 32 (address ∷ []) ∷ [])
    ∷ (burst 1 32 (address ∷ []) ∷ opens circuit (stream 8) ∷ [])
    ∷ []

-- the source's window, which the reply opens to the deadline, 10010
abbrev pub lots : List Lot
lots = stays ∷ stays ∷ until 10010 ∷ stays ∷ stays ∷ []

unfoldable pub lots_of : List Told → List Lot
lots_of [] = []
lots_of (t ∷ ts) = t.lot ∷ lots_of ts

abbrev pub told : List Told
told = tells_all settings who (fresh settings 0) calls
  where
    who : Who
    who = record { source = source; relay = relay; circuit = circuit }
