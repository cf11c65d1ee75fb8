-- How a connection came (RULES.md, section 10.5).
use Rattle.std.specs.Prelude.{Bool, true, false, None, Option, Some}
use Rattle.prelude.specs.Choice.{pick, both, no}
use Rattle.path.specs.declared.Path.{Path}
use Rattle.path.specs.declared.Path.TheVariants.{Relayed, Punched, Direct}
use Rattle.path.specs.declared.Owner.{Owner}
use Rattle.path.specs.declared.Owner.TheVariants.{Attempt, Inbound}
use Rattle.path.specs.declared.Attribution.{Attribution}
use Rattle.path.specs.declared.DialPurpose.{DialPurpose}
use Rattle.path.specs.declared.DialPurpose.TheVariants.{Relay, Punch, Probe, Reserve}
use Rattle.path.specs.declared.Claim.{Claim}
use Rattle.path.specs.declared.Claim.TheVariants.{Circuit}
use Rattle.path.specs.declared.Claim.TheVariants.{Direct as DirectClaim}
use Rattle.path.specs.declared.Dial.{Dial}
use Rattle.path.specs.declared.Replaced.{Replaced}

-- a circuit is relayed where it is claimed
unfoldable pub circuit_path : Option Claim → Option Attribution
circuit_path None = None
circuit_path (Some (Circuit relay owner)) = Some (record { path = Relayed relay; owner = owner })
circuit_path (Some (DirectClaim id)) = None

-- a punch dial says: punched, and its attempt is the owner
abbrev pub by_purpose : DialPurpose → Attribution → Attribution
by_purpose (Relay id relay) other = other
by_purpose (Punch id) other = record { path = Punched; owner = Some (Attempt id) }
by_purpose (Probe peer) other = other
by_purpose (Reserve peer) other = other

unfoldable pub by_dial : Option Dial → Attribution → Attribution
by_dial (Some d) other = by_purpose d.purpose other
by_dial None other = other

-- direct for the attempt that claims it
unfoldable pub by_claim : Option Claim → Attribution → Attribution
by_claim None other = other
by_claim (Some (Circuit relay owner)) other = other
by_claim (Some (DirectClaim id)) other = record { path = Direct; owner = Some (Attempt id) }

-- a window of the peer says: punched, and the inbound side is the owner
unfoldable pub by_window : Bool → Attribution → Attribution
by_window lasting other = pick lasting (record { path = Punched; owner = Some Inbound }) other

abbrev pub unowned : Attribution
unowned = record { path = Direct; owner = None }

-- a direct connection: the first of the four that fits
unfoldable pub direct_path : Option Dial → Option Claim → Bool → Attribution
direct_path dial claim lasting = by_dial dial (by_claim claim (by_window lasting unowned))

-- a circuit by its claim, any other connection as a direct one
unfoldable pub judged : Bool → Option Dial → Option Claim → Bool → Option Attribution
judged circuit dial claim lasting = pick circuit (circuit_path claim) (Some (direct_path dial claim lasting))

-- ---- an upgrade
unfoldable pub is_relayed : Path → Bool
is_relayed (Relayed relay) = true
is_relayed Punched = false
is_relayed Direct = false

abbrev pub is_punched_path : Path → Bool
is_punched_path (Relayed relay) = false
is_punched_path Punched = true
is_punched_path Direct = false

unfoldable pub is_owned : Option Owner → Bool
is_owned (Some (Attempt id)) = true
is_owned (Some Inbound) = true
is_owned None = false

-- an owned relayed path that gives way to one that is not relayed
unfoldable pub upgrade_of : Attribution → Option Attribution → Option Replaced
upgrade_of old None = None
upgrade_of old (Some new) =
    pick (both (both (is_relayed old.path) (is_owned old.owner)) (no (is_relayed new.path))) (Some (record { owner = old.owner; from = old.path; to = new.path })) None

unfoldable pub punched_at : Option Attribution → Bool
punched_at None = false
punched_at (Some a) = is_punched_path a.path
