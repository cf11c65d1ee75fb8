-- An entry is read back from its row. Assumes nothing.
use Prim.Native.Nat.{ℕ}
use mathlib.Core.Path.{◌≡◌, refl}
use Rattle.std.specs.Prelude.{None, Option, Some}
use Rattle.ids.specs.declared.NatToken.{NatToken}
use Rattle.path.specs.declared.Path.{Path}
use Rattle.path.specs.declared.Path.TheVariants.{Relayed, Punched, Direct}
use Rattle.path.specs.declared.Owner.{Owner}
use Rattle.path.specs.declared.Owner.TheVariants.{Attempt, Inbound}
use Rattle.path.specs.declared.DialPurpose.{DialPurpose}
use Rattle.path.specs.declared.DialPurpose.TheVariants.{Relay, Punch, Probe, Reserve}
use Rattle.kinds.specs.declared.Entry.{Entry}
use Rattle.kinds.specs.declared.Entry.TheVariants.{Other, Dialed, Window, Path as PathEntry}
use Rattle.kinds.specs.Kinds.{row_of, keyed, dial_numbers, path_numbers, numbers_of, entry_of}

dial_back : (key : ℕ) (token : NatToken) (purpose : DialPurpose) → entry_of (keyed key (dial_numbers token.0 purpose)) ≡ Dialed (record { token = token; purpose = purpose })
unfolding entry_of
dial_back key token (Relay attempt relay) = refl
dial_back key token (Punch attempt) = refl
dial_back key token (Probe peer) = refl
dial_back key token (Reserve peer) = refl

path_back : (key : ℕ) (path : Path) (owner : Option Owner) → entry_of (keyed key (path_numbers path owner)) ≡ PathEntry (record { path = path; owner = owner })
unfolding entry_of
path_back key (Relayed relay) None = refl
path_back key (Relayed relay) (Some Inbound) = refl
path_back key (Relayed relay) (Some (Attempt id)) = refl
path_back key Punched None = refl
path_back key Punched (Some Inbound) = refl
path_back key Punched (Some (Attempt id)) = refl
path_back key Direct None = refl
path_back key Direct (Some Inbound) = refl
path_back key Direct (Some (Attempt id)) = refl

pub entry_back : (key : ℕ) (entry : Entry) → entry_of (row_of key entry) ≡ entry
unfolding entry_of numbers_of
entry_back key (Dialed dial) = dial_back key dial.token dial.purpose
entry_back key (Window until) = refl
entry_back key (PathEntry name) = path_back key name.path name.owner
entry_back key Other = refl
