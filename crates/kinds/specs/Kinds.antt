-- What a row's words say (RULES.md, section 10.9). A kind that is none of these is no entry of any table.
-- ---- the row of an entry: the key, then four numbers, 0 where there is none
use Rattle.std.specs.Prelude.{ℕ, eqb, None, Option, Some}
use Rattle.prelude.specs.Choice.{pick}
use Rattle.path.specs.declared.Path.{Path}
use Rattle.path.specs.declared.Path.TheVariants.{Relayed, Punched, Direct}
use Rattle.path.specs.declared.Owner.{Owner}
use Rattle.path.specs.declared.Owner.TheVariants.{Attempt, Inbound}
use Rattle.path.specs.declared.DialPurpose.{DialPurpose}
use Rattle.path.specs.declared.DialPurpose.TheVariants.{Relay, Punch, Probe, Reserve}
use Rattle.kinds.specs.declared.Entry.{Entry}
use Rattle.kinds.specs.declared.Entry.TheVariants.{Other, Dialed, Window, Path as PathEntry}
use Rattle.kinds.specs.declared.Row.{Row}

pub record Numbers : Type 0 where
  pub kind : ℕ
  pub a : ℕ
  pub b : ℕ
  pub c : ℕ

abbrev pub keyed : ℕ → Numbers → Row
keyed key n = record { key = key; kind = n.kind; a = n.a; b = n.b; c = n.c }

-- a dial: the token, then the purpose's numbers
abbrev pub dial_numbers : ℕ → DialPurpose → Numbers
dial_numbers token (Relay attempt relay) = record { kind = 1; a = token; b = attempt.0; c = relay.0 }
dial_numbers token (Punch attempt) = record { kind = 2; a = token; b = attempt.0; c = 0 }
dial_numbers token (Probe peer) = record { kind = 3; a = token; b = peer.0; c = 0 }
dial_numbers token (Reserve peer) = record { kind = 4; a = token; b = peer.0; c = 0 }

-- a path: the relay, then the owner
abbrev pub owned_numbers : ℕ → ℕ → Option Owner → Numbers
owned_numbers kind relay None = record { kind = kind; a = relay; b = 0; c = 0 }
owned_numbers kind relay (Some Inbound) = record { kind = kind; a = relay; b = 1; c = 0 }
owned_numbers kind relay (Some (Attempt id)) = record { kind = kind; a = relay; b = 2; c = id.0 }

abbrev pub path_numbers : Path → Option Owner → Numbers
path_numbers (Relayed relay) owner = owned_numbers 6 relay.0 owner
path_numbers Punched owner = owned_numbers 7 0 owner
path_numbers Direct owner = owned_numbers 8 0 owner

unfoldable pub numbers_of : Entry → Numbers
numbers_of (Dialed dial) = dial_numbers dial.token.0 dial.purpose
numbers_of (Window until) = record { kind = 5; a = until; b = 0; c = 0 }
numbers_of (PathEntry name) = path_numbers name.path name.owner
numbers_of Other = record { kind = 0; a = 0; b = 0; c = 0 }

abbrev pub row_of : ℕ → Entry → Row
row_of key entry = keyed key (numbers_of entry)

-- ---- the entry of a row: numbers that its kind does not use are not read
abbrev pub dialed : ℕ → DialPurpose → Entry
dialed token purpose = Dialed (record { token = record { 0 = token }; purpose = purpose })

abbrev pub owned : Path → ℕ → ℕ → Entry
owned path kind id =
    pick (eqb kind 0) (PathEntry (record { path = path; owner = None }))
    (pick (eqb kind 1) (PathEntry (record { path = path; owner = Some Inbound }))
    (pick (eqb kind 2) (PathEntry (record { path = path; owner = Some (Attempt (record { 0 = id })) })) Other))

unfoldable pub entry_of : Row → Entry
entry_of r =
    pick (eqb r.kind 1) (dialed r.a (Relay (record { 0 = r.b }) (record { 0 = r.c })))
    (pick (eqb r.kind 2) (dialed r.a (Punch (record { 0 = r.b })))
    (pick (eqb r.kind 3) (dialed r.a (Probe (record { 0 = r.b })))
    (pick (eqb r.kind 4) (dialed r.a (Reserve (record { 0 = r.b })))
    (pick (eqb r.kind 5) (Window r.a)
    (pick (eqb r.kind 6) (owned (Relayed (record { 0 = r.a })) r.b r.c)
    (pick (eqb r.kind 7) (owned Punched r.b r.c)
    (pick (eqb r.kind 8) (owned Direct r.b r.c) Other)))))))
