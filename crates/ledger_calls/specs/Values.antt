-- What the words of the ledger's lines stand for (README.md of `calls`), and the words of its values (RULES.md, section 10.1). A word of a
-- choice is its place there; a number that a word has no use for plays no part, and is 0 in an answer.
use Rattle.std.specs.Prelude.{ℕ, eqb, None, Option, Some}
use Rattle.prelude.specs.Choice.{pick}
use Rattle.path.specs.declared.Path.{Path}
use Rattle.path.specs.declared.Path.TheVariants.{Relayed, Punched, Direct}
use Rattle.path.specs.declared.Owner.{Owner}
use Rattle.path.specs.declared.Owner.TheVariants.{Attempt, Inbound}
use Rattle.path.specs.declared.DialPurpose.{DialPurpose}
use Rattle.path.specs.declared.DialPurpose.TheVariants.{Relay, Punch, Probe, Reserve}
use Rattle.path.specs.declared.Claim.{Claim}
use Rattle.path.specs.declared.Claim.TheVariants.{Circuit, Direct as Own}
use Rattle.rows.specs.declared.Table.{Table}
use Rattle.rows.specs.declared.Table.TheVariants.{Dials, Windows, Paths}
use Rattle.ledger_calls.specs.declared.values.PurposeWords.{PurposeWords}
use Rattle.ledger_calls.specs.declared.values.PathWords.{PathWords}
use Rattle.ledger_calls.specs.declared.values.OwnerWords.{OwnerWords}

-- relay, punch, probe, reserve
unfoldable pub purpose_of : ℕ → ℕ → ℕ → DialPurpose
purpose_of word of relay =
    pick (eqb word 0) (Relay (record { 0 = of }) (record { 0 = relay }))
    (pick (eqb word 1) (Punch (record { 0 = of })) (pick (eqb word 2) (Probe (record { 0 = of })) (Reserve (record { 0 = of }))))

unfoldable pub purpose_words : DialPurpose → PurposeWords
purpose_words (Relay id relay) = record { word = 0; of = id.0; relay = relay.0 }
purpose_words (Punch id) = record { word = 1; of = id.0; relay = 0 }
purpose_words (Probe peer) = record { word = 2; of = peer.0; relay = 0 }
purpose_words (Reserve peer) = record { word = 3; of = peer.0; relay = 0 }

-- relayed, punched, direct
unfoldable pub path_of : ℕ → ℕ → Path
path_of word relay = pick (eqb word 0) (Relayed (record { 0 = relay })) (pick (eqb word 1) Punched Direct)

unfoldable pub path_words : Path → PathWords
path_words (Relayed relay) = record { word = 0; relay = relay.0 }
path_words Punched = record { word = 1; relay = 0 }
path_words Direct = record { word = 2; relay = 0 }

-- none, inbound, attempt
unfoldable pub owner_of : ℕ → ℕ → Option Owner
owner_of word id = pick (eqb word 0) None (pick (eqb word 1) (Some Inbound) (Some (Attempt (record { 0 = id }))))

unfoldable pub owner_words : Option Owner → OwnerWords
owner_words None = record { word = 0; id = 0 }
owner_words (Some Inbound) = record { word = 1; id = 0 }
owner_words (Some (Attempt id)) = record { word = 2; id = id.0 }

-- none, direct, and a circuit claimed as inbound or as an attempt
unfoldable pub claim_of : ℕ → ℕ → ℕ → Option Claim
claim_of word relay id =
    pick (eqb word 0) None
    (pick (eqb word 1) (Some (Own (record { 0 = id })))
    (pick (eqb word 2) (Some (Circuit (record { 0 = relay }) (Some Inbound))) (Some (Circuit (record { 0 = relay }) (Some (Attempt (record { 0 = id })))))))

-- dials, windows, paths
unfoldable pub table_of : ℕ → Table
table_of word = pick (eqb word 0) Dials (pick (eqb word 1) Windows Paths)
