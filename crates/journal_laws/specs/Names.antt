-- Each name in the words of the rule (RULES.md, sections 12.7 and 12.9), byte by byte.
use Rattle.std.specs.Prelude.{ℕ, ◌≡◌, List, None, Some}
use Rattle.text.specs.Words.{ascii}
use Rattle.ids.specs.declared.PeerId.{PeerId}
use Rattle.path.specs.declared.Path.TheVariants.{Relayed, Punched, Direct}
use Rattle.path.specs.declared.Owner.TheVariants.{Attempt, Inbound}
use Rattle.journal_effects.specs.declared.Effects.{Effects}
use Rattle.journal_calls.specs.declared.Said.TheVariants.{Attributed}
use Rattle.journal_text.specs.Texts.{said_text}

pub record NamesInWords (e : Effects) (sent aims : List ℕ) (relay : PeerId) : Type 0 where
  pub relayed : said_text 5 e sent aims (Attributed (Some (record { path = Relayed relay; owner = Some Inbound })))
      ≡ ascii "n=5 out=attributed path=relayed owner=inbound\n"
  pub unnamed : said_text 6 e sent aims (Attributed None) ≡ ascii "n=6 out=attributed path=none owner=none\n"
  pub direct : said_text 7 e sent aims (Attributed (Some (record { path = Direct; owner = None })))
      ≡ ascii "n=7 out=attributed path=direct owner=none\n"
  pub inbound : said_text 14 e sent aims (Attributed (Some (record { path = Punched; owner = Some Inbound })))
      ≡ ascii "n=14 out=attributed path=punched owner=inbound\n"
  pub attempt : said_text 20 e sent aims (Attributed (Some (record { path = Punched; owner = Some (Attempt (record { 0 = 3 })) })))
      ≡ ascii "n=20 out=attributed path=punched owner=3\n"
