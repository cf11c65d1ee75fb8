-- Calls of `address` and `candidates` (RULES.md, sections 6 and 7): each row's call, and what is answered to it.
use Rattle.std.specs.Prelude.{ℕ, List, [], ◌∷◌, ◌++◌, Bool, true, false, get_or, eqb, Err, None, Ok, Option, Result, Some}
use Rattle.prelude.specs.Choice.{pick}
use Rattle.text.specs.Words.{ascii}
use Rattle.text.specs.Printed.{printed}
use Rattle.refusal.specs.Number.{number_of}
use Rattle.wire.specs.Lists.{entries}
use Rattle.address.specs.Multiaddr.{parsed}
use Rattle.address.specs.Words.{may_be_target}
use Rattle.candidates.specs.Selection.{usual, usually, selected, own, bounded, answered}
use Rattle.candidates.specs.Selection.{Chosen}
use Rattle.call_table.specs.Tables.{bytes_in, none, says, shows, yes_said, no_bytes, text_by}
use Rattle.call_table.specs.declared.Said.{Said}
use Rattle.call_table.specs.declared.Call.{Call}
use Rattle.address.specs.declared.Ip.{Ip}
use Rattle.refusal.specs.declared.Refusal.{Refusal}

unfoldable pub choices_table : List ℕ
choices_table =
    ascii "do=eligible private=0 address=%|yes|no|none\n"
    ++ ascii "do=eligible private=1 address=%|yes|no|none\n"
    ++ ascii "do=select private=0 list=%|kept=%|refused why=#\n"
    ++ ascii "do=select private=1 list=%|kept=%|refused why=#\n"
    ++ ascii "do=own list=%|kept=%|refused why=#\n"
    ++ ascii "do=bound list=%|kept=%|refused why=#"

-- whether an address may be a target, where the bytes are one
abbrev pub eligible_said : Bool → Option (Ip × ℕ) → Said
eligible_said private (Some (ip, port)) = yes_said (may_be_target private ip)
eligible_said private None = says 3 none

-- the list kept is the first bytes
abbrev pub selection_said : Result Chosen Refusal → Said
selection_said (Ok c) = shows 1 (0 ∷ c.len ∷ 0 ∷ 0 ∷ 0 ∷ 0 ∷ []) (printed no_bytes 0 c.bytes)
selection_said (Err why) = says 2 (number_of why ∷ 0 ∷ 0 ∷ 0 ∷ 0 ∷ 0 ∷ [])

-- what is answered to each row's call, with its bytes
unfoldable pub choice_said : ℕ → List ℕ → Said
choice_said row bytes =
    pick (eqb row 0) (eligible_said false (parsed bytes))
    (pick (eqb row 1) (eligible_said true (parsed bytes))
    (pick (eqb row 2) (selection_said (answered bytes (selected (usually false) (entries bytes))))
    (pick (eqb row 3) (selection_said (answered bytes (selected (usually true) (entries bytes))))
    (pick (eqb row 4) (selection_said (answered bytes (own usual (entries bytes))))
    (selection_said (answered bytes (bounded usual (entries bytes))))))))

abbrev pub said_of : List ℕ → Call → Said
said_of line c = choice_said c.row (bytes_in line (get_or c.words 0 0) (get_or c.words 1 0))

-- what is printed of a line; nothing where it is none of these calls
abbrev pub choices_text : List ℕ → List ℕ
choices_text line = text_by choices_table (said_of line) line
