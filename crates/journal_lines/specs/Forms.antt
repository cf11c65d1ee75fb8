-- The forms of a journal's lines (RULES.md, sections 12.4 and 12.5).
use Rattle.std.specs.Prelude.{ℕ, List, [], ◌∷◌}
use Rattle.text.specs.Words.{ascii}

abbrev pub settings_form : List ℕ
settings_form = ascii "handshake=# upgrade=# exchange=# punch=# interval=# payload=# private=(0/1) upgrades=(0/1)"

abbrev pub start_form : List ℕ
start_form = ascii "do=start at=# source=# relay=# circuit=#"

abbrev pub up_form : List ℕ
up_form = ascii "do=up at=# peer=# conn=# via=(direct/circuit) live=* offer=: pending=(0/1) own=%"

abbrev pub input_form : List ℕ
input_form = ascii "do=input at=# stream=# kind=(ready/data/end/closed) data=% live=* offer=: pending=(0/1) own=%"

abbrev pub tick_form : List ℕ
tick_form = ascii "do=tick at=# live=* offer=: own=%"

abbrev pub wrote_form : List ℕ
wrote_form = ascii "do=wrote at=# conn=# stream=#"

abbrev pub down_form : List ℕ
down_form = ascii "do=down at=# peer=# conn=#"

abbrev pub dial_form : List ℕ
dial_form = ascii "do=dial at=# conn=# token=# id=#"

abbrev pub forget_form : List ℕ
forget_form = ascii "do=forget at=# conn=#"

abbrev pub attribute_form : List ℕ
attribute_form = ascii "do=attribute at=# peer=# conn=# via=(direct/circuit)"

abbrev pub forms : List (List ℕ)
forms =
    settings_form ∷ start_form ∷ up_form ∷ input_form ∷ tick_form ∷ wrote_form ∷ down_form ∷ dial_form ∷ forget_form ∷ attribute_form ∷ []
