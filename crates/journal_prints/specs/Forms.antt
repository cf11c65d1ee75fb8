-- The forms of a journal's outputs (RULES.md, section 12.7), without their line feed.
use Rattle.std.specs.Prelude.{ℕ, List}
use Rattle.text.specs.Words.{ascii}

abbrev pub none_form : List ℕ
none_form = ascii "n=# out=none"

abbrev pub path_form : List ℕ
path_form = ascii "n=# out=path peer=# relay=# conn=#"

-- the targets stand behind it
abbrev pub burst_form : List ℕ
burst_form = ascii "n=# out=burst times=# payload=# target="

abbrev pub upgrade_form : List ℕ
upgrade_form = ascii "n=# out=upgrade peer=# old=# new=#"

abbrev pub close_form : List ℕ
close_form = ascii "n=# out=close conn=#"

abbrev pub send_form : List ℕ
send_form = ascii "n=# out=send conn=# stream=# data=%"

abbrev pub reset_form : List ℕ
reset_form = ascii "n=# out=reset conn=# stream=#"

abbrev pub open_form : List ℕ
open_form = ascii "n=# out=open conn=# stream=#"

-- of an attempt, by its number
abbrev pub owned_form : List ℕ
owned_form = ascii "n=# out=attributed path=(relayed/punched/direct/none) owner=#"

-- of no attempt
abbrev pub named_form : List ℕ
named_form = ascii "n=# out=attributed path=(relayed/punched/direct/none) owner=(inbound/none)"

abbrev pub refused_form : List ℕ
refused_form = ascii "n=# out=refused why=#"
