-- What the bytes of an input bring of the reply, with the targets among its addresses (RULES.md, sections 7 and 11.7).
use Rattle.std.specs.Prelude.{ℕ, List, [], replicate, Result, Ok, Err}
use Rattle.refusal.specs.declared.Refusal.{Refusal}
use Rattle.wire.specs.Frame.{max_message_size}
use Rattle.wire.specs.Lists.{listed, entries}
use Rattle.candidates.specs.Selection.{Chosen}
use Rattle.candidates.specs.declared.Terms.{Terms}
use Rattle.candidates.specs.Selection.{held_terms, selected, packed, answered}
use Rattle.inputs.specs.declared.Heard.TheVariants as heard
use Rattle.lent.specs.declared.reply.Peeked.{Peeked}
use Rattle.lent.specs.Brought.{Brought, unfinished, failed, connect}

-- room for the addresses of any message
unfoldable pub no_list : List ℕ
no_list = replicate max_message_size 0

abbrev pub chosen_in : Result Chosen Refusal → Chosen
chosen_in (Ok chosen) = chosen
chosen_in (Err why) = packed []

-- the targets among the addresses of a list; none of a broken one
unfoldable pub chosen_from : Terms → List ℕ → Chosen
chosen_from t list = chosen_in (answered list (selected (held_terms t) (entries list)))

-- the targets of a reply's addresses
unfoldable pub targets_from : Terms → List (List ℕ) → Chosen
targets_from t addresses = packed (listed (selected (held_terms t) addresses))

unfoldable pub peeked_of : Terms → Brought → Peeked
peeked_of t (unfinished n) = record { heard = heard.More n; targets = packed [] }
peeked_of t failed = record { heard = heard.Failed; targets = packed [] }
peeked_of t (connect addresses) = record { heard = heard.Connect (targets_from t addresses).len; targets = targets_from t addresses }
