use Prim.Native.Nat.{ℕ}
use mathlib.Core.Path.{refl}
use mathlib.Core.List.{List}
use Rattle.ids.specs.declared.PeerId.{PeerId}
use Rattle.forms.specs.Forms.{kind_of, split, on_first}
use Rattle.forms.specs.Texts.{text, text_from, value_text}
use Rattle.text.specs.Words.{length_before}
use Rattle.text.specs.Decimal.{digits_of}
use Rattle.journal_effects.specs.declared.Effects.{Effects}
use Rattle.journal_laws.specs.Names.{NamesInWords}
use Rattle.journal_laws.proofs.names_in_words.Goals as goal

in_words : (e : Effects) (sent aims : List ℕ) (relay : PeerId) → NamesInWords e sent aims relay
unfolding digits_of kind_of split on_first text text_from value_text length_before
in_words e sent aims relay = record { relayed = refl; unnamed = refl; direct = refl; inbound = refl; attempt = refl }

pub returns : goal.returns
returns c = in_words
