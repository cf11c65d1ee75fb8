use mathlib.Core.Path.{◌≡◌, ap, ◌∙◌}
use mathlib.Core.List.{[]}
use Rattle.std.proofs.Common.{rules, tests}
use Rattle.std.proofs.lemmas.Iterator.Consumers.{nth_from_yields_List}
use Rattle.std.proofs.lemmas.Iterator.Splits.{YieldsList-from_slice_split}
use Rattle.std.proofs.lemmas.Option.{unwrap_or-slice_get}
use Rattle.std.specs.List.{slice_get}
use Rattle.std.specs.Option.{option_map, unwrap_or}
use lib.Dec.{eqb}
use Rattle.text.specs.Printed.{page, with_text}
use Rattle.forms.specs.Forms.{split}
use Rattle.forms.specs.Texts.{word_at}
use Rattle.forms.proofs.Choices.{split_is}
use Rattle.forms.proofs.Print.{word_now}
use Rattle.forms.proofs.put_choice.Goals as goal

pub returns : goal.returns
returns c =
    let e : unwrap_or (option_map (λ w. w.now) c.nth-word.result) [] ≡ word_at c.args.choice.now c.args.k =
    ap (λ r. unwrap_or r [])
    (nth_from_yields_List _ _ c.args.k c.nth-word.ensures.ran
    (YieldsList-from_slice_split _ (λ b. eqb b 47) c.args.choice.now c.split.ensures.rest c.split.ensures.done c.split.ensures.closure (λ x r q k. search (rules, tests)))
    ∙ ap (λ ws. slice_get ws c.args.k) (split_is c.args.choice.now))
    ∙ unwrap_or-slice_get (split c.args.choice.now) c.args.k []
    in c.put_text.ensures ∙ ap (with_text (page c.args.printer.now)) (ap (λ w. w.now) c.unwrap_or.ensures ∙ word_now c.nth-word.result _ ∙ e)
