-- A target list is printed entry by entry. Assumes nothing.
use mathlib.Core.Path.{◌≡◌, refl}
use mathlib.Core.List.{List, [], ◌∷◌, ◌++◌}
use Prim.Native.Nat.{ℕ}
use Rattle.text.specs.Hexadecimal.{hexadecimal}
use Rattle.text.specs.Printed.{Page, with_text}
use Rattle.text.proofs.Printing.{printed_on, printed_all}
use Rattle.journal_prints.specs.Outputs.{with_commas}

-- one more address behind its comma
pub other_printed : (p q r whole : Page) {left others : List (List ℕ)} {a : List ℕ} → left ≡ a ∷ others → q ≡ with_text p (44 ∷ []) → r ≡ with_text q (hexadecimal a)
    → with_text p (with_commas left) ≡ whole → with_text r (with_commas others) ≡ whole
unfolding with_commas
other_printed p q r whole {left} {others} {a} w f g inv =
    let rest = with_commas others in
    printed_on q r whole (hexadecimal a) rest refl g (printed_on p q whole (44 ∷ []) (hexadecimal a ++ rest) (rw w refl) f inv)

pub others_end : (p whole : Page) {left : List (List ℕ)} → left ≡ [] → with_text p (with_commas left) ≡ whole → p ≡ whole
unfolding with_commas
others_end p whole h inv = printed_all p whole (rw h refl) inv
