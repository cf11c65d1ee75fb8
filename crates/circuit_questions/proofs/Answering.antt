-- What is printed of a line is what the definitions say. Assumes nothing.
use mathlib.Core.Path.{◌≡◌, refl, ap, ◌∙◌}
use mathlib.Core.List.{List, [], ◌∷◌}
use mathlib.Core.Bool.{Bool, true, false}
use Prim.Native.Nat.{ℕ}
use mir.Val.{bool_byte}
use Rattle.std.specs.Prelude.{None, Option, Some, is_some, unwrap_or}
use Rattle.prelude.specs.Choice.{bit}
use Rattle.text.specs.Printed.{Page, with_text}
use Rattle.text.proofs.Printing.{with_texts}
use Rattle.forms.specs.Forms.{kind_of}
use Rattle.forms.specs.Texts.{number, word, text, value_in, values_from, values_in}
use Rattle.circuit_questions.specs.declared.Answers.{Answers}
use Rattle.circuit_questions.specs.Answers.{deadline_value, answers_form, answers_text}

byte_bit : (b : Bool) → bool_byte b ≡ bit b
byte_bit true = refl
byte_bit false = refl

given_text : (source : List ℕ) (n : ℕ) (next : Option ℕ) (p q t : ℕ)
    → text answers_form (values_in source answers_form (n ∷ bool_byte (is_some next) ∷ unwrap_or next 0 ∷ p ∷ q ∷ t ∷ []))
    ≡ text answers_form (number n ∷ deadline_value next ∷ word p ∷ word q ∷ word t ∷ [])
unfolding values_in values_from value_in kind_of
given_text source n (Some end) p q t = refl
given_text source n None p q t = refl

words_text : (source : List ℕ) (n : ℕ) (next : Option ℕ) (p q t : Bool)
    → text answers_form (values_in source answers_form (n ∷ bool_byte (is_some next) ∷ unwrap_or next 0 ∷ bool_byte p ∷ bool_byte q ∷ bool_byte t ∷ []))
    ≡ text answers_form (number n ∷ deadline_value next ∷ word (bit p) ∷ word (bit q) ∷ word (bit t) ∷ [])
words_text source n next p q t =
    given_text source n next (bool_byte p) (bool_byte q) (bool_byte t)
    ∙ ap (λ (v : ℕ). text answers_form (number n ∷ deadline_value next ∷ word v ∷ word (bool_byte q) ∷ word (bool_byte t) ∷ [])) (byte_bit p)
    ∙ ap (λ (v : ℕ). text answers_form (number n ∷ deadline_value next ∷ word (bit p) ∷ word v ∷ word (bool_byte t) ∷ [])) (byte_bit q)
    ∙ ap (λ (v : ℕ). text answers_form (number n ∷ deadline_value next ∷ word (bit p) ∷ word (bit q) ∷ word v ∷ [])) (byte_bit t)

pub answers_put : (p : Page) (source : List ℕ) (n : ℕ) (a : Answers) (took : Bool) {q r : Page} {i : Bool} {g e x y z : ℕ} → i ≡ is_some a.next → g ≡ bool_byte i
    → e ≡ unwrap_or a.next 0 → x ≡ bool_byte a.promotes → y ≡ bool_byte a.claims → z ≡ bool_byte took
    → q ≡ with_text p (text answers_form (values_in source answers_form (n ∷ g ∷ e ∷ x ∷ y ∷ z ∷ []))) → r ≡ with_text q (10 ∷ [])
    → r ≡ with_text p (answers_text n a took)
unfolding answers_text
answers_put p source n a took {g = g} {e = e} {x = x} {y = y} {z = z} h i j k l m f w =
    let same : ◌≡◌ {A = List ℕ} (n ∷ g ∷ e ∷ x ∷ y ∷ z ∷ []) (n ∷ bool_byte (is_some a.next) ∷ unwrap_or a.next 0 ∷ bool_byte a.promotes ∷ bool_byte a.claims ∷ bool_byte took ∷ [])
    = rw (i, h, j, k, l, m) refl in
    w
    ∙ ap (λ (t : Page). with_text t (10 ∷ []))
    (f ∙ ap (λ (t : List ℕ). with_text p (text answers_form (values_in source answers_form t))) same ∙ ap (with_text p) (words_text source n a.next a.promotes a.claims took))
    ∙ with_texts p _ (10 ∷ [])
