-- What shifts and masks say of leading bits, over any width.
-- Assumes nothing.
use mathlib.Core.Path.{◌≡◌, refl, sym, ap, subst, ◌∙◌}
use mathlib.Core.Bool.{Bool, true, false}
use Prim.Native.Nat.{ℕ, suc, ◌+◌, ◌-◌, ◌*◌, ◌/◌, ◌%◌, ◌^◌, ◌<◌, ◌≤◌}
use native.Mathlib.Nat.{div-one, div-eq_of_lt, mul-add-div_right, mul_assoc}
use native.Mathlib.Omega.{arith}
use lib.Dec.{eqb}
use lib.Bits.{bit_and, and_high}
use lib.Arith.{digits_mod}
use lib.Pow.{pow_pos, pow_mono, suc_ones, pow-add, shr-shr, shl-shr, shr_mod, high}
use borrow.Author.Tests.{eq-eqb, ne_eqb, eqb-true, eqb-false}
use Rattle.address.specs.LeadingBits.{same_leading_bits}

-- two tests of equality agree where the equations follow from each other
pub same_test : (a b c d : ℕ) → (a ≡ b → c ≡ d) → (c ≡ d → a ≡ b) → eqb a b ≡ eqb c d
same_test a b c d f g = go (eqb c d) refl
  where
    go : (t : Bool) → eqb c d ≡ t → eqb a b ≡ t
    go true e = eq-eqb a b (g (eqb-true c d e))
    go false e = ne_eqb a b (λ h. eqb-false c d e (f h))

pub add_test : (n a b : ℕ) → eqb (n + a) (n + b) ≡ eqb a b
add_test n a b = same_test (n + a) (n + b) a b (λ e. omega arith) (λ e. omega arith)

-- no leading bit: any two numbers of w bits agree
pub lead_none : (w len a p : ℕ) → len ≡ 0 → a < 2 ^ w → p < 2 ^ w → same_leading_bits w len a p ≡ true
unfolding same_leading_bits
lead_none w len a p e ha hp =
    let k : w - len ≡ w = omega arith in
    rw k (eq-eqb _ _ (div-eq_of_lt ha ∙ sym (div-eq_of_lt hp)))

-- all bits, or more
pub lead_all : (w len a p : ℕ) → w ≤ len → same_leading_bits w len a p ≡ eqb a p
unfolding same_leading_bits
lead_all w len a p h =
    let k : w - len ≡ 0 = omega arith in
    rw k (rw (div-one a, div-one p))

-- the test under a mask of the leading j bits of j + k
mul_inj : (k x y : ℕ) → x * 2 ^ k ≡ y * 2 ^ k → x ≡ y
mul_inj k x y e = sym (shl-shr x k) ∙ ap (λ (n : ℕ). n / 2 ^ k) e ∙ shl-shr y k

masked : (j k a : ℕ) → a < 2 ^ (j + k) → bit_and a (2 ^ (j + k) - 2 ^ k) ≡ a / 2 ^ k * 2 ^ k
masked j k a h = and_high a j k ∙ ap (λ (n : ℕ). n * 2 ^ k) (shr_mod j k h)

pub mask_test : (j k a p : ℕ) → a < 2 ^ (j + k) → p < 2 ^ (j + k)
    → eqb (bit_and a (2 ^ (j + k) - 2 ^ k)) (bit_and p (2 ^ (j + k) - 2 ^ k)) ≡ eqb (a / 2 ^ k) (p / 2 ^ k)
mask_test j k a p ha hp =
    rw (masked j k a ha, masked j k p hp)
    (same_test _ _ _ _ (mul_inj k (a / 2 ^ k) (p / 2 ^ k)) (λ e. ap (λ (n : ℕ). n * 2 ^ k) e))

-- the mask itself: all ones, shifted left by the bits to drop
mask_mul : (x y : ℕ) → y ≤ x → x * suc y ≡ y * suc x + (x - y)
mask_mul x y h = omega arith

mask_is : (w k : ℕ) → k ≤ w → ((2 ^ w - 1) * 2 ^ k) % 2 ^ w ≡ 2 ^ w - 2 ^ k
mask_is w k h =
    let m : 2 ^ k ≤ 2 ^ w = pow_mono h in
    let e : (2 ^ w - 1) * 2 ^ k ≡ (2 ^ k - 1) * 2 ^ w + (2 ^ w - 2 ^ k) =
    ap (λ (n : ℕ). (2 ^ w - 1) * n) (sym (suc_ones k)) ∙ mask_mul (2 ^ w - 1) (2 ^ k - 1) (omega arith)
    ∙ ap (λ (n : ℕ). (2 ^ k - 1) * n + ((2 ^ w - 1) - (2 ^ k - 1))) (suc_ones w)
    ∙ ap (λ (n : ℕ). (2 ^ k - 1) * 2 ^ w + n) (omega (arith, pow_pos k)) in
    ap (λ (n : ℕ). n % 2 ^ w) e ∙ digits_mod (2 ^ k - 1) (omega (arith, pow_pos k))

-- the test under a mask of the leading len bits of w
pub lead_mask : (w len a p : ℕ) → len ≤ w → a < 2 ^ w → p < 2 ^ w
    → eqb (bit_and a (((2 ^ w - 1) * 2 ^ (w - len)) % 2 ^ w)) (bit_and p (((2 ^ w - 1) * 2 ^ (w - len)) % 2 ^ w)) ≡ same_leading_bits w len a p
unfolding same_leading_bits
lead_mask w len a p h ha hp =
    let e : len + (w - len) ≡ w = omega arith in
    rw (mask_is w (w - len) (omega arith))
    (subst (λ (n : ℕ). a < 2 ^ n → p < 2 ^ n → eqb (bit_and a (2 ^ n - 2 ^ (w - len))) (bit_and p (2 ^ n - 2 ^ (w - len))) ≡ eqb (a / 2 ^ (w - len)) (p / 2 ^ (w - len))) e
    (mask_test len (w - len) a p) ha hp)

-- a number of two halves of w bits: its leading bits are those of the upper half, up to w of them
upper : (w h l k : ℕ) → l < 2 ^ w → (h * 2 ^ w + l) / 2 ^ (w + k) ≡ h / 2 ^ k
upper w h l k p = sym (shr-shr (h * 2 ^ w + l) w k) ∙ ap (λ (n : ℕ). n / 2 ^ k) (high h w p)

-- with fewer bits dropped than the lower half has
lower : (j k h l : ℕ) → (h * 2 ^ (j + k) + l) / 2 ^ k ≡ h * 2 ^ j + l / 2 ^ k
lower j k h l =
    rw (pow-add 2 j k, ← mul_assoc h (2 ^ j) (2 ^ k)) (mul-add-div_right (pow_pos k) (h * 2 ^ j) l)

pub lead_upper : (w len ah al ph pl : ℕ) → al < 2 ^ w → pl < 2 ^ w → len ≤ w
    → same_leading_bits (w + w) len (ah * 2 ^ w + al) (ph * 2 ^ w + pl) ≡ same_leading_bits w len ah ph
unfolding same_leading_bits
lead_upper w len ah al ph pl ha hp h =
    let k : (w + w) - len ≡ w + (w - len) = omega arith in
    rw k (rw (upper w ah al (w - len) ha, upper w ph pl (w - len) hp))

pub lead_lower : (w len ah al ph pl : ℕ) → w < len → ah ≡ ph
    → same_leading_bits (w + w) len (ah * 2 ^ w + al) (ph * 2 ^ w + pl) ≡ same_leading_bits w (len - w) al pl
unfolding same_leading_bits
lead_lower w len ah al ph pl h e =
    let k : (w + w) - len ≡ w - (len - w) = omega arith in
    let j : w ≡ (w - (w - (len - w))) + (w - (len - w)) = omega arith in
    let q : (x y : ℕ) → (x * 2 ^ w + y) / 2 ^ (w - (len - w)) ≡ x * 2 ^ (w - (w - (len - w))) + y / 2 ^ (w - (len - w)) =
    λ x y. subst (λ (n : ℕ). (x * 2 ^ n + y) / 2 ^ (w - (len - w)) ≡ x * 2 ^ (w - (w - (len - w))) + y / 2 ^ (w - (len - w))) (sym j)
    (lower (w - (w - (len - w))) (w - (len - w)) x y) in
    rw k (rw (q ah al, q ph pl, e) (add_test (ph * 2 ^ (w - (w - (len - w)))) _ _))

pub lead_apart : (w len ah al ph pl : ℕ) → al < 2 ^ w → pl < 2 ^ w → w < len → (ah ≡ ph → ⊥)
    → same_leading_bits (w + w) len (ah * 2 ^ w + al) (ph * 2 ^ w + pl) ≡ false
unfolding same_leading_bits
lead_apart w len ah al ph pl ha hp h ne =
    let k : ((w + w) - len) + (w - ((w + w) - len)) ≡ w = omega arith in
    let q : (x y : ℕ) → y < 2 ^ w → (x * 2 ^ w + y) / 2 ^ ((w + w) - len) / 2 ^ (w - ((w + w) - len)) ≡ x =
    λ x y b. shr-shr (x * 2 ^ w + y) ((w + w) - len) (w - ((w + w) - len)) ∙ rw k (high x w b) in
    ne_eqb _ _ (λ e. ne (sym (q ah al ha) ∙ ap (λ (n : ℕ). n / 2 ^ (w - ((w + w) - len))) e ∙ q ph pl hp))
