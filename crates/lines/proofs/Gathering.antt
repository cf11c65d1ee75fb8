-- A block's bytes up to a line feed, stored in the line's buffer. Assumes nothing.
use mathlib.Core.Path.{◌≡◌, ap, ◌∙◌}
use mathlib.Core.List.{List, []}
use mathlib.Core.Bool.{true, false}
use Prim.Native.Nat.{ℕ, ◌+◌, ◌-◌, ◌<◌, ◌≤◌}
use native.Mathlib.Omega.{arith}
use native.Mathlib.Nat.{add-zero}
use lib.ListN.{length, take, drop, length-drop, drop_of_length-le}
use borrow.Author.Tests.{lt-ltb, le-ltb}
use Rattle.text.specs.Words.{length_before}
use Rattle.text.specs.Printed.{printed, behind, Page, with_text}
use Rattle.text.proofs.Reading.{before_within}
use Rattle.text.proofs.Printing.{Laid, laid_none, rest_of, behind_within}
use Rattle.lines.specs.Lines.{text_from, end_from, gathered}
use Rattle.lines.specs.declared.Gathered.{Gathered}

pub come_to : (p : Page) (t : List ℕ) {q : Page} → q ≡ with_text p t → q.at ≡ behind p.bytes p.at t
unfolding with_text
come_to p t e = ap (λ (z : Page). z.at) e

module _ (b : List ℕ) (from : ℕ) {n : ℕ} (e : n ≡ length_before 10 (take (length b - from) (drop from b))) where
  run : n ≡ length_before 10 (drop from b)
  run = e ∙ ap (length_before 10) (rest_of b from)

  pub ends_within : from ≤ length b → from + n ≤ length b
  ends_within h = omega (arith, run, before_within 10 (drop from b), length-drop from b)

  module _ (line : List ℕ) (used : ℕ) {p : ℕ} (l : p ≡ behind line used (take (from + n - from) (drop from b))) where
    text : take (from + n - from) (drop from b) ≡ text_from b from
    text = let z : from + n - from ≡ n = omega arith in rw (z, run)

    place : p ≡ behind line used (text_from b from)
    place = l ∙ ap (behind line used) text

    pub ended : from + n < length b → ◌≡◌ {A = Gathered} (record { used = p; next = from + n + 1; ended = true }) (gathered b from line used)
    ended h = cc (place, ap (λ (k : ℕ). from + k) run, lt-ltb (end_from b from) (length b) (omega (arith, run)))

    pub goes_on : length b ≤ from + n → ◌≡◌ {A = Gathered} (record { used = p; next = from + n; ended = false }) (gathered b from line used)
    goes_on h = cc (place, ap (λ (k : ℕ). from + k) run, le-ltb (end_from b from) (length b) (omega (arith, run)))

pub nothing : (b : List ℕ) (from : ℕ) (line : List ℕ) (used : ℕ) → length b ≤ from
    → (◌≡◌ {A = Gathered} (record { used = used; next = from; ended = false }) (gathered b from line used)) × (line ≡ printed line used (text_from b from))
unfolding length_before
nothing b from line used h =
    let d : drop from b ≡ [] = drop_of_length-le b h in
    let k : from + 0 ≡ from = add-zero from in
    let l : Laid line used [] line used = laid_none line used in
    (rw (d, k, le-ltb from (length b) h, ← l.place), rw (d, ← l.bytes))

-- the line stays within its buffer
pub used_within : (b : List ℕ) (from : ℕ) (line : List ℕ) (used : ℕ) {r : Gathered} → r ≡ gathered b from line used → used ≤ length line → r.used ≤ length line
used_within b from line used {r} e h = omega (arith, ap (λ (f : Gathered). f.used) e, behind_within line used (text_from b from) h)
