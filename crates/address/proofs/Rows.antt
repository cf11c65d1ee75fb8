-- The search from a row on.
-- Assumes nothing.
use mathlib.Core.Path.{◌≡◌, ◌∙◌}
use mathlib.Core.Bool.{Bool, true, false}
use mathlib.Core.List.{List}
use Prim.Native.Nat.{ℕ, ◌+◌, ◌<◌, ◌≤◌}
use native.Mathlib.Numerals.{add-one}
use lib.ListN.{length, get_or, drop, drop_of_length-le}
use lib.Seq.{drop-cons}
use Rattle.prelude.specs.Choice.{pick}
use Rattle.address.specs.Ranges.{lies_in, first_row, no_row}
use Rattle.address.specs.declared.Ip.{Ip}
use Rattle.address.specs.declared.Range.{Range}

-- at row i of a table t, where b is the test's answer, and d stands for a row past its end
module _ (ip : Ip) (d : Range) (t : List Range) (i : ℕ) (h : i < length t) (b : Bool) (q : b ≡ lies_in ip (get_or t i d).0) where
  step : first_row ip (drop i t) ≡ pick b (get_or t i d) (first_row ip (drop (i + 1) t))
  unfolding first_row
  step = rw (q, add-one, drop-cons t i d)

  pub found : b ≡ true → first_row ip (drop i t) ≡ get_or t i d
  found e = step ∙ rw e

  pub passed_over : b ≡ false → first_row ip (drop i t) ≡ first_row ip (drop (i + 1) t)
  passed_over e = step ∙ rw e

pub search_end : (ip : Ip) (t : List Range) (i : ℕ) → length t ≤ i → first_row ip (drop i t) ≡ no_row
unfolding first_row
search_end ip t i h = rw (drop_of_length-le t h)
