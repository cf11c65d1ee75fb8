-- Whether a line was read, by why its reading ended. Assumes nothing.
use mathlib.Core.Path.{◌≡◌, refl, sym}
use mathlib.Core.Bool.{true, false}
use Prim.Native.Nat.{ℕ}
use lib.Dec.{ltb}
use Rattle.std.specs.Prelude.{Option, Some, None}
use Rattle.line_program.specs.declared.End.{End}
use Rattle.line_program.specs.declared.End.TheVariants.{LineFeed, Input, Failure}
use Rattle.line_program.specs.Reads.{has_feed, has_failed}
use Rattle.line_program.specs.Waits.{is_line}
use Rattle.line_program.proofs.GoingOn.{apart}

-- a line feed ends a line
pub with_feed : (end : Option End) (used : ℕ) → has_feed end ≡ true → is_line end used ≡ true
with_feed None used e = apart (sym e)
with_feed (Some LineFeed) used e = refl
with_feed (Some Input) used e = apart (sym e)
with_feed (Some Failure) used e = apart (sym e)

-- without one there is a line where there are bytes
pub without_feed : (end : Option End) (used : ℕ) → has_failed end ≡ false → has_feed end ≡ false → is_line end used ≡ ltb 0 used
without_feed None used f e = refl
without_feed (Some LineFeed) used f e = apart e
without_feed (Some Input) used f e = refl
without_feed (Some Failure) used f e = apart f

-- and none where reading failed
pub with_failure : (end : Option End) (used : ℕ) → has_failed end ≡ true → is_line end used ≡ false
with_failure None used f = apart (sym f)
with_failure (Some LineFeed) used f = apart (sym f)
with_failure (Some Input) used f = apart (sym f)
with_failure (Some Failure) used f = refl

-- how many bytes there are makes no difference
pub as_many : (end : Option End) (used used' : ℕ) → ltb 0 used ≡ ltb 0 used' → is_line end used ≡ is_line end used'
as_many None used used' e = e
as_many (Some LineFeed) used used' e = refl
as_many (Some Input) used used' e = e
as_many (Some Failure) used used' e = refl
