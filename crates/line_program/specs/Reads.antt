-- Lines out of blocks of bytes (RULES.md, section 12.1). Of the bytes that a block had none is lost or taken twice. Which bytes a read
-- brings no definition can say: they have a name here, and their place.
use Rattle.std.specs.Prelude.{◌≡◌, Option, Some, None, Bool, true, false, List, [], ◌∷◌, ◌++◌, ℕ, ◌+◌, ◌*◌, ◌≤◌, min, ltb, length, take, drop}
use Rattle.text.specs.Words.{length_before}
use Rattle.text.specs.Printed.{printed, behind}
use Rattle.prelude.specs.Choice.{pick}
use Rattle.line_program.specs.declared.End.{End}
use Rattle.line_program.specs.declared.End.TheVariants.{LineFeed, Input, Failure}
use Rattle.line_program.specs.declared.Reading.{Reading}

-- the bytes of a block that are still to be read: from a place up to another
abbrev pub left : List ℕ → ℕ → ℕ → List ℕ
left block from until = drop from (take until block)

-- whether bytes have a whole line: a line feed, the byte 10, stands among them
unfoldable pub has_line : List ℕ → Bool
has_line bytes = ltb (length_before 10 bytes) (length bytes)

-- whether a line feed ended the line
abbrev pub has_feed : Option End → Bool
has_feed None = false
has_feed (Some LineFeed) = true
has_feed (Some Input) = false
has_feed (Some Failure) = false

-- whether the input may have more behind it
abbrev pub has_more : Option End → Bool
has_more None = true
has_more (Some LineFeed) = true
has_more (Some Input) = false
has_more (Some Failure) = false

-- whether reading failed in it
abbrev pub has_failed : Option End → Bool
has_failed None = false
has_failed (Some LineFeed) = false
has_failed (Some Input) = false
has_failed (Some Failure) = true

-- a block that was read, up to a place; the input ended where it has no byte
abbrev pub refilled : ℕ → ℕ → Bool → Reading
refilled used until failed =
    record { used = used; end = pick failed (Some Failure) (pick (ltb 0 until) None (Some Input)); from = 0; until = until }

-- the line feed that ends a line, the byte 10, where one does
abbrev pub feed : Bool → List ℕ
feed true = 10 ∷ []
feed false = []

-- Of a line some bytes stand in its buffer, and the block had these bytes left. With those that reads brought they are the line's next
-- bytes, none of them a line feed; then its line feed, where one ended it; then what the block has left now.
pub record Read (line : List ℕ) (used : ℕ) (had : List ℕ) (block after : List ℕ) (r : Reading) : Type 0 where
  pub brought : List ℕ
  pub text : List ℕ
  pub whole : had ++ brought ≡ text ++ (feed (has_feed r.end) ++ left block r.from r.until)
  pub plain : length_before 10 text ≡ length text
  pub bytes : after ≡ printed line used text
  pub place : r.used ≡ behind line used text
  -- where no more is to come no line feed ended the line, and nothing is left
  pub dry : has_more r.end ≡ false → (has_feed r.end ≡ false) × (left block r.from r.until ≡ [])
  pub failing : has_failed r.end ≡ true → has_more r.end ≡ false

-- Reading goes on in turns: a turn takes what the block has left of the line, or reads a block more. Until a line feed or the input's end
-- is met, of any two turns one takes a byte.
pub record Turned (turns : ℕ) (line : List ℕ) (used : ℕ) (had block after : List ℕ) (r : Reading) : Type 0 where
  pub read : Read line used had block after r
  pub taken : has_feed r.end ≡ false → has_more r.end ≡ true
      → turns + min 1 (length had) ≤ 2 * length read.text + min 1 (length (left block r.from r.until))

-- The next line: it goes up to its line feed or the input's end, unless it has 2^63 − 1 bytes or more; no run reads so many.
pub record NextLine (line had block after : List ℕ) (r : Reading) : Type 0 where
  pub read : Read line 0 had block after r
  pub long : has_feed r.end ≡ false → has_more r.end ≡ true → 9223372036854775807 ≤ length read.text
