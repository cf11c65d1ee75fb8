-- Lines out of blocks of input (RULES.md, section 12.1). A line ends in a line feed, the byte 10.
use Rattle.std.specs.Prelude.{ℕ, ◌+◌, List, length, take, drop, ltb}
use Rattle.prelude.specs.Choice.{pick}
use Rattle.text.specs.Words.{length_before}
use Rattle.text.specs.Printed.{behind}
use Rattle.lines.specs.declared.Gathered.{Gathered}

-- the bytes of the longest line, with its line feed
abbrev pub longest : ℕ
longest = 32768

-- the bytes of a block from a place up to a line feed, or all that are left
abbrev pub text_from : List ℕ → ℕ → List ℕ
text_from block from = take (length_before 10 (drop from block)) (drop from block)

-- where they end
abbrev pub end_from : List ℕ → ℕ → ℕ
end_from block from = from + length_before 10 (drop from block)

-- They stand behind the bytes that the line has; a line feed ends it, and the block goes on behind that.
abbrev pub gathered : List ℕ → ℕ → List ℕ → ℕ → Gathered
gathered block from line used = record {
  used = behind line used (text_from block from);
  next = pick (ltb (end_from block from) (length block)) (end_from block from + 1) (end_from block from);
  ended = ltb (end_from block from) (length block);
}
