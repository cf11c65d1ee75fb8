-- The table of ranges, and the verdict it gives (RULES.md, section 6).
use Rattle.std.specs.Prelude.{ℕ, ◌+◌, ◌*◌, ◌^◌, Bool, true, false, List, [], ◌∷◌, leb}
use Rattle.prelude.specs.Choice.{pick, both}
use Rattle.address.specs.LeadingBits.{same_leading_bits}
use Rattle.address.specs.declared.Ip.{Ip}
use Rattle.address.specs.declared.Ip.TheVariants.{V4, V6}
use Rattle.address.specs.declared.Prefix.{Prefix}
use Rattle.address.specs.declared.Prefix.TheVariants.{Net4, Net6}
use Rattle.address.specs.declared.Verdict.{Verdict}
use Rattle.address.specs.declared.Verdict.TheVariants.{Always, PrivateOnly, Never}
use Rattle.address.specs.declared.Range.{Range}

-- in a range are the addresses that begin with the prefix's bits
abbrev pub lies_in : Ip → Prefix → Bool
lies_in (V4 a) (Net4 p len) = same_leading_bits 32 len a p
lies_in (V4 a) (Net6 ph pl len) = false
lies_in (V6 ah al) (Net4 p len) = false
lies_in (V6 ah al) (Net6 ph pl len) = same_leading_bits 128 len (ah * 2 ^ 64 + al) (ph * 2 ^ 64 + pl)

abbrev pub length_of : Prefix → ℕ
length_of (Net4 p len) = len
length_of (Net6 ph pl len) = len

-- where no row holds the address
abbrev pub no_row : Range
no_row = (Net4 0 0, Never)

-- of the rows in which the address lies, the longest
unfoldable pub longest_row : Ip → List Range → Range
longest_row ip [] = no_row
longest_row ip (r ∷ rs) = pick (both (lies_in ip r.0) (leb (length_of (longest_row ip rs).0) (length_of r.0))) r (longest_row ip rs)

-- the first row in which the address lies
unfoldable pub first_row : Ip → List Range → Range
first_row ip [] = no_row
first_row ip (r ∷ rs) = pick (lies_in ip r.0) r (first_row ip rs)

unfoldable pub table : List Range
table =
    (Net4 0xc000_0009 32, Always)
    ∷ (Net4 0xc000_000a 32, Always)
    ∷ (Net4 0x0000_0000 32, Never)
    ∷ (Net4 0xffff_ffff 32, Never)
    ∷ (Net4 0xc000_0000 24, PrivateOnly)
    ∷ (Net4 0xc000_0200 24, PrivateOnly)
    ∷ (Net4 0xc633_6400 24, PrivateOnly)
    ∷ (Net4 0xcb00_7100 24, PrivateOnly)
    ∷ (Net4 0xc0a8_0000 16, PrivateOnly)
    ∷ (Net4 0xa9fe_0000 16, PrivateOnly)
    ∷ (Net4 0xc612_0000 15, PrivateOnly)
    ∷ (Net4 0xac10_0000 12, PrivateOnly)
    ∷ (Net4 0x6440_0000 10, PrivateOnly)
    ∷ (Net4 0x0000_0000 8, PrivateOnly)
    ∷ (Net4 0x0a00_0000 8, PrivateOnly)
    ∷ (Net4 0x7f00_0000 8, PrivateOnly)
    ∷ (Net4 0xe000_0000 4, Never)
    ∷ (Net4 0xf000_0000 4, PrivateOnly)
    ∷ (Net4 0x0000_0000 0, Always)
    ∷ (Net6 0x2001_0001_0000_0000 1 128, Always)
    ∷ (Net6 0x2001_0001_0000_0000 2 128, Always)
    ∷ (Net6 0x0000_0000_0000_0000 0 128, Never)
    ∷ (Net6 0x2001_0004_0112_0000 0 48, Always)
    ∷ (Net6 0x2001_0003_0000_0000 0 32, Always)
    ∷ (Net6 0x2001_0db8_0000_0000 0 32, PrivateOnly)
    ∷ (Net6 0x2001_0020_0000_0000 0 28, Always)
    ∷ (Net6 0x2001_0030_0000_0000 0 28, Always)
    ∷ (Net6 0x2001_0000_0000_0000 0 23, PrivateOnly)
    ∷ (Net6 0x3fff_0000_0000_0000 0 20, PrivateOnly)
    ∷ (Net6 0x2002_0000_0000_0000 0 16, PrivateOnly)
    ∷ (Net6 0xff00_0000_0000_0000 0 8, Never)
    ∷ (Net6 0x2000_0000_0000_0000 0 3, Always)
    ∷ (Net6 0x0000_0000_0000_0000 0 0, PrivateOnly)
    ∷ []

unfoldable pub verdict_of : Ip → Verdict
verdict_of ip = (longest_row ip table).1

abbrev pub permits : Bool → Verdict → Bool
permits private Always = true
permits private PrivateOnly = private
permits private Never = false
