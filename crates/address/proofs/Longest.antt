-- In the table's order the first row in which an address lies is the longest in which it lies.
-- Assumes nothing.
use mathlib.Core.Path.{◌≡◌, refl, sym, ap, subst, ◌∙◌}
use mathlib.Core.Bool.{Bool, true, false}
use mathlib.Core.List.{List, [], ◌∷◌}
use Prim.Native.Nat.{◌≤◌}
use native.Mathlib.Omega.{arith}
use lib.Dec.{T, leb, leb→le}
use borrow.Author.Tests.{le-leb}
use Rattle.prelude.specs.Choice.{pick, both}
use Rattle.address.specs.Ranges.{lies_in, longest_row, first_row, length_of, table, verdict_of}
use Rattle.address.specs.declared.Ip.{Ip}
use Rattle.address.specs.declared.Ip.TheVariants.{V4, V6}
use Rattle.address.specs.declared.Prefix.{Prefix}
use Rattle.address.specs.declared.Prefix.TheVariants.{Net4, Net6}
use Rattle.address.specs.declared.Verdict.{Verdict}
use Rattle.address.specs.declared.Range.{Range}

-- the second prefix is of the other family, or no longer
abbrev fits : Prefix → Prefix → Bool
fits (Net4 p m) (Net4 q n) = leb n m
fits (Net4 p m) (Net6 h l n) = true
fits (Net6 h l m) (Net4 q n) = true
fits (Net6 h l m) (Net6 g k n) = leb n m

no_longer : (ip : Ip) (p q : Prefix) → lies_in ip p ≡ true → lies_in ip q ≡ true → T (fits p q) → length_of q ≤ length_of p
no_longer ip (Net4 p m) (Net4 q n) a b t = leb→le n m t
no_longer (V4 i) (Net4 p m) (Net6 h l n) a b t = absurd (subst T (sym b) tt)
no_longer (V6 i j) (Net4 p m) (Net6 h l n) a b t = absurd (subst T (sym a) tt)
no_longer (V4 i) (Net6 h l m) (Net4 q n) a b t = absurd (subst T (sym a) tt)
no_longer (V6 i j) (Net6 h l m) (Net4 q n) a b t = absurd (subst T (sym b) tt)
no_longer ip (Net6 h l m) (Net6 g k n) a b t = leb→le n m t

abbrev all_fit : Prefix → List Range → Bool
all_fit p [] = true
all_fit p (s ∷ rs) = both (fits p s.0) (all_fit p rs)

abbrev ordered : List Range → Bool
ordered [] = true
ordered (r ∷ rs) = both (all_fit r.0 rs) (ordered rs)

here : (b c : Bool) → T (both b c) → T b
here true c t = tt
here false c t = t

rest : (b c : Bool) → T (both b c) → T c
rest true c t = t
rest false c t = absurd t

-- where a row holds the address, the longest of the rows that fit behind it is no longer
behind : (ip : Ip) (p : Prefix) (rs : List Range) → lies_in ip p ≡ true → T (all_fit p rs) → length_of (longest_row ip rs).0 ≤ length_of p
unfolding longest_row
behind ip p [] e t = omega arith
behind ip p (s ∷ rs) e t =
    go (lies_in ip s.0) (leb (length_of (longest_row ip rs).0) (length_of s.0)) refl (behind ip p rs e (rest (fits p s.0) (all_fit p rs) t))
  where
    go : (b c : Bool) → lies_in ip s.0 ≡ b → length_of (longest_row ip rs).0 ≤ length_of p → length_of (pick (both b c) s (longest_row ip rs)).0 ≤ length_of p
    go true true q i = no_longer ip p s.0 e q (here (fits p s.0) (all_fit p rs) t)
    go true false q i = i
    go false c q i = i

ordered_first : (ip : Ip) (rs : List Range) → T (ordered rs) → first_row ip rs ≡ longest_row ip rs
unfolding first_row longest_row
ordered_first ip [] t = refl
ordered_first ip (r ∷ rs) t = go (lies_in ip r.0) refl (ordered_first ip rs (rest (all_fit r.0 rs) (ordered rs) t))
  where
    go : (b : Bool) → lies_in ip r.0 ≡ b → first_row ip rs ≡ longest_row ip rs → pick b r (first_row ip rs) ≡ pick (both b (leb (length_of (longest_row ip rs).0) (length_of r.0))) r (longest_row ip rs)
    go true q i = rw (le-leb (length_of (longest_row ip rs).0) (length_of r.0) (behind ip r.0 rs q (here (all_fit r.0 rs) (ordered rs) t)))
    go false q i = i

-- the table's rows are in order, which antt computes
pub first_is_longest : (ip : Ip) → first_row ip table ≡ longest_row ip table
unfolding table
first_is_longest ip = ordered_first ip table tt

pub first_verdict : (ip : Ip) {v : Verdict} → v ≡ (first_row ip table).1 → v ≡ verdict_of ip
unfolding verdict_of
first_verdict ip e = e ∙ ap (λ (r : Range). r.1) (first_is_longest ip)
