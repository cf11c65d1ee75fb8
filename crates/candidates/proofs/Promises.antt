-- The laws that the crate promises of the two choices.
-- Assumes nothing.
use mathlib.Core.Path.{◌≡◌, refl, sym, ap, ◌∙◌}
use mathlib.Core.Bool.{Bool, true, false}
use mathlib.Core.List.{List, [], ◌∷◌, ◌++◌, append_assoc, foldl, foldl-append}
use mathlib.Core.Logic.{◌⊎◌, inl, inr}
use Prim.Native.Nat.{ℕ, ◌+◌, ◌-◌, ◌*◌, ◌<◌, ◌≤◌}
use native.Mathlib.Omega.{arith}
use borrow.Author.Tests.{leb-false, ltb-true, ltb-false, le-leb, le-ltb}
use lib.Dec.{ltb, leb}
use lib.ListN.{length, take, replicate, length-append}
use lib.Seq.{take-append_seam}
use Rattle.std.specs.Prelude.{None, Some, Option}
use Rattle.prelude.specs.Lists.{count, such}
use Rattle.prelude.specs.Choice.{both, no, bit}
use Rattle.address.specs.Multiaddr.{parsed, has_form, number, longest4, longest6}
use Rattle.address.specs.declared.Ip.{Ip}
use Rattle.address.specs.declared.Ip.TheVariants.{V4, V6}
use Rattle.address.proofs.Digits.{address_short}
use Rattle.wire.specs.Lists.{entries, broken, entry, listed}
use Rattle.wire.proofs.Listed.{All, read_back}
use Rattle.candidates.specs.Entries.{contains, same_bytes, same_family, of_address, is_address, in_family, has_ip, longer_than}
use Rattle.candidates.specs.Selection.{counted, room_for, room, keep, bounded, punchable, selected, unless_there, once, own, packed, entry_size, longest_of, capacity, longest}
use Rattle.candidates.specs.Laws.{AllPass, Sublist, KeepsLimits, LimitMet, DropsOnlyAtLimits, Short, IsListOf, UsualNumbers}
use Rattle.candidates.specs.declared.Limits.{Limits}
use Rattle.candidates.specs.declared.Terms.{Terms}
use Rattle.candidates.proofs.Listing.{all_map, listed_whole}
use Rattle.candidates.proofs.Bounds.{room_says, of_parsed_lem, total_kept, family_kept, ip_kept}
use Rattle.candidates.proofs.Kept.{all_pass, all_only, all_bounded, sub_trans, sub_all, sub_only, sub_bounded, sub_once, sub_count, once_each, once_more, kept_more, sub_lacks, only_append, only_here}

-- ---- the limits
module _ (l : Limits) where
  high_port : (got : List (List ℕ)) (a : List ℕ) → room l got a ≡ true → of_address (λ i p. leb l.port p) a ≡ true
  high_port got a r = let w = room_says l got a r in of_parsed_lem (λ i p. leb l.port p) a w.is ∙ le-leb l.port w.port w.high

  limits : (xs ys : List (List ℕ)) → Sublist ys xs → KeepsLimits l xs (bounded l ys)
  limits xs ys s = record {
    total = total_kept l ys;
    family = λ (ip : Ip). family_kept l ip ys;
    ip = λ (i : Ip). ip_kept l i ys;
    port = all_pass (of_address (λ i p. leb l.port p)) (bounded l ys) (all_bounded l (λ a. of_address (λ i p. leb l.port p) a ≡ true) high_port ys);
    order = sub_trans (sub_bounded l ys) s;
  }

pub selection_limits : (t : Terms) (xs : List (List ℕ)) → KeepsLimits t.limits xs (selected t xs) × AllPass (punchable t.private) (selected t xs)
unfolding selected
selection_limits t xs =
    let p = punchable t.private in (
      limits t.limits xs (such p xs) (sub_only p xs),
      all_pass p _ (sub_all (λ a. punchable t.private a ≡ true) (sub_bounded t.limits (such p xs)) (all_only p xs)),
    )

pub own_limits : (l : Limits) (xs : List (List ℕ)) → KeepsLimits l xs (own l xs) × ((a : List ℕ) → count (same_bytes a) (own l xs) ≤ 1)
unfolding own
own_limits l xs =
    let ys = such is_address xs in (
      limits l xs (once ys) (sub_trans (sub_once ys) (sub_only is_address xs)),
      (λ (a : List ℕ). let b = sub_count (same_bytes a) (sub_bounded l (once ys)) in omega (arith, b, once_each a ys)),
    )

-- ---- completeness
met : (l : Limits) (got : List (List ℕ)) (ip : Ip) (port : ℕ) → room_for l (counted ip got) port ≡ false → LimitMet l got ip port
met l got ip port e = by_tests (leb l.port port) (ltb (length got) l.total) (ltb (count (in_family ip) got) l.family) (ltb (count (has_ip ip) got) l.ip) refl refl refl refl e
  where
    by_tests : (p t f i : Bool) → leb l.port port ≡ p → ltb (length got) l.total ≡ t → ltb (count (in_family ip) got) l.family ≡ f → ltb (count (has_ip ip) got) l.ip ≡ i
        → both p (both t (both f i)) ≡ false → LimitMet l got ip port
    by_tests false t f i a b c d e = inl (leb-false l.port port a)
    by_tests true false f i a b c d e = inr (inl (ltb-false (length got) l.total b))
    by_tests true true false i a b c d e = inr (inr (inl (ltb-false (count (in_family ip) got) l.family c)))
    by_tests true true true false a b c d e = inr (inr (inr (ltb-false (count (has_ip ip) got) l.ip d)))
    by_tests true true true true a b c d e = let z : ◌≡◌ {A = ℕ} 0 1 = cc in absurd (omega arith)

-- the next address of a list that is bounded
next : (l : Limits) (ys zs : List (List ℕ)) (a : List ℕ) (ip : Ip) (port : ℕ) → parsed a ≡ Some (ip, port)
    → ((rest : List (List ℕ)) × (bounded l (ys ++ (a ∷ zs)) ≡ bounded l ys ++ (a ∷ rest))) ⊎ LimitMet l (bounded l ys) ip port
unfolding bounded room
next l ys zs a ip port e = by_test (room_for l (counted ip got) port) refl
  where
    got : List (List ℕ)
    got = foldl (keep l) [] ys

    by_test : (t : Bool) → room_for l (counted ip got) port ≡ t
        → ((rest : List (List ℕ)) × (foldl (keep l) [] (ys ++ (a ∷ zs)) ≡ got ++ (a ∷ rest))) ⊎ LimitMet l got ip port
    by_test true t =
        let r : room l got a ≡ true = of_parsed_lem (λ ip port. room_for l (counted ip got) port) a e ∙ t in
        let k : keep l got a ≡ got ++ (a ∷ []) = rw r in
        let m = kept_more l (got ++ (a ∷ [])) zs in
        inl (m.new, foldl-append (keep l) [] ys (a ∷ zs) ∙ ap (λ (g : List (List ℕ)). foldl (keep l) g zs) k ∙ m.is ∙ append_assoc got (a ∷ []) m.new)
    by_test false t = inr (met l got ip port t)

pub selection_complete : (t : Terms) → DropsOnlyAtLimits t.limits (selected t) (λ before a. punchable t.private a)
unfolding selected
selection_complete t before after a ip port e w =
    let p = punchable t.private in
    let q : such p (before ++ (a ∷ after)) ≡ such p before ++ (a ∷ such p after) = only_append p before (a ∷ after) ∙ ap (λ (k : List (List ℕ)). such p before ++ k) (only_here p a after w) in
    rw q (next t.limits (such p before) (such p after) a ip port e)

pub own_complete : (l : Limits) → DropsOnlyAtLimits l (own l) (λ before a. no (contains a before))
unfolding own once
own_complete l before after a ip port e w =
    let ys = such is_address before in
    let zs = such is_address after in
    let i : is_address a ≡ true = of_parsed_lem (λ ip port. true) a e in
    let q : such is_address (before ++ (a ∷ after)) ≡ ys ++ (a ∷ zs) = only_append is_address before (a ∷ after) ∙ ap (λ (k : List (List ℕ)). ys ++ k) (only_here is_address a after i) in
    let g = foldl unless_there [] ys in
    let n : contains a g ≡ false = sub_lacks a (sub_first ys) (sub_lacks a (sub_only is_address before) (negated (contains a before) w)) in
    let k : unless_there g a ≡ g ++ (a ∷ []) = rw n in
    let m = once_more (g ++ (a ∷ [])) zs in
    let o : foldl unless_there [] (ys ++ (a ∷ zs)) ≡ g ++ (a ∷ m.0) =
    foldl-append unless_there [] ys (a ∷ zs) ∙ ap (λ (x : List (List ℕ)). foldl unless_there x zs) k ∙ m.1.0 ∙ append_assoc g (a ∷ []) m.0 in
    rw (q, o) (next l g m.0 a ip port e)
  where
    negated : (b : Bool) → no b ≡ true → b ≡ false
    negated true h = sym h
    negated false h = refl

    sub_first : (ys : List (List ℕ)) → Sublist (foldl unless_there [] ys) ys
    sub_first ys = sub_once ys

-- ---- sizes
-- an address is no longer than its family's longest
pub record Sized (a : List ℕ) : Type 0 where
  pub is : of_address (λ ip port. leb (length a) (longest_of ip)) a ≡ true
  pub long : longer_than longest4 a ≡ true → in_family (V6 0 0) a ≡ true
  pub adds : entry_size (length a) ≤ entry_size longest4 * bit (in_family (V4 0) a) + entry_size longest6 * bit (in_family (V6 0 0) a)
  pub small : length a ≤ longest

sized4 : (a : List ℕ) (n port : ℕ) → parsed a ≡ Some (V4 n, port) → length a ≤ longest4 → Sized a
sized4 a n port e l =
    record {
      is = of_parsed_lem (λ ip p. leb (length a) (longest_of ip)) a e ∙ le-leb (length a) longest4 l;
      long = λ (h : longer_than longest4 a ≡ true). absurd (let z = ltb-true longest4 (length a) h in omega arith);
      adds = omega (arith, ap bit (of_parsed_lem (λ o p. same_family (V4 0) o) a e));
      small = omega arith;
    }

sized6 : (a : List ℕ) (h l port : ℕ) → parsed a ≡ Some (V6 h l, port) → length a ≤ longest6 → Sized a
sized6 a h l port e g =
    record {
      is = of_parsed_lem (λ ip p. leb (length a) (longest_of ip)) a e ∙ le-leb (length a) longest6 g;
      long = λ (h : longer_than longest4 a ≡ true). of_parsed_lem (λ o p. same_family (V6 0 0) o) a e;
      adds = omega (arith, ap bit (of_parsed_lem (λ o p. same_family (V6 0 0) o) a e));
      small = omega arith;
    }

sized : (a : List ℕ) (ip : Ip) (port : ℕ) → parsed a ≡ Some (ip, port) → Sized a
unfolding parsed
sized a ip port e = by_test (has_form 0x04 4 a) (has_form 0x29 16 a) refl refl
  where
    by_test : (p q : Bool) → has_form 0x04 4 a ≡ p → has_form 0x29 16 a ≡ q → Sized a
    by_test true q f g = sized4 a (number 1 5 a) (number 7 9 a) (rw f) (address_short 0x04 4 a f)
    by_test false true f g = sized6 a (number 1 9 a) (number 9 17 a) (number 19 21 a) (rw (f, g)) (address_short 0x29 16 a g)
    by_test false false f g = let z : ◌≡◌ {A = Option (Ip × ℕ)} None (Some (ip, port)) = sym (rw (f, g)) ∙ e in let o : ◌≡◌ {A = ℕ} 0 1 = cc in absurd (omega arith)

all_sized : (l : Limits) (xs : List (List ℕ)) → All Sized (bounded l xs)
all_sized l xs = all_bounded l Sized (λ (got : List (List ℕ)) (a : List ℕ) (r : room l got a ≡ true). let w = room_says l got a r in sized a w.ip w.port w.is) xs

fewer : (p q : List ℕ → Bool) (xs : List (List ℕ)) → All (λ a. p a ≡ true → q a ≡ true) xs → count p xs ≤ count q xs
unfolding count
fewer p q [] h = omega arith
fewer p q (a ∷ xs) h = by_test (p a) refl (fewer p q xs h.1)
  where
    by_test : (t : Bool) → p a ≡ t → count p xs ≤ count q xs → bit t + count p xs ≤ bit (q a) + count q xs
    by_test true e r = omega (arith, ap bit (h.0 e))
    by_test false e r = omega arith

total_length : (xs : List (List ℕ)) → All Sized xs → length (listed xs) ≤ entry_size longest4 * count (in_family (V4 0)) xs + entry_size longest6 * count (in_family (V6 0 0)) xs
unfolding listed count
total_length [] h = omega arith
total_length (a ∷ xs) h = omega (arith, length-append (entry a) (listed xs), h.0.adds, total_length xs h.1)

none_longer : (xs : List (List ℕ)) → All Sized xs → count (longer_than longest6) xs ≡ 0
unfolding count
none_longer [] h = refl
none_longer (a ∷ xs) h = omega (arith, ap bit (le-ltb longest6 (length a) h.0.small), none_longer xs h.1)

short : (l : Limits) (xs : List (List ℕ)) → Short l (bounded l xs)
short l xs =
    let s = all_sized l xs in
    let k = bounded l xs in
    let v : count (longer_than longest4) k ≤ count (in_family (V6 0 0)) k = fewer (longer_than longest4) (in_family (V6 0 0)) k (all_map Sized (λ a. longer_than longest4 a ≡ true → in_family (V6 0 0) a ≡ true) (λ (a : List ℕ) (w : Sized a). w.long) k s) in
    let x : count (in_family (V4 0)) k ≤ l.family = family_kept l (V4 0) xs in
    let y : count (in_family (V6 0 0)) k ≤ l.family = family_kept l (V6 0 0) xs in
    record {
      each = all_pass (λ a. of_address (λ ip port. leb (length a) (longest_of ip)) a) k (all_map Sized (λ a. of_address (λ ip port. leb (length a) (longest_of ip)) a ≡ true) (λ (a : List ℕ) (w : Sized a). w.is) k s);
      v4 = omega (arith, v, y);
      v6 = none_longer k s;
      all = omega (arith, total_length k s, x, y);
    }

pub selection_short : (t : Terms) (xs : List (List ℕ)) → Short t.limits (selected t xs)
unfolding selected
selection_short t xs = short t.limits (such (punchable t.private) xs)

pub own_short : (l : Limits) (xs : List (List ℕ)) → Short l (own l xs)
unfolding own
own_short l xs = short l (once (such is_address xs))

-- ---- the answer as a list
list_of : (l : Limits) (xs : List (List ℕ)) → IsListOf (bounded l xs) (packed (listed (bounded l xs)))
list_of l xs =
    let k = bounded l xs in
    let s = listed k in
    let t : take (length s) (s ++ replicate (capacity - length s) 0) ≡ s = take-append_seam s (replicate (capacity - length s) 0) in
    let h = all_map Sized (λ a. length a < 65536) (λ (a : List ℕ) (w : Sized a). omega (arith, w.small)) k (all_sized l xs) in
    record { whole = ap broken t ∙ listed_whole k h; read = ap entries t ∙ read_back k h }

pub selection_list : (t : Terms) (xs : List (List ℕ)) → IsListOf (selected t xs) (packed (listed (selected t xs)))
unfolding selected
selection_list t xs = list_of t.limits (such (punchable t.private) xs)

pub own_list : (l : Limits) (xs : List (List ℕ)) → IsListOf (own l xs) (packed (listed (own l xs)))
unfolding own
own_list l xs = list_of l (once (such is_address xs))

-- ---- the usual limits
pub numbers : UsualNumbers
numbers = record { total = refl; family = refl; ip = refl; port = refl; v4 = refl; v6 = refl; bytes = refl }
