-- What is read as an address has the parts of one. Assumes nothing.
use mathlib.Core.Path.{◌≡◌, refl, sym, ap, subst, ◌∙◌}
use mathlib.Core.Bool.{Bool, true, false}
use mathlib.Core.List.{List, [], ◌∷◌, ◌++◌}
use Prim.Native.Nat.{ℕ, ◌+◌, ◌<◌, ◌≤◌}
use native.Mathlib.Omega.{arith}
use native.Mathlib.Numerals.{add-one}
use borrow.Author.Tests.{eqb-true, leb-true}
use lib.Dec.{eqb, leb}
use lib.ListN.{length, get_or, take, drop, length-take, length-drop, take-append-drop}
use lib.Seq.{drop-cons, drop-drop, take-add}
use Rattle.std.specs.Prelude.{None, Some, Option}
use Rattle.prelude.specs.Choice.{pick, both}
use Rattle.address.specs.Multiaddr.{number, is_name, ends_well, has_form, parsed}
use Rattle.address.proofs.Digits.{both_first, both_second}
use Rattle.address.specs.declared.Ip.{Ip}
use Rattle.address.specs.declared.Ip.TheVariants.{V4, V6}
use Rattle.address_laws.specs.Bytes.{Ending, bare, named, joined, Stands, v4, v6}
use Rattle.std.proofs.lemmas.Option.{some_pair_parts}

-- ---- the ending

name_of : (x y n : ℕ) (name : List ℕ) → x ≡ 0xa5 → y ≡ 0x03 → n ≡ length name → 1 ≤ n → n ≤ 127 → Ending (x ∷ y ∷ n ∷ name)
name_of x y n name a b e l m = rw (a, b, e) (named name (omega arith) (omega arith))

ending_of : (s : List ℕ) → ends_well s ≡ true → Ending s
unfolding ends_well is_name
ending_of [] e = bare
ending_of (x ∷ []) e = absurd (let z = both_second (eqb x 0xa5) false e in let w : ◌≡◌ {A = ℕ} 0 1 = cc in omega arith)
ending_of (x ∷ y ∷ []) e = absurd (let z = both_second (eqb y 0x03) false (both_second (eqb x 0xa5) _ e) in let w : ◌≡◌ {A = ℕ} 0 1 = cc in omega arith)
ending_of (x ∷ y ∷ n ∷ name) e =
    let long = eqb (length (x ∷ y ∷ n ∷ name)) (3 + n) in
    let few = both (leb n 127) long in
    let some = both (leb 1 n) few in
    let s1 = both_second (eqb x 0xa5) (both (eqb y 0x03) some) e in
    let s2 = both_second (eqb y 0x03) some s1 in
    let s3 = both_second (leb 1 n) few s2 in
    let l : length (x ∷ y ∷ n ∷ name) ≡ 3 + n = eqb-true _ _ (both_second (leb n 127) long s3) in
    name_of x y n name (eqb-true x 0xa5 (both_first (eqb x 0xa5) (both (eqb y 0x03) some) e)) (eqb-true y 0x03 (both_first (eqb y 0x03) some s1)) (omega arith) (leb-true 1 n (both_first (leb 1 n) few s2)) (leb-true n 127 (both_first (leb n 127) long s3))

-- ---- the parts

record Parts (family n : ℕ) (a : List ℕ) : Type 0 where
  is : a ≡ joined family (take n (drop 1 a)) (take 2 (drop (n + 3) a)) (drop (n + 7) a)
  ip : length (take n (drop 1 a)) ≡ n
  port : length (take 2 (drop (n + 3) a)) ≡ 2
  end : Ending (drop (n + 7) a)

step : (a : List ℕ) (i j x : ℕ) → i < length a → j ≡ i + 1 → get_or a i 0 ≡ x → drop i a ≡ x ∷ drop j a
step a i j x h k e = rw (k, add-one, ← e) (drop-cons a i 0 h)

cut : (a : List ℕ) (i n j : ℕ) → j ≡ i + n → drop i a ≡ take n (drop i a) ++ drop j a
cut a i n j k = rw (k, ← drop-drop n i a) (sym (take-append-drop n (drop i a)))

module _ (family n : ℕ) (a : List ℕ) where
  abbrev rest_6 : Bool
  rest_6 = ends_well (drop (n + 7) a)

  abbrev rest_5 : Bool
  rest_5 = both (eqb (get_or a (n + 6) 0) 0x03) rest_6

  abbrev rest_4 : Bool
  rest_4 = both (eqb (get_or a (n + 5) 0) 0xcd) rest_5

  abbrev rest_3 : Bool
  rest_3 = both (eqb (get_or a (n + 2) 0) 0x02) rest_4

  abbrev rest_2 : Bool
  rest_2 = both (eqb (get_or a (n + 1) 0) 0x91) rest_3

  abbrev rest_1 : Bool
  rest_1 = both (eqb (get_or a 0 0) family) rest_2

  parts : has_form family n a ≡ true → Parts family n a
  unfolding has_form
  parts e =
      let e1 = both_second (leb (n + 7) (length a)) rest_1 e in
      let e2 = both_second (eqb (get_or a 0 0) family) rest_2 e1 in
      let e3 = both_second (eqb (get_or a (n + 1) 0) 0x91) rest_3 e2 in
      let e4 = both_second (eqb (get_or a (n + 2) 0) 0x02) rest_4 e3 in
      let e5 = both_second (eqb (get_or a (n + 5) 0) 0xcd) rest_5 e4 in
      let l : n + 7 ≤ length a = leb-true (n + 7) (length a) (both_first (leb (n + 7) (length a)) rest_1 e) in
      let end = drop (n + 7) a in
      let port = take 2 (drop (n + 3) a) in
      let ip = take n (drop 1 a) in
      let d6 : drop (n + 6) a ≡ 0x03 ∷ end = step a (n + 6) (n + 7) 0x03 (omega arith) (omega arith) (eqb-true _ _ (both_first (eqb (get_or a (n + 6) 0) 0x03) rest_6 e5)) in
      let d5 : drop (n + 5) a ≡ 0xcd ∷ 0x03 ∷ end =
      step a (n + 5) (n + 6) 0xcd (omega arith) (omega arith) (eqb-true _ _ (both_first (eqb (get_or a (n + 5) 0) 0xcd) rest_5 e4)) ∙ ap (λ (r : List ℕ). 0xcd ∷ r) d6 in
      let d3 : drop (n + 3) a ≡ port ++ (0xcd ∷ 0x03 ∷ end) = cut a (n + 3) 2 (n + 5) (omega arith) ∙ ap (λ (r : List ℕ). port ++ r) d5 in
      let d2 : drop (n + 2) a ≡ 0x02 ∷ (port ++ (0xcd ∷ 0x03 ∷ end)) =
      step a (n + 2) (n + 3) 0x02 (omega arith) (omega arith) (eqb-true _ _ (both_first (eqb (get_or a (n + 2) 0) 0x02) rest_4 e3)) ∙ ap (λ (r : List ℕ). 0x02 ∷ r) d3 in
      let d1 : drop (n + 1) a ≡ 0x91 ∷ 0x02 ∷ (port ++ (0xcd ∷ 0x03 ∷ end)) =
      step a (n + 1) (n + 2) 0x91 (omega arith) (omega arith) (eqb-true _ _ (both_first (eqb (get_or a (n + 1) 0) 0x91) rest_3 e2)) ∙ ap (λ (r : List ℕ). 0x91 ∷ r) d2 in
      let d0 : drop 1 a ≡ ip ++ (0x91 ∷ 0x02 ∷ (port ++ (0xcd ∷ 0x03 ∷ end))) = cut a 1 n (n + 1) (omega arith) ∙ ap (λ (r : List ℕ). ip ++ r) d1 in
      record {
        is = step a 0 1 family (omega arith) refl (eqb-true _ _ (both_first (eqb (get_or a 0 0) family) rest_2 e1)) ∙ ap (λ (r : List ℕ). family ∷ r) d0;
        ip = simp (length-take, length-drop) (omega arith);
        port = simp (length-take, length-drop) (omega arith);
        end = ending_of end (both_second (eqb (get_or a (n + 6) 0) 0x03) rest_6 e5);
      }

stands4 : (a : List ℕ) → Parts 0x04 4 a → Stands a (V4 (number 1 5 a)) (number 7 9 a)
stands4 a w = subst (λ (s : List ℕ). Stands s (V4 (number 1 5 a)) (number 7 9 a)) (sym w.is) (v4 (take 4 (drop 1 a)) (take 2 (drop 7 a)) (drop 11 a) w.ip w.port w.end)

stands6 : (a : List ℕ) → Parts 0x29 16 a → Stands a (V6 (number 1 9 a) (number 9 17 a)) (number 19 21 a)
stands6 a w =
    let h : take 16 (drop 1 a) ≡ take 8 (drop 1 a) ++ take 8 (drop 9 a) = take-add 8 8 (drop 1 a) ∙ ap (λ (r : List ℕ). take 8 (drop 1 a) ++ take 8 r) (drop-drop 8 1 a) in
    let l : 17 ≤ length a = omega (arith, w.ip, length-take 16 (drop 1 a), length-drop 1 a) in
    subst (λ (s : List ℕ). Stands s (V6 (number 1 9 a) (number 9 17 a)) (number 19 21 a))
    (sym (w.is ∙ ap (λ (ip : List ℕ). joined 0x29 ip (take 2 (drop 19 a)) (drop 23 a)) h))
    (v6 (take 8 (drop 1 a)) (take 8 (drop 9 a)) (take 2 (drop 19 a)) (drop 23 a) (simp (length-take, length-drop) (omega arith)) (simp (length-take, length-drop) (omega arith)) w.port w.end)

pub only_as : (a : List ℕ) (ip : Ip) (port : ℕ) → parsed a ≡ Some (ip, port) → Stands a ip port
unfolding parsed
only_as a ip port e = by_test (has_form 0x04 4 a) (has_form 0x29 16 a) refl refl e
  where
    by_test : (p q : Bool) → has_form 0x04 4 a ≡ p → has_form 0x29 16 a ≡ q
        → pick {A = Option (Ip × ℕ)} p (Some (V4 (number 1 5 a), number 7 9 a)) (pick q (Some (V6 (number 1 9 a) (number 9 17 a), number 19 21 a)) None) ≡ Some (ip, port) → Stands a ip port
    by_test true q f g t =
        let e = some_pair_parts _ _ _ _ t in
        rw (← e.0, ← e.1) (stands4 a (parts 0x04 4 a f))
    by_test false true f g t =
        let e = some_pair_parts _ _ _ _ t in
        rw (← e.0, ← e.1) (stands6 a (parts 0x29 16 a g))
    by_test false false f g t = let z : ◌≡◌ {A = ℕ} 0 1 = cc in absurd (omega arith)
