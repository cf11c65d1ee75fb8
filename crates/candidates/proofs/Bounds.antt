-- The candidates keep to the limits.
-- Assumes nothing.
use mathlib.Core.Path.{◌≡◌, refl, sym, ap, ◌∙◌}
use mathlib.Core.Bool.{Bool, true, false}
use mathlib.Core.List.{List, [], ◌∷◌, ◌++◌, foldl}
use Prim.Native.Nat.{ℕ, ◌<◌, ◌≤◌}
use native.Mathlib.Omega.{arith}
use borrow.Author.Tests.{ltb-true, leb-true, eqb-true}
use lib.Dec.{ltb, leb, eqb}
use lib.ListN.{length}
use Rattle.std.specs.Prelude.{None, Option, Some, ℕ}
use Rattle.prelude.specs.Lists.{count}
use Rattle.prelude.specs.Choice.{pick, both, bit}
use Rattle.address.specs.Multiaddr.{parsed}
use Rattle.address.specs.declared.Ip.{Ip}
use Rattle.address.specs.declared.Ip.TheVariants.{V4, V6}
use Rattle.candidates.specs.Entries.{same_family, same_ip, of_parsed, of_address, in_family, has_ip}
use Rattle.candidates.specs.Selection.{counted, room_for, room, keep, bounded}
use Rattle.candidates.specs.declared.Limits.{Limits}
use Rattle.candidates.proofs.Keeping.{both_true}
use Rattle.candidates.proofs.Passes.{count_append}

-- what room says of the address and of what is kept
pub record Room (l : Limits) (got : List (List ℕ)) (a : List ℕ) : Type 0 where
  pub ip : Ip
  pub port : ℕ
  pub is : parsed a ≡ Some (ip, port)
  pub high : l.port ≤ port
  pub total_left : length got < l.total
  pub family_left : count (in_family ip) got < l.family
  pub ip_left : count (has_ip ip) got < l.ip

pub room_says : (l : Limits) (got : List (List ℕ)) (a : List ℕ) → room l got a ≡ true → Room l got a
unfolding room
room_says l got a e = by_parsed (parsed a) refl e
  where
    by_parsed : (p : Option (Ip × ℕ)) → parsed a ≡ p → of_parsed p (λ ip port. room_for l (counted ip got) port) ≡ true → Room l got a
    by_parsed (Some (ip, port)) h t =
        let u = both_true (leb l.port port) (both (ltb (length got) l.total) (both (ltb (count (in_family ip) got) l.family) (ltb (count (has_ip ip) got) l.ip))) t in
        let v = both_true (ltb (length got) l.total) (both (ltb (count (in_family ip) got) l.family) (ltb (count (has_ip ip) got) l.ip)) u.1 in
        let w = both_true (ltb (count (in_family ip) got) l.family) (ltb (count (has_ip ip) got) l.ip) v.1 in
        record { ip = ip; port = port; is = h; high = leb-true l.port port u.0; total_left = ltb-true (length got) l.total v.0; family_left = ltb-true (count (in_family ip) got) l.family w.0; ip_left = ltb-true (count (has_ip ip) got) l.ip w.1 }
    by_parsed None h t = let z : ◌≡◌ {A = ℕ} 0 1 = cc in absurd (omega arith)

-- a count that room keeps below a number stays at most that number
module _ (l : Limits) (p : List ℕ → Bool) (m : ℕ) (below : (got : List (List ℕ)) (a : List ℕ) → room l got a ≡ true → p a ≡ true → count p got < m) where
  grown : (got : List (List ℕ)) (a : List ℕ) (t : Bool) → p a ≡ t → room l got a ≡ true → count p got ≤ m → count p (got ++ (a ∷ [])) ≤ m
  unfolding count
  grown got a true e r h = let b = below got a r e in omega (arith, count_append p got (a ∷ []), ap bit e)
  grown got a false e r h = omega (arith, count_append p got (a ∷ []), ap bit e)

  pub at_most : (got xs : List (List ℕ)) → count p got ≤ m → count p (foldl (keep l) got xs) ≤ m
  at_most got [] h = h
  at_most got (a ∷ xs) h = by_test (room l got a) refl (λ g. at_most g xs)
    where
      by_test : (t : Bool) → room l got a ≡ t → ((g : List (List ℕ)) → count p g ≤ m → count p (foldl (keep l) g xs) ≤ m) → count p (foldl (keep l) (pick t (got ++ (a ∷ [])) got) xs) ≤ m
      by_test true e f = f (got ++ (a ∷ [])) (grown got a (p a) refl e h)
      by_test false e f = f got h

pub count_same : (p q : List ℕ → Bool) → ((a : List ℕ) → p a ≡ q a) → (xs : List (List ℕ)) → count p xs ≡ count q xs
unfolding count
count_same p q f [] = refl
count_same p q f (a ∷ xs) = rw (f a, count_same p q f xs)

count_all : (xs : List (List ℕ)) → count (λ a. true) xs ≡ length xs
unfolding count
count_all [] = refl
count_all (a ∷ xs) = let r = count_all xs in omega arith

-- IPs of one family have the same others in it
pub family_of : (i j o : Ip) → same_family i j ≡ true → same_family i o ≡ same_family j o
family_of (V4 a) (V4 b) (V4 c) e = refl
family_of (V4 a) (V4 b) (V6 h l) e = refl
family_of (V4 a) (V6 h l) o e = let z : ◌≡◌ {A = ℕ} 0 1 = cc in absurd (omega arith)
family_of (V6 h l) (V4 b) o e = let z : ◌≡◌ {A = ℕ} 0 1 = cc in absurd (omega arith)
family_of (V6 h l) (V6 g k) (V4 c) e = refl
family_of (V6 h l) (V6 g k) (V6 m n) e = refl

pub ip_same : (i j : Ip) → same_ip i j ≡ true → i ≡ j
ip_same (V4 a) (V4 b) e = ap V4 (eqb-true a b e)
ip_same (V4 a) (V6 h l) e = let z : ◌≡◌ {A = ℕ} 0 1 = cc in absurd (omega arith)
ip_same (V6 h l) (V4 b) e = let z : ◌≡◌ {A = ℕ} 0 1 = cc in absurd (omega arith)
ip_same (V6 h l) (V6 g k) e =
    let t = both_true (eqb h g) (eqb l k) e in
    let x : h ≡ g = eqb-true h g t.0 in
    let y : l ≡ k = eqb-true l k t.1 in
    cc

pub alike : (p : Option (Ip × ℕ)) (i j : Ip) → same_family i j ≡ true → of_parsed p (λ other port. same_family i other) ≡ of_parsed p (λ other port. same_family j other)
alike (Some (ip, port)) i j e = family_of i j ip e
alike None i j e = refl

pub of_parsed_lem : (f : Ip → ℕ → Bool) (a : List ℕ) {ip : Ip} {port : ℕ} → parsed a ≡ Some (ip, port) → of_address f a ≡ f ip port
of_parsed_lem f a e = rw e

pub total_kept : (l : Limits) (xs : List (List ℕ)) → length (bounded l xs) ≤ l.total
unfolding bounded count
total_kept l xs =
    rw (← count_all) (at_most l (λ a. true) l.total (λ (got : List (List ℕ)) (a : List ℕ) (r : room l got a ≡ true) (t : true ≡ true). omega (arith, count_all got, (room_says l got a r).total_left)) [] xs (omega arith))

pub family_below : (l : Limits) (ip : Ip) (got : List (List ℕ)) (a : List ℕ) → room l got a ≡ true → in_family ip a ≡ true → count (in_family ip) got < l.family
family_below l ip got a r t =
    let w = room_says l got a r in
    let s : same_family ip w.ip ≡ true = sym (of_parsed_lem (λ other port. same_family ip other) a w.is) ∙ t in
    let c : count (in_family ip) got ≡ count (in_family w.ip) got = count_same (in_family ip) (in_family w.ip) (λ b. alike (parsed b) ip w.ip s) got in
    omega (arith, c, w.family_left)

pub family_kept : (l : Limits) (ip : Ip) (xs : List (List ℕ)) → count (in_family ip) (bounded l xs) ≤ l.family
unfolding bounded count
family_kept l ip xs = at_most l (in_family ip) l.family (family_below l ip) [] xs (omega arith)

pub ip_kept : (l : Limits) (ip : Ip) (xs : List (List ℕ)) → count (has_ip ip) (bounded l xs) ≤ l.ip
unfolding bounded count
ip_kept l ip xs = at_most l (has_ip ip) l.ip below [] xs (omega arith)
  where
    below : (got : List (List ℕ)) (a : List ℕ) → room l got a ≡ true → has_ip ip a ≡ true → count (has_ip ip) got < l.ip
    below got a r t =
        let w = room_says l got a r in
        let s : ip ≡ w.ip = ip_same ip w.ip (sym (of_parsed_lem (λ other port. same_ip ip other) a w.is) ∙ t) in
        let c : count (has_ip ip) got ≡ count (has_ip w.ip) got = ap (λ (i : Ip). count (has_ip i) got) s in
        omega (arith, c, w.ip_left)
