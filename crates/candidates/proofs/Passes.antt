-- The choice in one pass is the choice in words: first the ranges, or each form once, then the limits.
-- Assumes nothing.
use mathlib.Core.Path.{◌≡◌, refl, sym, ap, ◌∙◌}
use mathlib.Core.Bool.{Bool, true, false}
use mathlib.Core.List.{List, [], ◌∷◌, ◌++◌, append_assoc, append-nil, foldl, foldl-append}
use Prim.Native.Nat.{ℕ, ◌+◌, ◌≤◌}
use native.Mathlib.Omega.{arith}
use borrow.Author.Tests.{ltb-false, le-ltb}
use lib.Dec.{ltb, leb}
use lib.ListN.{length-append}
use Rattle.std.specs.Prelude.{None, Option, Some, ℕ}
use Rattle.prelude.specs.Lists.{count, such}
use Rattle.prelude.specs.Choice.{pick, both, no}
use Rattle.address.specs.Multiaddr.{parsed}
use Rattle.address.specs.Words.{may_be_target}
use Rattle.candidates.specs.Entries.{same_bytes, contains, of_parsed, is_address, in_family, has_ip}
use Rattle.candidates.specs.Selection.{counted, room_for, room, keep, bounded, punchable, selected, unless_there, once, own}
use Rattle.candidates.specs.OnePass.{wanted_from, kept_from}
use Rattle.candidates.specs.declared.Source.TheVariants.{Peer, Own, Any}
use Rattle.candidates.specs.declared.Limits.{Limits}
use Rattle.candidates.specs.declared.Counts.{Counts}
use Rattle.candidates.proofs.Answers.{same_true}
use Rattle.address.specs.declared.Ip.{Ip}

-- ---- the peer's list
wanted_peer : (l : Limits) (private : Bool) (xs : List (List ℕ)) (a : List ℕ) → wanted_from l (Peer private) xs a ≡ both (punchable private a) (room l xs a)
unfolding wanted_from room
wanted_peer l private xs a = by_parsed (parsed a)
  where
    by_parsed : (p : Option (Ip × ℕ)) → of_parsed p (λ ip port. both (may_be_target private ip) (room_for l (counted ip xs) port)) ≡ both (of_parsed p (λ ip port. may_be_target private ip)) (of_parsed p (λ ip port. room_for l (counted ip xs) port))
    by_parsed (Some (ip, port)) = refl
    by_parsed None = refl

peer_from : (l : Limits) (private : Bool) (got xs : List (List ℕ)) → foldl (kept_from l (Peer private)) got xs ≡ foldl (keep l) got (such (punchable private) xs)
unfolding such
peer_from l private got [] = refl
peer_from l private got (a ∷ xs) =
    ap (λ (w : Bool). foldl (kept_from l (Peer private)) (pick w (got ++ (a ∷ [])) got) xs) (wanted_peer l private got a)
    ∙ by_test (punchable private a) (λ g. peer_from l private g xs)
  where
    by_test : (t : Bool) → ((g : List (List ℕ)) → foldl (kept_from l (Peer private)) g xs ≡ foldl (keep l) g (such (punchable private) xs))
        → foldl (kept_from l (Peer private)) (pick (both t (room l got a)) (got ++ (a ∷ [])) got) xs
        ≡ foldl (keep l) got (pick t (a ∷ such (punchable private) xs) (such (punchable private) xs))
    by_test true h = h (keep l got a)
    by_test false h = h got

pub peer_is : (l : Limits) (private : Bool) (xs : List (List ℕ)) → foldl (kept_from l (Peer private)) [] xs ≡ selected (record { limits = l; private = private }) xs
unfolding selected bounded
peer_is l private xs = peer_from l private [] xs

-- ---- a list that is only bounded
any_from : (l : Limits) (got xs : List (List ℕ)) → foldl (kept_from l Any) got xs ≡ foldl (keep l) got xs
unfolding wanted_from room
any_from l got [] = refl
any_from l got (a ∷ xs) = any_from l (keep l got a) xs

pub any_is : (l : Limits) (xs : List (List ℕ)) → foldl (kept_from l Any) [] xs ≡ bounded l xs
unfolding bounded
any_is l xs = any_from l [] xs

-- ---- a list that is longer has no more room
pub count_append : (p : List ℕ → Bool) (xs ys : List (List ℕ)) → count p (xs ++ ys) ≡ count p xs + count p ys
unfolding count
count_append p [] ys = omega arith
count_append p (x ∷ xs) ys = let r = count_append p xs ys in omega arith

pub both_false : (a : Bool) → both a false ≡ false
both_false true = refl
both_false false = refl

-- room behind more is room behind less
room_for_less : (l : Limits) (m n : Counts) (port : ℕ) → m.total ≤ n.total → m.family ≤ n.family → m.ip ≤ n.ip → room_for l m port ≡ false → room_for l n port ≡ false
room_for_less l m n port t f i e = by_tests (leb l.port port) (ltb m.total l.total) (ltb m.family l.family) (ltb m.ip l.ip) refl refl refl e
  where
    by_tests : (p a b c : Bool) → ltb m.total l.total ≡ a → ltb m.family l.family ≡ b → ltb m.ip l.ip ≡ c
        → both p (both a (both b c)) ≡ false → both p (both (ltb n.total l.total) (both (ltb n.family l.family) (ltb n.ip l.ip))) ≡ false
    by_tests false a b c u v w e = refl
    by_tests true false b c u v w e =
        let g = ltb-false m.total l.total u in
        let x : ltb n.total l.total ≡ false = le-ltb n.total l.total (omega arith) in rw x
    by_tests true true false c u v w e =
        let g = ltb-false m.family l.family v in
        let x : ltb n.family l.family ≡ false = le-ltb n.family l.family (omega arith) in rw x (both_false (ltb n.total l.total))
    by_tests true true true false u v w e =
        let g = ltb-false m.ip l.ip w in
        let x : ltb n.ip l.ip ≡ false = le-ltb n.ip l.ip (omega arith) in
        rw x (ap (both (ltb n.total l.total)) (both_false (ltb n.family l.family)) ∙ both_false (ltb n.total l.total))
    by_tests true true true true u v w e = let z : ◌≡◌ {A = ℕ} 0 1 = cc in absurd (omega arith)

room_less : (l : Limits) (xs ys : List (List ℕ)) (a : List ℕ) → room l xs a ≡ false → room l (xs ++ ys) a ≡ false
unfolding room
room_less l xs ys a e = by_parsed (parsed a) e
  where
    by_parsed : (p : Option (Ip × ℕ)) → of_parsed p (λ ip port. room_for l (counted ip xs) port) ≡ false → of_parsed p (λ ip port. room_for l (counted ip (xs ++ ys)) port) ≡ false
    by_parsed (Some (ip, port)) h =
        room_for_less l (counted ip xs) (counted ip (xs ++ ys)) port
        (omega (arith, length-append xs ys)) (omega (arith, count_append (in_family ip) xs ys)) (omega (arith, count_append (has_ip ip) xs ys)) h
    by_parsed None h = refl

-- ---- what a list holds
pub holds_append : (a : List ℕ) (xs ys : List (List ℕ)) → contains a (xs ++ ys) ≡ pick (contains a xs) true (contains a ys)
unfolding contains
holds_append a [] ys = refl
holds_append a (x ∷ xs) ys = by_test (same_bytes a x) (holds_append a xs ys)
  where
    by_test : (t : Bool) → contains a (xs ++ ys) ≡ pick (contains a xs) true (contains a ys)
        → pick t true (contains a (xs ++ ys)) ≡ pick (pick t true (contains a xs)) true (contains a ys)
    by_test true h = refl
    by_test false h = h

either_true : (t : Bool) → pick t true true ≡ true
either_true true = refl
either_true false = refl

nothing : (a : List ℕ) → contains a [] ≡ false
unfolding contains
nothing a = refl

start : (l : Limits) (xs : List (List ℕ)) → foldl (kept_from l Own) [] xs ≡ foldl (kept_from l Own) (bounded l []) xs
unfolding bounded
start l xs = refl

-- what is kept at all stands behind what was kept before
pub bounded_more : (l : Limits) (got xs : List (List ℕ)) → (ys : List (List ℕ)) × (foldl (keep l) got xs ≡ got ++ ys)
bounded_more l got [] = ([], sym (append-nil got))
bounded_more l got (a ∷ xs) = by_test (room l got a) (λ g. bounded_more l g xs)
  where
    by_test : (t : Bool) → ((g : List (List ℕ)) → (ys : List (List ℕ)) × (foldl (keep l) g xs ≡ g ++ ys)) → (ys : List (List ℕ)) × (foldl (keep l) (pick t (got ++ (a ∷ [])) got) xs ≡ got ++ ys)
    by_test true h = let r = h (got ++ (a ∷ [])) in (a ∷ r.0, r.1 ∙ append_assoc got (a ∷ []) r.0)
    by_test false h = h got

-- nothing is kept that was not there
bounded_none : (l : Limits) (a : List ℕ) (got xs : List (List ℕ)) → contains a got ≡ false → contains a xs ≡ false → contains a (foldl (keep l) got xs) ≡ false
unfolding contains
bounded_none l a got [] g h = g
bounded_none l a got (x ∷ xs) g h = by_test (same_bytes a x) (room l got x) refl (λ k. bounded_none l a k xs) h
  where
    by_test : (s t : Bool) → same_bytes a x ≡ s → ((k : List (List ℕ)) → contains a k ≡ false → contains a xs ≡ false → contains a (foldl (keep l) k xs) ≡ false)
        → pick s true (contains a xs) ≡ false → contains a (foldl (keep l) (pick t (got ++ (x ∷ [])) got) xs) ≡ false
    by_test true t e f h = let z : ◌≡◌ {A = ℕ} 0 1 = cc in absurd (omega arith)
    by_test false true e f h = f (got ++ (x ∷ [])) (holds_append a got (x ∷ []) ∙ rw (g, e)) h
    by_test false false e f h = f got g h

-- an address that was there is kept, or there is no room for it
bounded_some : (l : Limits) (a : List ℕ) (got xs : List (List ℕ)) → contains a xs ≡ true → both (no (contains a (foldl (keep l) got xs))) (room l (foldl (keep l) got xs) a) ≡ false
unfolding contains
bounded_some l a got [] h = let z : ◌≡◌ {A = ℕ} 0 1 = cc in absurd (omega arith)
bounded_some l a got (x ∷ xs) h = by_test (same_bytes a x) (room l got x) refl refl (λ k. bounded_some l a k xs) h
  where
    by_test : (s t : Bool) → same_bytes a x ≡ s → room l got x ≡ t
        → ((k : List (List ℕ)) → contains a xs ≡ true → both (no (contains a (foldl (keep l) k xs))) (room l (foldl (keep l) k xs) a) ≡ false)
        → pick s true (contains a xs) ≡ true
        → both (no (contains a (foldl (keep l) (pick t (got ++ (x ∷ [])) got) xs))) (room l (foldl (keep l) (pick t (got ++ (x ∷ [])) got) xs) a) ≡ false
    by_test false t e r f h = f (pick t (got ++ (x ∷ [])) got) h
    by_test true true e r f h =
        let m = bounded_more l (got ++ (x ∷ [])) xs in
        let w : contains a (foldl (keep l) (got ++ (x ∷ [])) xs) ≡ true =
        ap (contains a) (m.1 ∙ append_assoc got (x ∷ []) m.0) ∙ holds_append a got (x ∷ m.0) ∙ rw e (either_true (contains a got)) in
        rw w
    by_test true false e r f h =
        let m = bounded_more l got xs in
        let q : room l got a ≡ false = ap (room l got) (same_true a x e) ∙ r in
        ap (λ (k : List (List ℕ)). both (no (contains a k)) (room l k a)) m.1 ∙ rw (room_less l got m.0 a q) (both_false (no (contains a (got ++ m.0))))

-- ---- one's own list
wanted_own : (l : Limits) (xs : List (List ℕ)) (a : List ℕ) → wanted_from l Own xs a ≡ both (no (contains a xs)) (room l xs a)
unfolding wanted_from room
wanted_own l xs a = by_parsed (parsed a)
  where
    by_parsed : (p : Option (Ip × ℕ)) → of_parsed p (λ ip port. both (no (contains a xs)) (room_for l (counted ip xs) port)) ≡ both (no (contains a xs)) (of_parsed p (λ ip port. room_for l (counted ip xs) port))
    by_parsed (Some (ip, port)) = refl
    by_parsed None = sym (both_false (no (contains a xs)))

not_wanted : (l : Limits) (xs : List (List ℕ)) (a : List ℕ) → is_address a ≡ false → wanted_from l Own xs a ≡ false
unfolding wanted_from
not_wanted l xs a e = by_parsed (parsed a) e
  where
    by_parsed : (p : Option (Ip × ℕ)) → of_parsed p (λ ip port. true) ≡ false → of_parsed p (λ ip port. both (no (contains a xs)) (room_for l (counted ip xs) port)) ≡ false
    by_parsed (Some (ip, port)) h = let z : ◌≡◌ {A = ℕ} 0 1 = cc in absurd (omega arith)
    by_parsed None h = refl

own_addresses : (l : Limits) (got xs : List (List ℕ)) → foldl (kept_from l Own) got xs ≡ foldl (kept_from l Own) got (such is_address xs)
unfolding such
own_addresses l got [] = refl
own_addresses l got (a ∷ xs) = by_test (is_address a) refl (λ g. own_addresses l g xs)
  where
    by_test : (t : Bool) → is_address a ≡ t → ((g : List (List ℕ)) → foldl (kept_from l Own) g xs ≡ foldl (kept_from l Own) g (such is_address xs))
        → foldl (kept_from l Own) (kept_from l Own got a) xs ≡ foldl (kept_from l Own) got (pick t (a ∷ such is_address xs) (such is_address xs))
    by_test true e h = h (kept_from l Own got a)
    by_test false e h = h (kept_from l Own got a) ∙ ap (λ (w : Bool). foldl (kept_from l Own) (pick w (got ++ (a ∷ [])) got) (such is_address xs)) (not_wanted l got a e)

-- what is kept of the forms seen, after one address more
own_step : (l : Limits) (seen : List (List ℕ)) (a : List ℕ) → kept_from l Own (bounded l seen) a ≡ bounded l (unless_there seen a)
unfolding bounded
own_step l seen a = ap (λ (w : Bool). pick w (foldl (keep l) [] seen ++ (a ∷ [])) (foldl (keep l) [] seen)) (wanted_own l (foldl (keep l) [] seen) a) ∙ by_test (contains a seen) refl
  where
    by_test : (t : Bool) → contains a seen ≡ t
        → pick (both (no (contains a (foldl (keep l) [] seen))) (room l (foldl (keep l) [] seen) a)) (foldl (keep l) [] seen ++ (a ∷ [])) (foldl (keep l) [] seen)
        ≡ foldl (keep l) [] (pick t seen (seen ++ (a ∷ [])))
    by_test true e = rw (bounded_some l a [] seen e)
    by_test false e = rw (bounded_none l a [] seen (nothing a) e) (sym (foldl-append (keep l) [] seen (a ∷ [])))

own_from : (l : Limits) (seen xs : List (List ℕ)) → foldl (kept_from l Own) (bounded l seen) xs ≡ bounded l (foldl unless_there seen xs)
own_from l seen [] = refl
own_from l seen (a ∷ xs) = ap (λ (k : List (List ℕ)). foldl (kept_from l Own) k xs) (own_step l seen a) ∙ own_from l (unless_there seen a) xs

pub own_is : (l : Limits) (xs : List (List ℕ)) → foldl (kept_from l Own) [] xs ≡ own l xs
unfolding own once
own_is l xs = own_addresses l [] xs ∙ start l (such is_address xs) ∙ own_from l [] (such is_address xs)
