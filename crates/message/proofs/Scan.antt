-- A message field by field: each field has a size, and one turn goes past it.
-- Assumes nothing.
use mathlib.Core.Path.{◌≡◌, refl, sym, ap, subst, ◌∙◌}
use mathlib.Core.List.{List, [], ◌∷◌}
use mathlib.Core.Bool.{Bool, true, false}
use Prim.Native.Nat.{ℕ, zero, suc, ◌+◌, ◌-◌, ◌/◌, ◌%◌, ◌<◌, ◌≤◌}
use native.Mathlib.Omega.{arith}
use lib.Dec.{ltb, leb, eqb}
use lib.ListN.{length, take, drop, length-append, length-take, length-drop}
use borrow.Author.Tests.{eq-eqb, ne_eqb, eqb-true, eqb-false, leb-true}
use Rattle.std.specs.Prelude.{None, Option, Some, ℕ, Err, Ok, Result}
use Rattle.std.specs.Option.{ok_or}
use Rattle.prelude.specs.Choice.{pick, either}
use Rattle.wire.specs.Varint.{varint_of}
use Rattle.wire.proofs.Spans.{varint_size}
use Rattle.wire.specs.Lists.{entry, listed}
use Rattle.protobuf.specs.Fields.{max_field, varint_field, fixed_field, bytes_field, payload_of, tagged, field_of}
use Rattle.message.specs.Message.{Content, says, refused, also, known, kind_read, ended, step, scan, content_of, addresses, kind_of, with_room}
use Rattle.protobuf.specs.declared.Field.{Field}
use Rattle.refusal.specs.declared.Refusal.TheVariants as why
use Rattle.protobuf.specs.declared.Field.TheVariants as f
use Rattle.refusal.specs.declared.Refusal.{Refusal}
use Rattle.message.specs.declared.Kind.{Kind}
use Rattle.message.specs.declared.Kind.TheVariants.{Connect, Sync}

-- ---- sizes

-- a field of a message of n bytes has a byte at least, an address two before it, and none reaches past the end
abbrev pub Within : ℕ → Option Field → Type 0
Within n (Some (f.Typed v z)) = (0 < z) × (z ≤ n)
Within n (Some (f.Address b l)) = (2 ≤ b) × (b + l ≤ n)
Within n (Some (f.Other z)) = (0 < z) × (z ≤ n)
Within n None = Unit

pick_within : (n : ℕ) (t : Bool) (x y : Option Field) → (t ≡ true → Within n x) → (t ≡ false → Within n y) → Within n (pick t x y)
pick_within n true x y p q = p refl
pick_within n false x y p q = q refl

one_within : (n : ℕ) (t : Bool) (x y : Field) → Within n (Some x) → Within n (Some y) → Within n (Some (pick t x y))
one_within n true x y p q = p
one_within n false x y p q = q

varint_within : (n t : ℕ) (s : List ℕ) → 0 < t → (r : Option (ℕ × ℕ)) → r ≡ varint_of s → Within (t + length s) (varint_field n t r)
varint_within n t s h (Some (v, k)) e =
    let q = varint_size s v k e in
    one_within (t + length s) (eqb n 1) (f.Typed v (t + k)) (f.Other (t + k)) (omega arith) (omega arith)
varint_within n t s h None e = tt

fixed_within : (k t : ℕ) (s : List ℕ) → 0 < t → Within (t + length s) (fixed_field k t s)
fixed_within k t s h = pick_within (t + length s) (leb k (length s)) (Some (f.Other (t + k))) None (λ e. omega (arith, leb-true k (length s) e)) (λ _. tt)

bytes_within : (n t : ℕ) (s : List ℕ) → 0 < t → (r : Option (ℕ × ℕ)) → r ≡ varint_of s → Within (t + length s) (bytes_field n t s r)
bytes_within n t s h (Some (v, k)) e =
    let q = varint_size s v k e in
    pick_within (t + length s) (leb (k + v) (length s)) (Some (pick (eqb n 2) (f.Address (t + k) v) (f.Other (t + k + v)))) None
    (λ e. let l = leb-true (k + v) (length s) e in one_within (t + length s) (eqb n 2) (f.Address (t + k) v) (f.Other (t + k + v)) (omega arith) (omega arith))
    (λ _. tt)
bytes_within n t s h None e = tt

payload_within : (n w t : ℕ) (s : List ℕ) → 0 < t → Within (t + length s) (payload_of n w t s)
payload_within n w t s h =
    let z = t + length s in
    pick_within z (eqb w 0) _ _ (λ _. varint_within n t s h (varint_of s) refl)
    (λ _. pick_within z (eqb w 1) _ _ (λ _. fixed_within _ t s h)
    (λ _. pick_within z (eqb w 2) _ _ (λ _. bytes_within n t s h (varint_of s) refl)
    (λ _. pick_within z (eqb w 5) _ _ (λ _. fixed_within _ t s h) (λ _. tt))))

tagged_within : (s : List ℕ) (r : Option (ℕ × ℕ)) → r ≡ varint_of s → Within (length s) (tagged s r)
tagged_within s (Some (v, t)) e =
    let q = varint_size s v t e in
    let z : t + length (drop t s) ≡ length s = simp length-drop (omega arith) in
    let p : Within (length s) (payload_of (v / 8) (v % 8) t (drop t s)) = subst (λ (n : ℕ). Within n (payload_of (v / 8) (v % 8) t (drop t s))) z (payload_within (v / 8) (v % 8) t (drop t s) q.0) in
    pick_within (length s) (eqb (v / 8) 0) _ _ (λ _. tt) (λ _. pick_within (length s) (ltb max_field (v / 8)) _ _ (λ _. tt) (λ _. p))
tagged_within s None e = tt

pub field_within : (s : List ℕ) → Within (length s) (field_of s)
unfolding field_of
field_within s = tagged_within s (varint_of s) refl

-- ---- one turn, where s is left

pub some_left : (n : ℕ) {b : Bool} → b ≡ eqb n 0 → b ≡ false → 0 < n
some_left n e h = omega (arith, eqb-false n 0 (sym e ∙ h))

pub none_left : (n : ℕ) {b : Bool} → b ≡ eqb n 0 → b ≡ true → n ≡ 0
none_left n e h = eqb-true n 0 (sym e ∙ h)

module _ (s : List ℕ) {r : Option Field} (e : r ≡ field_of s) where
  pub sized : (x : Option Field) → r ≡ x → Within (length s) x
  sized x d = subst (λ (y : Option Field). Within (length s) y) (sym e ∙ d) (field_within s)

  pub typed_within : {v z : ℕ} → r ≡ Some (f.Typed v z) → (0 < z) × (z ≤ length s)
  typed_within {v} {z} d = sized (Some (f.Typed v z)) d

  pub address_within : {b l : ℕ} → r ≡ Some (f.Address b l) → (2 ≤ b) × (b + l ≤ length s)
  address_within {b} {l} d = sized (Some (f.Address b l)) d

  pub other_within : {z : ℕ} → r ≡ Some (f.Other z) → (0 < z) × (z ≤ length s)
  other_within {z} d = sized (Some (f.Other z)) d

  -- an address has the bytes that its length says
  pub address_long : {b l : ℕ} → r ≡ Some (f.Address b l) → length (take l (drop b s)) ≡ l
  address_long {b} {l} d = let z = sized (Some (f.Address b l)) d in simp (length-take, length-drop) (omega arith)

  module _ (n k : ℕ) (fuel : length s ≤ n) where
    turn : 0 < length s → scan n k s ≡ step (scan (n - 1)) k s r
    unfolding scan
    turn h =
        let p : n ≡ suc (n - 1) = omega arith in
        ap (λ (x : ℕ). scan x k s) p ∙ rw (ne_eqb (length s) 0 (omega arith), e)

    pub malformed : r ≡ None → 0 < length s → scan n k s ≡ refused why.Malformed
    malformed d h = turn h ∙ rw d

    pub typed : {v z : ℕ} → r ≡ Some (f.Typed v z) → known v ≡ true → scan n k s ≡ scan (n - 1) v (drop z s)
    typed {v} {z} d t = let w = typed_within d in turn (omega arith) ∙ rw (d, t)

    pub wrong : {v z : ℕ} → r ≡ Some (f.Typed v z) → known v ≡ false → scan n k s ≡ refused why.WrongType
    wrong {v} {z} d t = let w = typed_within d in turn (omega arith) ∙ rw (d, t)

    pub address : {b l : ℕ} → r ≡ Some (f.Address b l) → scan n k s ≡ also (take l (drop b s)) (scan (n - 1) k (drop (b + l) s))
    address {b} {l} d = let w = address_within d in turn (omega arith) ∙ rw d

    pub other : {z : ℕ} → r ≡ Some (f.Other z) → scan n k s ≡ scan (n - 1) k (drop z s)
    other {z} d = let w = other_within d in turn (omega arith) ∙ rw d

pub scan_end : (s : List ℕ) (n k : ℕ) → length s ≡ 0 → scan n k s ≡ ended k
unfolding scan
scan_end s zero k h = refl
scan_end s (suc n) k h = rw (eq-eqb (length s) 0 h)

pub scan_nil : (n k : ℕ) → scan n k [] ≡ ended k
scan_nil n k = scan_end [] n k refl

-- ---- what is with_room

-- with n bytes more of list
abbrev pub longer : ℕ → Result (Kind × ℕ) Refusal → Result (Kind × ℕ) Refusal
longer n (Ok (k, z)) = Ok (k, n + z)
longer n (Err w) = Err w

pub longer_none : (x : Result (Kind × ℕ) Refusal) → longer 0 x ≡ x
longer_none (Ok (k, z)) = let e : 0 + z ≡ z = omega arith in rw e
longer_none (Err w) = refl

pub listed_more : (a : List ℕ) (l : List (List ℕ)) → length (listed (a ∷ l)) ≡ 2 + length a + length (listed l)
unfolding listed
listed_more a l = omega (arith, length-append (entry a) (listed l))

pub longer_also : (n z : ℕ) (a : List ℕ) (x : Content) → length a ≡ z → longer n (with_room (also a x)) ≡ longer (n + (2 + z)) (with_room x)
longer_also n z a (says k l) h = let e : n + length (listed (a ∷ l)) ≡ n + (2 + z) + length (listed l) = omega (arith, listed_more a l) in rw e
longer_also n z a (refused w) h = refl

-- the type that was met last, by its number; 0 stands for none
abbrev pub met : ℕ → Option Kind
met k = pick (eqb k 0) None (Some (kind_of k))

-- what `ok_or` makes of it
pub met_none : {A E : Type 0} {o : Option A} {e w : E} → ok_or o e ≡ Err w → (o ≡ None) × (w ≡ e)
met_none {o = None} h = (refl, cc)
met_none {o = Some q} h = let z : ◌≡◌ {A = ℕ} 0 1 = cc in absurd (omega arith)

pub met_some : {A E : Type 0} {o : Option A} (e : E) {q : A} → ok_or o e ≡ Ok q → o ≡ Some q
met_some {o = None} e h = let z : ◌≡◌ {A = ℕ} 0 1 = cc in absurd (omega arith)
met_some {o = Some p} e h = cc

pub none_met : (n k : ℕ) → met k ≡ None → longer n (with_room (ended k)) ≡ Err why.NoType
none_met n k = go (eqb k 0)
  where
    go : (t : Bool) → pick t None (Some (kind_of k)) ≡ None → longer n (with_room (pick t (refused why.NoType) (says k []))) ≡ Err why.NoType
    go true h = refl
    go false h = let z : ◌≡◌ {A = ℕ} 0 1 = cc in absurd (omega arith)

pub one_met : (n k : ℕ) {q : Kind} → met k ≡ Some q → longer n (with_room (ended k)) ≡ Ok (q, n)
unfolding listed
one_met n k {q} = go (eqb k 0)
  where
    go : (t : Bool) → pick t None (Some (kind_of k)) ≡ Some q → longer n (with_room (pick t (refused why.NoType) (says k []))) ≡ Ok (q, n)
    go true h = let z : ◌≡◌ {A = ℕ} 0 1 = cc in absurd (omega arith)
    go false h = let e : n + 0 ≡ n = omega arith in let g : kind_of k ≡ q = cc in rw (e, g)

-- a type that is read is met
pub known_met : (v : ℕ) {q : Kind} → kind_read v ≡ Ok q → (known v ≡ true) × (met v ≡ Some q)
known_met v {q} = go (eqb v 100) refl (eqb v 300) refl
  where
    go : (a : Bool) → eqb v 100 ≡ a → (b : Bool) → eqb v 300 ≡ b → pick (either a b) (Ok (pick a Connect Sync)) (Err why.WrongType) ≡ Ok q
        → (either a b ≡ true) × (pick (eqb v 0) None (Some (pick a Connect Sync)) ≡ Some q)
    go true e b f h = let z = eqb-true v 100 e in (refl, rw z (let g : Connect ≡ q = cc in rw g))
    go false e true f h = let z = eqb-true v 300 f in (refl, rw z (let g : Sync ≡ q = cc in rw g))
    go false e false f h = let z : ◌≡◌ {A = ℕ} 0 1 = cc in absurd (omega arith)

pub unknown_met : (v : ℕ) {w : Refusal} → kind_read v ≡ Err w → (known v ≡ false) × (w ≡ why.WrongType)
unknown_met v {w} = go (known v)
  where
    go : (t : Bool) → pick t (Ok (kind_of v)) (Err why.WrongType) ≡ Err w → (t ≡ false) × (w ≡ why.WrongType)
    go true h = let z : ◌≡◌ {A = ℕ} 0 1 = cc in absurd (omega arith)
    go false h = (refl, cc)

-- ---- the list of a message's addresses is never longer than the message

also_long : (a : List ℕ) (x : Content) (n : ℕ) → length (listed (addresses x)) ≤ n → length (listed (addresses (also a x))) ≤ 2 + length a + n
unfolding listed
also_long a (says k xs) n h = omega (arith, length-append (entry a) (listed xs))
also_long a (refused w) n h = omega arith

ended_long : (k n : ℕ) → length (listed (addresses (ended k))) ≤ n
unfolding listed
ended_long k n = go (eqb k 0)
  where
    go : (t : Bool) → length (listed (addresses (pick t (refused why.NoType) (says k [])))) ≤ n
    go true = omega arith
    go false = omega arith

step_long : (next : ℕ → List ℕ → Content) (k : ℕ) (s : List ℕ) (x : Option Field) → Within (length s) x
    → ((j : ℕ) (t : List ℕ) → length (listed (addresses (next j t))) ≤ length t) → length (listed (addresses (step next k s x))) ≤ length s
unfolding listed
step_long next k s (Some (f.Typed v z)) h q = go (known v)
  where
    go : (t : Bool) → length (listed (addresses (pick t (next v (drop z s)) (refused why.WrongType)))) ≤ length s
    go true = omega (arith, q v (drop z s), length-drop z s)
    go false = omega arith
step_long next k s (Some (f.Address b l)) h q =
    let g : length (take l (drop b s)) ≡ l = simp (length-take, length-drop) (omega arith) in
    omega (arith, also_long (take l (drop b s)) (next k (drop (b + l) s)) (length (drop (b + l) s)) (q k (drop (b + l) s)), length-drop (b + l) s)
step_long next k s (Some (f.Other z)) h q = omega (arith, q k (drop z s), length-drop z s)
step_long next k s None h q = omega arith

scan_long : (n k : ℕ) (s : List ℕ) → length (listed (addresses (scan n k s))) ≤ length s
unfolding scan
scan_long zero k s = ended_long k (length s)
scan_long (suc n) k s = go (eqb (length s) 0) (step_long (scan n) k s (field_of s) (field_within s) (scan_long n))
  where
    go : (t : Bool) → length (listed (addresses (step (scan n) k s (field_of s)))) ≤ length s
        → length (listed (addresses (pick t (ended k) (step (scan n) k s (field_of s))))) ≤ length s
    go true h = ended_long k (length s)
    go false h = h

pub list_long : (s : List ℕ) → length (listed (addresses (content_of s))) ≤ length s
list_long s = scan_long (length s) 0 s
