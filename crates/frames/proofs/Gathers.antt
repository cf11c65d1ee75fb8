-- The reply gathered: the frame is judged from the bytes in the buffer and in the input, before they are stored; and what is stored
-- is the input's front.
-- Assumes nothing.
use mathlib.Core.Path.{◌≡◌, refl, sym, ap, subst, ◌∙◌}
use mathlib.Core.Bool.{Bool, true, false}
use mathlib.Core.List.{List, [], ◌∷◌, ◌++◌, append_assoc}
use Prim.Native.Nat.{ℕ, suc, ◌+◌, ◌-◌, ◌<◌, ◌≤◌}
use native.Mathlib.Numerals.{add-one}
use native.Mathlib.Omega.{arith}
use borrow.Author.Tests.{lt-ltb, le-ltb, le-leb, lt-leb, leb-true, leb-false}
use lib.Dec.{leb}
use lib.ListN.{length, get_or, take, drop, set, length-set, length-take, length-drop, length-append, get_or-append}
use lib.Seq.{sets, sets-eq, length-sets, length-take-le, take-suc, drop-cons, take-append-add, take-append_seam, get_or-append-add, get_or-take}
use Rattle.prelude.specs.Choice.{pick}
use Rattle.wire.specs.Frame.{max_frame_size, frame_from, frame_of}
use Rattle.wire.specs.declared.Frame.{Frame}
use Rattle.wire.specs.declared.Frame.TheVariants.{More, Whole, Broken}
use Rattle.wire.proofs.Stores.{sets_append}
use Rattle.wire.proofs.Frames.{frame_prefix, frame_within, frame_open, Within, Open}
use Rattle.frames.specs.declared.Gathered.{Gathered}
use Rattle.frames.specs.Gathering.{Gathering, ends, judged, gathering, gathered, gathered_into, frame_byte}

-- ---- a byte of the frame

-- where the count is within the buffer, the frame's bytes are those before the count, then the input's
byte_of : (xs b : List ℕ) (n p : ℕ) → n ≤ length b → get_or (take n b ++ xs) p 0 ≡ frame_byte xs b n p
byte_of xs b n p h = go (ltb' p n) refl
  where
    ltb' : ℕ → ℕ → Bool
    ltb' x y = leb (suc x) y

    long : length (take n b) ≡ n
    long = length-take-le n b h

    go : (t : Bool) → ltb' p n ≡ t → get_or (take n b ++ xs) p 0 ≡ frame_byte xs b n p
    go true e =
        let l : p < n = leb-true (suc p) n e in
        let k : p < length (take n b) = rw long l in
        get_or-append (take n b) xs 0 p k ∙ get_or-take n b p 0 l ∙ sym (rw (lt-ltb p n l))
    go false e =
        let l : n ≤ p = omega (arith, leb-false (suc p) n e) in
        let q : length (take n b) + (p - n) ≡ p = omega (arith, long) in
        subst (λ (i : ℕ). get_or (take n b ++ xs) i 0 ≡ frame_byte xs b n p) q (get_or-append-add (take n b) xs (p - n) 0 ∙ sym (rw (le-ltb p n l)))

-- ---- the frame's bytes so far

-- the buffer once the first i bytes of the input stand in it
abbrev pub stored : List ℕ → List ℕ → ℕ → ℕ → List ℕ
stored xs b n i = sets b n (take i xs)

stored_more : (xs b : List ℕ) (n i : ℕ) → i < length xs → set (stored xs b n i) (n + i) (get_or xs i 0) ≡ stored xs b n (i + 1)
stored_more xs b n i h =
    let l : length (take i xs) ≡ i = length-take-le i xs (omega arith) in
    let t : take (i + 1) xs ≡ take i xs ++ (get_or xs i 0 ∷ []) = ap (λ (k : ℕ). take k xs) (add-one i) ∙ take-suc xs i 0 h in
    sym (ap (sets b n) t ∙ sets_append b n (take i xs) (get_or xs i 0 ∷ []) ∙ ap (λ (k : ℕ). set (stored xs b n i) (n + k) (get_or xs i 0)) l)

-- they are those before the count, then the input's
front : (xs b : List ℕ) (n i : ℕ) → i ≤ length xs → n + i ≤ length b → take (n + i) (stored xs b n i) ≡ take (n + i) (take n b ++ xs)
front xs b n i h g =
    let l : length (take i xs) ≡ i = length-take-le i xs h in
    let m : length (take n b) ≡ n = length-take-le n b (omega arith) in
    let k : n + length (take i xs) ≤ length b = omega arith in
    let q : length (take n b) + i ≡ n + i = omega arith in
    let rest = drop (n + length (take i xs)) b in
    let u : take i (take i xs ++ rest) ≡ take i xs = subst (λ (j : ℕ). take j (take i xs ++ rest) ≡ take i xs) l (take-append_seam (take i xs) rest) in
    let left : take (n + i) (take n b ++ (take i xs ++ rest)) ≡ take n b ++ take i xs =
    subst (λ (j : ℕ). take j (take n b ++ (take i xs ++ rest)) ≡ take n b ++ take i xs) q (take-append-add (take n b) (take i xs ++ rest) i ∙ ap (λ (s : List ℕ). take n b ++ s) u) in
    let right : take (n + i) (take n b ++ xs) ≡ take n b ++ take i xs =
    subst (λ (j : ℕ). take j (take n b ++ xs) ≡ take n b ++ take i xs) q (take-append-add (take n b) xs i) in
    ap (take (n + i)) (sets-eq (take i xs) b n k ∙ append_assoc (take n b) (take i xs) rest) ∙ left ∙ sym right

-- ---- one byte

-- p is the count once i bytes of the input are passed
pub record Ahead (xs b : List ℕ) (n p i : ℕ) : Type 0 where
  pub inside : i ≤ length xs
  pub place : p ≡ n + i
  pub same : gathering (drop i xs) (stored xs b n i) p ≡ gathering xs b n

pub ahead_none : (xs b : List ℕ) (n : ℕ) → Ahead xs b n n 0
ahead_none xs b n = record { inside = omega arith; place = omega arith; same = refl }

pub ahead_all : (xs b : List ℕ) (n p i : ℕ) → Ahead xs b n p i → length xs ≤ i → record { count = p; frame = More } ≡ gathered xs b n
unfolding gathering
ahead_all xs b n p i a h = ap (λ (g : Gathering). g.answer) (sym (none (drop i xs) (omega (arith, length-drop i xs))) ∙ a.same)
  where
    none : (l : List ℕ) → length l ≡ 0 → gathering l (stored xs b n i) p ≡ ends (stored xs b n i) p More
    none [] e = refl
    none (x ∷ l) e = absurd (omega arith)

-- a frame that is whole or broken ends the gathering
no_more : (f : Frame) → (f ≡ More → ⊥) → (b : List ℕ) (n : ℕ) (rest : Gathering) → judged f b n rest ≡ ends b n f
no_more More g b n rest = absurd (g refl)
no_more (Whole start len) g b n rest = refl
no_more Broken g b n rest = refl

module _ (xs b : List ℕ) (n p i : ℕ) (a : Ahead xs b n p i) (h : i < length xs) where
  turn : gathering (drop i xs) (stored xs b n i) p
      ≡ pick (leb (length b) p) (ends (stored xs b n i) p Broken)
      (judged (frame_of (take (p + 1) (stored xs b n (i + 1)))) (stored xs b n (i + 1)) (p + 1) (gathering (drop (i + 1) xs) (stored xs b n (i + 1)) (p + 1)))
  unfolding gathering
  turn =
      let s : set (stored xs b n i) p (get_or xs i 0) ≡ stored xs b n (i + 1) = ap (λ (k : ℕ). set (stored xs b n i) k (get_or xs i 0)) a.place ∙ stored_more xs b n i h in
      let d : drop i xs ≡ get_or xs i 0 ∷ drop (i + 1) xs = drop-cons xs i 0 h ∙ rw (add-one i) in
      rw (d, length-sets b n (take i xs), s)

  pub ahead_full : length b ≤ p → record { count = p; frame = Broken } ≡ gathered xs b n
  ahead_full l =
      let t : gathering (drop i xs) (stored xs b n i) p ≡ ends (stored xs b n i) p Broken = turn ∙ rw (le-leb (length b) p l) in
      ap (λ (g : Gathering). g.answer) (sym t ∙ a.same)

  module _ (l : p < length b) {v w : ℕ} (c : v ≡ frame_byte xs b n 0) (d : w ≡ frame_byte xs b n 1) {f : Frame} (e : f ≡ frame_from v w (p + 1)) where
    verdict : frame_of (take (p + 1) (stored xs b n (i + 1))) ≡ f
    verdict =
        let q : p + 1 ≡ n + (i + 1) = omega (arith, a.place) in
        let z : n ≤ length b = omega (arith, a.place) in
        let m : n + (i + 1) ≤ length (take n b ++ xs) = omega (arith, length-append (take n b) xs, length-take-le n b z) in
        ap (λ (k : ℕ). frame_of (take k (stored xs b n (i + 1)))) q
        ∙ ap frame_of (front xs b n (i + 1) (omega arith) (omega (arith, a.place)))
        ∙ frame_prefix (take n b ++ xs) (n + (i + 1)) m
        ∙ rw (byte_of xs b n 0 z, byte_of xs b n 1 z, ← c, ← d, ← q) (sym e)

    on : gathering xs b n ≡ judged f (stored xs b n (i + 1)) (p + 1) (gathering (drop (i + 1) xs) (stored xs b n (i + 1)) (p + 1))
    on = sym a.same ∙ turn ∙ rw (lt-leb (length b) p l, verdict)

    pub ahead_more : f ≡ More → Ahead xs b n (p + 1) (i + 1)
    ahead_more g =
        let t : gathering xs b n ≡ gathering (drop (i + 1) xs) (stored xs b n (i + 1)) (p + 1) = on ∙ rw g in
        record { inside = omega arith; place = omega (arith, a.place); same = sym t }

    pub ahead_ends : (f ≡ More → ⊥) → record { count = p + 1; frame = f } ≡ gathered xs b n
    ahead_ends g = ap (λ (x : Gathering). x.answer) (sym (on ∙ no_more f g (stored xs b n (i + 1)) (p + 1) (gathering (drop (i + 1) xs) (stored xs b n (i + 1)) (p + 1))))

-- ---- what is stored

-- of xs behind n bytes of b
pub record Front (xs b : List ℕ) (n : ℕ) (g : Gathering) : Type 0 where
  pub grows : n ≤ g.answer.count
  pub inside : g.answer.count ≤ n + length xs
  pub into : g.buffer ≡ sets b n (take (g.answer.count - n) xs)
  pub whole : Within (length b) g.answer.frame

ends_front : (xs b : List ℕ) (n : ℕ) (f : Frame) → Within (length b) f → Front xs b n (ends b n f)
ends_front xs b n f w =
    let e : n - n ≡ 0 = omega arith in
    record { grows = omega arith; inside = omega arith; into = rw e; whole = w }

module _ (x : ℕ) (xs b : List ℕ) (n : ℕ) where
  one : n + 1 - n ≡ 1
  one = omega arith

  ended_front : (f : Frame) → Within (length b) f → Front (x ∷ xs) b n (ends (set b n x) (n + 1) f)
  ended_front f w = record { grows = omega arith; inside = omega arith; into = rw one; whole = w }

  judged_front : (f : Frame) → Within (length b) f → (rest : Gathering) → Front xs (set b n x) (n + 1) rest → Front (x ∷ xs) b n (judged f (set b n x) (n + 1) rest)
  judged_front (Whole start len) w rest r = ended_front (Whole start len) w
  judged_front Broken w rest r = ended_front Broken tt
  judged_front More w rest r =
      let g = r.grows in
      let i = r.inside in
      let q : rest.answer.count - n ≡ suc (rest.answer.count - (n + 1)) = omega arith in
      record {
        grows = omega arith;
        inside = omega arith;
        into = r.into ∙ rw (q, add-one n);
        whole = subst (λ (k : ℕ). Within k rest.answer.frame) (length-set b n x) r.whole;
      }

  within_set : Within (length b) (frame_of (take (n + 1) (set b n x)))
  within_set =
      let s = take (n + 1) (set b n x) in
      wider (frame_of s) (length s) (omega (arith, length-take (n + 1) (set b n x), length-set b n x)) (frame_within (get_or s 0 0) (get_or s 1 0) (length s))
    where
      wider : (f : Frame) (k : ℕ) → k ≤ length b → Within k f → Within (length b) f
      wider (Whole start len) k h w = omega arith
      wider More k h w = tt
      wider Broken k h w = tt

pub gathers_front : (xs b : List ℕ) (n : ℕ) → Front xs b n (gathering xs b n)
unfolding gathering
gathers_front [] b n = ends_front [] b n More tt
gathers_front (x ∷ xs) b n = go (leb (length b) n) (gathers_front xs (set b n x) (n + 1))
  where
    rest : Gathering
    rest = gathering xs (set b n x) (n + 1)

    go : (t : Bool) → Front xs (set b n x) (n + 1) rest → Front (x ∷ xs) b n (pick t (ends b n Broken) (judged (frame_of (take (n + 1) (set b n x))) (set b n x) (n + 1) rest))
    go true r = ends_front (x ∷ xs) b n Broken tt
    go false r = judged_front x xs b n (frame_of (take (n + 1) (set b n x))) (within_set x xs b n) rest r

-- ---- the count

abbrev OpenAt : Gathering → Type 0
OpenAt g = Open g.answer.count g.answer.frame

judged_open : (f : Frame) (b : List ℕ) (n : ℕ) (rest : Gathering) → Open n f → (n < max_frame_size → OpenAt rest) → OpenAt (judged f b n rest)
judged_open More b n rest o r = r o
judged_open (Whole start len) b n rest o r = tt
judged_open Broken b n rest o r = tt

gathers_open : (xs b : List ℕ) (n : ℕ) → n < max_frame_size → OpenAt (gathering xs b n)
unfolding gathering
gathers_open [] b n h = h
gathers_open (x ∷ xs) b n h = go (leb (length b) n) refl (gathers_open xs (set b n x) (n + 1))
  where
    rest : Gathering
    rest = gathering xs (set b n x) (n + 1)

    long : n < length b → length (take (n + 1) (set b n x)) ≡ n + 1
    long l = length-take-le (n + 1) (set b n x) (omega (arith, length-set b n x))

    go : (t : Bool) → leb (length b) n ≡ t → (n + 1 < max_frame_size → OpenAt rest)
        → OpenAt (pick t (ends b n Broken) (judged (frame_of (take (n + 1) (set b n x))) (set b n x) (n + 1) rest))
    go true e r = tt
    go false e r =
        let o = frame_open (get_or (take (n + 1) (set b n x)) 0 0) (get_or (take (n + 1) (set b n x)) 1 0) (length (take (n + 1) (set b n x))) in
        judged_open (frame_of (take (n + 1) (set b n x))) (set b n x) (n + 1) rest
        (subst (λ (k : ℕ). Open k (frame_of (take (n + 1) (set b n x)))) (long (leb-false (length b) n e)) o) r

pub count_below : (xs b : List ℕ) (n : ℕ) → n < max_frame_size → (gathered xs b n).frame ≡ More → (gathered xs b n).count < max_frame_size
count_below xs b n h e = subst (λ (f : Frame). Open (gathered xs b n).count f) e (gathers_open xs b n h)

-- ---- what was gathered
module _ (xs b : List ℕ) (n : ℕ) {g : Gathered} (e : g ≡ gathered xs b n) where
  pub span_of : (n ≤ g.count) × (g.count ≤ n + length xs)
  span_of = let w = gathers_front xs b n in let c = ap (λ (x : Gathered). x.count) e in (omega (arith, w.grows, c), omega (arith, w.inside, c))

  pub stored_of : sets b n (take (g.count - n) xs) ≡ gathered_into xs b n
  stored_of = ap (λ (x : Gathered). sets b n (take (x.count - n) xs)) e ∙ sym (gathers_front xs b n).into
