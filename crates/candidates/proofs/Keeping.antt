-- The choice along a list: what is kept so far, as addresses and as bytes.
-- Assumes nothing.
use mathlib.Core.Path.{◌≡◌, refl, sym, ap, ◌∙◌}
use mathlib.Core.Bool.{Bool, true, false}
use mathlib.Core.List.{List, [], ◌∷◌, ◌++◌, foldl}
use Prim.Native.Nat.{ℕ, ◌+◌, ◌-◌, ◌*◌, ◌<◌, ◌≤◌}
use native.Mathlib.Omega.{arith}
use borrow.Author.Tests.{ltb-true}
use lib.Dec.{ltb, leb}
use lib.ListN.{length, take, drop, replicate, length-append, length-replicate, replicate-append-replicate}
use lib.Seq.{sets, sets-eq, take-append_seam, drop-append-add, drop_at}
use Rattle.std.specs.Prelude.{None, Option, Some, ℕ}
use Rattle.prelude.specs.Choice.{pick, both}
use Rattle.address.specs.Multiaddr.{parsed, has_form, number}
use Rattle.address.specs.declared.Ip.{Ip}
use Rattle.address.specs.declared.Ip.TheVariants.{V4, V6}
use Rattle.address.proofs.Digits.{address_short}
use Rattle.wire.specs.Lists.{entries, entry, listed}
use Rattle.wire.proofs.Listed.{All, listed_snoc, read_back}
use Rattle.candidates.specs.Entries.{of_parsed}
use Rattle.candidates.specs.Selection.{counted, room_for, packed, most, longest, capacity}
use Rattle.candidates.specs.OnePass.{suits, wanted_from, kept_from}
use Rattle.candidates.specs.declared.Source.{Source}
use Rattle.candidates.specs.declared.Limits.{Limits}
use Rattle.candidates.specs.declared.Counts.{Counts}
use Rattle.candidates.specs.Selection.{Chosen}
use Rattle.candidates.proofs.Listing.{all_snoc, all_map, listed_long}

-- an address has at most `longest` bytes
pub address_size : (a : List ℕ) {ip : Ip} {port : ℕ} → parsed a ≡ Some (ip, port) → length a ≤ longest
unfolding parsed
address_size a {ip} {port} e = by_test (has_form 0x04 4 a) (has_form 0x29 16 a) refl refl e
  where
    by_test : (p q : Bool) → has_form 0x04 4 a ≡ p → has_form 0x29 16 a ≡ q
        → pick {A = Option (Ip × ℕ)} p (Some (V4 (number 1 5 a), number 7 9 a)) (pick q (Some (V6 (number 1 9 a) (number 9 17 a), number 19 21 a)) None) ≡ Some (ip, port) → length a ≤ longest
    by_test true q h g t = omega (arith, address_short 0x04 4 a h)
    by_test false true h g t = omega (arith, address_short 0x29 16 a g)
    by_test false false h g t = let z : ◌≡◌ {A = ℕ} 0 1 = cc in absurd (omega arith)

pub both_true : (a b : Bool) → both a b ≡ true → (a ≡ true) × (b ≡ true)
both_true true b e = (refl, e)
both_true false b e = let z : ◌≡◌ {A = ℕ} 0 1 = cc in absurd (omega arith)

room_total : (l : Limits) (n : Counts) (port : ℕ) → room_for l n port ≡ true → n.total < l.total
room_total l n port e = ltb-true n.total l.total (both_true (ltb n.total l.total) _ (both_true (leb l.port port) _ e).1).0

-- what is wanted is an address, and there is room in the total
pub wanted_small : (l : Limits) (source : Source) (xs : List (List ℕ)) (a : List ℕ) → wanted_from l source xs a ≡ true → (length a ≤ longest) × (length xs < l.total)
unfolding wanted_from
wanted_small l source xs a e = by_parsed (parsed a) refl e
  where
    by_parsed : (p : Option (Ip × ℕ)) → parsed a ≡ p → of_parsed p (λ ip port. both (suits source xs a ip) (room_for l (counted ip xs) port)) ≡ true → (length a ≤ longest) × (length xs < l.total)
    by_parsed (Some (ip, port)) h t =
        let r = (both_true (suits source xs a ip) (room_for l (counted ip xs) port) t).1 in
        (address_size a h, room_total l (counted ip xs) port r)
    by_parsed None h t = let z : ◌≡◌ {A = ℕ} 0 1 = cc in absurd (omega arith)

abbrev zeros : ℕ → List ℕ
zeros n = replicate n 0

abbrev pad : List ℕ → List ℕ
pad s = (packed s).bytes

-- one address more behind those in the buffer
pad_snoc : (s a : List ℕ) → length s + 2 + length a ≤ capacity → sets (pad s) (length s) (entry a) ≡ pad (s ++ entry a)
pad_snoc s a h =
    let n = capacity - length s - (2 + length a) in
    let m : capacity - length s ≡ 2 + length a + (capacity - length s - (2 + length a)) = omega arith in
    let d : drop (2 + length a) (zeros (capacity - length s)) ≡ zeros n =
    ap (λ (i : ℕ). drop (2 + length a) (zeros i)) m
    ∙ ap (drop (2 + length a)) (sym (replicate-append-replicate {A = ℕ} (2 + length a) n 0))
    ∙ drop_at (zeros (2 + length a)) (zeros n) (2 + length a) (length-replicate {A = ℕ} (2 + length a) 0) in
    let l : capacity - length (s ++ entry a) ≡ n = omega (arith, length-append s (entry a)) in
    let t : take (length s) (pad s) ≡ s = take-append_seam s (zeros (capacity - length s)) in
    let b : length (pad s) ≡ capacity = length-append s (zeros (capacity - length s)) ∙ omega (arith, length-replicate {A = ℕ} (capacity - length s) 0) in
    let k : length s + length (entry a) ≡ length s + (2 + length a) = omega arith in
    let u : drop (length s + length (entry a)) (pad s) ≡ zeros n = ap (λ (i : ℕ). drop i (pad s)) k ∙ drop-append-add s (zeros (capacity - length s)) (2 + length a) ∙ d in
    sets-eq (entry a) (pad s) (length s) (omega arith)
    ∙ ap (λ (x : List ℕ). (x ++ entry a) ++ drop (length s + length (entry a)) (pad s)) t
    ∙ ap (λ (x : List ℕ). (s ++ entry a) ++ x) u
    ∙ ap (λ (i : ℕ). (s ++ entry a) ++ zeros i) (sym l)

pub record Keeping (l : Limits) (source : Source) (all : List (List ℕ)) (bytes : List ℕ) (len : ℕ) (left : List (List ℕ)) : Type 0 where
  pub got : List (List ℕ)
  pub bytes_are : bytes ≡ (packed (listed got)).bytes
  pub len_is : len ≡ length (listed got)
  pub few : length got ≤ l.total
  pub each : All (λ a. length a ≤ longest) got
  pub rest : foldl (kept_from l source) [] all ≡ foldl (kept_from l source) got left

pub keep_none : (l : Limits) (source : Source) (all : List (List ℕ)) {c : Chosen} → c ≡ packed [] → Keeping l source all c.bytes c.len all
unfolding listed
keep_none l source all e =
    record { got = []; bytes_are = ap (λ (c : Chosen). c.bytes) e; len_is = ap (λ (c : Chosen). c.len) e; few = omega arith; each = tt; rest = refl }

module _ {l : Limits} (small : l.total ≤ most) {source : Source} {all : List (List ℕ)} {bytes : List ℕ} {len : ℕ} {left : List (List ℕ)} (h : Keeping l source all bytes len left) where
  pub keep_len : len ≤ (longest + 2) * length h.got
  keep_len = omega (arith, listed_long h.got h.each, h.len_is)

  pub keep_full : length bytes ≡ capacity
  keep_full =
      let g : len ≤ capacity = omega (arith, keep_len, h.few) in
      ap length h.bytes_are ∙ length-append (listed h.got) (zeros (capacity - length (listed h.got)))
      ∙ omega (arith, length-replicate {A = ℕ} (capacity - length (listed h.got)) 0, h.len_is)

  pub keep_inside : len ≤ length bytes
  keep_inside = omega (arith, keep_len, keep_full, h.few)

  pub keep_part : take len bytes ≡ listed h.got
  keep_part = rw (h.bytes_are, h.len_is) (take-append_seam (listed h.got) (zeros (capacity - length (listed h.got))))

  pub keep_part_long : len ≡ length (take len bytes)
  keep_part_long = h.len_is ∙ ap length (sym keep_part)

  keep_read : entries (take len bytes) ≡ h.got
  keep_read = ap entries keep_part ∙ read_back h.got (all_map (λ a. length a ≤ longest) (λ a. length a < 65536) (λ (a : List ℕ) (n : length a ≤ longest). omega arith) h.got h.each)

  pub keep_done : left ≡ [] → record { bytes = bytes; len = len } ≡ packed (listed (foldl (kept_from l source) [] all))
  keep_done e =
      let f : foldl (kept_from l source) [] all ≡ h.got = h.rest ∙ ap (foldl (kept_from l source) h.got) e in
      let b = h.bytes_are in
      let n = h.len_is in
      (λ i. record { bytes = b i; len = n i }) ∙ ap (λ (x : List (List ℕ)). packed (listed x)) (sym f)

  module _ {a : List ℕ} {others : List (List ℕ)} (w : left ≡ a ∷ others) {r : Bool} (q : r ≡ wanted_from l source (entries (take len bytes)) a) where
    asked : r ≡ wanted_from l source h.got a
    asked = q ∙ ap (λ (x : List (List ℕ)). wanted_from l source x a) keep_read

    next : foldl (kept_from l source) [] all ≡ foldl (kept_from l source) (kept_from l source h.got a) others
    next = h.rest ∙ ap (foldl (kept_from l source) h.got) w

    pub keep_room : r ≡ true → len + (2 + length a) ≤ capacity
    keep_room t =
        let s = wanted_small l source h.got a (sym asked ∙ t) in
        omega (arith, keep_len)

    kept_not : r ≡ false → kept_from l source h.got a ≡ h.got
    kept_not t = rw (sym asked ∙ t)

    kept_one : r ≡ true → kept_from l source h.got a ≡ h.got ++ (a ∷ [])
    kept_one t = rw (sym asked ∙ t)

    pub keep_skip : r ≡ false → Keeping l source all bytes len others
    keep_skip t = record {
      got = h.got;
      bytes_are = h.bytes_are;
      len_is = h.len_is;
      few = h.few;
      each = h.each;
      rest = next ∙ ap (λ (x : List (List ℕ)). foldl (kept_from l source) x others) (kept_not t);
    }

    pub keep_more : r ≡ true → {more : List ℕ} → more ≡ sets bytes len (entry a) → Keeping l source all more (len + (2 + length a)) others
    keep_more t {more} p =
        let s = wanted_small l source h.got a (sym asked ∙ t) in
        let c = listed_snoc h.got a in
        let k = h.len_is in
        let f : length (listed h.got) + 2 + length a ≤ capacity = omega (arith, keep_len, h.few, k) in
        record {
          got = h.got ++ (a ∷ []);
          bytes_are = p ∙ rw (h.bytes_are, k) (pad_snoc (listed h.got) a f) ∙ ap pad (sym c);
          len_is = omega (arith, k, ap length c, length-append (listed h.got) (entry a));
          few = omega (arith, s.1, length-append h.got (a ∷ []));
          each = all_snoc (λ a. length a ≤ longest) h.got a h.each s.0;
          rest = next ∙ ap (λ (x : List (List ℕ)). foldl (kept_from l source) x others) (kept_one t);
        }
