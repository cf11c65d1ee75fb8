-- Words that hold these places in a table, and are otherwise as they were. Assumes nothing.
-- as many of the values as are in use
use Prim.Native.Nat.{ℕ, zero, suc, ◌≤◌, ◌<◌, ◌-◌, ◌+◌, ◌*◌, min}
use mathlib.Core.Path.{◌≡◌, refl, ap, sym, ◌∙◌}
use mathlib.Core.Bool.{Bool, true, false}
use mathlib.Core.List.{List, [], ◌∷◌, ◌++◌, append_assoc, append-nil}
use native.Mathlib.Omega.{arith}
use borrow.Author.Tests.{eqb-true, eq-eqb, ltb-true, ltb-false}
use lib.ListN.{length, get_or, take, drop, set, replicate, length-append, length-take, length-drop, length-set, length-replicate, take-append-drop}
use lib.Seq.{take-nil, take_all, take_at, take-append_seam, drop-append-add, drop-drop, set_at}
use lib.Dec.{eqb, ltb}
use native.Mathlib.Numerals.{add-one}
use Rattle.std.specs.List.{copy_within}
use borrow.Rule.Slice.PartMut.{put_mid, mid_of}
use Rattle.prelude.specs.Choice.{pick}
use Rattle.kinds.specs.declared.Row.{Row}
use Rattle.rows.specs.Words.{at, no_row, places_of, rows_from, tabled, filled, words_of, count_word, laid_from}
use Rattle.rows.proofs.Words.{length_places, length_tabled, places_tabled, count_tabled, tabled_tabled, tabled_own, count_before, places_before, count_behind, places_behind, length_words_of, words_none, part_written, part_read}
use Rattle.rows.proofs.Moves.{length_filled, opened}

take_used : {A : Type 0} (c : ℕ) (xs : List A) → take (length (take c xs)) xs ≡ take c xs
take_used c [] = take-nil (length (take {A = _} c [])) ∙ sym (take-nil c)
take_used zero (x ∷ xs) = refl
take_used {A} (suc c) (x ∷ xs) = ap (λ (l : List A). x ∷ l) (take_used c xs)

module _ (b : ℕ) (l : List ℕ) (h : b + 321 ≤ length l) where
  pub used_≤ : length (rows_from b l) ≤ 64
  used_≤ = simp (length-take, length_places b l) (omega arith)

  -- the count as it is written
  pub count_write : (n : ℕ) → set l b n ≡ tabled b n (places_of b l) l
  unfolding tabled
  count_write n =
      let e : set l b n ≡ set (tabled b (at l b) (places_of b l) l) b n = ap (λ (ws : List ℕ). set ws b n) (sym (tabled_own b l h)) in
      e ∙ set_at (take b l) (at l b) _ n b (simp length-take (omega arith))

pub record Holds (b : ℕ) (l₀ l : List ℕ) (ps : List Row) : Type 0 where
  pub is : l ≡ tabled b (at l₀ b) ps l₀
  pub full : length ps ≡ 64

module _ {b : ℕ} {l₀ : List ℕ} (h : b + 321 ≤ length l₀) where
  pub holds_start : Holds b l₀ l₀ (places_of b l₀)
  holds_start = record { is = sym (tabled_own b l₀ h); full = length_places b l₀ }

  module _ {l : List ℕ} {ps : List Row} (k : Holds b l₀ l ps) where
    pub holds_places : places_of b l ≡ ps
    holds_places = ap (places_of b) k.is ∙ places_tabled b l₀ h (at l₀ b) ps k.full

    pub holds_count : at l b ≡ at l₀ b
    holds_count = ap (λ (ws : List ℕ). at ws b) k.is ∙ count_tabled b l₀ h (at l₀ b) ps k.full

    pub holds_length : length l ≡ length l₀
    holds_length = ap length k.is ∙ length_tabled b l₀ h (at l₀ b) ps k.full

    -- other words of the table
    pub holds_tabled : (n : ℕ) (qs : List Row) → tabled b n qs l ≡ tabled b n qs l₀
    holds_tabled n qs = ap (tabled b n qs) k.is ∙ tabled_tabled b l₀ h (at l₀ b) ps k.full n qs

    pub holds_next : {l' : List ℕ} (f : List Row → List Row) (qs : List Row) → l' ≡ tabled b (at l b) (f (places_of b l)) l → f ps ≡ qs → length qs ≡ 64 → Holds b l₀ l' qs
    holds_next f qs e g n =
        record { is = e ∙ ap (λ (c : ℕ). tabled b c (f (places_of b l)) l) holds_count ∙ ap (λ (xs : List Row). tabled b (at l₀ b) xs l) (ap f holds_places ∙ g) ∙ holds_tabled (at l₀ b) qs; full = n }

    -- a row that is written
    pub holds_write : {l' : List ℕ} (i : ℕ) (r : Row) (qs : List Row) → l' ≡ tabled b (at l b) (set (places_of b l) i r) l → set ps i r ≡ qs → Holds b l₀ l' qs
    holds_write i r qs e g = holds_next (λ (xs : List Row). set xs i r) qs e g (ap length (sym g) ∙ length-set ps i r ∙ k.full)

    pub holds_row : (i : ℕ) → get_or (places_of b l) i no_row ≡ get_or ps i no_row
    holds_row i = ap (λ (xs : List Row). get_or xs i no_row) holds_places

module _ (b : ℕ) (l : List ℕ) (h : b + 321 ≤ length l) where
  -- the words of the rows from i on, up to k, moved up by a row's
  pub moved_up : (i k : ℕ) → i ≤ k → k < 64 → copy_within l (b + 1 + 5 * i) (b + 1 + 5 * k) (b + 1 + 5 * (i + 1)) ≡ tabled b (at l b) (opened (places_of b l) i k) l
  unfolding opened
  moved_up i k m n =
      let ps = places_of b l in
      let rs = drop i (take k ps) in
      let d = b + 1 + 5 * (i + 1) in
      let q = b + 1 + 5 * (k + 1) in
      let e : d + (b + 1 + 5 * k - (b + 1 + 5 * i)) ≡ d + (q - d) = omega arith in
      let t : take (b + 1 + 5 * k - (b + 1 + 5 * i)) (drop (b + 1 + 5 * i) l) ≡ words_of rs = part_read b l h i k m (omega arith) in
      rw (t, e, sym (drop-drop (q - d) d l), append_assoc (take d l) (words_of rs) (drop (q - d) (drop d l))) (part_written b l h (i + 1) (k + 1) (omega arith) (omega arith) rs ∙ simp add-one)

  -- zeros that are written over the rows from m on, up to e
  pub cleared : (m e : ℕ) → m ≤ e → e ≤ 64 → (ws : List ℕ) → ws ≡ replicate (length (mid_of (b + 1 + 5 * m) (b + 1 + 5 * e - (b + 1 + 5 * m)) l)) 0
      → put_mid (b + 1 + 5 * m) (b + 1 + 5 * e - (b + 1 + 5 * m)) l ws ≡ tabled b (at l b) (take m (places_of b l) ++ (replicate (e - m) no_row ++ drop e (places_of b l))) l
  cleared m e i k ws q =
      let ps = places_of b l in
      let n : length (mid_of (b + 1 + 5 * m) (b + 1 + 5 * e - (b + 1 + 5 * m)) l) ≡ 5 * (e - m) = ap length (part_read b l h m e i k) ∙ length_words_of (drop m (take e ps)) ∙ simp (length-drop, length-take) (omega (arith, length_places b l)) in
      rw (q, n, sym (words_none (e - m))) (part_written b l h m e i k (replicate (e - m) no_row))

  -- the count that is written behind
  pub counted : (c : ℕ) (ps : List Row) → length ps ≡ 64 → (n : ℕ) → set (tabled b c ps l) b n ≡ tabled b n ps l
  counted c ps k n =
      let t = tabled b c ps l in
      let g : b + 321 ≤ length t = omega (arith, length_tabled b l h c ps k) in
      count_write b t g n ∙ ap (λ (qs : List Row). tabled b n qs t) (places_tabled b l h c ps k) ∙ tabled_tabled b l h c ps k n ps

-- ---- other rows in use
nothing : {A : Type 0} (xs : List A) → length xs ≡ 0 → xs ≡ []
nothing [] e = refl
nothing (x ∷ xs) e = absurd (omega arith)

-- a count past the capacity takes all
past : (c : ℕ) (rs rest : List Row) → min c 64 ≡ length rs → length rs + length rest ≡ 64 → take c (rs ++ rest) ≡ rs
past c rs rest e f = go (ltb c 64) refl
  where
    go : (t : Bool) → ltb c 64 ≡ t → take c (rs ++ rest) ≡ rs
    go true g = let l = ltb-true c 64 g in take_at rs rest c (omega arith)
    go false g =
        let l = ltb-false c 64 g in
        let n : length rest ≡ 0 = omega arith in
        rw (nothing rest n, append-nil rs) (take_all c rs (omega arith))

module _ (b : ℕ) (l : List ℕ) (h : b + 321 ≤ length l) where
  own_count : (n : ℕ) → count_word (at l b) n n ≡ at l b
  own_count n = simp (eq-eqb n n refl)

  -- the rows as they are
  pub laid_own : laid_from b (rows_from b l) l ≡ l
  unfolding laid_from
  laid_own =
      let n = length (rows_from b l) in
      let q : n - n ≡ 0 = omega arith in
      let u : filled (rows_from b l ++ []) (places_of b l) ≡ places_of b l =
      rw (append-nil (rows_from b l)) (ap (λ (rs : List Row). rs ++ drop n (places_of b l)) (sym (take_used (at l b) (places_of b l))) ∙ take-append-drop n (places_of b l))
      in
      rw (own_count n, q, u) (tabled_own b l h)

  module _ (rs : List Row) (k : length rs ≤ 64) where
    fresh : List Row
    fresh = rs ++ replicate (length (rows_from b l) - length rs) no_row

    fresh_≤ : length fresh ≤ length (places_of b l)
    unfolding fresh
    fresh_≤ = simp (length-append, length-replicate) (omega (arith, used_≤ b l h, length_places b l))

    laid_full : length (filled fresh (places_of b l)) ≡ 64
    laid_full = length_filled fresh (places_of b l) fresh_≤ ∙ length_places b l

    pub laid_length : length (laid_from b rs l) ≡ length l
    unfolding laid_from fresh
    laid_length = length_tabled b l h _ _ laid_full

    -- the rows that are laid are those in use
    pub laid_rows : rows_from b (laid_from b rs l) ≡ rs
    unfolding laid_from fresh
    laid_rows = rw (places_tabled b l h (count_word (at l b) (length (rows_from b l)) (length rs)) (filled fresh (places_of b l)) laid_full, count_tabled b l h (count_word (at l b) (length (rows_from b l)) (length rs)) (filled fresh (places_of b l)) laid_full)
        (rw (append_assoc rs (replicate (length (rows_from b l) - length rs) no_row) (drop (length fresh) (places_of b l))) (go (eqb (length (rows_from b l)) (length rs)) refl))
      where
        rest : List Row
        rest = replicate (length (rows_from b l) - length rs) no_row ++ drop (length fresh) (places_of b l)

        go : (t : Bool) → eqb (length (rows_from b l)) (length rs) ≡ t → take (pick t (at l b) (length rs)) (rs ++ rest) ≡ rs
        go false e = take-append_seam rs rest
        go true e = past (at l b) rs rest (simp (length-take, length_places b l) at (eqb-true (length (rows_from b l)) (length rs) e)) (simp (length-append, length-replicate, length-drop, length_places b l) (omega (arith, eqb-true (length (rows_from b l)) (length rs) e)))

    -- the rows of another table stay
    pub laid_before : (d : ℕ) → d + 321 ≤ b → rows_from d (laid_from b rs l) ≡ rows_from d l
    unfolding laid_from fresh
    laid_before d e = rw (count_before b l h _ _ laid_full d e, places_before b l h _ _ laid_full d e) refl

    pub laid_behind : (d : ℕ) → b + 321 ≤ d → rows_from d (laid_from b rs l) ≡ rows_from d l
    unfolding laid_from fresh
    laid_behind d e = rw (count_behind b l h _ _ laid_full d e, places_behind b l h _ _ laid_full d e) refl

-- after the marked rows, or the inserted ones, stand in front
module _ (b : ℕ) (l₀ : List ℕ) (h : b + 321 ≤ length l₀) (rs : List Row) (k : length rs ≤ 64) {l : List ℕ} (e : Holds b l₀ l (filled rs (places_of b l₀))) where
  pub settled : {l' : List ℕ} (n m : ℕ) → n ≡ length (rows_from b l₀) → m ≡ length rs
      → l' ≡ tabled b (count_word (at l b) n m) (take m (places_of b l) ++ (replicate (n - m) no_row ++ drop (m + (n - m)) (places_of b l))) l
      → l' ≡ laid_from b rs l₀
  unfolding laid_from
  settled n m f g q =
      let ps = places_of b l₀ in
      let t : take m (filled rs ps) ≡ rs = take_at rs (drop (length rs) ps) m (sym g) in
      let d : drop (m + (n - m)) (filled rs ps) ≡ drop (m + (n - m)) ps = rw g (drop-append-add rs (drop (length rs) ps) (n - length rs) ∙ drop-drop (n - length rs) (length rs) ps) in
      let z : length (rs ++ replicate (n - m) no_row) ≡ m + (n - m) = simp (length-append, length-replicate) (omega arith) in
      q ∙ rw (holds_places h e, holds_count h e, t, d) (holds_tabled h e _ _ ∙ rw (sym f, sym g, z, append_assoc rs (replicate (n - m) no_row) (drop (m + (n - m)) ps)) refl)
