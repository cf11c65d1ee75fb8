-- A table's words and its places are the same thing: what is written in one is written in the other. Assumes nothing.
-- ---- rows one behind the other
use Prim.Native.Nat.{ℕ, zero, suc, ◌≤◌, ◌<◌, ◌-◌, ◌+◌, ◌*◌, min}
use mathlib.Core.Path.{◌≡◌, refl, ap, sym, ◌∙◌}
use mathlib.Core.List.{List, [], ◌∷◌, ◌++◌, append_assoc}
use native.Mathlib.Omega.{arith}
use native.Mathlib.Numerals.{add-one}
use lib.ListN.{length, get_or, take, drop, set, replicate, length-append, length-take, length-drop, take-append-drop, get_or-append}
use lib.Seq.{drop-cons, take-add, drop-drop, drop-append-le, drop-append-add, take_at, drop_at, get_or_at, get_or-drop, length-take-le, set_split, sets, sets-eq}
use borrow.Rule.Slice.PartMut.{put_mid, mid_of}
use Rattle.kinds.specs.declared.Row.{Row}
use Rattle.rows.specs.Words.{at, first_row, rows_in, words_of, no_row, places_of, rows_from, tabled, start_of, ledger_words}
use Rattle.rows.specs.declared.Table.{Table}
use Rattle.rows.specs.declared.Table.TheVariants.{Dials, Windows, Paths}

-- a table ends within the words
pub table_end : (t : Table) → start_of t + 321 ≤ ledger_words
table_end Dials = omega arith
table_end Windows = omega arith
table_end Paths = omega arith

pub length_words_of : (rs : List Row) → length (words_of rs) ≡ 5 * length rs
unfolding words_of
length_words_of [] = refl
length_words_of (r ∷ rs) = omega (arith, length_words_of rs)

pub length_rows_in : (n : ℕ) (ws : List ℕ) → length (rows_in n ws) ≡ n
unfolding rows_in
length_rows_in zero ws = refl
length_rows_in (suc n) ws = ap suc (length_rows_in n (drop 5 ws))

pub words_of_append : (rs qs : List Row) → words_of (rs ++ qs) ≡ words_of rs ++ words_of qs
unfolding words_of
words_of_append [] qs = refl
words_of_append (r ∷ rs) qs = ap (λ (ws : List ℕ). r.key ∷ r.kind ∷ r.a ∷ r.b ∷ r.c ∷ ws) (words_of_append rs qs)

pub words_none : (n : ℕ) → words_of (replicate n no_row) ≡ replicate (5 * n) 0
unfolding words_of
words_none zero = refl
words_none (suc n) = let e : 5 * suc n ≡ suc (suc (suc (suc (suc (5 * n))))) = omega arith in rw (e, words_none n) refl

-- rows that are written are read
rows_words : (rs : List Row) (ws : List ℕ) → rows_in (length rs) (words_of rs ++ ws) ≡ rs
unfolding rows_in words_of
rows_words [] ws = refl
rows_words (r ∷ rs) ws = ap (λ (qs : List Row). r ∷ qs) (rows_words rs ws)

take_five : (ws : List ℕ) → 5 ≤ length ws → take 5 ws ≡ at ws 0 ∷ at ws 1 ∷ at ws 2 ∷ at ws 3 ∷ at ws 4 ∷ []
take_five [] h = absurd (omega arith)
take_five (u ∷ []) h = absurd (omega arith)
take_five (u ∷ v ∷ []) h = absurd (omega arith)
take_five (u ∷ v ∷ x ∷ []) h = absurd (omega arith)
take_five (u ∷ v ∷ x ∷ y ∷ []) h = absurd (omega arith)
take_five (u ∷ v ∷ x ∷ y ∷ z ∷ ws) h = refl

-- words that are read are the rows' words
words_rows : (n : ℕ) (ws : List ℕ) → 5 * n ≤ length ws → words_of (rows_in n ws) ≡ take (5 * n) ws
unfolding rows_in words_of
words_rows zero ws h = refl
words_rows (suc n) ws h =
    let e : 5 * suc n ≡ 5 + 5 * n = omega arith in
    let k : 5 * n ≤ length (drop 5 ws) = simp length-drop (omega arith) in
    let f : 5 ≤ length ws = omega arith in
    rw (e, take-add 5 (5 * n) ws, take_five ws f) (ap (λ (vs : List ℕ). at ws 0 ∷ at ws 1 ∷ at ws 2 ∷ at ws 3 ∷ at ws 4 ∷ vs) (words_rows n (drop 5 ws) k))

-- some of the rows
take_rows : (i n : ℕ) (ws : List ℕ) → i ≤ n → take i (rows_in n ws) ≡ rows_in i ws
unfolding rows_in
take_rows zero n ws h = refl
take_rows (suc i) zero ws h = absurd (omega arith)
take_rows (suc i) (suc n) ws h = ap (λ (rs : List Row). first_row ws ∷ rs) (take_rows i n (drop 5 ws) (omega arith))

drop_rows : (i n : ℕ) (ws : List ℕ) → i ≤ n → drop i (rows_in n ws) ≡ rows_in (n - i) (drop (5 * i) ws)
unfolding rows_in
drop_rows zero n ws h = let e : n - 0 ≡ n = omega arith in rw e refl
drop_rows (suc i) zero ws h = absurd (omega arith)
drop_rows (suc i) (suc n) ws h =
    let e : suc n - suc i ≡ n - i = omega arith in
    let f : 5 + 5 * i ≡ 5 * suc i = omega arith in
    drop_rows i n (drop 5 ws) (omega arith) ∙ rw (e, drop-drop (5 * i) 5 ws, f) refl

pub row_in : (n : ℕ) (ws : List ℕ) (i : ℕ) → i < n → get_or (rows_in n ws) i no_row ≡ first_row (drop (5 * i) ws)
unfolding rows_in
row_in zero ws i h = absurd (omega arith)
row_in (suc n) ws zero h = refl
row_in (suc n) ws (suc i) h =
    let f : 5 + 5 * i ≡ 5 * suc i = omega arith in
    row_in n (drop 5 ws) i (omega arith) ∙ rw (drop-drop (5 * i) 5 ws, f) refl

-- the rows of the words in front
rows_front : (n : ℕ) (ws us vs : List ℕ) → 5 * n ≤ length ws → rows_in n (ws ++ us) ≡ rows_in n (ws ++ vs)
unfolding rows_in
rows_front zero ws us vs h = refl
rows_front (suc n) ws us vs h =
    let g : (i : ℕ) → i < 5 → at (ws ++ us) i ≡ at (ws ++ vs) i = λ i k. get_or-append ws us 0 i (omega arith) ∙ sym (get_or-append ws vs 0 i (omega arith)) in
    let m : 5 * n ≤ length (drop 5 ws) = simp length-drop (omega arith) in
    let f : 5 ≤ length ws = omega arith in
    rw (g 0 (omega arith), g 1 (omega arith), g 2 (omega arith), g 3 (omega arith), g 4 (omega arith), drop-append-le 5 ws us f, drop-append-le 5 ws vs f)
    (ap (λ (rs : List Row). first_row (ws ++ vs) ∷ rs) (rows_front n (drop 5 ws) us vs m))

-- ---- the table that begins at b
drop_past : (p q : List ℕ) (b n : ℕ) → length p ≡ b → drop (b + n) (p ++ q) ≡ drop n q
drop_past p q b n e = rw (sym e) (drop-append-add p q n)

pub length_places : (b : ℕ) (l : List ℕ) → length (places_of b l) ≡ 64
unfolding places_of
length_places b l = length_rows_in 64 (drop (b + 1) l)

pub used_is : (b : ℕ) (l : List ℕ) → length (rows_from b l) ≡ min (at l b) 64
used_is b l = simp (length-take, length_places b l)

module _ (b : ℕ) (l : List ℕ) (h : b + 321 ≤ length l) where
  first_b : length (take b l) ≡ b
  first_b = length-take-le b l (omega arith)

  module _ (n : ℕ) (ps : List Row) (k : length ps ≡ 64) where
    words_64 : length (words_of ps) ≡ 320
    words_64 = omega (arith, length_words_of ps)

    pub length_tabled : length (tabled b n ps l) ≡ length l
    unfolding tabled
    length_tabled = simp (length-append, length-take, length-drop) (omega (arith, words_64))

    pub places_tabled : places_of b (tabled b n ps l) ≡ ps
    unfolding places_of tabled
    places_tabled =
        let e : drop (b + 1) (take b l ++ ((n ∷ words_of ps) ++ drop (b + 321) l)) ≡ words_of ps ++ drop (b + 321) l = drop_past (take b l) ((n ∷ words_of ps) ++ drop (b + 321) l) b 1 first_b in
        rw (e, sym k) (rows_words ps (drop (b + 321) l))

    pub count_tabled : at (tabled b n ps l) b ≡ n
    unfolding tabled
    count_tabled = get_or_at (take b l) n (words_of ps ++ drop (b + 321) l) 0 b first_b

    pub tabled_tabled : (m : ℕ) (qs : List Row) → tabled b m qs (tabled b n ps l) ≡ tabled b m qs l
    unfolding tabled
    tabled_tabled m qs =
        let t : take b (take b l ++ ((n ∷ words_of ps) ++ drop (b + 321) l)) ≡ take b l = take_at (take b l) ((n ∷ words_of ps) ++ drop (b + 321) l) b first_b in
        let u : length (n ∷ words_of ps) ≡ 321 = omega (arith, words_64) in
        let d : drop (b + 321) (take b l ++ ((n ∷ words_of ps) ++ drop (b + 321) l)) ≡ drop (b + 321) l = drop_past (take b l) ((n ∷ words_of ps) ++ drop (b + 321) l) b 321 first_b ∙ drop_at (n ∷ words_of ps) (drop (b + 321) l) 321 u in
        rw (t, d) refl

  pub tabled_own : tabled b (at l b) (places_of b l) l ≡ l
  unfolding tabled places_of
  tabled_own =
      let k : 5 * 64 ≤ length (drop (b + 1) l) = simp length-drop (omega arith) in
      let e : drop (b + 321) l ≡ drop 320 (drop (b + 1) l) = (let q : b + 1 + 320 ≡ b + 321 = omega arith in rw (drop-drop 320 (b + 1) l, q) refl) in
      let f : at l b ∷ drop (b + 1) l ≡ drop b l = rw add-one (sym (drop-cons l b 0 (omega arith))) in
      rw (words_rows 64 (drop (b + 1) l) k, e) (ap (λ (ws : List ℕ). take b l ++ (at l b ∷ ws)) (take-append-drop 320 (drop (b + 1) l)) ∙ rw f (take-append-drop b l))

-- ---- a row
module _ (b : ℕ) (l : List ℕ) (i : ℕ) (k : i < 64) where
  row_is : get_or (places_of b l) i no_row ≡ first_row (drop (b + 1 + 5 * i) l)
  unfolding places_of
  row_is = row_in 64 (drop (b + 1) l) i k ∙ rw (drop-drop (5 * i) (b + 1) l) refl

  pub key_is : at l (b + 1 + 5 * i) ≡ (get_or (places_of b l) i no_row).key
  key_is =
      let p = b + 1 + 5 * i in
      let z : p + 0 ≡ p = omega arith in
      sym (ap (λ (r : Row). r.key) row_is ∙ rw (get_or-drop p l 0 0, z) refl)

  pub read_is : record { key = at l (b + 1 + 5 * i); kind = at l (b + 1 + 5 * i + 1); a = at l (b + 1 + 5 * i + 2); b = at l (b + 1 + 5 * i + 3); c = at l (b + 1 + 5 * i + 4) } ≡ get_or (places_of b l) i no_row
  read_is =
      let p = b + 1 + 5 * i in
      let z : p + 0 ≡ p = omega arith in
      sym (row_is ∙ rw (get_or-drop p l 0 0, get_or-drop p l 1 0, get_or-drop p l 2 0, get_or-drop p l 3 0, get_or-drop p l 4 0, z) refl)

-- ---- a part of the table
regroup : (t a r d z : List ℕ) (c : ℕ) → (t ++ (c ∷ a)) ++ (r ++ (d ++ z)) ≡ t ++ ((c ∷ (a ++ (r ++ d))) ++ z)
regroup t a r d z c = simp append_assoc

module _ (b : ℕ) (l : List ℕ) (h : b + 321 ≤ length l) where
  before : (i : ℕ) → i ≤ 64 → take (b + 1 + 5 * i) l ≡ take b l ++ (at l b ∷ words_of (take i (places_of b l)))
  unfolding places_of
  before i k =
      let s : 5 * i ≤ length (drop (b + 1) l) = simp length-drop (omega arith) in
      let e : b + 1 + 5 * i ≡ b + (1 + 5 * i) = omega arith in
      let f : 1 + 5 * i ≡ suc (5 * i) = omega arith in
      rw (e, take-add b (1 + 5 * i) l, drop-cons l b 0 (omega arith), f, take_rows i 64 (drop (b + 1) l) k, words_rows i (drop (b + 1) l) s, add-one) refl

  behind : (j : ℕ) → j ≤ 64 → drop (b + 1 + 5 * j) l ≡ words_of (drop j (places_of b l)) ++ drop (b + 321) l
  unfolding places_of
  behind j k =
      let rest = drop (5 * j) (drop (b + 1) l) in
      let s : 5 * (64 - j) ≤ length rest = simp (length-drop) (omega arith) in
      let e : drop (b + 321) l ≡ drop (5 * (64 - j)) rest = (let q : b + 1 + (5 * j + 5 * (64 - j)) ≡ b + 321 = omega arith in rw (drop-drop (5 * (64 - j)) (5 * j) (drop (b + 1) l), drop-drop (5 * j + 5 * (64 - j)) (b + 1) l, q) refl) in
      let f : drop (b + 1 + 5 * j) l ≡ rest = rw (drop-drop (5 * j) (b + 1) l) refl in
      rw (f, e, drop_rows j 64 (drop (b + 1) l) k, words_rows (64 - j) rest s) (sym (take-append-drop (5 * (64 - j)) rest))

  module _ (i j : ℕ) (m : i ≤ j) (k : j ≤ 64) where
    -- rows that are written at the places from i on, up to j
    pub part_written : (rs : List Row) → put_mid (b + 1 + 5 * i) (b + 1 + 5 * j - (b + 1 + 5 * i)) l (words_of rs) ≡ tabled b (at l b) (take i (places_of b l) ++ (rs ++ drop j (places_of b l))) l
    unfolding tabled
    part_written rs =
        let ps = places_of b l in
        let q : b + 1 + 5 * i + (b + 1 + 5 * j - (b + 1 + 5 * i)) ≡ b + 1 + 5 * j = omega arith in
        rw (drop-drop (b + 1 + 5 * j - (b + 1 + 5 * i)) (b + 1 + 5 * i) l, q, before i (omega arith), behind j k, words_of_append (take i ps) (rs ++ drop j ps), words_of_append rs (drop j ps)) (regroup (take b l) (words_of (take i ps)) (words_of rs) (words_of (drop j ps)) (drop (b + 321) l) (at l b))

    -- the rows that are read there
    pub part_read : mid_of (b + 1 + 5 * i) (b + 1 + 5 * j - (b + 1 + 5 * i)) l ≡ words_of (drop i (take j (places_of b l)))
    part_read =
        let ps = places_of b l in
        let n : length (take j ps) ≡ j = length-take-le j ps (omega (arith, length_places b l)) in
        let e : drop i ps ≡ drop i (take j ps) ++ drop j ps = ap (drop i) (sym (take-append-drop j ps)) ∙ drop-append-le i (take j ps) (drop j ps) (omega arith) in
        let c : length (words_of (drop i (take j ps))) ≡ b + 1 + 5 * j - (b + 1 + 5 * i) = length_words_of (drop i (take j ps)) ∙ simp length-drop (omega arith) in
        rw (behind i (omega arith), e, words_of_append (drop i (take j ps)) (drop j ps), append_assoc (words_of (drop i (take j ps))) (words_of (drop j ps)) (drop (b + 321) l)) (take_at (words_of (drop i (take j ps))) (words_of (drop j ps) ++ drop (b + 321) l) _ c)

module _ (b : ℕ) (l : List ℕ) (h : b + 321 ≤ length l) (i : ℕ) (k : i < 64) where
  -- a row that is written at its place
  stored : (r : Row) → sets l (b + 1 + 5 * i) (r.key ∷ r.kind ∷ r.a ∷ r.b ∷ r.c ∷ []) ≡ tabled b (at l b) (set (places_of b l) i r) l
  unfolding tabled words_of
  stored r =
      let p = places_of b l in
      let s : i < length p = omega (arith, length_places b l) in
      let e : b + 1 + 5 * i + 5 ≡ b + 1 + 5 * suc i = omega arith in
      sets-eq (r.key ∷ r.kind ∷ r.a ∷ r.b ∷ r.c ∷ []) l (b + 1 + 5 * i) (omega arith)
      ∙ rw (before b l h i (omega arith), e, behind b l h (suc i) k, set_split p i r s, words_of_append (take i p) (r ∷ drop (suc i) p)) (simp append_assoc)

  pub write_is : (r : Row)
      → set (set (set (set (set l (b + 1 + 5 * i) r.key) (b + 1 + 5 * i + 1) r.kind) (b + 1 + 5 * i + 2) r.a) (b + 1 + 5 * i + 3) r.b) (b + 1 + 5 * i + 4) r.c
      ≡ tabled b (at l b) (set (places_of b l) i r) l
  write_is r =
      let p = b + 1 + 5 * i in
      let s1 : p + 1 ≡ suc p = omega arith in
      let s2 : p + 2 ≡ suc (suc p) = omega arith in
      let s3 : p + 3 ≡ suc (suc (suc p)) = omega arith in
      let s4 : p + 4 ≡ suc (suc (suc (suc p))) = omega arith in
      rw (s1, s2, s3, s4) (stored r)

-- ---- another table
module _ (b : ℕ) (l : List ℕ) (h : b + 321 ≤ length l) (n : ℕ) (ps : List Row) (k : length ps ≡ 64) (d : ℕ) where
  -- one that ends before it
  module _ (e : d + 321 ≤ b) where
    pub count_before : at (tabled b n ps l) d ≡ at l d
    unfolding tabled
    count_before =
        let s : d < length (take b l) = omega (arith, first_b b l h) in
        get_or-append (take b l) ((n ∷ words_of ps) ++ drop (b + 321) l) 0 d s
        ∙ sym (get_or-append (take b l) (drop b l) 0 d s) ∙ ap (λ (ws : List ℕ). at ws d) (take-append-drop b l)

    pub places_before : places_of d (tabled b n ps l) ≡ places_of d l
    unfolding places_of tabled
    places_before =
        let rest = (n ∷ words_of ps) ++ drop (b + 321) l in
        let s : d + 1 ≤ length (take b l) = omega (arith, first_b b l h) in
        let t : 5 * 64 ≤ length (drop (d + 1) (take b l)) = simp length-drop (omega (arith, first_b b l h)) in
        rw (drop-append-le (d + 1) (take b l) rest s)
        (rows_front 64 (drop (d + 1) (take b l)) rest (drop b l) t ∙ ap (rows_in 64) (sym (drop-append-le (d + 1) (take b l) (drop b l) s) ∙ ap (drop (d + 1)) (take-append-drop b l)))

  -- one that begins behind it
  module _ (e : b + 321 ≤ d) where
    behind_it : (m : ℕ) → drop (d + m) (tabled b n ps l) ≡ drop (d + m) l
    unfolding tabled
    behind_it m =
        let q : d + m ≡ b + (321 + (d + m - (b + 321))) = omega arith in
        let u : length (n ∷ words_of ps) ≡ 321 = omega (arith, words_64 b l h n ps k) in
        let v : b + 321 + (d + m - (b + 321)) ≡ d + m = omega arith in
        ap (λ (j : ℕ). drop j (take b l ++ ((n ∷ words_of ps) ++ drop (b + 321) l))) q
        ∙ drop_past (take b l) ((n ∷ words_of ps) ++ drop (b + 321) l) b (321 + (d + m - (b + 321))) (first_b b l h)
        ∙ drop_past (n ∷ words_of ps) (drop (b + 321) l) 321 (d + m - (b + 321)) u ∙ drop-drop (d + m - (b + 321)) (b + 321) l ∙ ap (λ (j : ℕ). drop j l) v

    pub count_behind : at (tabled b n ps l) d ≡ at l d
    count_behind = first_of (tabled b n ps l) ∙ ap (λ (ws : List ℕ). at ws 0) (behind_it 0) ∙ sym (first_of l)
      where
        first_of : (ws : List ℕ) → at ws d ≡ at (drop (d + 0) ws) 0
        first_of ws = let z : d + 0 ≡ d = omega arith in rw (get_or-drop (d + 0) ws 0 0, z, z) refl

    pub places_behind : places_of d (tabled b n ps l) ≡ places_of d l
    unfolding places_of
    places_behind = ap (rows_in 64) (behind_it 1)
