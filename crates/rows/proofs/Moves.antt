-- Places after a row is written in front of the others, or brought forward. Assumes nothing.
-- ---- the row at k is brought to i: what lies between moves up
use Prim.Native.Nat.{ℕ, suc, ◌≤◌, ◌<◌, ◌-◌, ◌+◌}
use mathlib.Core.Path.{◌≡◌, refl, ap, sym, ◌∙◌}
use mathlib.Core.Bool.{true, false}
use mathlib.Core.List.{List, [], ◌∷◌, ◌++◌, append_assoc, append-nil}
use native.Mathlib.Omega.{arith}
use native.Mathlib.Numerals.{add-one}
use lib.ListN.{length, get_or, take, drop, set, length-append, length-take, length-drop, drop_of_length-le}
use lib.Seq.{drop-cons, take-suc, take_at, drop_at, get_or_at, set_at, get_or-drop, get_or-append-add, drop-append-add, length-take-le, split_at}
use lib.Dec.{ltb}
use Rattle.prelude.specs.Lists.{such}
use Rattle.kinds.specs.declared.Row.{Row}
use Rattle.rows.specs.declared.Keep.TheVariants.{Below}
use Rattle.rows.specs.Rows.{kept, not_below}
use Rattle.rows.specs.Words.{no_row, filled, brought, divided}
use Rattle.rows.proofs.Lists.{such_append, two_sides}

unfoldable pub opened : List Row → ℕ → ℕ → List Row
opened ps j k = take (suc j) ps ++ (drop j (take k ps) ++ drop (suc k) ps)

module _ (ps : List Row) (k : ℕ) (h : k < length ps) where
  pub open_length : (j : ℕ) → j ≤ k → length (opened ps j k) ≡ length ps
  unfolding opened
  open_length j l = simp (length-append, length-take, length-drop) (omega arith)

  open_set : (j : ℕ) → j ≤ k → (v : Row) → set (opened ps j k) j v ≡ take j ps ++ (v ∷ (drop j (take k ps) ++ drop (suc k) ps))
  unfolding opened
  open_set j l v =
      let rest = drop j (take k ps) ++ drop (suc k) ps in
      rw (take-suc ps j no_row (omega arith), append_assoc (take j ps) (get_or ps j no_row ∷ []) rest) (set_at (take j ps) (get_or ps j no_row) rest v j (length-take-le j ps (omega arith)))

  pub open_end : (i : ℕ) → i ≤ k → set (opened ps i k) i (get_or ps k no_row) ≡ brought ps i k
  unfolding brought
  open_end i l = open_set i l (get_or ps k no_row)

  pub brought_length : (i : ℕ) → i ≤ k → length (brought ps i k) ≡ length ps
  unfolding brought
  brought_length i l = simp (length-append, length-take, length-drop) (omega arith)

  pub brought_self : brought ps k k ≡ ps
  unfolding brought
  brought_self =
      let z : length (take k ps) ≤ k = simp length-take (omega arith) in
      rw (drop_of_length-le (take k ps) z) (sym (split_at ps k no_row h))

-- brought behind the first of two parts
pub brought_is : (xs ys zs : List Row) (r : Row) (i k : ℕ) → length xs ≡ i → length (xs ++ ys) ≡ k → brought ((xs ++ ys) ++ (r ∷ zs)) i k ≡ xs ++ (r ∷ (ys ++ zs))
unfolding brought
brought_is xs ys zs r i k e f =
    let t : take i ((xs ++ ys) ++ (r ∷ zs)) ≡ xs = rw (append_assoc xs ys (r ∷ zs)) (take_at xs (ys ++ (r ∷ zs)) i e) in
    let d : drop (suc k) ((xs ++ ys) ++ (r ∷ zs)) ≡ zs = (let q : suc k ≡ length (xs ++ ys) + 1 = omega arith in rw q (drop-append-add (xs ++ ys) (r ∷ zs) 1)) in
    rw (t, d, get_or_at (xs ++ ys) r zs no_row k f, take_at (xs ++ ys) (r ∷ zs) k f, drop_at xs ys i e) refl

-- ---- rows in front
module _ (xs ps : List Row) (h : length xs ≤ length ps) where
  pub length_filled : length (filled xs ps) ≡ length ps
  length_filled = simp (length-append, length-drop) (omega arith)

  pub fill_read : (i : ℕ) → length xs ≤ i → get_or (filled xs ps) i no_row ≡ get_or ps i no_row
  fill_read i l =
      let q : i ≡ length xs + (i - length xs) = omega arith in
      ap (λ (j : ℕ). get_or (filled xs ps) j no_row) q ∙ get_or-append-add xs (drop (length xs) ps) (i - length xs) no_row ∙ get_or-drop (length xs) ps (i - length xs) no_row ∙ ap (λ (j : ℕ). get_or ps j no_row) (sym q)

  more_drop : (r : Row) → drop (length (xs ++ (r ∷ []))) ps ≡ drop (suc (length xs)) ps
  more_drop r = let q : length (xs ++ (r ∷ [])) ≡ suc (length xs) = simp length-append (omega arith) in rw q refl

  pub fill_more : (r : Row) (m : ℕ) → m ≡ length xs → m < length ps → set (filled xs ps) m r ≡ filled (xs ++ (r ∷ [])) ps
  fill_more r m e l =
      rw (more_drop r, drop-cons ps (length xs) no_row (omega arith), append_assoc xs (r ∷ []) (drop (suc (length xs)) ps)) (set_at xs (get_or ps (length xs) no_row) (drop (suc (length xs)) ps) r m (sym e))

  -- a row that stands there already
  pub fill_same : (i : ℕ) → i ≡ length xs → i < length ps → filled xs ps ≡ filled (xs ++ (get_or ps i no_row ∷ [])) ps
  fill_same i e l = rw (more_drop (get_or ps i no_row), e, drop-cons ps (length xs) no_row (omega arith), append_assoc xs (get_or ps (length xs) no_row ∷ []) (drop (suc (length xs)) ps)) refl

-- ---- rows below the key first
regroup : (xs ys zs : List Row) (r : Row) → ((xs ++ (r ∷ [])) ++ (ys ++ [])) ++ zs ≡ xs ++ (r ∷ (ys ++ zs))
regroup xs ys zs r = simp (append_assoc, append-nil)

module _ (k : ℕ) (ps : List Row) where
  parts : (i : ℕ) → i ≤ length ps → length (kept (Below k) (take i ps) ++ such (not_below k) (take i ps)) ≡ i
  parts i h = simp length-append (omega (arith, two_sides k (take i ps), length-take-le i ps h))

  pub divide_none : divided k 0 ps ≡ ps
  unfolding divided such
  divide_none = refl

  pub divide_length : (i : ℕ) → i ≤ length ps → length (divided k i ps) ≡ length ps
  unfolding divided
  divide_length i h =
      length-append (kept (Below k) (take i ps) ++ such (not_below k) (take i ps)) (drop i ps) ∙ simp (parts i h, length-drop) (omega arith)

  pub divide_read : (i : ℕ) → i < length ps → get_or (divided k i ps) i no_row ≡ get_or ps i no_row
  unfolding divided
  divide_read i h = rw (drop-cons ps i no_row h) (get_or_at (kept (Below k) (take i ps) ++ such (not_below k) (take i ps)) (get_or ps i no_row) (drop (suc i) ps) no_row i (parts i (omega arith)))

  module _ (i : ℕ) (h : i < length ps) where
    one_more : take (i + 1) ps ≡ take i ps ++ (get_or ps i no_row ∷ [])
    one_more = rw add-one (take-suc ps i no_row h)

    pub divide_above : ltb (get_or ps i no_row).key k ≡ false → divided k (i + 1) ps ≡ divided k i ps
    unfolding divided such
    divide_above e =
        rw (one_more, such_append (λ (r : Row). ltb r.key k) (take i ps) (get_or ps i no_row ∷ []), such_append (not_below k) (take i ps) (get_or ps i no_row ∷ []), e, add-one, drop-cons ps i no_row h)
        (simp (append_assoc, append-nil))

    pub divide_below : ltb (get_or ps i no_row).key k ≡ true → divided k (i + 1) ps ≡ brought (divided k i ps) (length (kept (Below k) (take i ps))) i
    unfolding divided such
    divide_below e =
        let low = kept (Below k) (take i ps) in
        let high = such (not_below k) (take i ps) in
        rw (one_more, such_append (λ (r : Row). ltb r.key k) (take i ps) (get_or ps i no_row ∷ []), such_append (not_below k) (take i ps) (get_or ps i no_row ∷ []), e, add-one, drop-cons ps i no_row h)
        (regroup low high (drop (suc i) ps) (get_or ps i no_row) ∙ sym (brought_is low high (drop (suc i) ps) (get_or ps i no_row) (length low) i refl (parts i (omega arith))))

    pub count_below : ltb (get_or ps i no_row).key k ≡ true → length (kept (Below k) (take (i + 1) ps)) ≡ length (kept (Below k) (take i ps)) + 1
    unfolding such
    count_below e = rw (one_more, such_append (λ (r : Row). ltb r.key k) (take i ps) (get_or ps i no_row ∷ []), e) (simp length-append)

    pub count_above : ltb (get_or ps i no_row).key k ≡ false → length (kept (Below k) (take (i + 1) ps)) ≡ length (kept (Below k) (take i ps))
    unfolding such
    count_above e = rw (one_more, such_append (λ (r : Row). ltb r.key k) (take i ps) (get_or ps i no_row ∷ []), e, append-nil) refl
