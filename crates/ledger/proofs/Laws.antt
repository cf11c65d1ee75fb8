-- What is laid in one table, on the ledger's three: the tables and the words. Assumes nothing.
use Prim.Native.Nat.{ℕ, ◌≤◌}
use mathlib.Core.Path.{◌≡◌, refl, ap, sym, ◌∙◌}
use mathlib.Core.Bool.{Bool, true, false}
use mathlib.Core.List.{List}
use native.Mathlib.Omega.{arith}
use lib.ListN.{length}
use Rattle.prelude.specs.Lists.{such}
use Rattle.kinds.specs.declared.Row.{Row}
use Rattle.rows.specs.declared.Table.TheVariants.{Dials, Windows, Paths}
use Rattle.rows.specs.Rows.{inserted, crowded}
use Rattle.rows.specs.Words.{rows_of, ledger_words, start_of}
use Rattle.rows.proofs.Words.{used_is}
use Rattle.rows.proofs.Lists.{such_≤}
use Rattle.rows.proofs.Laws.{inserted_fits}
use Rattle.rows.proofs.Tables.{laid_own, laid_length, laid_rows, laid_before, laid_behind}
use Rattle.prelude.specs.Choice.{pick}
use Rattle.std.specs.Prelude.{Option, Result}
use Rattle.path.specs.declared.Attribution.{Attribution}
use Rattle.refusal.specs.declared.Refusal.{Refusal}
use Rattle.ledger.specs.Ledger.{Attributed, PathLedger, full_or, full_refused, tables_of, laid, with_dials, with_windows, with_paths}
use Rattle.rows.specs.Words as words

module _ (ws : List ℕ) (h : length ws ≡ ledger_words) where
  own_dials : words.laid Dials (rows_of Dials ws) ws ≡ ws
  own_dials = laid_own 0 ws (omega arith)

  own_windows : words.laid Windows (rows_of Windows ws) ws ≡ ws
  own_windows = laid_own (start_of Windows) ws (omega arith)

  own_paths : words.laid Paths (rows_of Paths ws) ws ≡ ws
  own_paths = laid_own (start_of Paths) ws (omega arith)

  -- the tables as they are change no word
  pub laid_same : laid (tables_of ws) ws ≡ ws
  unfolding laid
  laid_same = rw (own_paths, own_windows) own_dials

module _ (ws : List ℕ) (h : length ws ≡ ledger_words) (rs : List Row) (k : length rs ≤ 64) where
  -- ---- dials
  pub dials_tables : tables_of (words.laid Dials rs ws) ≡ with_dials (tables_of ws) rs
  dials_tables = rw (laid_rows 0 ws (omega arith) rs k, laid_behind 0 ws (omega arith) rs k (start_of Windows) (omega arith), laid_behind 0 ws (omega arith) rs k (start_of Paths) (omega arith)) refl

  pub dials_words : words.laid Dials rs ws ≡ laid (with_dials (tables_of ws) rs) ws
  unfolding laid
  dials_words = rw (own_paths ws h, own_windows ws h) refl

  -- ---- windows
  pub windows_tables : tables_of (words.laid Windows rs ws) ≡ with_windows (tables_of ws) rs
  windows_tables = rw (laid_before (start_of Windows) ws (omega arith) rs k 0 (omega arith), laid_rows (start_of Windows) ws (omega arith) rs k, laid_behind (start_of Windows) ws (omega arith) rs k (start_of Paths) (omega arith)) refl

  pub windows_words : words.laid Windows rs ws ≡ laid (with_windows (tables_of ws) rs) ws
  unfolding laid
  windows_words =
      let after = words.laid Windows rs ws in
      let n : length after ≡ ledger_words = laid_length (start_of Windows) ws (omega arith) rs k ∙ h in
      let e : rows_of Dials ws ≡ rows_of Dials after = sym (laid_before (start_of Windows) ws (omega arith) rs k 0 (omega arith)) in
      rw (own_paths ws h) (sym (ap (λ (qs : List Row). words.laid Dials qs after) e ∙ own_dials after n))

  -- ---- paths
  pub paths_tables : tables_of (words.laid Paths rs ws) ≡ with_paths (tables_of ws) rs
  paths_tables = rw (laid_before (start_of Paths) ws (omega arith) rs k 0 (omega arith), laid_before (start_of Paths) ws (omega arith) rs k (start_of Windows) (omega arith), laid_rows (start_of Paths) ws (omega arith) rs k) refl

  paths_length : length (words.laid Paths rs ws) ≡ ledger_words
  paths_length = laid_length (start_of Paths) ws (omega arith) rs k ∙ h

  windows_stay : words.laid Windows (rows_of Windows ws) (words.laid Paths rs ws) ≡ words.laid Paths rs ws
  windows_stay =
      let after = words.laid Paths rs ws in
      let e : rows_of Windows ws ≡ rows_of Windows after = sym (laid_before (start_of Paths) ws (omega arith) rs k (start_of Windows) (omega arith)) in
      ap (λ (qs : List Row). words.laid Windows qs after) e ∙ own_windows after paths_length

  pub dials_stay : rows_of Dials (words.laid Paths rs ws) ≡ rows_of Dials ws
  dials_stay = laid_before (start_of Paths) ws (omega arith) rs k 0 (omega arith)

  pub paths_words : words.laid Paths rs ws ≡ laid (with_paths (tables_of ws) rs) ws
  unfolding laid
  paths_words =
      let after = words.laid Paths rs ws in
      rw windows_stay (sym (ap (λ (qs : List Row). words.laid Dials qs after) (sym dials_stay) ∙ own_dials after paths_length))

  -- ---- paths, then dials
  module _ (qs : List Row) (m : length qs ≤ 64) where
    pub both_tables : tables_of (words.laid Dials qs (words.laid Paths rs ws)) ≡ record { dials = qs; windows = rows_of Windows ws; paths = rs }
    both_tables = dials_tables' ∙ ap (λ (l : PathLedger). with_dials l qs) paths_tables
      where
        dials_tables' : tables_of (words.laid Dials qs (words.laid Paths rs ws)) ≡ with_dials (tables_of (words.laid Paths rs ws)) qs
        dials_tables' =
            let after = words.laid Paths rs ws in
            let n = paths_length in
            rw (laid_rows 0 after (omega arith) qs m, laid_behind 0 after (omega arith) qs m (start_of Windows) (omega arith), laid_behind 0 after (omega arith) qs m (start_of Paths) (omega arith)) refl

    pub both_words : words.laid Dials qs (words.laid Paths rs ws) ≡ laid (record { dials = qs; windows = rows_of Windows ws; paths = rs }) ws
    unfolding laid
    both_words = rw windows_stay refl

-- ---- a row that is entered, or for which there is no room
-- what a call leaves and answers that records a row, or is refused
pub record Enters (ws out : List ℕ) (full : Bool) (changed : PathLedger) : Type 0 where
  pub outcome : full_refused full ≡ (full_or full (tables_of ws) changed).outcome
  pub tables : tables_of out ≡ (full_or full (tables_of ws) changed).ledger
  pub words : out ≡ laid (full_or full (tables_of ws) changed).ledger ws

module _ (ws : List ℕ) (h : length ws ≡ ledger_words) {out : List ℕ} where
  enters : (full : Bool) (changed : PathLedger) → (full ≡ true → out ≡ ws) → (full ≡ false → (tables_of out ≡ changed) × (out ≡ laid changed ws)) → Enters ws out full changed
  enters true changed f g = let e = f refl in record { outcome = refl; tables = ap tables_of e; words = e ∙ sym (laid_same ws h) }
  enters false changed f g = let e = g refl in record { outcome = refl; tables = e.0; words = e.1 }

  module _ (row : Row) where
    pub dials_entered : out ≡ words.laid Dials (words.entered row (rows_of Dials ws)) ws → Enters ws out (crowded row.key (rows_of Dials ws)) (with_dials (tables_of ws) (inserted row (rows_of Dials ws)))
    dials_entered f =
        let rs = inserted row (rows_of Dials ws) in
        enters (crowded row.key (rows_of Dials ws)) (with_dials (tables_of ws) rs) (λ e. (rw e at f) ∙ own_dials ws h)
        (λ e. let g = rw e at f in let k = inserted_fits row (rows_of Dials ws) e in (ap tables_of g ∙ dials_tables ws h rs k, g ∙ dials_words ws h rs k))

    pub windows_entered : out ≡ words.laid Windows (words.entered row (rows_of Windows ws)) ws → Enters ws out (crowded row.key (rows_of Windows ws)) (with_windows (tables_of ws) (inserted row (rows_of Windows ws)))
    windows_entered f =
        let rs = inserted row (rows_of Windows ws) in
        enters (crowded row.key (rows_of Windows ws)) (with_windows (tables_of ws) rs) (λ e. (rw e at f) ∙ own_windows ws h)
        (λ e. let g = rw e at f in let k = inserted_fits row (rows_of Windows ws) e in (ap tables_of g ∙ windows_tables ws h rs k, g ∙ windows_words ws h rs k))

    pub paths_entered : out ≡ words.laid Paths (words.entered row (rows_of Paths ws)) ws → Enters ws out (crowded row.key (rows_of Paths ws)) (with_paths (tables_of ws) (inserted row (rows_of Paths ws)))
    paths_entered f =
        let rs = inserted row (rows_of Paths ws) in
        enters (crowded row.key (rows_of Paths ws)) (with_paths (tables_of ws) rs) (λ e. (rw e at f) ∙ own_paths ws h)
        (λ e. let g = rw e at f in let k = inserted_fits row (rows_of Paths ws) e in (ap tables_of g ∙ paths_tables ws h rs k, g ∙ paths_words ws h rs k))

-- of a path that is recorded: what an attribution leaves
pub named_left : (full : Bool) (l changed : PathLedger) (a b : Result (Option Attribution) Refusal)
    → (full_or full l changed).ledger ≡ (pick {A = Attributed} full (record { ledger = l; answer = a }) (record { ledger = changed; answer = b })).ledger
named_left true l changed a b = refl
named_left false l changed a b = refl

-- and what it answers
pub named_answer : (full : Bool) (l changed : PathLedger) (a b : Result (Option Attribution) Refusal)
    → pick full a b ≡ (pick {A = Attributed} full (record { ledger = l; answer = a }) (record { ledger = changed; answer = b })).answer
named_answer true l changed a b = refl
named_answer false l changed a b = refl

-- ---- rows that are dropped
module _ (ws : List ℕ) (h : length ws ≡ ledger_words) (p : Row → Bool) where
  pub such_64 : (b : ℕ) → length (such p (words.rows_from b ws)) ≤ 64
  such_64 b = omega (arith, such_≤ p (words.rows_from b ws), used_is b ws)

  module _ {out : List ℕ} where
    pub dials_such : out ≡ words.laid Dials (such p (rows_of Dials ws)) ws → (tables_of out ≡ with_dials (tables_of ws) (such p (rows_of Dials ws))) × (out ≡ laid (with_dials (tables_of ws) (such p (rows_of Dials ws))) ws)
    dials_such f = (ap tables_of f ∙ dials_tables ws h (such p (rows_of Dials ws)) (such_64 0), f ∙ dials_words ws h (such p (rows_of Dials ws)) (such_64 0))

    pub windows_such : out ≡ words.laid Windows (such p (rows_of Windows ws)) ws → (tables_of out ≡ with_windows (tables_of ws) (such p (rows_of Windows ws))) × (out ≡ laid (with_windows (tables_of ws) (such p (rows_of Windows ws))) ws)
    windows_such f = (ap tables_of f ∙ windows_tables ws h (such p (rows_of Windows ws)) (such_64 (start_of Windows)), f ∙ windows_words ws h (such p (rows_of Windows ws)) (such_64 (start_of Windows)))

-- ---- the law: tables that are laid are those of the words
pub tables_laid : (ws : List ℕ) → length ws ≡ ledger_words → (l : PathLedger) → length l.dials ≤ 64 → length l.windows ≤ 64 → length l.paths ≤ 64 → tables_of (laid l ws) ≡ l
unfolding laid
tables_laid ws h l d w p =
    let w1 = words.laid Paths l.paths ws in
    let n1 : length w1 ≡ ledger_words = laid_length (start_of Paths) ws (omega arith) l.paths p ∙ h in
    let w2 = words.laid Windows l.windows w1 in
    let n2 : length w2 ≡ ledger_words = laid_length (start_of Windows) w1 (omega arith) l.windows w ∙ n1 in
    dials_tables w2 n2 l.dials d ∙ ap (λ (x : PathLedger). with_dials x l.dials) (windows_tables w1 n1 l.windows w ∙ ap (λ (x : PathLedger). with_windows x l.windows) (paths_tables ws h l.paths p))
