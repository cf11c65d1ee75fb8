-- What callers of the tables lean on: what is found after a row is inserted or rows are removed, lengths, order. Assumes nothing.
use Prim.Native.Nat.{ℕ, suc, ◌≤◌, ◌<◌, ◌+◌}
use mathlib.Core.Path.{◌≡◌, refl, ap, sym, ◌∙◌}
use mathlib.Core.Bool.{Bool, true, false}
use mathlib.Core.List.{List, [], ◌∷◌, ◌++◌}
use native.Mathlib.Omega.{arith}
use borrow.Author.Tests.{ltb-true, ltb-false, lt-ltb, le-ltb, eqb-true, eq-eqb, ne_eqb, leb-true, leb-false, le-leb}
use lib.ListN.{length, length-append}
use lib.Dec.{eqb, ltb}
use Rattle.std.specs.Prelude.{None, Option, Some}
use Rattle.prelude.specs.Lists.{such}
use Rattle.prelude.specs.Choice.{pick, no}
use Rattle.kinds.specs.declared.Row.{Row}
use Rattle.rows.specs.declared.Keep.TheVariants.{Below as KeepBelow, Above as KeepAbove, Other as KeepOther}
use Rattle.kinds.specs.declared.Entry.{Entry}
use Rattle.kinds.specs.Kinds.{entry_of, row_of}
use Rattle.rows.specs.Rows.{find_in, keeps_row, kept, without, inserted, crowded}
use Rattle.rows.specs.Ascending.{Below, Ascending}
use Rattle.rows.specs.Ascending.Below.{none as below_none, more as below_more}
use Rattle.rows.specs.Ascending.Ascending.{none as ascending-none, more as ascending-more}
use Rattle.kinds.proofs.EntryRows.{entry_back}
use Rattle.rows.proofs.Lists.{ne_lt, such_≤, none_removed, one_removed}

both_ways : {A : Type 0} → true ≡ false → A
both_ways e = let z : ◌≡◌ {A = ℕ} 0 1 = cc in absurd (omega arith)

-- ---- found after rows are dropped
module _ (k : ℕ) (p : Row → Bool) where
  pub find_kept : ((r : Row) → r.key ≡ k → p r ≡ true) → (rs : List Row) → find_in k (such p rs) ≡ find_in k rs
  unfolding find_in such
  find_kept h [] = refl
  find_kept h (r ∷ rs) = go (eqb r.key k) refl (p r) refl (find_kept h rs)
    where
      go : (t : Bool) → eqb r.key k ≡ t → (q : Bool) → p r ≡ q → find_in k (such p rs) ≡ find_in k rs
          → find_in k (pick q (r ∷ such p rs) (such p rs)) ≡ pick t (Some (entry_of r)) (find_in k rs)
      go true e true f ih = simp e
      go true e false f ih = both_ways (sym (h r (eqb-true r.key k e)) ∙ f)
      go false e true f ih = simp (e, ih)
      go false e false f ih = ih

  pub find_dropped : ((r : Row) → r.key ≡ k → p r ≡ false) → (rs : List Row) → find_in k (such p rs) ≡ None
  unfolding find_in such
  find_dropped h [] = refl
  find_dropped h (r ∷ rs) = go (eqb r.key k) refl (p r) refl (find_dropped h rs)
    where
      go : (t : Bool) → eqb r.key k ≡ t → (q : Bool) → p r ≡ q → find_in k (such p rs) ≡ None → find_in k (pick q (r ∷ such p rs) (such p rs)) ≡ None
      go true e true f ih = both_ways (sym f ∙ h r (eqb-true r.key k e))
      go true e false f ih = ih
      go false e true f ih = simp (e, ih)
      go false e false f ih = ih

pub find_without : (k : ℕ) (rs : List Row) → find_in k (without k rs) ≡ None
find_without k rs = find_dropped k (keeps_row (KeepOther k)) (λ r e. simp (eq-eqb r.key k e)) rs

pub find_without_other : (k j : ℕ) → (k ≡ j → ⊥) → (rs : List Row) → find_in k (without j rs) ≡ find_in k rs
find_without_other k j n rs = find_kept k (keeps_row (KeepOther j)) (λ r e. simp (ne_eqb r.key j (λ q. n (sym e ∙ q)))) rs

-- ---- found after a row is inserted
abbrev or_else : Option Entry → Option Entry → Option Entry
or_else (Some e) f = Some e
or_else None f = f

find_append : (k : ℕ) (a b : List Row) → find_in k (a ++ b) ≡ or_else (find_in k a) (find_in k b)
unfolding find_in
find_append k [] b = refl
find_append k (r ∷ a) b = go (eqb r.key k) (find_append k a b)
  where
    go : (t : Bool) → find_in k (a ++ b) ≡ or_else (find_in k a) (find_in k b) → pick t (Some (entry_of r)) (find_in k (a ++ b)) ≡ or_else (pick t (Some (entry_of r)) (find_in k a)) (find_in k b)
    go true ih = refl
    go false ih = ih

or_nothing : (f : Option Entry) → or_else f None ≡ f
or_nothing (Some e) = refl
or_nothing None = refl

not_below_itself : (k : ℕ) (r : Row) → r.key ≡ k → ltb r.key k ≡ false
not_below_itself k r e = le-ltb r.key k (omega arith)

pub find_inserted : (r : Row) (rs : List Row) → find_in r.key (inserted r rs) ≡ Some (entry_of r)
unfolding find_in
find_inserted r rs =
    find_append r.key (kept (KeepBelow r.key) rs) (r ∷ kept (KeepAbove r.key) rs)
    ∙ simp (find_dropped r.key (keeps_row (KeepBelow r.key)) (not_below_itself r.key) rs, eq-eqb r.key r.key refl)

-- an entry that is inserted is found
pub find_entered : (k : ℕ) (e : Entry) (rs : List Row) → find_in k (inserted (row_of k e) rs) ≡ Some e
find_entered k e rs = find_inserted (row_of k e) rs ∙ ap Some (entry_back k e)

module _ (k : ℕ) (r : Row) (n : k ≡ r.key → ⊥) (rs : List Row) where
  after_row : find_in k (r ∷ kept (KeepAbove r.key) rs) ≡ find_in k (kept (KeepAbove r.key) rs)
  unfolding find_in
  after_row = simp (ne_eqb r.key k (λ e. n (sym e)))

  pub find_inserted_other : find_in k (inserted r rs) ≡ find_in k rs
  find_inserted_other = find_append k (kept (KeepBelow r.key) rs) (r ∷ kept (KeepAbove r.key) rs) ∙ ap (or_else (find_in k (kept (KeepBelow r.key) rs))) after_row ∙ go (ltb k r.key) refl
    where
      go : (t : Bool) → ltb k r.key ≡ t → or_else (find_in k (kept (KeepBelow r.key) rs)) (find_in k (kept (KeepAbove r.key) rs)) ≡ find_in k rs
      go true e =
          let l = ltb-true k r.key e in
          simp (find_dropped k (keeps_row (KeepAbove r.key)) (λ x q. le-ltb r.key x.key (omega arith)) rs, find_kept k (keeps_row (KeepBelow r.key)) (λ x q. lt-ltb x.key r.key (omega arith)) rs) (or_nothing (find_in k rs))
      go false e =
          let l = ltb-false k r.key e in
          simp (find_dropped k (keeps_row (KeepBelow r.key)) (λ x q. le-ltb x.key r.key (omega arith)) rs, find_kept k (keeps_row (KeepAbove r.key)) (λ x q. lt-ltb r.key x.key (omega (arith, ne_lt k r.key n l))) rs)

-- ---- lengths
parts : (k : ℕ) (rs : List Row) → length (kept (KeepBelow k) rs) + length (kept (KeepAbove k) rs) ≡ length (without k rs)
unfolding such
parts k [] = refl
parts k (x ∷ rs) = go (ltb x.key k) refl (ltb k x.key) refl (parts k rs)
  where
    go : (t : Bool) → ltb x.key k ≡ t → (u : Bool) → ltb k x.key ≡ u → length (kept (KeepBelow k) rs) + length (kept (KeepAbove k) rs) ≡ length (without k rs)
        → length (pick t (x ∷ kept (KeepBelow k) rs) (kept (KeepBelow k) rs)) + length (pick u (x ∷ kept (KeepAbove k) rs) (kept (KeepAbove k) rs)) ≡ length (pick (no (eqb x.key k)) (x ∷ without k rs) (without k rs))
    go true e true f ih = absurd (omega (arith, ltb-true x.key k e, ltb-true k x.key f))
    go true e false f ih = let l = ltb-true x.key k e in simp (ne_eqb x.key k (λ q. omega arith)) (omega arith)
    go false e true f ih = let l = ltb-true k x.key f in simp (ne_eqb x.key k (λ q. omega arith)) (omega arith)
    go false e false f ih = let q : x.key ≡ k = omega (arith, ltb-false x.key k e, ltb-false k x.key f) in simp (eq-eqb x.key k q) ih

pub length_inserted : (r : Row) (rs : List Row) → length (inserted r rs) ≡ suc (length (without r.key rs))
length_inserted r rs = simp length-append (omega (arith, parts r.key rs))

-- a row that is no 65th fits
pub inserted_fits : (r : Row) (rs : List Row) → crowded r.key rs ≡ false → length (inserted r rs) ≤ 64
inserted_fits r rs e = omega (arith, length_inserted r rs, leb-false 64 (length (without r.key rs)) e)

-- ---- order
below_such : {k : ℕ} (p : Row → Bool) {rs : List Row} → Below k rs → Below k (such p rs)
unfolding such
below_such p below_none = below_none
below_such {k} p (below_more {r} {rs} l b) = go (p r) (below_such p b)
  where
    go : (t : Bool) → Below k (such p rs) → Below k (pick t (r ∷ such p rs) (such p rs))
    go true ih = below_more l ih
    go false ih = ih

pub ascending_such : (p : Row → Bool) {rs : List Row} → Ascending rs → Ascending (such p rs)
unfolding such
ascending_such p ascending-none = ascending-none
ascending_such p (ascending-more {r} {rs} b a) = go (p r) (ascending_such p a)
  where
    go : (t : Bool) → Ascending (such p rs) → Ascending (pick t (r ∷ such p rs) (such p rs))
    go true ih = ascending-more (below_such p b) ih
    go false ih = ih

below_append : {k : ℕ} {a b : List Row} → Below k a → Below k b → Below k (a ++ b)
below_append below_none q = q
below_append (below_more l p) q = below_more l (below_append p q)

below_less : {j k : ℕ} {rs : List Row} → j ≤ k → Below k rs → Below j rs
below_less h below_none = below_none
below_less {j} h (below_more {r} l b) = let q : j < r.key = omega arith in below_more q (below_less h b)

-- the rows above a number
above_are : (k : ℕ) (rs : List Row) → Below k (kept (KeepAbove k) rs)
unfolding such
above_are k [] = below_none
above_are k (r ∷ rs) = go (ltb k r.key) refl (above_are k rs)
  where
    go : (t : Bool) → ltb k r.key ≡ t → Below k (kept (KeepAbove k) rs) → Below k (pick t (r ∷ kept (KeepAbove k) rs) (kept (KeepAbove k) rs))
    go true e ih = below_more (ltb-true k r.key e) ih
    go false e ih = ih

none_below : {k : ℕ} {rs : List Row} → Below k rs → kept (KeepBelow k) rs ≡ []
unfolding such
none_below below_none = refl
none_below {k} (below_more {r} l b) = simp (le-ltb r.key k (omega arith)) (none_below b)

pub ascending_inserted : (r : Row) {rs : List Row} → Ascending rs → Ascending (inserted r rs)
unfolding such
ascending_inserted r ascending-none = ascending-more below_none ascending-none
ascending_inserted r (ascending-more {r = x} {rs} b a) = go (ltb x.key r.key) refl (ascending_inserted r a)
  where
    go : (t : Bool) → ltb x.key r.key ≡ t → Ascending (inserted r rs)
        → Ascending (pick t (x ∷ kept (KeepBelow r.key) rs) (kept (KeepBelow r.key) rs) ++ (r ∷ kept (KeepAbove r.key) (x ∷ rs)))
    go true e ih =
        let l = ltb-true x.key r.key e in
        rw (le-ltb r.key x.key (omega arith))
        (ascending-more (below_append (below_such (keeps_row (KeepBelow r.key)) b) (below_more l (below_such (keeps_row (KeepAbove r.key)) b))) ih)
    go false e ih =
        let l = ltb-false x.key r.key e in
        rw (none_below (below_less l b))
        (ascending-more (above_are r.key (x ∷ rs)) (ascending_such (keeps_row (KeepAbove r.key)) (ascending-more b a)))

-- ---- the 65th row
pub crowded_is : (k : ℕ) (rs : List Row) → length rs ≤ 64 → crowded k rs ≡ true → (length rs ≡ 64) × (find_in k rs ≡ None)
crowded_is k rs h e =
    let n = leb-true 64 (length (without k rs)) e in
    (omega (arith, such_≤ (keeps_row (KeepOther k)) rs), go (find_in k rs) refl)
  where
    go : (f : Option Entry) → find_in k rs ≡ f → f ≡ None
    go (Some x) q = absurd (omega (arith, one_removed k rs q, leb-true 64 (length (without k rs)) e))
    go None q = refl

pub is_crowded : (k : ℕ) (rs : List Row) → length rs ≡ 64 → find_in k rs ≡ None → crowded k rs ≡ true
is_crowded k rs h e = rw (none_removed k rs e) (le-leb 64 (length rs) (omega arith))
