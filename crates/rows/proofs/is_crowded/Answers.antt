use mathlib.Core.Path.{◌≡◌, refl, ap, sym, ◌∙◌}
use Prim.Native.Nat.{ℕ, ◌<◌}
use mathlib.Core.List.{List}
use native.Mathlib.Omega.{arith}
use borrow.Author.Tests.{le-leb, lt-leb}
use lib.ListN.{length}
use Rattle.std.proofs.Common.{rules}
use Rattle.std.specs.Prelude.{None, Option, Some}
use Rattle.std.specs.Option.{is_none}
use Rattle.kinds.specs.declared.Entry.{Entry}
use Rattle.kinds.specs.declared.Row.{Row}
use Rattle.rows.specs.Rows.{crowded, find_in, without, keeps_row}
use Rattle.rows.specs.Words.{rows_of}
use Rattle.rows.specs.declared.Keep.TheVariants.{Other}
use Rattle.rows.proofs.Lists.{such_≤, none_removed, one_removed}
use Rattle.rows.proofs.is_crowded.Goals as goal

-- of a full table
crowded_full : (key : ℕ) (rs : List Row) → length rs ≡ 64 → is_none (find_in key rs) ≡ crowded key rs
crowded_full key rs n = go (find_in key rs) refl
  where
    go : (o : Option Entry) → find_in key rs ≡ o → is_none o ≡ crowded key rs
    go None e = rw (none_removed key rs e) (sym (le-leb 64 (length rs) (omega (arith, n))))
    go (Some x) e = sym (lt-leb 64 (length (without key rs)) (omega (arith, n, one_removed key rs e)))

pub returns-then-used-lt-ROWS : goal.returns-then-used-lt-ROWS
returns-then-used-lt-ROWS c =
    let a = c.args in
    let rs = rows_of a.table a.l.now in
    let n : length rs < 64 = omega arith in
    sym (lt-leb 64 (length (without a.key rs)) (omega (arith, such_≤ (keeps_row (Other a.key)) rs)))

pub returns : goal.returns
returns c =
    let a = c.args in
    let rs = rows_of a.table a.l.now in
    let n : length rs ≡ 64 = omega arith in
    let e : c.is_none.result ≡ is_none c.find.result = search rules in
    e ∙ ap is_none c.find.ensures ∙ crowded_full a.key rs n
