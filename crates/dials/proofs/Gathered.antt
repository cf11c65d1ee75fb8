-- A loop that gathers what the rows give, one after another: tokens, connections. Assumes nothing.
-- the column holds what the first i rows give
use Prim.Native.Nat.{ℕ, ◌≤◌, ◌<◌, ◌+◌}
use mathlib.Core.Path.{◌≡◌, refl, ap, sym, ◌∙◌}
use mathlib.Core.List.{List, [], ◌∷◌, ◌++◌, append-nil}
use native.Mathlib.Omega.{arith}
use lib.ListN.{length, get_or, take}
use lib.Seq.{take_all}
use Rattle.ids.specs.declared.NatToken.{NatToken}
use Rattle.ids.specs.declared.ConnectionId.{ConnectionId}
use Rattle.dials.specs.declared.Column.{Column}
use Rattle.kinds.specs.declared.Row.{Row}
use Rattle.rows.specs.Words.{no_row}
use Rattle.std.specs.Prelude.{Option, None, Some}
use mathlib.Core.Logic.{◌⊎◌, inl, inr}
use Rattle.dials.specs.declared.Fate.{Fate}
use Rattle.dials.specs.declared.Fate.TheVariants.{Stays, Goes}
use Rattle.dials.specs.Dials.{retired_by, closed_by, each, pairs, column_of, pushed}
use Rattle.dials.proofs.Fill.{pushed_column, all_held}
use Rattle.dials.proofs.Each.{each_more, length_pairs}

pub record Gathered {C : Type 0} (z : C) (f : Row × Option ConnectionId → List C) (rs : List Row) (firsts : List (Option ConnectionId)) (i : ℕ) (column : Column C) : Type 0 where
  pub count_≤ : column.count ≤ i
  pub holds : column ≡ column_of z (each f (take i (pairs rs firsts)))

module _ {C : Type 0} {z : C} {f : Row × Option ConnectionId → List C} {rs : List Row} {firsts : List (Option ConnectionId)} where
  pub none_yet : {column : Column C} → column ≡ column_of z [] → Gathered z f rs firsts 0 column
  unfolding each column_of
  none_yet e = record { count_≤ = omega (arith, ap (λ (c : Column C). c.count) e); holds = e }

  module _ {i : ℕ} {column : Column C} (g : Gathered z f rs firsts i column) where
    module _ (l : i < length rs) (h : length rs ≤ length firsts) where
      more : {given : List C} → f (get_or rs i no_row, get_or firsts i None) ≡ given
          → each f (take i (pairs rs firsts)) ++ given ≡ each f (take (i + 1) (pairs rs firsts))
      more e = sym (each_more rs i firsts no_row None l h f ∙ ap (λ (t : List C). each f (take i (pairs rs firsts)) ++ t) e)

      pub gives : {y : C} → f (get_or rs i no_row, get_or firsts i None) ≡ y ∷ [] → i < 64 → Gathered z f rs firsts (i + 1) (pushed column y)
      gives {y} e b =
          let few = all_held z (each f (take i (pairs rs firsts))) g.holds (omega (arith, g.count_≤)) in
          record {
            count_≤ = omega (arith, g.count_≤);
            holds = ap (λ (c : Column C). pushed c y) g.holds ∙ pushed_column z (each f (take i (pairs rs firsts))) y few ∙ ap (column_of z) (more e);
          }

      pub gives_none : f (get_or rs i no_row, get_or firsts i None) ≡ [] → Gathered z f rs firsts (i + 1) column
      gives_none e = record { count_≤ = omega (arith, g.count_≤); holds = g.holds ∙ ap (column_of z) (sym (append-nil _) ∙ more e) }

    -- after the last row
    pub all_given : length rs ≤ i → length rs ≤ length firsts → column ≡ column_of z (each f (pairs rs firsts))
    all_given o h = g.holds ∙ ap (λ (ps : List (Row × Option ConnectionId)). column_of z (each f ps)) (take_all i (pairs rs firsts) (omega (arith, length_pairs rs firsts h)))

-- ---- what a dial's fate gives: a token that is retired and no connection to close
pub token_given : (t : Fate) (x : NatToken) → (t ≡ Stays x) ⊎ (t ≡ Goes x) → retired_by (Some t) ≡ x ∷ []
token_given t x (inl e) = rw e refl
token_given t x (inr e) = rw e refl

pub none_closed : (row : Row) (t : Fate) (x : NatToken) → (t ≡ Stays x) ⊎ (t ≡ Goes x) → closed_by row (Some t) ≡ []
none_closed row t x (inl e) = rw e refl
none_closed row t x (inr e) = rw e refl
