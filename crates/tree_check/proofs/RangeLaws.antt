-- The ranges of a row as the code tests them: each column against its limit.
use mathlib.Core.Path.{◌≡◌, refl, sym, ap, ◌∙◌}
use Prim.Native.Nat.{ℕ, ◌<◌, ◌≤◌}
use native.Mathlib.Omega.{arith}
use mathlib.Core.Logic.{◌⊎◌, inl, inr}
use mathlib.Core.List.{List, [], ◌∷◌}
use mathlib.Core.Bool.{Bool, true, false, ◌&&◌}
use lib.ListN.{get_or, get_or-eq_default}
use lib.Dec.{eqb, leb}
use borrow.Author.Tests.{le-leb, lt-leb, leb-true, leb-false}
use Rattle.std.specs.Prelude.{nat_lt}
use Rattle.std.specs.List.{list_all, zip}
use Rattle.table.specs.Check.{unused, fits}
use Rattle.table.proofs.RuleLaws.{fits_limit}
use Rattle.definition.specs.Tree.{row}
use Rattle.tree_grammar.specs.Ranges.{rules_by_op, row_rules, fits_column, in_range}
use Rattle.tree_grammar.proofs.Upto.{upto, ends, ◌and◌}
use Rattle.tree_check.specs.Takes.{limit_of, limits_of}

-- no op has a column e
e_unused : (op : ℕ) → op < 26 → get_or (get_or rules_by_op op []) 4 unused ≡ unused
e_unused = upto (λ op. get_or (get_or rules_by_op op []) 4 unused ≡ unused) 26
    (refl and refl and refl and refl and refl and refl and refl and refl and refl and refl and refl and refl and refl
    and refl and refl and refl and refl and refl and refl and refl and refl and refl and refl and refl and refl and refl
    and ends)

pub no_columns : (op a b c d : ℕ) → (op ≤ 25 → op ≡ 0) → 1 ∷ 1 ∷ 1 ∷ 1 ∷ [] ≡ limits_of op a b c d
unfolding row_rules
no_columns op a b c d f = by (leb 26 op) refl
  where
    by : (y : Bool) → leb 26 op ≡ y → 1 ∷ 1 ∷ 1 ∷ 1 ∷ [] ≡ limits_of op a b c d
    by true e = rw (get_or-eq_default rules_by_op [] (leb-true 26 op e))
    by false e = let z : op ≡ 0 = f (omega (arith, leb-false 26 op e)) in rw z

all_and : (u v x y z : Bool) → (u && (v && (x && (y && true)))) && z ≡ u && (v && (x && (y && z)))
all_and true true true true z = refl
all_and true true true false z = refl
all_and true true false y z = refl
all_and true false x y z = refl
all_and false v x y z = refl

module _ (op a b c d e : ℕ) where
  pub no_op : (op ≡ 0) ⊎ ((op ≡ 0 → ⊥) × (25 < op)) → false ≡ in_range (row op a b c d e)
  unfolding in_range
  no_op (inl z) = rw z
  no_op (inr (f, h)) = rw (le-leb 1 op (omega (arith, f)), lt-leb op 25 h)

  column : (k w : ℕ) → fits_column op k w ≡ nat_lt w (limit_of op k w)
  unfolding fits_column
  column k w = fits_limit (get_or (row_rules op) k unused) w

  column_e : op ≤ 25 → fits_column op 4 e ≡ eqb e 0
  unfolding fits_column row_rules fits
  column_e known = rw (e_unused op (omega arith))

  module _ (f : op ≡ 0 → ⊥) (known : op ≤ 25) {limits : List ℕ} (is : limits ≡ limits_of op a b c d) {below : Bool}
      (fit : below ≡ list_all (λ p. nat_lt p.0 p.1) (zip (a ∷ b ∷ c ∷ d ∷ []) limits)) where
    columns : in_range (row op a b c d e)
        ≡ nat_lt a (limit_of op 0 a) && (nat_lt b (limit_of op 1 b) && (nat_lt c (limit_of op 2 c) && (nat_lt d (limit_of op 3 d) && eqb e 0)))
    unfolding in_range
    columns = rw (le-leb 1 op (omega (arith, f)), le-leb op 25 known, column 0 a, column 1 b, column 2 c, column 3 d, column_e known)

    in_range_by : below && eqb e 0 ≡ in_range (row op a b c d e)
    in_range_by =
        ap (λ (y : Bool). y && eqb e 0) (fit ∙ ap (λ (l : List ℕ). list_all (λ p. nat_lt p.0 p.1) (zip (a ∷ b ∷ c ∷ d ∷ []) l)) is)
        ∙ (all_and (nat_lt a (limit_of op 0 a)) (nat_lt b (limit_of op 1 b)) (nat_lt c (limit_of op 2 c)) (nat_lt d (limit_of op 3 d)) (eqb e 0) ∙ sym columns)

    pub all_told : below ≡ true → eqb e 0 ≡ in_range (row op a b c d e)
    all_told h = rw h at in_range_by

    pub one_told : below ≡ false → below ≡ in_range (row op a b c d e)
    one_told h = h ∙ (rw h at in_range_by)
