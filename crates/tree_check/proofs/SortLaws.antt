-- What a row leaves, by its op.
use mathlib.Core.Path.{◌≡◌, refl, sym, ◌∙◌}
use Prim.Native.Nat.{ℕ, ◌<◌, ◌≤◌}
use native.Mathlib.Omega.{arith}
use mathlib.Core.Bool.{Bool, true, false}
use lib.ListN.{get_or-eq_default}
use lib.Dec.{eqb, leb}
use borrow.Author.Tests.{ne_eqb, leb-true, leb-false}
use Rattle.tree_grammar.specs.Needs.{a_value, a_statement, a_block, serves, makes_by_op, made_by}
use Rattle.tree_grammar.proofs.Upto.{upto, ends, ◌and◌}

pub value_made : (op : ℕ) → op ≤ 8 → (op ≡ 4 → ⊥) → a_value ≡ made_by op
unfolding made_by
value_made op h = upto (λ n. (n ≡ 4 → ⊥) → a_value ≡ made_by n) 9
    ((λ f. refl) and (λ f. refl) and (λ f. refl) and (λ f. refl) and (λ f. absurd (f refl)) and (λ f. refl) and (λ f. refl) and (λ f. refl) and (λ f. refl) and ends) op (omega arith)

pub statement_made : (op : ℕ) → 9 < op → (op ≡ 11 → ⊥) → a_statement ≡ made_by op
unfolding made_by
statement_made op h f = by (leb 12 op) refl
  where
    by : (y : Bool) → leb 12 op ≡ y → a_statement ≡ made_by op
    by true e = sym (get_or-eq_default makes_by_op a_statement (leb-true 12 op e))
    by false e = let z : op ≡ 10 = omega (arith, leb-false 12 op e, f, h) in rw z

-- a BLOCK is made by op 9 alone
pub block_made : (op : ℕ) → eqb op 9 ≡ serves a_block (made_by op)
unfolding made_by
block_made op = by (leb 12 op) refl
  where
    by : (y : Bool) → leb 12 op ≡ y → eqb op 9 ≡ serves a_block (made_by op)
    by true e = let h : 12 ≤ op = leb-true 12 op e in ne_eqb op 9 (λ e. omega arith) ∙ rw (← (statement_made op (omega arith) (λ e. omega arith)))
    by false e = upto (λ n. eqb n 9 ≡ serves a_block (made_by n)) 12
        (refl and refl and refl and refl and refl and refl and refl and refl and refl and refl and refl and refl and ends) op (omega (arith, leb-false 12 op e))
