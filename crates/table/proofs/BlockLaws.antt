-- A block of the table, by its words: for the walks, which read the words.
use mathlib.Core.Path.{◌≡◌, refl, ap, ◌∙◌}
use mathlib.Core.Bool.{Bool, true, false, ◌&&◌}
use mathlib.Core.List.{List}
use mathlib.Core.Option.{none, some}
use Prim.Native.Nat.{ℕ, zero, suc, ◌≤◌, ◌<◌}
use native.Mathlib.Omega.{arith}
use lib.Dec.{eqb}
use lib.ListN.{length}
use borrow.Author.Tests.{eqb-true, ne_eqb}
use Rattle.table.specs.Words.{block_count, block_word}
use Rattle.table.specs.Table.{Block, Variant, Try, goto, branch, table_of, block_of, terminal_of, terminal_at, block_at, rows_from, code_of, variant_of, unless_none}
use Rattle.table.specs.Promise.{Promise}
use Rattle.table.proofs.TableLaws.{block_at_lem}
use Rattle.table.proofs.RangeLaws.{code_known}

module _ (ws : List ℕ) (b : ℕ) (h : b < block_count ws) where
  pub end_at : terminal_at (table_of ws) b ≡ terminal_of (block_word ws b 2) (block_word ws b 3) (block_word ws b 4) (block_word ws b 5) (block_word ws b 6) (block_word ws b 7)
  unfolding block_of
  end_at = ap (λ (k : Block). k.terminal) (block_at_lem ws b h)

  pub id_at : (block_at (table_of ws) b).id ≡ block_word ws b 8
  unfolding block_of
  id_at = ap (λ (k : Block). k.id) (block_at_lem ws b h)

  pub span_at : (block_at (table_of ws) b).span ≡ record { from = block_word ws b 9; to = block_word ws b 10 }
  unfolding block_of
  span_at = ap (λ (k : Block). k.span) (block_at_lem ws b h)

  -- the terminal, where the code is known
  pub end_by : (code : ℕ) → block_word ws b 2 ≡ code
      → terminal_at (table_of ws) b ≡ terminal_of code (block_word ws b 3) (block_word ws b 4) (block_word ws b 5) (block_word ws b 6) (block_word ws b 7)
  end_by code e = end_at ∙ ap (λ (z : ℕ). terminal_of z (block_word ws b 3) (block_word ws b 4) (block_word ws b 5) (block_word ws b 6) (block_word ws b 7)) e

  pub goto_at : block_word ws b 2 ≡ 4 → (v : Variant) → variant_of (block_word ws b 4) ≡ v → terminal_at (table_of ws) b ≡ goto (block_word ws b 3) v
  unfolding terminal_of
  goto_at code v e = end_by 4 code ∙ ap (goto (block_word ws b 3)) e

  pub branch_at : block_word ws b 2 ≡ 6 → terminal_at (table_of ws) b ≡ branch (block_word ws b 3) (block_word ws b 4) (block_word ws b 5)
  unfolding terminal_of
  branch_at code = end_by 6 code

-- a Goto's variant other than 0 and 1
pub try_variant : (n : ℕ) → (n ≡ 0 → ⊥) → (n ≡ 1 → ⊥) → variant_of n ≡ Try
unfolding variant_of
try_variant zero f g = absurd (f refl)
try_variant (suc zero) f g = absurd (g refl)
try_variant (suc (suc n)) f g = refl

pub length_rows : (first count : ℕ) → length (rows_from first count) ≡ count
length_rows first zero = refl
length_rows first (suc count) = ap suc (length_rows (suc first) count)

-- ---- the code of a block's terminal

-- a test of each number below n, by computation
abbrev all_below : ℕ → (ℕ → Bool) → Bool
all_below zero f = true
all_below (suc n) f = f 0 && all_below n (λ k. f (suc k))

both : (x y : Bool) → x && y ≡ true → (x ≡ true) × (y ≡ true)
both true y h = (refl, h)
both false y h = let z : ◌≡◌ {A = ℕ} 0 1 = cc in absurd (omega arith)

below : (n : ℕ) (f : ℕ → Bool) → all_below n f ≡ true → (i : ℕ) → i < n → f i ≡ true
below zero f h i q = absurd (omega arith)
below (suc n) f h zero q = (both (f 0) (all_below n (λ k. f (suc k))) h).0
below (suc n) f h (suc i) q = below n (λ k. f (suc k)) (both (f 0) (all_below n (λ k. f (suc k))) h).1 i (omega arith)

code_of_lem : (code a b c d e : ℕ) → code ≤ 21 → code_of (terminal_of code a b c d e) ≡ code
unfolding terminal_of
code_of_lem code a b c d e h = eqb-true _ _ (below 22 (λ k. eqb (code_of (terminal_of k a b c d e)) k) refl code (omega arith))

pub code_at_lem : (ws : List ℕ) (b : ℕ) → Promise ws → b < block_count ws → code_of (terminal_at (table_of ws) b) ≡ block_word ws b 2
code_at_lem ws b p h =
    ap code_of (end_at ws b h)
    ∙ code_of_lem (block_word ws b 2) (block_word ws b 3) (block_word ws b 4) (block_word ws b 5) (block_word ws b 6) (block_word ws b 7) (code_known ws p b h)

-- ---- 65,535 is no number

pub no_number : unless_none 65535 ≡ none
unfolding unless_none
no_number = refl

pub some_number : (n : ℕ) → (n ≡ 65535 → ⊥) → unless_none n ≡ some n
unfolding unless_none
some_number n h = rw (ne_eqb n 65535 h, unless_none)
