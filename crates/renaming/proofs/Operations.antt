-- The two operations, case by case: "1 to 4 first; 45 .. ; 46 .. after 45".
use mathlib.Core.Path.{◌≡◌, refl, sym, ◌∙◌}
use Prim.Native.Nat.{ℕ}
use mathlib.Core.List.{List}
use mathlib.Core.Bool.{Bool, true, false, ◌&&◌}
use lib.ListN.{length}
use lib.Dec.{eqb}
use borrow.Author.Tests.{eq-eqb, ne_eqb}
use Rattle.table.specs.Words.{block_count}
use Rattle.table.specs.Check.{accepted, refused, checked}
use Rattle.table.specs.Table.{table_of}
use Rattle.table.specs.Promise.{Promise}
use Rattle.table.proofs.PromiseLaws.{promise_checked}
use Rattle.renaming.specs.Order.{is_permutation, walking_order, rearranged, restored_by, refused_rearrangement, rearrangement, refused_restoration, restoration}

-- "1 to 4 first"
module _ (ws : List ℕ) {code at : ℕ} (is : refused code at ≡ checked ws) where
  pub rearrangement_refused : (lent_table lent_list : ℕ) → refused_rearrangement code at lent_table lent_list ≡ rearrangement ws lent_table lent_list
  unfolding rearrangement
  rearrangement_refused lent_table lent_list = rw (← is, rearrangement)

  pub restoration_refused : (list : List ℕ) (lent_table : ℕ) → refused_restoration code at lent_table ≡ restoration ws list lent_table
  unfolding restoration
  restoration_refused list lent_table = rw (← is, restoration)

module _ (ws : List ℕ) (p : Promise ws) where
  is_accepted_lem : checked ws ≡ accepted
  is_accepted_lem = promise_checked ws p

  second_false : (y : Bool) → y && false ≡ false
  second_false true = refl
  second_false false = refl

  pub rearrangement_table : (lent_table lent_list : ℕ) → (lent_table ≡ length ws → ⊥) → refused_rearrangement 45 0 lent_table lent_list ≡ rearrangement ws lent_table lent_list
  unfolding rearrangement
  rearrangement_table lent_table lent_list f = rw (is_accepted_lem, ne_eqb lent_table (length ws) f, rearrangement)

  pub rearrangement_list : (lent_table lent_list : ℕ) → (lent_list ≡ block_count ws → ⊥) → refused_rearrangement 45 0 lent_table lent_list ≡ rearrangement ws lent_table lent_list
  unfolding rearrangement
  rearrangement_list lent_table lent_list f = rw (is_accepted_lem, ne_eqb lent_list (block_count ws) f, second_false (eqb lent_table (length ws)), rearrangement)

  pub rearrangement_given : (lent_table lent_list : ℕ) {table list : List ℕ} → lent_table ≡ length ws → lent_list ≡ block_count ws → table ≡ rearranged ws → list ≡ walking_order (table_of ws)
      → record { code = 0; at = 0; table = table; list = list } ≡ rearrangement ws lent_table lent_list
  unfolding rearrangement
  rearrangement_given lent_table lent_list e f g h = rw (g, h, is_accepted_lem, eq-eqb lent_table (length ws) e, eq-eqb lent_list (block_count ws) f, rearrangement)

  module _ (list : List ℕ) (lent_table : ℕ) where
    pub restoration_table : (lent_table ≡ length ws → ⊥) → refused_restoration 45 0 lent_table ≡ restoration ws list lent_table
    unfolding restoration
    restoration_table f = rw (is_accepted_lem, ne_eqb lent_table (length ws) f, restoration)

    -- the buffer is as long as it was
    pub restoration_list : {lent : ℕ} → lent ≡ lent_table → lent_table ≡ length ws → false ≡ is_permutation (block_count ws) list → refused_restoration 46 0 lent ≡ restoration ws list lent_table
    unfolding restoration
    restoration_list same e f = rw (same, is_accepted_lem, eq-eqb lent_table (length ws) e, ← f, restoration)

    pub restoration_given : {table : List ℕ} → lent_table ≡ length ws → true ≡ is_permutation (block_count ws) list → table ≡ restored_by list ws
        → record { code = 0; at = 0; table = table } ≡ restoration ws list lent_table
    unfolding restoration
    restoration_given e f g = rw (g, is_accepted_lem, eq-eqb lent_table (length ws) e, ← f, restoration)
