-- A row of the table is that of the words.
use Prim.Native.Nat.{ℕ, zero, suc, ◌<◌}
use mathlib.Core.Path.{◌≡◌, refl, ap}
use mathlib.Core.List.{List}
use native.Mathlib.Omega.{arith}
use lib.ListN.{length, get_or}
use Rattle.table.specs.Words.{block_count, instruction_count, case_count, place_count, identifier_count, place_word, identifier_word}
use Rattle.table.specs.Table.{Case, tabulate, table_of, block_at, block_of, instruction_at, instruction_of, case_of}

module _ {A : Type 0} where
  pub length_tabulate : (f : ℕ → A) (n : ℕ) → length (tabulate f n) ≡ n
  unfolding tabulate
  length_tabulate f zero = refl
  length_tabulate f (suc n) = ap suc (length_tabulate (λ i. f (suc i)) n)

  pub get_d_tabulate : (f : ℕ → A) (n i : ℕ) (d : A) → i < n → get_or (tabulate f n) i d ≡ f i
  unfolding tabulate
  get_d_tabulate f zero i d h = absurd (omega arith)
  get_d_tabulate f (suc n) zero d h = refl
  get_d_tabulate f (suc n) (suc i) d h = get_d_tabulate (λ i. f (suc i)) n i d (omega arith)

module _ (ws : List ℕ) where
  pub length_blocks : length (table_of ws).blocks ≡ block_count ws
  unfolding table_of
  length_blocks = length_tabulate _ _

  pub length_instructions : length (table_of ws).instructions ≡ instruction_count ws
  unfolding table_of
  length_instructions = length_tabulate _ _

  pub length_cases : length (table_of ws).cases ≡ case_count ws
  unfolding table_of
  length_cases = length_tabulate _ _

  pub length_places : length (table_of ws).places ≡ place_count ws
  unfolding table_of
  length_places = length_tabulate _ _

  pub length_named : length (table_of ws).named ≡ identifier_count ws
  unfolding table_of
  length_named = length_tabulate _ _

  module _ (row : ℕ) where
    pub block_at_lem : row < block_count ws → block_at (table_of ws) row ≡ block_of ws row
    unfolding table_of
    block_at_lem h = get_d_tabulate (block_of ws) (block_count ws) row _ h

    pub instruction_at_lem : row < instruction_count ws → instruction_at (table_of ws) row ≡ instruction_of ws row
    unfolding table_of
    instruction_at_lem h = get_d_tabulate (instruction_of ws) (instruction_count ws) row _ h

    -- whatever stands beyond the table
    pub case_at_lem : (d : Case) → row < case_count ws → get_or (table_of ws).cases row d ≡ case_of ws row
    unfolding table_of
    case_at_lem d h = get_d_tabulate (case_of ws) (case_count ws) row d h

    pub place_at : (d : ℕ) → row < place_count ws → get_or (table_of ws).places row d ≡ place_word ws row
    unfolding table_of
    place_at d h = get_d_tabulate (place_word ws) (place_count ws) row d h

    pub named_at : (d : ℕ) → row < identifier_count ws → get_or (table_of ws).named row d ≡ identifier_word ws row
    unfolding table_of
    named_at d h = get_d_tabulate (identifier_word ws) (identifier_count ws) row d h
