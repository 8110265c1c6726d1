-- The definition's outcomes of a block's own instructions, over the words, as the contracts cite them.
use Rattle.std.specs.Prelude.{List, ℕ, suc}
use Rattle.table.specs.Table.{table_of, block_at, instruction_rows_at, rows_from}
use Rattle.definition.specs.Result.{Result, ok}
use Rattle.definition.specs.Value.{ValueBlockResult, extract_value_block_result, extract_or_refuse, branch_value}

-- a block's instructions: the value of the last, with those before it in a sequence; `more` stand after the first
abbrev pub run_outcome : List ℕ → (block first more visits : ℕ) → Result ValueBlockResult
run_outcome words block first more visits = ok (extract_value_block_result (table_of words) block first (rows_from (suc first) more) visits)

-- the same of the block's own instructions, in a value that ends in `ends_in`; refused with the code, at the place, where there are none
abbrev pub extract_outcome : List ℕ → (block ends_in code at visits : ℕ) → Result ValueBlockResult
extract_outcome words block ends_in code at visits = extract_or_refuse (table_of words) ends_in (instruction_rows_at (table_of words) block) visits code at

abbrev pub branch_outcome : List ℕ → (block test visits : ℕ) → Result ValueBlockResult
branch_outcome words block test visits = branch_value (table_of words) block test (block_at (table_of words) block).id (instruction_rows_at (table_of words) block) visits
