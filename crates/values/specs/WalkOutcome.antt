-- The definition's outcomes over the words, as the contracts of the walk cite them.
use Rattle.std.specs.Prelude.{List, ℕ}
use Rattle.std.specs.Prelude as std
use Rattle.table.specs.declared.columns.Span.{Span}
use Rattle.table.specs.Table.{table_of, terminal_at, block_at}
use Rattle.definition.specs.Result.{Result}
use Rattle.definition.specs.Value.{ValueBlockResult, ValueTerminalResult, TestBlockResult, VisitValueBlock, visit_value_block}
use Rattle.definition.specs.Value.{visit_value_block_at, visit_value_block_terminal, visit_test_block, then_fallthrough}
use Rattle.table.specs.Columns.{maybe_of}

-- the value walk with a number of levels of depth left
abbrev pub visit : List ℕ → (depth_left : ℕ) → VisitValueBlock
visit words depth_left = visit_value_block (table_of words) depth_left

-- a block, by its end: what a visit gives once it has begun
abbrev pub block_outcome : List ℕ → (depth_left block : ℕ) (fallthrough : std.Option ℕ) (span : Span) (visits : ℕ) → Result ValueBlockResult
block_outcome words depth_left block fallthrough span visits =
    visit_value_block_at (table_of words) (visit words depth_left) (terminal_at (table_of words) block) block (block_at (table_of words) block) (maybe_of fallthrough) span visits

-- the value terminal at the end of a block
abbrev pub terminal_outcome : List ℕ → (depth_left block visits : ℕ) → Result ValueTerminalResult
terminal_outcome words depth_left block visits =
    visit_value_block_terminal (table_of words) (visit words depth_left) (terminal_at (table_of words) block) (block_at (table_of words) block).id (block_at (table_of words) block).span visits block

-- that terminal's value as an instruction, and the value of its fallthrough
abbrev pub fallthrough_outcome : List ℕ → (depth_left block : ℕ) (span : Span) (visits : ℕ) → Result ValueBlockResult
fallthrough_outcome words depth_left block span visits =
    then_fallthrough (table_of words) (visit words depth_left) (block_at (table_of words) block) span (terminal_outcome words depth_left block visits)

abbrev pub test_outcome : List ℕ → (depth_left block : ℕ) (span : Span) (visits at : ℕ) → Result TestBlockResult
test_outcome words depth_left block span visits at = visit_test_block (table_of words) (visit words depth_left) block span visits at
