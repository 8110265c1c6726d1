use Rattle.std.proofs.Common.{◌≡◌, ℕ, ◌+◌, ◌-◌, ◌*◌, List}
use Rattle.table.specs.Check.{Rule, rows_verdict}
use Rattle.table_check.specs.FoundBlocks.{Finds}
use Rattle.table_check.proofs.rows.check_rows.Given as goal

-- the rows before this one have no bad column
abbrev pub invariant-loop-row : goal.invariant-loop-row
invariant-loop-row g l =
    (ws : List ℕ) (rules : ℕ → List Rule) → Finds (goal.F-post g l.bad_column) ws l.begin l.width l.rows rules
    → rows_verdict ws rules l.begin 0 l.rows ≡ rows_verdict ws rules (l.begin + l.row * l.width) l.row (l.rows - l.row)
