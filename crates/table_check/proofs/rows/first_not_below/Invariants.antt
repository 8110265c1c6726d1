use Rattle.std.proofs.Common.{◌≡◌, ℕ, ◌+◌, length, drop}
use Rattle.table_check.specs.FoundBlocks.{first_not_below, Reads}
use Rattle.table_check.proofs.rows.first_not_below.Given as goal

-- the columns before this one are below their limits
abbrev pub invariant-loop-i : goal.invariant-loop-i
invariant-loop-i g l =
    (words : ℕ → ℕ) → Reads (goal.F-post g l.word) (l.first + length l.limits) words → first_not_below words l.first l.limits ≡ first_not_below words (l.first + l.i) (drop l.i l.limits)
