use Rattle.std.proofs.Common.{◌≡◌, ◌+◌, drop}
use Rattle.table.specs.Check.{limits, counts_verdict}
use Rattle.table_check.proofs.check_counts.Given as goal

-- the counts before this one are within their limits
abbrev pub invariant-loop-i : goal.invariant-loop-i
invariant-loop-i l = counts_verdict l.words 1 limits ≡ counts_verdict l.words (1 + l.i) (drop l.i limits)
