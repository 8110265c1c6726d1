-- `in_range` answers the definition's `in_range` of the row: false where the op is none (`no_op`) or a column is not below its limit (`one_told`), else whether
-- the last word is 0 (`all_told`).
use Rattle.tree_check.proofs.RangeLaws.{no_op, all_told, one_told}
use Rattle.tree_check.proofs.ranges.in_range.Goals as goal

pub returns-then-op-eq0 : goal.returns-then-op-eq0
returns-then-op-eq0 c = rw (← c.word-op.ensures) (no_op _ _ _ _ _ _ c.then-op-eq0.either)

pub returns-then-all_below : goal.returns-then-all_below
returns-then-all_below c =
    rw (← c.word-op.ensures, ← c.word-a.ensures, ← c.word-b.ensures, ← c.word-c.ensures, ← c.word-d.ensures, ← c.word.ensures)
    (all_told _ _ _ _ _ _ c.if-op-eq0.false c.if-op-gt25.false c.row_limits.ensures c.all_below.ensures c.if-all_below.true)

pub returns-else-all_below : goal.returns-else-all_below
returns-else-all_below c =
    rw (← c.word-op.ensures, ← c.word-a.ensures, ← c.word-b.ensures, ← c.word-c.ensures, ← c.word-d.ensures)
    (one_told _ _ _ _ _ _ c.if-op-eq0.false c.if-op-gt25.false c.row_limits.ensures c.all_below.ensures c.if-all_below.false)
