-- `part_at` gives `part_of` the line's two rows: 43 where the closing row is before the first (`first_after`) or beyond the tree's whole rows
-- (`closing_beyond`), else the words from the one to the other (`part_in`).
use Rattle.std.proofs.Common.{sym}
use Rattle.lookup.proofs.Answers.{first_after, closing_beyond, part_in}
use Rattle.lookup.proofs.part_at.Goals as goal
use Rattle.lookup.proofs.part_at.Goals.{then-closing-first-via-then-closing-first, then-closing-first-via-else-closing-first+then-tree-closing}

pub returns-then-closing-first : goal.returns-then-closing-first
returns-then-closing-first c =
    elim c.then-closing-first.branch [
      | then-closing-first-via-then-closing-first w ↦ sym (first_after _ _ _ w.if-closing-first.true)
      | then-closing-first-via-else-closing-first+then-tree-closing w ↦ sym (closing_beyond _ _ _ w.if-closing-first.false w.if-tree-closing.true)
    ]

pub returns : goal.returns
returns c = sym (part_in _ _ _ c.if-closing-first.false c.if-tree-closing.false)
