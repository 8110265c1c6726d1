use Rattle.std.proofs.Common.{◌∙◌}
use Rattle.tree_check.proofs.ReadLaws.{not_sized, sized}
use Rattle.tree_check.proofs.read_into.Goals as goal

pub returns-then-tree-rows : goal.returns-then-tree-rows
returns-then-tree-rows c = rw c.requires (not_sized _ c.then-tree-rows.either)

pub returns : goal.returns
returns c = c.read_rows.ensures ∙ sized _ c.if-tree-rows.false c.if-rows-eq0.false c.if-rows-gt2048.false
