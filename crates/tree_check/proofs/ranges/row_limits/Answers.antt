use Rattle.std.proofs.Common.{arith}
use Rattle.tree_check.proofs.RangeLaws.{no_columns}
use Rattle.tree_check.proofs.ranges.row_limits.Goals as goal

pub returns-in_default : goal.returns-in_default
returns-in_default c = no_columns _ _ _ _ _ (λ h. omega arith)
