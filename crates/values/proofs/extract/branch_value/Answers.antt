-- `branch_value` meets `branch_outcome`. Where the block has no instruction the value is a LOAD of the test, one row (`branch_none`, `one_row`);
-- else it is what its instructions give (`branch_some`).
use Rattle.values.proofs.MetLaws.{one_row}
use Rattle.values.proofs.ExtractLaws.{branch_some, branch_none, load_ends}
use Rattle.values.specs.Stack.{push_value}
use Rattle.definition.specs.Tree.{LOAD}
use mathlib.Core.Path.{refl}
use Rattle.values.proofs.extract.branch_value.Goals as goal

pub returns-then-head-eq0 : goal.returns-then-head-eq0
unfolding push_value
returns-then-head-eq0 c =
    let head = c.block-head.ensures in
    rw (branch_none head _ _ _ _ c.if-head-eq0.true, head.is_id)
    (one_row (LOAD _) (λ stack. refl) c.requires.fit c.requires.test_bound (load_ends c.requires.test_bound) c.put_row-load.ensures c.loading.ensures)

pub returns : goal.returns
returns c = rw (branch_some c.block-head.ensures _ _ _ _ c.if-head-eq0.false) c.extract_value_block_result.ensures
