use Rattle.definition.proofs.Bounds.{stack_most, one_entry_an_arm}
use Rattle.definition.proofs.Checked.{ranged}
use Rattle.table.specs.Table.{table_of}
use Rattle.theorems.proofs.the_stack_holds_at_most_1152_entries.Goals as goal

pub returns : goal.returns
returns c = (λ rule words passed. stack_most rule (table_of words) (ranged words passed).few, one_entry_an_arm)
