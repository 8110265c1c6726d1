use Rattle.table.proofs.ColumnLaws.{operates}
use Rattle.table.proofs.checked.Table.operation.Goals as goal

pub returns : goal.returns
returns c = operates c.args.self.promise c.requires c.operation_of.ensures c.instruction_word.ensures c.instruction_word-2.ensures c.instruction_word-3.ensures
