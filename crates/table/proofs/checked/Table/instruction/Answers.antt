use Rattle.table.proofs.ColumnLaws.{instructs}
use Rattle.table.proofs.checked.Table.instruction.Goals as goal

pub returns : goal.returns
returns c =
    instructs c.args.self.promise c.requires c.instruction_word.ensures c.instruction_word-2.ensures c.instruction_word-3.ensures c.instruction_word-4.ensures
