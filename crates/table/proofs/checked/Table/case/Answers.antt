use Rattle.table.proofs.ColumnLaws.{chooses}
use Rattle.table.proofs.checked.Table.case.Goals as goal

pub returns : goal.returns
returns c = chooses c.args.self.promise c.requires c.case_word.ensures c.case_word-2.ensures
