use Rattle.table.proofs.TerminalLaws.{ends_by}
use Rattle.table.proofs.checked.Table.terminal.Goals as goal

pub returns : goal.returns
returns c =
    ends_by c.args.self.promise c.requires c.terminal_of.ensures c.block_word.ensures c.block_word-2.ensures c.block_word-3.ensures c.block_word-4.ensures
    c.block_word-5.ensures c.block_word-6.ensures
