use Rattle.values.proofs.ExtractLaws.{goto_full, goto_empty, other_empty}
use Rattle.values.proofs.extract.is_empty_goto.Goals as goal

pub returns-in-Goto : goal.returns-in-Goto
returns-in-Goto c = goto_empty c.block.ensures c.in-Goto.ensures c.if-block-eq0.true

pub returns-in_default : goal.returns-in_default
returns-in_default c = other_empty c.block.ensures c.terminal.result c.terminal.ensures c.in_default.not-Goto c.if-block-eq0.true

pub returns-else-block-eq0 : goal.returns-else-block-eq0
returns-else-block-eq0 c = goto_full c.block.ensures c.if-block-eq0.false
