use Rattle.std.proofs.Common.{rules}
use Rattle.text.proofs.NameLaws.{names_within, names_stand, names_stop}
use Rattle.text.proofs.names.read_names.Goals as goal

pub overflow_add-end : goal.overflow_add-end
overflow_add-end c = let n = names_within c.args.file.now c.args.names.now c.args.start c.requires c.names_end-count.ensures in search rules

pub returns-then-count-names : goal.returns-then-count-names
returns-then-count-names c = names_stand _ _ _ c.requires c.names_end-count.ensures c.if-count-names.true

pub returns-else-count-names : goal.returns-else-count-names
returns-else-count-names c = names_stop _ _ _ c.requires c.names_end-count.ensures c.if-count-names.false
