-- `is_plain` answers the definition's test, for every width that `plain_code` answers for. The entry is asked first (`entered`); where it is no Branch,
-- `every_block` asks every block.
use Rattle.std.proofs.Common.{rules, ◌∙◌}
use Rattle.table.specs.Table.{table_of}
use Rattle.definition.specs.PlainTest.{block_test, every_of}
use Rattle.plain.proofs.NumberLaws.{entered}
use Rattle.plain.proofs.tests.is_plain.Goals.{then-no_branch, else-no_branch}
use Rattle.plain.proofs.tests.is_plain.Goals as goal

pub returns : goal.returns
returns g c width h = elim c.if-no_branch.branch [
  | then-no_branch w ↦
      let every = w.every_block.ensures (block_test (table_of c.args.table.words.now) width) (λ b end a e k. search (h, rules)) in
      w.result-is ∙ every ∙ entered _ _ c.entry.ensures w.if-no_branch.ensures
  | else-no_branch w ↦
      let every = every_of (table_of c.args.table.words.now).blocks (block_test (table_of c.args.table.words.now) width) in
      w.result-is ∙ w.if-no_branch.false ∙ entered _ every c.entry.ensures w.if-no_branch.ensures
]
