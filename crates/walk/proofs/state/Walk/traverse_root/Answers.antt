use Rattle.walk.proofs.AroundLaws.{around_outermost}
use Rattle.walk.proofs.EntryLaws.{start_fine, start_state, start_out, root_tree, root_index, root_report}
use Rattle.definition.specs.Statement.{build_tree}
use Rattle.table.specs.Table.{table_of}
use Rattle.walk.proofs.state.Walk.traverse_root.Goals as goal

pub traverse_block-requires-clause-fine : goal.traverse_block-requires-clause-fine
traverse_block-requires-clause-fine c = start_fine _ c.requires.created c.requires.nothing

pub returns-clause-tree : goal.returns-clause-tree
returns-clause-tree c = root_tree _ c.args.self.now c.traverse_block.new.self _ c.traverse_block.ensures (start_out c.args.self.now c.requires.created c.requires.nothing)

pub returns-clause-index : goal.returns-clause-index
returns-clause-index c = root_index _ c.args.self.now c.traverse_block.new.self _ c.traverse_block.ensures (start_out c.args.self.now c.requires.created c.requires.nothing)

pub returns-clause-report : goal.returns-clause-report
unfolding build_tree table_of
returns-clause-report c =
    root_report _ _ c.args.self.now c.traverse_block.new.self _
    (rw (around_outermost, c.entry.ensures, start_state c.args.self.now c.requires.created c.requires.nothing) at c.traverse_block.ensures)
    (start_out c.args.self.now c.requires.created c.requires.nothing)
