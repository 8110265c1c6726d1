-- `check_blocks` gives the verdict on the rows of blocks: `check_rows` gives it for any rules, and `block_row` finds what the blocks' rules find.
-- A bad column is one of the row's (`bad_less`), which has 11 (`block_width`).
use native.Mathlib.Omega.{arith}
use borrow.Author.Rules.{rules}
use Rattle.table.specs.Words.{block_word, blocks_begin}
use Rattle.table.specs.Check.{block_rules}
use Rattle.table.proofs.RuleLaws.{block_width}
use Rattle.table_check.proofs.RowLaws.{bad_less}
use Rattle.table_check.proofs.blocks.check_blocks.Goals as goal

pub check_rows-requires-clause-within : goal.check_rows-requires-clause-within
check_rows-requires-clause-within c row column inside found =
    omega (arith, bad_less (block_word c.args.words.words.now row) 0 (block_rules c.args.words.words.now row) {bad = column} (search rules), block_width c.args.words.words.now row)

pub returns : goal.returns
unfolding block_word blocks_begin
returns c =
    rw (← c.block_count.ensures)
    (c.check_rows.ensures c.args.words.words.now (block_rules c.args.words.words.now) (record { wide = block_width c.args.words.words.now; is = λ row bad inside found. search rules }))
