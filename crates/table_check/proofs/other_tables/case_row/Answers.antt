-- `table_check::other_tables::case_row` meets its contract.
use mathlib.Core.Path.{refl}
use Rattle.table.specs.Check.{case_rules, block, place_or_none}
use Rattle.table_check.proofs.RowLaws.{passed, failed, all_fit}
use Rattle.table_check.proofs.other_tables.case_row.Goals as goal

pub returns-then-test-row_or_none : goal.returns-then-test-row_or_none
unfolding case_rules block place_or_none
returns-then-test-row_or_none c = rw (← c.place_count.ensures) (failed _ _ _ _ c.case_word-test.ensures c.row_or_none.ensures c.if-test-row_or_none.true)

pub returns-then-case_word-block_count : goal.returns-then-case_word-block_count
unfolding case_rules block place_or_none
returns-then-case_word-block_count c =
    rw (← c.place_count.ensures, ← c.block_count.ensures)
    (passed _ _ _ _ c.case_word-test.ensures c.row_or_none.ensures c.if-test-row_or_none.false
    (failed _ _ _ _ c.case_word.ensures refl c.if-case_word-block_count.true))

pub returns : goal.returns
unfolding case_rules block place_or_none
returns c =
    rw (← c.place_count.ensures, ← c.block_count.ensures)
    (passed _ _ _ _ c.case_word-test.ensures c.row_or_none.ensures c.if-test-row_or_none.false
    (passed _ _ _ _ c.case_word.ensures refl c.if-case_word-block_count.false
    (all_fit _ _)))
