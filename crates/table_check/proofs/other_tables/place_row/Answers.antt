use Rattle.table.specs.Check.{place_rules}
use Rattle.table_check.proofs.RowLaws.{passed, failed, all_fit}
use Rattle.table_check.proofs.other_tables.place_row.Goals as goal

pub returns-then-place_word-identifier_count : goal.returns-then-place_word-identifier_count
unfolding place_rules
returns-then-place_word-identifier_count c = failed _ 0 _ _ c.place_word.ensures c.identifier_count.ensures c.if-place_word-identifier_count.true

pub returns : goal.returns
unfolding place_rules
returns c = passed _ 0 _ _ c.place_word.ensures c.identifier_count.ensures c.if-place_word-identifier_count.false (all_fit _ _)
