use mathlib.Core.Path.{refl}
use Rattle.table.specs.Check.{identifier_rules}
use Rattle.table_check.proofs.RowLaws.{passed, failed, all_fit}
use Rattle.table_check.proofs.other_tables.identifier_row.Goals as goal

pub returns-then-identifier_word-ge-FLAG : goal.returns-then-identifier_word-ge-FLAG
unfolding identifier_rules
returns-then-identifier_word-ge-FLAG c = failed _ 0 _ _ c.identifier_word.ensures refl c.if-identifier_word-ge-FLAG.true

pub returns : goal.returns
unfolding identifier_rules
returns c = passed _ 0 _ _ c.identifier_word.ensures refl c.if-identifier_word-ge-FLAG.false (all_fit _ _)
