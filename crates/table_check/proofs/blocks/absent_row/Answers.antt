use mathlib.Core.Path.{refl}
use borrow.Author.Rules.{rules}
use lib.ListN.{replicate}
use Rattle.table.specs.Words.{block_word}
use Rattle.table.specs.Check.{unused}
use Rattle.table_check.proofs.RowLaws.{in_limits}
use Rattle.table_check.proofs.blocks.absent_row.Goals as goal

pub returns : goal.returns
returns c =
    in_limits _ 0 (replicate 11 unused) (replicate 11 1)
    (c.first_not_below.ensures (block_word c.args.words.words.now c.args.row) (record { is = λ column word inside found. search rules })) refl
