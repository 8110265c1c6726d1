-- `check_instructions` gives the verdict on the rows of instructions: `check_rows` gives it for any rules, and `instruction_row` finds what theirs find.
-- A bad column is one of the row's (`bad_less`), which has 7 (`instruction_width`).
use native.Mathlib.Omega.{arith}
use borrow.Author.Rules.{rules}
use Rattle.table.specs.Words.{instruction_word}
use Rattle.table.specs.Check.{instruction_rules}
use Rattle.table.proofs.RuleLaws.{instruction_width}
use Rattle.table_check.proofs.RowLaws.{bad_less}
use Rattle.table_check.proofs.other_tables.check_instructions.Goals as goal

pub check_rows-requires-clause-within : goal.check_rows-requires-clause-within
check_rows-requires-clause-within c row column inside found =
    omega (arith, bad_less (instruction_word c.args.words.words.now row) 0 (instruction_rules c.args.words.words.now row) {bad = column} (search rules), instruction_width c.args.words.words.now row)

pub returns : goal.returns
unfolding instruction_word
returns c =
    rw (← c.instructions_begin-begin.ensures.0, ← c.instruction_count.ensures)
    (c.check_rows.ensures c.args.words.words.now (instruction_rules c.args.words.words.now) (record { wide = instruction_width c.args.words.words.now; is = λ row bad inside found. search rules }))
