-- `check_cases` gives the verdict on the rows of cases: `check_rows` gives it for any rules, and `case_row` finds what the cases' rules find.
-- A bad column is one of the row's (`bad_less`), which has 2 (`case_width`).
use native.Mathlib.Omega.{arith}
use borrow.Author.Rules.{rules}
use Rattle.table.specs.Words.{case_word}
use Rattle.table.specs.Check.{case_rules}
use Rattle.table.proofs.RuleLaws.{case_width}
use Rattle.table_check.proofs.RowLaws.{bad_less}
use Rattle.table_check.proofs.other_tables.check_cases.Goals as goal

pub check_rows-requires-clause-within : goal.check_rows-requires-clause-within
check_rows-requires-clause-within c row column inside found =
    omega (arith, bad_less (case_word c.args.words.words.now row) 0 (case_rules c.args.words.words.now row) {bad = column} (search rules), case_width c.args.words.words.now row)

pub returns : goal.returns
unfolding case_word
returns c =
    rw (← c.cases_begin-begin.ensures.0, ← c.case_count.ensures)
    (c.check_rows.ensures c.args.words.words.now (case_rules c.args.words.words.now) (record { wide = case_width c.args.words.words.now; is = λ row bad inside found. search rules }))
