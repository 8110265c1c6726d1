-- `check_identifiers` gives the verdict on the identifiers: `check_rows` gives it for any rules, and `identifier_row` finds what the identifiers' rule finds.
-- A row is one word, so that its word is the same with a column and without (`one_word`).
use mathlib.Core.Path.{◌≡◌, ◌∙◌}
use native.Mathlib.Omega.{arith}
use borrow.Author.Rules.{rules}
use Rattle.table.specs.Words.{identifier_word, identifiers_begin}
use Rattle.table.specs.Check.{identifier_rules}
use Rattle.table.proofs.RuleLaws.{identifier_width}
use Rattle.table_check.specs.FoundBlocks.{first_bad}
use Rattle.table_check.proofs.RowLaws.{bad_less, one_word}
use Rattle.table_check.proofs.other_tables.check_identifiers.Goals as goal

pub check_rows-requires-clause-within : goal.check_rows-requires-clause-within
check_rows-requires-clause-within c row column inside found =
    omega (arith, bad_less (λ _. identifier_word c.args.words.words.now row) 0 (identifier_rules c.args.words.words.now row) {bad = column} (search rules), identifier_width c.args.words.words.now row)

pub returns : goal.returns
unfolding identifier_word identifier_rules
returns c =
    rw (← c.identifiers_begin-begin.ensures.0, ← c.identifier_count.ensures)
    (c.check_rows.ensures c.args.words.words.now (identifier_rules c.args.words.words.now) (record {
      wide = identifier_width c.args.words.words.now;
      is = λ row bad inside found. (
          let e : bad ≡ first_bad (λ _. identifier_word c.args.words.words.now row) 0 (identifier_rules c.args.words.words.now row) = search rules in
          rw c.identifiers_begin-begin.ensures.0 (e ∙ one_word c.args.words.words.now (identifiers_begin c.args.words.words.now) row _)
          );
    }))
