-- `check_places` gives the verdict on the places: `check_rows` gives it for any rules, and `place_row` finds what the places' rule finds.
-- A row is one word, so that its word is the same with a column and without (`one_word`).
use mathlib.Core.Path.{◌≡◌, ◌∙◌}
use native.Mathlib.Omega.{arith}
use borrow.Author.Rules.{rules}
use Rattle.table.specs.Words.{place_word, places_begin}
use Rattle.table.specs.Check.{place_rules}
use Rattle.table.proofs.RuleLaws.{place_width}
use Rattle.table_check.specs.FoundBlocks.{first_bad}
use Rattle.table_check.proofs.RowLaws.{bad_less, one_word}
use Rattle.table_check.proofs.other_tables.check_places.Goals as goal

pub check_rows-requires-clause-within : goal.check_rows-requires-clause-within
check_rows-requires-clause-within c row column inside found =
    omega (arith, bad_less (λ _. place_word c.args.words.words.now row) 0 (place_rules c.args.words.words.now row) {bad = column} (search rules), place_width c.args.words.words.now row)

pub returns : goal.returns
unfolding place_word place_rules
returns c =
    rw (← c.places_begin-begin.ensures.0, ← c.place_count.ensures)
    (c.check_rows.ensures c.args.words.words.now (place_rules c.args.words.words.now) (record {
      wide = place_width c.args.words.words.now;
      is = λ row bad inside found. (
          let e : bad ≡ first_bad (λ _. place_word c.args.words.words.now row) 0 (place_rules c.args.words.words.now row) = search rules in
          rw c.places_begin-begin.ensures.0 (e ∙ one_word c.args.words.words.now (places_begin c.args.words.words.now) row _)
          );
    }))
