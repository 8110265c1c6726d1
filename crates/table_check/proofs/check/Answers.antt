-- `table_check::check` meets its contract.
use mathlib.Core.Path.{sym, ◌∙◌}
use native.Mathlib.Omega.{arith}
use Rattle.table.proofs.CheckLaws.{limited, checked_short, checked_length, checked_entry, checked_words}
use Rattle.std.proofs.lemmas.Result.{err_from_is_err_and}
use Rattle.table.proofs.PromiseLaws.{promised}
use Rattle.table_check.proofs.CheckLaws.{checked_count}
use Rattle.table_check.proofs.check.Goals as goal

pub returns-then-words-lt6-clause-verdict : goal.returns-then-words-lt6-clause-verdict
returns-then-words-lt6-clause-verdict c = sym (checked_short _ c.if-words-lt6.true)

pub returns-in_err-check_counts : goal.returns-in_err-check_counts
returns-in_err-check_counts c = grind (arith, checked_count)

pub words_needed-needed-requires : goal.words_needed-needed-requires
words_needed-needed-requires c = limited _ c.if-words-lt6.false (sym c.in_ok-check_counts.ensures)

pub returns-then-words-needed-clause-verdict : goal.returns-then-words-needed-clause-verdict
returns-then-words-needed-clause-verdict c =
    sym (checked_length _ c.if-words-lt6.false (sym c.in_ok-check_counts.ensures) (λ e. c.if-words-needed.true (e ∙ sym c.words_needed-needed.ensures)))

pub returns-then-entry-block_count-clause-verdict : goal.returns-then-entry-block_count-clause-verdict
returns-then-entry-block_count-clause-verdict c =
    sym (checked_entry _ c.if-words-lt6.false (sym c.in_ok-check_counts.ensures) (c.if-words-needed.false ∙ c.words_needed-needed.ensures)
    (omega (arith, c.if-entry-block_count.true, c.entry.ensures, c.block_count.ensures)))

pub invariant_of-check_tables : goal.invariant_of-check_tables
invariant_of-check_tables c = record {
  sized = record {
    limited = limited _ c.if-words-lt6.false (sym c.in_ok-check_counts.ensures);
    long = c.if-words-needed.false ∙ c.words_needed-needed.ensures;
  };
}

pub returns-in_err-check_tables-clause-verdict : goal.returns-in_err-check_tables-clause-verdict
returns-in_err-check_tables-clause-verdict c =
    let p = err_from_is_err_and c.from_residual-in_err-check_tables.result c.from_residual-in_err-check_tables.ensures.1 in
    rw (p.1, p.2)
    (c.in_err-check_tables.ensures ∙ sym (checked_words _ c.if-words-lt6.false (sym c.in_ok-check_counts.ensures) (c.if-words-needed.false ∙ c.words_needed-needed.ensures)
    (omega (arith, c.if-entry-block_count.false, c.entry.ensures, c.block_count.ensures))))

pub invariant_of-result : goal.invariant_of-result
invariant_of-result c = record {
  promise = promised _ (checked_words _ c.if-words-lt6.false (sym c.in_ok-check_counts.ensures) (c.if-words-needed.false ∙ c.words_needed-needed.ensures)
      (omega (arith, c.if-entry-block_count.false, c.entry.ensures, c.block_count.ensures)) ∙ sym c.in_ok-check_tables.ensures);
}

pub returns-clause-verdict : goal.returns-clause-verdict
returns-clause-verdict c =
    c.in_ok-check_tables.ensures ∙ sym (checked_words _ c.if-words-lt6.false (sym c.in_ok-check_counts.ensures) (c.if-words-needed.false ∙ c.words_needed-needed.ensures)
    (omega (arith, c.if-entry-block_count.false, c.entry.ensures, c.block_count.ensures)))
