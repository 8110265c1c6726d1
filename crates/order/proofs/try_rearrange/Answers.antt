-- `try_rearrange` gives `rearrangement`. Three ends: the check refuses, the words or the list lent have a wrong length (45), or both are filled.
-- renaming's Operations has a law for the refusal, for either length and for what is filled; `promised` makes the table's promise of the check's verdict.
use mathlib.Core.Path.{sym, ◌∙◌}
use Rattle.std.proofs.lemmas.Result.{err_from_is_err_and}
use Rattle.table.proofs.PromiseLaws.{promised}
use Rattle.renaming.proofs.Operations.{rearrangement_refused, rearrangement_table, rearrangement_list, rearrangement_given}
use Rattle.order.proofs.try_rearrange.Goals as goal
use Rattle.order.proofs.try_rearrange.Goals.{then-new_words-words-via-then-new_words-words, then-new_words-words-via-else-new_words-words+then-old_numbers-block_count}

pub returns-in_err-table : goal.returns-in_err-table
returns-in_err-table c =
    let p = err_from_is_err_and c.from_residual.result c.from_residual.ensures.1 in
    rw (p.1, p.2) (rearrangement_refused _ c.in_err-table.ensures.verdict _ _)

pub returns-then-new_words-words : goal.returns-then-new_words-words
returns-then-new_words-words c =
    let promise = promised _ (sym c.in_ok-table.ensures.verdict) in
    elim c.then-new_words-words.branch [
      | then-new_words-words-via-then-new_words-words w ↦ rearrangement_table _ promise _ _ w.if-new_words-words.true
      | then-new_words-words-via-else-new_words-words+then-old_numbers-block_count w ↦
          rearrangement_list _ promise _ _ (λ e. w.if-old_numbers-block_count.true (e ∙ sym (rw c.in_ok-table.ensures.same at w.block_count.ensures)))
    ]

pub rearrange_checked-requires : goal.rearrange_checked-requires
rearrange_checked-requires c = record { new_words_len = rw c.in_ok-table.ensures.same c.if-new_words-words.false; old_numbers_len = c.if-old_numbers-block_count.false ∙ c.block_count.ensures }

pub returns : goal.returns
returns c =
    rearrangement_given _ (promised _ (sym c.in_ok-table.ensures.verdict)) _ _ c.if-new_words-words.false
    (c.if-old_numbers-block_count.false ∙ rw c.in_ok-table.ensures.same at c.block_count.ensures)
    (rw c.in_ok-table.ensures.same at c.rearrange_checked.ensures.new_words_after) (rw c.in_ok-table.ensures.same at c.rearrange_checked.ensures.old_numbers_after)
