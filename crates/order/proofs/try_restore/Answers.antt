-- `try_restore` gives `restoration`. Four ends, a law of renaming's Operations for each: the check refuses, the words lent have a wrong length (45), the list
-- is no permutation (46), or the words are filled. EntryLaws has what `new_numbers`, the slice and `write_table` ask of a permutation.
use native.Mathlib.Omega.{arith}
use mathlib.Core.Path.{refl, sym, ◌∙◌}
use lib.Seq.{length-take-le}
use Rattle.std.proofs.lemmas.Result.{err_from_is_err_and}
use Rattle.table.proofs.PromiseLaws.{promised}
use Rattle.renaming.proofs.Permutations.{permutes}
use Rattle.renaming.proofs.Operations.{restoration_refused, restoration_table, restoration_list, restoration_given}
use Rattle.order.proofs.EntryLaws.{few_blocks, few_numbers, own_blocks, numbering_first, is_restored}
use Rattle.order.proofs.try_restore.Goals as goal

pub returns-in_err-table : goal.returns-in_err-table
returns-in_err-table c =
    let p = err_from_is_err_and c.from_residual.result c.from_residual.ensures.1 in
    rw (p.1, p.2) (restoration_refused _ c.in_err-table.ensures.verdict _ _)

pub returns-then-first_words-words : goal.returns-then-first_words-words
returns-then-first_words-words c = restoration_table _ (promised _ (sym c.in_ok-table.ensures.verdict)) _ _ c.if-first_words-words.true

pub is_permutation-requires : goal.is_permutation-requires
is_permutation-requires c = omega (arith, rw c.in_ok-table.ensures.same at c.block_count.ensures, (promised _ (sym c.in_ok-table.ensures.verdict)).sized.limited.blocks)

pub returns-then-not-is_permutation : goal.returns-then-not-is_permutation
returns-then-not-is_permutation c =
    restoration_list _ (promised _ (sym c.in_ok-table.ensures.verdict)) _ _ refl c.if-first_words-words.false
    (rw (rw c.in_ok-table.ensures.same at c.block_count.ensures) at (sym c.if-not-is_permutation.true ∙ c.is_permutation.ensures))

pub new_numbers-requires-clause-few : goal.new_numbers-requires-clause-few
new_numbers-requires-clause-few c =
    few_blocks _ _ (promised _ (sym c.in_ok-table.ensures.verdict)).sized.limited.blocks
    (rw (rw c.in_ok-table.ensures.same at c.block_count.ensures) at (sym c.is_permutation.ensures ∙ c.if-not-is_permutation.false))

pub new_numbers-requires-clause-permutation : goal.new_numbers-requires-clause-permutation
new_numbers-requires-clause-permutation c = own_blocks _ _ (sym c.is_permutation.ensures ∙ c.if-not-is_permutation.false)

pub slice_bounds-new-end : goal.slice_bounds-new-end
slice_bounds-new-end c =
    few_numbers _ c.new_numbers.ensures (few_blocks _ _ (promised _ (sym c.in_ok-table.ensures.verdict)).sized.limited.blocks
    (rw (rw c.in_ok-table.ensures.same at c.block_count.ensures) at (sym c.is_permutation.ensures ∙ c.if-not-is_permutation.false)))

pub slice_bounds-write_table-end : goal.slice_bounds-write_table-end
slice_bounds-write_table-end c =
    sym (length-take-le _ _ (few_numbers _ c.new_numbers.ensures (few_blocks _ _ (promised _ (sym c.in_ok-table.ensures.verdict)).sized.limited.blocks
    (rw (rw c.in_ok-table.ensures.same at c.block_count.ensures) at (sym c.is_permutation.ensures ∙ c.if-not-is_permutation.false)))))

pub write_table-requires : goal.write_table-requires
write_table-requires c =
    let perm = rw (rw c.in_ok-table.ensures.same at c.block_count.ensures) at (sym c.is_permutation.ensures ∙ c.if-not-is_permutation.false) in
    rw c.in_ok-table.ensures.same (record {
      numbering = numbering_first _ _ _ (promised _ (sym c.in_ok-table.ensures.verdict)) (permutes _ _ perm) c.new_numbers.ensures;
      new_words_len = c.if-first_words-words.false;
    })

pub returns : goal.returns
returns c =
    let promise = promised _ (sym c.in_ok-table.ensures.verdict) in
    let perm = rw (rw c.in_ok-table.ensures.same at c.block_count.ensures) at (sym c.is_permutation.ensures ∙ c.if-not-is_permutation.false) in
    restoration_given _ promise _ _ c.if-first_words-words.false (sym perm)
    ((rw c.in_ok-table.ensures.same at c.write_table.ensures) ∙ is_restored _ _ _ promise (permutes _ _ perm) c.new_numbers.ensures)
