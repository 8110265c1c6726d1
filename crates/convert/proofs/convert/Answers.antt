-- `convert::convert` meets its contract, by what the file reads as: words, which are converted, or a refusal. The words of a good file have its shape (GoodLaws),
-- and there is always room for them (ConvertLaws, `of_error`).
use Rattle.std.proofs.Common.{sym, arith}
use Rattle.std.proofs.lemmas.Result.{err_from_is_err_and}
use lib.Seq.{length-take-le}
use Rattle.text.proofs.ReadingLaws.{is_answered}
use Rattle.text.proofs.PrintsLaws.{words_within, words_read}
use Rattle.text.specs.declared.version.Version.TheVariants.{Old}
use Rattle.convert.specs.Convert.{new_of_old, old_of_new, old_to_new, new_to_old}
use Rattle.convert.proofs.GoodLaws.{good_shaped}
use Rattle.convert.proofs.ConvertLaws.{words_few, of_words, not_read}
use Rattle.convert.proofs.convert.Goals as goal

pub returns-in_err-count : goal.returns-in_err-count
returns-in_err-count c =
    let p = err_from_is_err_and c.from_residual.result c.from_residual.ensures.1 in
    rw (p.1, p.2) (not_read _ _ _ _ _ _ (omega (arith, c.zeros-words.ensures)) (is_answered _ _ _ c.in_err-count.ensures))

pub slice_bounds-words-end : goal.slice_bounds-words-end
slice_bounds-words-end c = words_within _ _ _ _ _ (is_answered _ _ _ c.in_ok-count.ensures)

pub slice_bounds-convert_old-end : goal.slice_bounds-convert_old-end
slice_bounds-convert_old-end c = sym (length-take-le _ _ (words_within _ _ _ _ _ (is_answered _ _ _ c.in_ok-count.ensures)))

pub convert_old-requires : goal.convert_old-requires
convert_old-requires c =
    let h = rw c.in-Old.is at (is_answered _ _ _ c.in_ok-count.ensures) in
    record { shaped = rw (words_read _ _ _ _ _ h) (good_shaped Old _ _ h.1.good); len_bound = rw (words_read _ _ _ _ _ h) (words_few _ _ _ _ _ h) }

pub returns-in-Old : goal.returns-in-Old
unfolding old_to_new
returns-in-Old c = rw c.in-Old.is (of_words _ _ _ _ _ (rw c.in-Old.is at (is_answered _ _ _ c.in_ok-count.ensures)) new_of_old _ _ c.convert_old.ensures)

pub slice_bounds-words-end-in-New : goal.slice_bounds-words-end-in-New
slice_bounds-words-end-in-New c = words_within _ _ _ _ _ (is_answered _ _ _ c.in_ok-count.ensures)

pub slice_bounds-convert_new-end : goal.slice_bounds-convert_new-end
slice_bounds-convert_new-end c = sym (length-take-le _ _ (words_within _ _ _ _ _ (is_answered _ _ _ c.in_ok-count.ensures)))

pub returns-in-New : goal.returns-in-New
unfolding new_to_old
returns-in-New c = rw c.in-New.is (of_words _ _ _ _ _ (rw c.in-New.is at (is_answered _ _ _ c.in_ok-count.ensures)) old_of_new _ _ c.convert_new.ensures)
