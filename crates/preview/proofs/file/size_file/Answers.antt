-- `size_file` prints `sized_text` of the file: `size_words` prints the size of words that were read, and `write_size` the code and the place of a refused file.
-- PrintsLaws makes the file's text of what each of the two wrote (`words_printed`, `error_printed`).
use Rattle.std.proofs.Common.{sym, arith}
use lib.Seq.{length-take-le}
use Rattle.text.proofs.PrintsLaws.{words_within, words_printed, error_printed}
use Rattle.text.proofs.ReadingLaws.{is_answered}
use Rattle.preview.proofs.file.size_file.Goals as goal

pub slice_bounds-words-end : goal.slice_bounds-words-end
slice_bounds-words-end c = words_within _ _ _ _ _ (is_answered _ _ _ c.in-Ok.ensures)

pub slice_bounds-size_words-end : goal.slice_bounds-size_words-end
slice_bounds-size_words-end c = sym (length-take-le _ _ (words_within _ _ _ _ _ (is_answered _ _ _ c.in-Ok.ensures)))

pub returns-in-Ok : goal.returns-in-Ok
returns-in-Ok c =
    let printed = words_printed _ _ _ 81 _ _ _ _ _ _ _ (is_answered _ _ _ c.in-Ok.ensures) c.size_words.ensures in
    record { out_after = printed.0; value = printed.1 }

pub returns-in-Err : goal.returns-in-Err
returns-in-Err c =
    let answered = is_answered _ _ _ c.in-Err.ensures in
    let written = rw (c.code.ensures, c.place.ensures) at c.write_size.ensures in
    let printed = error_printed _ _ _ 81 _ _ _ _ _ _ _ (omega (arith, c.zeros-words.ensures)) answered written in
    record { out_after = printed.0; value = printed.1 }
