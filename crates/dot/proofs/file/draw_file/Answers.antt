-- `draw_file` prints `drawn_text` of the file: `draw_words` prints words that were read, and `write_refusal` says why a file is refused.
-- PrintsLaws makes the file's text of what each of the two wrote (`words_printed`, `error_printed`).
use Rattle.std.proofs.Common.{sym, arith}
use lib.Seq.{length-take-le}
use Rattle.text.proofs.PrintsLaws.{words_within, error_some, words_printed, error_printed}
use Rattle.text.proofs.ReadingLaws.{is_answered}
use Rattle.dot.proofs.file.draw_file.Goals as goal

pub slice_bounds-words-end : goal.slice_bounds-words-end
slice_bounds-words-end c = words_within _ _ _ _ _ (is_answered _ _ _ c.in-Ok.ensures)

pub slice_bounds-draw_words-end : goal.slice_bounds-draw_words-end
slice_bounds-draw_words-end c = sym (length-take-le _ _ (words_within _ _ _ _ _ (is_answered _ _ _ c.in-Ok.ensures)))

pub returns-in-Ok : goal.returns-in-Ok
returns-in-Ok c =
    let printed = words_printed _ _ _ 77 _ _ _ _ _ _ _ (is_answered _ _ _ c.in-Ok.ensures) c.draw_words.ensures in
    record { out_after = printed.0; value = printed.1 }

pub write_refusal-requires : goal.write_refusal-requires
write_refusal-requires c = error_some _

pub returns-in-Err : goal.returns-in-Err
returns-in-Err c =
    let answered = is_answered _ _ _ c.in-Err.ensures in
    let printed = error_printed _ _ _ 77 _ _ _ _ _ _ _ (omega (arith, c.zeros-words.ensures)) answered c.write_refusal.ensures in
    record { out_after = printed.0; value = printed.1 }
