-- `order_file` prints `order_text` of the file: `order_words` prints words that were read, and `write_refusal` says why a file is refused. PrintsLaws makes the
-- file's text of what each of the two wrote. A file has at most 16,384 words (`words_few`), as `order_words` asks.
use Rattle.std.proofs.Common.{refl, sym, arith}
use lib.Seq.{length-take-le}
use Rattle.text.proofs.PrintsLaws.{words_within, words_read, error_some, written_as, words_printed, error_printed}
use Rattle.text.proofs.ReadingLaws.{is_answered}
use Rattle.order.proofs.OrderedLaws.{words_few}
use Rattle.order.proofs.file.order_file.Goals as goal

pub slice_bounds-words-end : goal.slice_bounds-words-end
slice_bounds-words-end c = words_within _ _ _ _ _ (is_answered _ _ _ c.in-Ok.ensures)

pub slice_bounds-order_words-end : goal.slice_bounds-order_words-end
slice_bounds-order_words-end c = sym (length-take-le _ _ (words_within _ _ _ _ _ (is_answered _ _ _ c.in-Ok.ensures)))

pub order_words-requires : goal.order_words-requires
order_words-requires c =
    let answered = is_answered _ _ _ c.in-Ok.ensures in
    rw (words_read _ _ _ _ _ answered) (words_few _ _ _ answered.1)

pub returns-in-Ok : goal.returns-in-Ok
returns-in-Ok c =
    let printed = words_printed _ _ _ 180368 _ _ _ _ _ _ _ (is_answered _ _ _ c.in-Ok.ensures) c.order_words.ensures in
    record { out_after = printed.0; value = printed.1 }

pub write_refusal-requires : goal.write_refusal-requires
write_refusal-requires c = error_some _

pub returns-in-Err : goal.returns-in-Err
returns-in-Err c =
    let answered = is_answered _ _ _ c.in-Err.ensures in
    let printed = error_printed _ _ _ 180368 _ _ _ _ _ _ _ (omega (arith, c.zeros-words.ensures)) answered (written_as refl (omega arith) c.write_refusal.ensures) in
    record { out_after = printed.0; value = printed.1 }
