-- `check_rows` gives `file_checked`. Five ends: the file is too long (51), it is not in the form (50), it has more words than were lent (62), the tree's check
-- refuses, or it accepts. FileLaws has a law for each of the first three, and `words_checked` for the last two.
use Rattle.std.proofs.lemmas.Result.{err_from_is_err_and}
use Rattle.tree_check.proofs.FileLaws.{file_long, file_refused, file_read, no_part, part_held, too_many_words, words_checked}
use Rattle.tree_check.proofs.file.check_rows.Goals as goal

pub returns-then-file-gt262144 : goal.returns-then-file-gt262144
returns-then-file-gt262144 c = file_long _ c.if-file-gt262144.true

pub returns-in_err-count : goal.returns-in_err-count
returns-in_err-count c =
    let p = err_from_is_err_and c.from_residual.result c.from_residual.ensures.1 in
    rw (p.1, p.2) (file_refused _ c.if-file-gt262144.false c.in_err-count.ensures)

pub returns-in_err-ok_or : goal.returns-in_err-ok_or
returns-in_err-ok_or c =
    let p = err_from_is_err_and c.from_residual-in_err-ok_or.result c.from_residual-in_err-ok_or.ensures.1 in
    let none = no_part _ _ _ c.get.ensures.lookup _ c.in_err-ok_or.ensures.value in
    rw (p.1, p.2, none.0) (file_read _ c.if-file-gt262144.false c.in_ok-count.ensures (λ list h. too_many_words c.read_table.auto.words h none.1))

pub returns-in_err-check_tree : goal.returns-in_err-check_tree
returns-in_err-check_tree c =
    let p = err_from_is_err_and c.from_residual-in_err-check_tree.result c.from_residual-in_err-check_tree.ensures.1 in
    let part = part_held _ _ _ c.get.ensures.lookup _ c.in_ok-ok_or.ensures.value in
    rw (p.1, p.2) (file_read _ c.if-file-gt262144.false c.in_ok-count.ensures (λ list h. words_checked c.read_table.auto.words h part.0 (rw part.1 at c.in_err-check_tree.ensures)))

pub returns : goal.returns
returns c =
    let part = part_held _ _ _ c.get.ensures.lookup _ c.in_ok-ok_or.ensures.value in
    file_read _ c.if-file-gt262144.false c.in_ok-count.ensures (λ list h. words_checked c.read_table.auto.words h part.0 (rw part.1 at c.in_ok-check_tree.ensures))
