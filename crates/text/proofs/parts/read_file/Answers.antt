-- `text::parts::read_file` meets its contract: the head, the tables, and then the file's end. PartLaws has the end of a good file (`read_done`), StepLaws a byte too many
-- (`finished_more`); a refusal of a part is the file's.
use Rattle.std.proofs.Common.{rules}
use Rattle.std.proofs.lemmas.Result.{err_from_is_err_and}
use Rattle.text.specs.Form.{finished}
use Rattle.text.proofs.StepLaws.{finished_more}
use Rattle.text.proofs.PartLaws.{stored_too, read_done}
use Rattle.text.proofs.parts.read_file.Goals as goal

pub returns-in_err-at : goal.returns-in_err-at
returns-in_err-at c =
    let p = err_from_is_err_and c.from_residual.result c.from_residual.ensures.1 in
    rw (p.1, p.2) (c.in_err-at.ensures c.args.version)

pub returns-in_err-tables : goal.returns-in_err-tables
returns-in_err-tables c =
    let p = err_from_is_err_and c.from_residual-in_err-tables.result c.from_residual-in_err-tables.ensures.1 in
    let S = stored_too _ (c.in_ok-at.ensures.reached c.args.version) c.put_words.ensures in
    rw (p.1, p.2) (c.in_err-tables.ensures.read _ _ finished S)

pub returns-then-reader-file : goal.returns-then-reader-file
returns-then-reader-file c =
    let S = stored_too _ (c.in_ok-at.ensures.reached c.args.version) c.put_words.ensures in
    let (new, a) = c.in_ok-tables.ensures.read.reached _ _ finished S in
    rw (← c.in_ok-tables.ensures.file) (finished_more _ _ _ a.reached (rw c.in_ok-tables.ensures.file c.if-reader-file.true))

pub returns : goal.returns
returns c =
    let S = stored_too _ (c.in_ok-at.ensures.reached c.args.version) c.put_words.ensures in
    let (new, a) = c.in_ok-tables.ensures.read.reached _ _ finished S in
    read_done c.tables.new.self c.in_ok-tables.ensures.file (search (rules, c.in_ok-tables.ensures.lent)) c.if-reader-file.false a
