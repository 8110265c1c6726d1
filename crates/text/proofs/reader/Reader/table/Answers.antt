-- `table` reads a line of names and then rows. A stop in the names is the table's; else the table gives what `rows` gives, begun where the names end
-- (`names_then`).
use Rattle.std.proofs.Common.{refl}
use Rattle.std.proofs.lemmas.Result.{err_from_is_err_and}
use Rattle.text.specs.Form.{table}
use Rattle.text.proofs.PartLaws.{names_then}
use Rattle.text.proofs.reader.Reader.table.Goals as goal

pub returns-in_err-self-clause-read : goal.returns-in_err-self-clause-read
unfolding table
returns-in_err-self-clause-read c =
    let p = err_from_is_err_and c.from_residual.result c.from_residual.ensures.1 in
    rw (p.1, p.2) (λ root words next a. c.in_err-self.ensures root words _ a.reached)

pub returns-clause-read : goal.returns-clause-read
unfolding table
returns-clause-read c = names_then _ _ refl refl refl c.in_ok-self.ensures _ _ _ c.rows.ensures.read
