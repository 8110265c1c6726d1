use Rattle.std.proofs.lemmas.Result.{err_from_is_err_and}
use Rattle.walk.proofs.AnswerLaws.{refused_words, table_words}
use mathlib.Core.Path.{◌∙◌}
use Rattle.walk.proofs.entry.walk.Goals as goal

pub returns-in_err-check : goal.returns-in_err-check
returns-in_err-check c =
    let p = err_from_is_err_and c.from_residual.result c.from_residual.ensures.1 in
    rw (p.1, p.2) (refused_words _ _ c.in_err-check.ensures.verdict)

pub returns-in_err-walk_table : goal.returns-in_err-walk_table
returns-in_err-walk_table c =
    let p = err_from_is_err_and c.from_residual-in_err-walk_table.result c.from_residual-in_err-walk_table.ensures.1 in
    rw (p.1, p.2) (table_words _ _ c.in_ok-check.ensures.verdict ∙ rw c.in_ok-check.ensures.same at c.in_err-walk_table.ensures)

pub returns : goal.returns
returns c = rw (table_words _ _ c.in_ok-check.ensures.verdict) (rw c.in_ok-check.ensures.same at c.in_ok-walk_table.ensures)
