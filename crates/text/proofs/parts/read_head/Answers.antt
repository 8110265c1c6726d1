-- `read_head` reads the line of names and the head's row. A stop in the names is the file's (`head_stops`), and so is one in the row, which begins where the
-- names end (`head_named`); else the head ends where its row does (`head_row`).
use Rattle.std.proofs.Common.{arith, ap}
use Rattle.std.specs.Borrow.{Bor}
use Rattle.std.proofs.lemmas.Result.{err_from_is_err_and}
use Rattle.text.proofs.PartLaws.{head_stops, head_row, head_named}
use Rattle.text.proofs.parts.read_head.Goals as goal

pub returns-in_err-at : goal.returns-in_err-at
returns-in_err-at c =
    let p = err_from_is_err_and c.from_residual.result c.from_residual.ensures.1 in
    rw (p.1, p.2) (head_stops _ c.in_err-at.ensures)

pub returns-in_err-row : goal.returns-in_err-row
returns-in_err-row c =
    let p = err_from_is_err_and c.from_residual-in_err-row.result c.from_residual-in_err-row.ensures.1 in
    rw (p.1, p.2) (λ version. c.in_err-row.ensures.read _ _ _ (head_named _ version c.in_ok-at.ensures))

pub returns : goal.returns
returns c = head_row _ c.row.new.self c.in_ok-at.ensures (omega (arith, c.in_ok-row.ensures.long)) (ap (λ (f : Bor _). f.now) c.in_ok-row.ensures.file) c.in_ok-row.ensures.read.reached
