-- `draw` gives `drawn`. Three ends, a law of DrawnLaws for each: the check refuses, the text does not fit (44), or it is written.
-- WriterLaws says what `finish` answers and which bytes it leaves (`told_answer`, `told_bytes`).
use Rattle.std.proofs.Common.{rules, ◌≡◌, refl, ◌∙◌}
use Rattle.std.proofs.lemmas.Result.{err_from_is_err_and}
use Rattle.text.proofs.WriterLaws.{same_reference, told_answer, told_bytes}
use Rattle.dot.proofs.DrawnLaws.{fits_drawn, over_drawn, refused_drawn}
use Rattle.dot.proofs.draw.Goals as goal

pub returns-in_err-table : goal.returns-in_err-table
returns-in_err-table c =
    let p = err_from_is_err_and c.from_residual.result c.from_residual.ensures.1 in
    rw (p.1, p.2) (refused_drawn _ _ _ _ c.in_err-table.ensures.verdict refl)

pub returns-in_err-finish : goal.returns-in_err-finish
returns-in_err-finish c =
    let p = err_from_is_err_and c.from_residual-in_err-finish.result c.from_residual-in_err-finish.ensures.1 in
    let wrote = rw (c.new-writer.ensures, c.in_ok-table.ensures.same) at c.write_graph.ensures in
    rw (p.1, p.2) (over_drawn _ _ _ c.in_ok-table.ensures.verdict (told_answer _ _ _ _ wrote c.in_err-finish.ensures) search)

pub returns : goal.returns
returns c =
    let wrote = rw (c.new-writer.ensures, c.in_ok-table.ensures.same) at c.write_graph.ensures in
    let left : _ ≡ c.finish.new.self.0 = search (rules, same_reference _ _ wrote) in
    let told = c.in_ok-finish.ensures in
    fits_drawn _ _ _ c.in_ok-table.ensures.verdict (told_answer _ _ _ _ wrote told) (left ∙ told_bytes _ _ _ _ wrote told)
