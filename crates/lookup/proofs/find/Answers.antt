-- `find` gives `found`: 42 where no line has the label (`no_line`), else what the line that was found gives (`line_found`).
-- That line is whole (`line_whole`), as `part_at` asks.
use Rattle.std.proofs.Common.{◌∙◌}
use Rattle.std.proofs.lemmas.Result.{err_from_is_err_and}
use Rattle.lookup.proofs.LoopLaws.{line_whole, line_found, no_line}
use Rattle.lookup.proofs.find.Goals as goal

pub returns-in_err-line : goal.returns-in_err-line
returns-in_err-line c =
    let p = err_from_is_err_and c.from_residual.result c.from_residual.ensures.1 in
    rw (p.1, p.2) (no_line _ _ _ _ c.first_with.ensures c.in_err-line.ensures.value)

pub part_at-requires : goal.part_at-requires
part_at-requires c = line_whole _ _ _ 0 c.first_with.ensures c.in_ok-line.ensures.value

pub returns : goal.returns
returns c = c.part_at.ensures ∙ line_found _ _ _ _ c.first_with.ensures c.in_ok-line.ensures.value
