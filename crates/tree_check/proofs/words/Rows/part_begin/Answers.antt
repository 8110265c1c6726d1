use Rattle.std.proofs.Common.{arith, sym, ◌∙◌}
use Rattle.tree_check.proofs.PartLaws.{no_part, one_part}
use Rattle.tree_check.proofs.words.Rows.part_begin.Goals as goal

pub returns-in_err-last : goal.returns-in_err-last
returns-in_err-last c = c.from_residual.ensures ∙ no_part _ _ _ _ (omega (arith, c.in_err-last.ensures))

pub returns-then-serves : goal.returns-then-serves
returns-then-serves c = one_part _ _ _ _ _ c.in_ok-last.ensures c.word.ensures c.made_by-found.ensures (sym c.if-serves.true ∙ c.serves.ensures)

pub returns-else-serves : goal.returns-else-serves
returns-else-serves c = one_part _ _ _ _ _ c.in_ok-last.ensures c.word.ensures c.made_by-found.ensures (sym c.if-serves.false ∙ c.serves.ensures)
