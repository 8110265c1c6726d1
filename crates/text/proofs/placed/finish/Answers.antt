use Rattle.std.proofs.Common.{sym, ◌∙◌, arith}
use Rattle.std.proofs.lemmas.Grind.{common_steps}
use Rattle.text.proofs.PlacedLaws.{cleared_ok, cleared_error}
use Rattle.text.proofs.placed.finish.Goals as goal

pub returns-then-is_err : goal.returns-then-is_err
returns-then-is_err g c = cleared_error _ _ _ _ (sym c.if-is_err.true ∙ c.is_err.ensures.value) (grind (arith, common_steps))

pub returns-else-is_err : goal.returns-else-is_err
returns-else-is_err g c = cleared_ok _ _ _ _ (sym c.if-is_err.false ∙ c.is_err.ensures.value)
