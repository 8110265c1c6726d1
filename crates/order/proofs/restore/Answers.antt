use mathlib.Core.Path.{sym, ◌∙◌}
use Rattle.order.proofs.EntryLaws.{cleared_one}
use Rattle.order.proofs.restore.Goals as goal

pub returns-then-is_err : goal.returns-then-is_err
returns-then-is_err c = cleared_one _ (sym c.is_err.ensures.value ∙ c.if-is_err.true) _ (c.fill.ensures.after (λ y e. e)) ∙ c.try_restore-result.ensures
