use mathlib.Core.Path.{sym, ◌∙◌}
use Rattle.order.proofs.EntryLaws.{cleared_both}
use Rattle.order.proofs.rearrange.Goals as goal

pub returns-then-is_err : goal.returns-then-is_err
returns-then-is_err c =
    cleared_both _ (sym c.is_err.ensures.value ∙ c.if-is_err.true) _ _ (c.fill.ensures.after (λ y e. e)) (c.fill-then-is_err.ensures.after (λ y e. e))
    ∙ c.try_rearrange-result.ensures
