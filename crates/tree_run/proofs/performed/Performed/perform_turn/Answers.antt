use Rattle.tree_run.proofs.PerformLaws.{err_same, both_full, both_on}
use Rattle.tree_run.proofs.performed.Performed.perform_turn.Goals as goal

pub returns-in_err-perform : goal.returns-in_err-perform
returns-in_err-perform c = rw (err_same c.from_residual.ensures.1) (both_full _ _ _ c.in_err-perform.was c.perform.ensures)

pub returns : goal.returns
returns c = both_on _ _ _ c.in_ok-perform.was c.perform.ensures c.perform-2.ensures
