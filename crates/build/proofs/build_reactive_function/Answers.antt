use Rattle.definition.specs.Around.{rust}
use Rattle.build.proofs.Demand3.{entry_law, on_ok}
use Rattle.build.proofs.build_reactive_function.Goals as goal

pub returns-clause-runs : goal.returns-clause-runs
returns-clause-runs c = on_ok c.build.result (λ accepted plain. entry_law rust _ _ _ _ _ _ c.build.ensures accepted plain)
