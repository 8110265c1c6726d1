use Rattle.definition.specs.Around.{language}
use Rattle.build.proofs.Demand3.{entry_law, language_law, on_ok}
use Rattle.build.proofs.build_language.Goals as goal

pub returns-clause-runs : goal.returns-clause-runs
returns-clause-runs c = on_ok c.build.result (λ accepted plain. entry_law language _ _ _ _ _ _ c.build.ensures accepted plain)

pub returns-clause-runs_with_switches : goal.returns-clause-runs_with_switches
returns-clause-runs_with_switches c = on_ok c.build.result (λ accepted plain. language_law _ _ _ _ _ _ c.build.ensures accepted plain)
