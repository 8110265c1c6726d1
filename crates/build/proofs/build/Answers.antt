use native.Mathlib.Omega.{arith}
use mathlib.Core.Path.{refl, ◌∙◌}
use Rattle.build.proofs.EntryLaws.{accepted_within, refused_cleared}
use Rattle.build.proofs.build.Goals as goal

pub clear-requires : goal.clear-requires
clear-requires c = omega (arith, (accepted_within _ _ _ _ _ c.in-Ok.ensures refl).0, c.try_build.auto.tree)

pub clear-requires-in-Ok : goal.clear-requires-in-Ok
clear-requires-in-Ok c = omega (arith, (accepted_within _ _ _ _ _ c.in-Ok.ensures refl).1, c.try_build.auto.index)

pub returns-in-Err : goal.returns-in-Err
returns-in-Err c = refused_cleared _ _ _ _ _ c.clear-in-Err.ensures c.clear-in-Err-2.ensures ∙ c.in-Err.ensures
