use Rattle.values.proofs.MetLaws.{stops}
use Rattle.values.proofs.ExtractLaws.{extract_some, extract_none}
use mathlib.Core.Path.{refl}
use native.Mathlib.Omega.{arith}
use Rattle.values.proofs.extract.extract_or_refuse.Goals as goal

pub returns-then-head-eq0 : goal.returns-then-head-eq0
returns-then-head-eq0 c =
    rw (extract_none c.block-head.ensures _ _ _ _ c.if-head-eq0.true) (stops c.args.refusal _ refl (omega (arith, c.requires.fit.visits)))

pub returns : goal.returns
returns c = rw (extract_some c.block-head.ensures _ _ _ _ c.if-head-eq0.false) c.extract_value_block_result.ensures
