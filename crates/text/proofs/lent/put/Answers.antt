use Rattle.std.proofs.Common.{sym}
use Rattle.std.proofs.Math.Seq.{set_out}
use Rattle.text.proofs.lent.put.Goals as goal

pub returns-else-at-items : goal.returns-else-at-items
returns-else-at-items g c = sym (set_out _ _ _ c.if-at-items.false)
