use Rattle.std.proofs.Common.{arith}
use Rattle.text.proofs.PrintsLaws.{refusal_written}
use Rattle.text.proofs.placed.write_refusal.Goals as goal

pub returns : goal.returns
returns g c = rw (← c.code.ensures, ← c.place.ensures) (refusal_written _ _ _ (rw c.code.ensures c.requires) (omega arith) c.write.ensures)
