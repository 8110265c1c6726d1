use Rattle.text.proofs.PlacedLaws.{refusal_printing, text_printing}
use Rattle.text.proofs.placed.print.Goals as goal
use mathlib.Core.Path.{refl}

pub returns-in-Ok : goal.returns-in-Ok
returns-in-Ok g c = rw c.in-Ok.is (text_printing _ _ refl (rw c.in-Ok.is at c.requires.holding))

pub write_refusal-requires : goal.write_refusal-requires
write_refusal-requires g c = c.requires.nonzero c.in-Err.error

pub returns-in-Err : goal.returns-in-Err
returns-in-Err g c = rw c.in-Err.is (refusal_printing _ (c.requires.nonzero c.in-Err.error) c.write_refusal.ensures)
