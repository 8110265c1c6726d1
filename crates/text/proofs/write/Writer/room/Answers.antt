use Rattle.std.proofs.Common.{refl}
use Rattle.text.specs.Writer.{room_at}
use Rattle.text.proofs.write.Writer.room.Goals as goal

pub returns-in-Some : goal.returns-in-Some
unfolding room_at
returns-in-Some c = rw c.in-Some.is c.saturating_sub.ensures

pub returns-in-None : goal.returns-in-None
unfolding room_at
returns-in-None c = rw c.in-None.is refl
