use Rattle.walk.proofs.StateLaws.{schedule_on}
use Rattle.control.specs.Abstraction.{stored}
use Rattle.control.specs.declared.Context.{Context}
use Rattle.definition.specs.Marks.{marks}
use lib.ListN.{length, length-set}
use mathlib.Core.Path.{refl, ap, ◌∙◌}
use native.Mathlib.Omega.{arith}
use Rattle.walk.proofs.state.Walk.schedule.Goals as goal

pub returns : goal.returns
unfolding stored
returns c =
    let s = c.scheduled.ensures in
    let room = c.requires.room in
    let stack = ap (λ (z : Context). length z.stack) s.state in
    let emitted = ap (λ (z : Context). z.emitted) s.state in (
      schedule_on _ s c.in_default.is (omega (arith, s.len)) (omega (arith, s.len, stack, room.whole.stack, room.len)),
      record {
        quiet = record { tree = refl; index = refl; rows = refl; lines = refl };
        visits = refl;
        marks = ap marks emitted;
        len = omega (arith, s.len);
        id = s.id;
        whole = record { emitted = ap length emitted ∙ room.whole.emitted; stack = length-set _ _ _ ∙ stack ∙ room.whole.stack; bounded = s.bounded room.whole.bounded };
      },
    )
