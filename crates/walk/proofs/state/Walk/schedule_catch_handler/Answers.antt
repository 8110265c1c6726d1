use Rattle.control.specs.Abstraction.{context_of}
use Rattle.definition.specs.Context.{add, schedule_catch_handler}
use mathlib.Core.Path.{refl}
use Rattle.walk.proofs.state.Walk.schedule_catch_handler.Goals as goal

pub returns : goal.returns
unfolding schedule_catch_handler add context_of
returns c = record { same = refl; quiet = record { tree = refl; index = refl; rows = refl; lines = refl }; visits = refl; marks = refl; len = refl; id = refl; whole = record { emitted = c.requires.whole.emitted; stack = c.requires.whole.stack; bounded = c.requires.whole.bounded } }
