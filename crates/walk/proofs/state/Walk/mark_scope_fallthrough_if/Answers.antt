use Rattle.control.specs.Abstraction.{context_of}
use Rattle.definition.specs.Context.{add, mark_scope_fallthrough}
use Rattle.definition.specs.Statement.{mark_scope_fallthrough_if}
use mathlib.Core.Path.{refl}
use Rattle.walk.proofs.state.Walk.mark_scope_fallthrough_if.Goals as goal

pub returns-in-Some : goal.returns-in-Some
unfolding mark_scope_fallthrough_if mark_scope_fallthrough add context_of
returns-in-Some c = rw c.in-Some.is (record { same = refl; quiet = record { tree = refl; index = refl; rows = refl; lines = refl }; visits = refl; marks = refl; len = refl; id = refl; whole = record { emitted = c.requires.whole.emitted; stack = c.requires.whole.stack; bounded = c.requires.whole.bounded } })

pub returns-in_default : goal.returns-in_default
unfolding mark_scope_fallthrough_if
returns-in_default c = rw c.in_default.is (record { same = refl; quiet = record { tree = refl; index = refl; rows = refl; lines = refl }; visits = refl; marks = refl; len = refl; id = refl; whole = c.requires.whole })
