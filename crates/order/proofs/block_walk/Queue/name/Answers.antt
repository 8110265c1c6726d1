-- A block that has a flag stays where it is; another is put at the end.
use native.Mathlib.Omega.{arith}
use mathlib.Core.Path.{◌∙◌}
use Rattle.order.proofs.QueueLaws.{not_found, room, stored, queued_next, named_new}
use Rattle.order.proofs.block_walk.Queue.name.Goals as goal

pub bounds-self-inside-self-inside : goal.bounds-self-inside-self-inside
bounds-self-inside-self-inside c = room _ _ _ _ c.self.told.0 c.self.invariant.0 c.self.invariant.1 c.requires c.if-not-self-b.true

pub invariant_of-self : goal.invariant_of-self
invariant_of-self c = queued_next _ _ _ _ c.self.told.0 c.self.invariant.0 c.self.invariant.1 c.requires c.if-not-self-b.true

pub returns-then-not-self-b : goal.returns-then-not-self-b
returns-then-not-self-b c =
    stored _ _ _ _ c.self.told.0 c.self.invariant.0 c.self.invariant.1 c.requires c.if-not-self-b.true
    ∙ named_new _ _ (not_found c.self.invariant.1 _ c.requires (omega arith) c.if-not-self-b.true) ∙ rw c.self.view_is
