-- The invariant is WalkLaws' Walking: from here the machine comes to the same end as from the start, and the buffer holds what was performed. It is still the buffer
-- that the caller lent. The measure is the number of turns that the machine has left. An INSTR is two turns at once (`instr_next`, `instr_less`).
use Rattle.std.proofs.Common.{◌≡◌}
use Rattle.tree_run.specs.Abstraction.{links_in, place_of}
use Rattle.tree_run.proofs.WalkLaws.{Walking, turns_from}
use Rattle.tree_run.proofs.row_walk.walk.Given as goal

abbrev pub invariant-loop-end : goal.invariant-loop-end
invariant-loop-end l = record {
  same : l.done.rows.ghost_name ≡ l.initial.done.rows.ghost_name;
  walking : Walking l.tree.words.now (links_in l.tree) l.tree.rows l.answers l.initial.done.rows.now l.done (place_of l.place) l.left;
}

abbrev pub decreases-loop-end : goal.decreases-loop-end
decreases-loop-end l = turns_from l.tree.words.now (links_in l.tree) l.tree.rows l.answers (place_of l.place) l.left
