-- The invariant: the blocks so far have their numbers.
use Rattle.order.proofs.ListLaws.{Numbered}
use Rattle.order.proofs.list.new_numbers.Given as goal

abbrev pub invariant-loop-place : goal.invariant-loop-place
invariant-loop-place l = Numbered l.list l.new l.place
