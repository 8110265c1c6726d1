-- M-103: the reasons for which the run of a tree stops. (`not_plain` and `no_such_case` are the block run's.)
use Rattle.std.specs.Prelude.{◌≡◌, Bool, true, false}
use Rattle.definition.specs.Run.{Reason, returned, threw, no_answer_left, not_plain, no_target, end_of_tree, no_such_case, Run, unfinished, stopped}

abbrev pub stops_a_tree : Reason → Bool
stops_a_tree (returned value id) = true
stops_a_tree (threw value id) = true
stops_a_tree no_answer_left = true
stops_a_tree (no_target id) = true
stops_a_tree end_of_tree = true
stops_a_tree not_plain = false
stops_a_tree no_such_case = false

abbrev pub Stops : Run → Type 0
Stops unfinished = ⊥
Stops (stopped performed left reason) = stops_a_tree reason ≡ true
