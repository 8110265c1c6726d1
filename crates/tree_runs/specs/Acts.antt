-- A turn of the walk by what it does, with nothing of the rows performed before: which rows it performs, and then where it goes, by an answer or without.
-- The code decides on a turn in this form, and then does it.
use Rattle.std.specs.Prelude.{ℕ, zero, suc, List, [], ◌∷◌, ◌++◌, Bool, true, false}
use Rattle.std.proofs.Math.Option.{Option, none, some}
use Rattle.definition.specs.Run.{Answers, no_answer_left}
use Rattle.definition.specs.Completion.{Completion, normal, stop, label_set, loop_continues, breakable, labelled}
use Rattle.tree_runs.specs.Layout.{Node, an_instr, a_block, an_if, a_case, a_switch, a_loop, a_label, a_scope, a_leaf}
use Rattle.tree_runs.specs.Machine.{Place, enter, leave, State, state, or_leave, case_at, on_if_normal}

pub data Then : Type 0 where
  go : Place → Then
  -- by one answer; without one the run stops in row k
  ask : (k : ℕ) → (if_yes if_no : Place) → Then
  -- the case at the answer's place, or out of k
  pick : (k : ℕ) → (cases : List ℕ) → Then

pub data Act : Type 0 where
  act : (performed : List ℕ) → Then → Act

unfoldable pub do_then : Then → List ℕ → Answers → State
do_then (go place) performed left = state place performed left
do_then (ask k if_yes if_no) performed [] = state (leave k (stop no_answer_left)) performed []
do_then (ask k if_yes if_no) performed (zero ∷ left) = state if_no performed left
do_then (ask k if_yes if_no) performed (suc n ∷ left) = state if_yes performed left
do_then (pick k cases) performed [] = state (leave k (stop no_answer_left)) performed []
do_then (pick k cases) performed (place ∷ left) = state (or_leave (case_at cases place) k) performed left

unfoldable pub do_act : Act → List ℕ → Answers → State
do_act (act rows then) performed left = do_then then (performed ++ rows) left

unfoldable pub act_down : Node → (k : ℕ) → Act
act_down (an_instr rows) k = act rows (go (leave k normal))
act_down (a_block first) k = act [] (go (or_leave first k))
act_down (an_if label consequent alternate) k = act [] (ask k (enter consequent) (or_leave alternate k))
act_down (a_case body) k = act [] (go (enter body))
act_down (a_switch label cases) k = act [] (pick k cases)
act_down (a_loop label none again body) k = act [] (go (enter body))
act_down (a_loop label (some before) again body) k = act before (ask k (enter body) (leave k normal))
act_down (a_label label body) k = act [] (go (enter body))
act_down (a_scope body) k = act [] (go (enter body))
act_down (a_leaf completion) k = act [] (go (leave k completion))

-- after a loop's body
abbrev pub round_again : (continues : Bool) → (label : Option ℕ) → (again : List ℕ) → (body p : ℕ) → Completion → Act
round_again true label again body p c = act again (ask p (enter body) (leave p normal))
round_again false label again body p c = act [] (go (leave p (labelled label (breakable c))))

unfoldable pub act_up : Node → (p : ℕ) → (next : Option ℕ) → Completion → Act
act_up (an_instr rows) p next c = act [] (go (leave p c))
act_up (a_block first) p next c = act [] (go (on_if_normal c next p (λ z. z)))
act_up (an_if label consequent alternate) p next c = act [] (go (leave p (labelled label c)))
act_up (a_case body) p next c = act [] (go (leave p c))
act_up (a_switch label cases) p next c = act [] (go (on_if_normal c next p (λ z. labelled label (breakable z))))
act_up (a_loop label before again body) p next c = round_again (loop_continues c (label_set label)) label again body p c
act_up (a_label label body) p next c = act [] (go (leave p (labelled label c)))
act_up (a_scope body) p next c = act [] (go (leave p c))
act_up (a_leaf completion) p next c = act [] (go (leave p c))
