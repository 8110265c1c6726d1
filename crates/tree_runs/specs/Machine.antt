-- The run as a walk over closing rows: down into parts, and up with a completion. It keeps no stack: where a row stands is in the layout.
use Rattle.std.specs.Prelude.{ℕ, zero, suc, ◌≡◌, List, [], ◌∷◌, ◌++◌, true, false}
use Rattle.std.proofs.Math.Option.{Option, none, some}
use Rattle.definition.specs.Run.{Answers, no_answer_left}
use Rattle.definition.specs.Completion.{Completion, normal, break, continue, stop, label_set, loop_continues, breakable, labelled}
use Rattle.definition.specs.TreeRun.{Completed, completed}
use Rattle.tree_runs.specs.Layout.{Node, an_instr, a_block, an_if, a_case, a_switch, a_loop, a_label, a_scope, a_leaf, Layout}

pub data Place : Type 0 where
  enter : (k : ℕ) → Place
  leave : (k : ℕ) → Completion → Place

pub data State : Type 0 where
  state : Place → (performed : List ℕ) → (left : Answers) → State

pub data Turn : Type 0 where
  going : State → Turn
  halt : Completed → Turn

-- on into a part, or out of k
abbrev pub or_leave : Option ℕ → (k : ℕ) → Place
or_leave none k = leave k normal
or_leave (some m) k = enter m

-- by one answer: the part for yes; for no another, or out of k
unfoldable pub asked : (k if_yes : ℕ) → (if_no : Option ℕ) → List ℕ → Answers → State
asked k if_yes if_no performed [] = state (leave k (stop no_answer_left)) performed []
asked k if_yes if_no performed (zero ∷ left) = state (or_leave if_no k) performed left
asked k if_yes if_no performed (suc n ∷ left) = state (enter if_yes) performed left

abbrev pub case_at : List ℕ → ℕ → Option ℕ
case_at [] place = none
case_at (k ∷ ks) zero = some k
case_at (k ∷ ks) (suc place) = case_at ks place

unfoldable pub asked_place : (k : ℕ) → (cases : List ℕ) → List ℕ → Answers → State
asked_place k cases performed [] = state (leave k (stop no_answer_left)) performed []
asked_place k cases performed (place ∷ left) = state (or_leave (case_at cases place) k) performed left

unfoldable pub down : Node → (k : ℕ) → List ℕ → Answers → State
down (an_instr rows) k performed left = state (leave k normal) (performed ++ rows) left
down (a_block first) k performed left = state (or_leave first k) performed left
down (an_if label consequent alternate) k performed left = asked k consequent alternate performed left
down (a_case body) k performed left = state (enter body) performed left
down (a_switch label cases) k performed left = asked_place k cases performed left
down (a_loop label none again body) k performed left = state (enter body) performed left
down (a_loop label (some before) again body) k performed left = asked k body none (performed ++ before) left
down (a_label label body) k performed left = state (enter body) performed left
down (a_scope body) k performed left = state (enter body) performed left
down (a_leaf completion) k performed left = state (leave k completion) performed left

-- after a part that completed so: on to the next, or out of p
abbrev pub on_if_normal : Completion → (next : Option ℕ) → (p : ℕ) → (Completion → Completion) → Place
on_if_normal normal next p change = or_leave next p
on_if_normal (break target id) next p change = leave p (change (break target id))
on_if_normal (continue target id) next p change = leave p (change (continue target id))
on_if_normal (stop reason) next p change = leave p (change (stop reason))

-- part k of the row p, seen as the node, completed so
unfoldable pub up : Node → (p : ℕ) → (next : Option ℕ) → Completion → List ℕ → Answers → State
up (an_instr rows) p next c performed left = state (leave p c) performed left
up (a_block first) p next c performed left = state (on_if_normal c next p (λ z. z)) performed left
up (an_if label consequent alternate) p next c performed left = state (leave p (labelled label c)) performed left
up (a_case body) p next c performed left = state (leave p c) performed left
up (a_switch label cases) p next c performed left = state (on_if_normal c next p (λ z. labelled label (breakable z))) performed left
up (a_loop label before again body) p next c performed left =
    elim (loop_continues c (label_set label)) [
      | true ↦ asked p body none (performed ++ again) left
      | false ↦ state (leave p (labelled label (breakable c))) performed left
    ]
up (a_label label body) p next c performed left = state (leave p (labelled label c)) performed left
up (a_scope body) p next c performed left = state (leave p c) performed left
up (a_leaf completion) p next c performed left = state (leave p c) performed left

module _ (L : Layout) where
  unfoldable pub up_from : Option ℕ → (k : ℕ) → Completion → List ℕ → Answers → Turn
  up_from none k c performed left = halt (completed performed c left)
  up_from (some p) k c performed left = going (up (L.node p) p (L.next k) c performed left)

  unfoldable pub leaving : (k : ℕ) → Completion → List ℕ → Answers → Turn
  leaving k (stop reason) performed left = halt (completed performed (stop reason) left)
  leaving k normal performed left = up_from (L.parent k) k normal performed left
  leaving k (break target id) performed left = up_from (L.parent k) k (break target id) performed left
  leaving k (continue target id) performed left = up_from (L.parent k) k (continue target id) performed left

  unfoldable pub step : State → Turn
  step (state (enter k) performed left) = going (down (L.node k) k performed left)
  step (state (leave k c) performed left) = leaving k c performed left

  -- the walk from this state comes to this end, within so many turns
  pub data Completes : (turns : ℕ) → State → Completed → Type 0 where
    halts : {n : ℕ} {s : State} {end : Completed} → step s ≡ halt end → Completes (suc n) s end
    goes : {n : ℕ} {s next : State} {end : Completed} → step s ≡ going next → Completes n next end → Completes (suc n) s end

  -- the turns until the walk halts, counted with so much fuel: the measure of the code's loop
  unfoldable pub turns_left : (fuel : ℕ) → State → ℕ
  turns_left zero s = 0
  turns_left (suc fuel) s = elim (step s) [ going next ↦ suc (turns_left fuel next) | halt end ↦ 0 ]
