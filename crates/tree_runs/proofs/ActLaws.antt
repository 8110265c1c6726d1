-- A turn of the walk is what its act does; and where it goes does not depend on the rows performed before, so that neither do the turns left.
use mathlib.Core.Path.{◌≡◌, refl, sym, ap, ◌∙◌}
use Prim.Native.Nat.{ℕ, zero, suc}
use mathlib.Core.List.{List, [], ◌∷◌, ◌++◌, append-nil}
use mathlib.Core.Option.{Option, none, some}
use mathlib.Core.Bool.{Bool, true, false}
use Rattle.definition.specs.Run.{Answers}
use Rattle.definition.specs.Completion.{Completion, normal, break, continue, stop, label_set, loop_continues, breakable, labelled}
use Rattle.definition.specs.TreeRun.{Completed}
use Rattle.tree_runs.specs.Layout.{Node, an_instr, a_block, an_if, a_case, a_switch, a_loop, a_label, a_scope, a_leaf, Layout}
use Rattle.tree_runs.specs.Machine.{Place, enter, leave, state, Turn, going, halt, asked, asked_place, down, up, up_from, leaving, step, turns_left}
use Rattle.tree_runs.specs.Acts.{Then, go, ask, pick, Act, act, do_then, do_act, act_down, round_again, act_up}

-- nothing performed
none_more : (then : Then) (P : List ℕ) (a : Answers) → do_then then P a ≡ do_then then (P ++ []) a
none_more then P a = ap (λ (Q : List ℕ). do_then then Q a) (sym (append-nil P))

asks_if : (k y : ℕ) (x : Option ℕ) (P : List ℕ) (a : Answers) → asked k y x P a ≡ do_act (act_down (an_if none y x) k) P a
unfolding asked do_then do_act act_down
asks_if k y none P [] = ap (λ (Q : List ℕ). do_then (ask k (enter y) (leave k normal)) Q []) (sym (append-nil P))
asks_if k y none P (zero ∷ a) = none_more (ask k (enter y) (leave k normal)) P (zero ∷ a)
asks_if k y none P (suc m ∷ a) = none_more (ask k (enter y) (leave k normal)) P (suc m ∷ a)
asks_if k y (some z) P [] = none_more (ask k (enter y) (enter z)) P []
asks_if k y (some z) P (zero ∷ a) = none_more (ask k (enter y) (enter z)) P (zero ∷ a)
asks_if k y (some z) P (suc m ∷ a) = none_more (ask k (enter y) (enter z)) P (suc m ∷ a)

asks_on : (k y : ℕ) (P : List ℕ) (a : Answers) → asked k y none P a ≡ do_then (ask k (enter y) (leave k normal)) P a
unfolding asked do_then
asks_on k y P [] = refl
asks_on k y P (zero ∷ a) = refl
asks_on k y P (suc m ∷ a) = refl

asks_place : (k : ℕ) (cs : List ℕ) (P : List ℕ) (a : Answers) → asked_place k cs P a ≡ do_then (pick k cs) P a
unfolding asked_place do_then
asks_place k cs P [] = refl
asks_place k cs P (x ∷ a) = refl

pub down_acts : (n : Node) (k : ℕ) (P : List ℕ) (a : Answers) → down n k P a ≡ do_act (act_down n k) P a
unfolding down act_down do_act
down_acts (an_instr rows) k P a = unfold do_then in refl
down_acts (a_block first) k P a = unfold do_then in ap (λ (Q : List ℕ). state _ Q a) (sym (append-nil P))
down_acts (an_if l c x) k P a = asks_if k c x P a
down_acts (a_case b) k P a = unfold do_then in ap (λ (Q : List ℕ). state (enter b) Q a) (sym (append-nil P))
down_acts (a_switch l cs) k P a = asks_place k cs P a ∙ none_more (pick k cs) P a
down_acts (a_loop l none again b) k P a = unfold do_then in ap (λ (Q : List ℕ). state (enter b) Q a) (sym (append-nil P))
down_acts (a_loop l (some rows) again b) k P a = asks_on k b (P ++ rows) a
down_acts (a_label l b) k P a = unfold do_then in ap (λ (Q : List ℕ). state (enter b) Q a) (sym (append-nil P))
down_acts (a_scope b) k P a = unfold do_then in ap (λ (Q : List ℕ). state (enter b) Q a) (sym (append-nil P))
down_acts (a_leaf c) k P a = unfold do_then in ap (λ (Q : List ℕ). state (leave k c) Q a) (sym (append-nil P))

goes_there : (place : Place) (P : List ℕ) (a : Answers) → state place P a ≡ do_act (act [] (go place)) P a
unfolding do_act do_then
goes_there place P a = ap (λ (Q : List ℕ). state place Q a) (sym (append-nil P))

pub up_acts : (n : Node) (p : ℕ) (next : Option ℕ) (c : Completion) (P : List ℕ) (a : Answers) → up n p next c P a ≡ do_act (act_up n p next c) P a
unfolding up act_up
up_acts (an_instr rows) p next c P a = goes_there _ P a
up_acts (a_block first) p next c P a = goes_there _ P a
up_acts (an_if l x y) p next c P a = goes_there _ P a
up_acts (a_case b) p next c P a = goes_there _ P a
up_acts (a_switch l cs) p next c P a = goes_there _ P a
up_acts (a_loop l before again b) p next c P a = by (loop_continues c (label_set l))
  where
    by : (y : Bool) → elim y [ true ↦ asked p b none (P ++ again) a | false ↦ state (leave p (labelled l (breakable c))) P a ] ≡ do_act (round_again y l again b p c) P a
    by true = unfold do_act in asks_on p b (P ++ again) a
    by false = goes_there (leave p (labelled l (breakable c))) P a
up_acts (a_label l b) p next c P a = goes_there _ P a
up_acts (a_scope b) p next c P a = goes_there _ P a
up_acts (a_leaf x) p next c P a = goes_there _ P a

-- ---- what was performed before does not matter

-- two turns that go to one place with the same answers left, or that both halt
data AlikeTurns : Turn → Turn → Type 0 where
  both_go : {place : Place} {P Q : List ℕ} {a : Answers} → AlikeTurns (going (state place P a)) (going (state place Q a))
  both_halt : {e e' : Completed} → AlikeTurns (halt e) (halt e')

then_alike : (then : Then) (P Q : List ℕ) (a : Answers) → AlikeTurns (going (do_then then P a)) (going (do_then then Q a))
unfolding do_then
then_alike (go place) P Q a = both_go
then_alike (ask k y n) P Q [] = both_go
then_alike (ask k y n) P Q (zero ∷ a) = both_go
then_alike (ask k y n) P Q (suc m ∷ a) = both_go
then_alike (pick k cs) P Q [] = both_go
then_alike (pick k cs) P Q (x ∷ a) = both_go

act_alike : (x : Act) (P Q : List ℕ) (a : Answers) → AlikeTurns (going (do_act x P a)) (going (do_act x Q a))
unfolding do_act
act_alike (act rows then) P Q a = then_alike then (P ++ rows) (Q ++ rows) a

module _ (L : Layout) where
  from_alike : (p : Option ℕ) (k : ℕ) (c : Completion) (P Q : List ℕ) (a : Answers) → AlikeTurns (up_from L p k c P a) (up_from L p k c Q a)
  unfolding up_from
  from_alike none k c P Q a = both_halt
  from_alike (some p) k c P Q a =
      rw (up_acts (L.node p) p (L.next k) c P a, up_acts (L.node p) p (L.next k) c Q a) (act_alike (act_up (L.node p) p (L.next k) c) P Q a)

  step_alike : (place : Place) (P Q : List ℕ) (a : Answers) → AlikeTurns (step L (state place P a)) (step L (state place Q a))
  unfolding step leaving
  step_alike (enter k) P Q a = rw (down_acts (L.node k) k P a, down_acts (L.node k) k Q a) (act_alike (act_down (L.node k) k) P Q a)
  step_alike (leave k normal) P Q a = from_alike (L.parent k) k normal P Q a
  step_alike (leave k (break t i)) P Q a = from_alike (L.parent k) k (break t i) P Q a
  step_alike (leave k (continue t i)) P Q a = from_alike (L.parent k) k (continue t i) P Q a
  step_alike (leave k (stop r)) P Q a = both_halt

  abbrev after : Turn → ℕ → ℕ
  after turn fuel = elim turn [ going next ↦ suc (turns_left L fuel next) | halt end ↦ 0 ]

  pub turns_alike : (fuel : ℕ) (place : Place) (P Q : List ℕ) (a : Answers) → turns_left L fuel (state place P a) ≡ turns_left L fuel (state place Q a)
  unfolding turns_left
  turns_alike zero place P Q a = refl
  turns_alike (suc fuel) place P Q a = by (λ p' P' Q' a'. turns_alike fuel p' P' Q' a') (step_alike place P Q a)
    where
      by : ((p' : Place) (P' Q' : List ℕ) (a' : Answers) → turns_left L fuel (state p' P' a') ≡ turns_left L fuel (state p' Q' a')) → {t u : Turn} → AlikeTurns t u
          → after t fuel ≡ after u fuel
      by on (both_go {place = p'} {P = P'} {Q = Q'} {a = a'}) = ap (λ (n : ℕ). suc n) (on p' P' Q' a')
      by on both_halt = refl
