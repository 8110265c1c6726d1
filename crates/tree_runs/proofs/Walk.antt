-- The walk over the rows gives what the tree run gives, for every tree that is laid out, in turns that the answers pay for.
use mathlib.Core.Path.{◌≡◌, refl, sym, ap, ◌∙◌, subst}
use Prim.Native.Nat.{ℕ, zero, suc, ◌+◌, ◌*◌, ◌≤◌}
use native.Mathlib.Omega.{arith}
use native.Mathlib.Nat.{zero-mul, suc-mul, le_refl, le_trans, le_step, le_of_suc-le-suc, not-suc-le-zero}
use mathlib.Core.List.{List, [], ◌∷◌, ◌++◌, append-nil, append_assoc}
use mathlib.Core.Option.{Option, none, some}
use mathlib.Core.Bool.{Bool, true, false}
use lib.ListN.{length}
use Rattle.definition.specs.Tree.{Statement, INSTR, IF, SWITCH, DOWHILE, WHILE, FOR, FOROF, FORIN, LABEL, TRY, SCOPE, RETURN, THROW, BREAK, CONTINUE, Statements, done, ◌▸◌, Cases, no_cases, CASE}
use Rattle.definition.specs.Run.{Answers, Reason, no_answer_left}
use Rattle.definition.specs.Completion.{Completion, normal, break, continue, stop, label_set, loop_continues, breakable, labelled}
use Rattle.definition.specs.TreeRun.{entry_at, choose_place, switch_ends, entries_from, Completed, completed, completing, prefix, then_on, then, choose, performs}
use Rattle.definition.specs.TreeRun.{performs_update, after_body, while_rounds, while_loop, for_loop, do_while_loop, loop, run_statement, run_statements}
use Rattle.definition.proofs.Loops.{Taken, taken_shorter, takes_statements}
use Rattle.tree_runs.specs.Layout.{Node, an_instr, a_block, an_if, a_case, a_switch, a_loop, a_label, a_scope, a_leaf, Layout, Laid, LaidBlock, LaidList, LaidCases, turns_of, turns_in, turns_in_cases}
use Rattle.tree_runs.specs.Machine.{enter, leave, State, state, going, halt, or_leave, asked, case_at, asked_place, down, on_if_normal, up, up_from, leaving, step, Completes, halts, goes}

module _ (L : Layout) where
  more_turns : {n : ℕ} {s : State} {end : Completed} → Completes L n s end → (m : ℕ) → n ≤ m → Completes L m s end
  more_turns (halts e) zero h = absurd (not-suc-le-zero h)
  more_turns (halts e) (suc m) h = halts e
  more_turns (goes e g) zero h = absurd (not-suc-le-zero h)
  more_turns (goes e g) (suc m) h = goes e (more_turns g m (le_of_suc-le-suc h))

  -- whatever the walk from t comes to within y turns, the walk from s comes to within x
  pub record Leads (x : ℕ) (s : State) (y : ℕ) (t : State) : Type 0 where
    pub on : (end : Completed) → Completes L y t end → Completes L x s end

  stays : {x y : ℕ} (s : State) → y ≤ x → Leads x s y s
  stays {x} s h = record { on = λ end g. more_turns g x h }

  both : {x y z : ℕ} {s t u : State} → Leads x s y t → Leads y t z u → Leads x s z u
  both p q = record { on = λ end g. p.on end (q.on end g) }

  one : {x y : ℕ} {s t : State} → suc y ≤ x → step L s ≡ going t → Leads x s y t
  one {x} h e = record { on = λ end g. more_turns (goes e g) x h }

  lift : {x x' y y' : ℕ} {s t : State} → x ≤ x' → y' ≤ y → Leads x s y t → Leads x' s y' t
  lift {x} {x'} {y} {y'} h k p = record { on = λ end g. more_turns (p.on end (more_turns g y k)) x' h }

  -- up to the same state, written in another way
  same : {x y : ℕ} {s t u : State} → t ≡ u → Leads x s y t → Leads x s y u
  same {x} {y} {s} {t} {u} e p = subst (λ (z : State). Leads x s y z) e p

  -- the state in which a part at row k has come to this, after the rows P
  abbrev arrived : ℕ → List ℕ → Completed → State
  arrived k P o = state (leave k o.completion) (P ++ o.rows) o.left

  halt_is : {a b : Completed} → halt a ≡ halt b → a ≡ b
  halt_is e = cc

  halt_going : {a : Completed} {s : State} → halt a ≡ going s → ⊥
  halt_going e = let z : ◌≡◌ {A = ℕ} 0 1 = cc in omega arith

  -- where the run stops does not matter
  stopped_on : (k p : ℕ) (r : Reason) (P : List ℕ) (a : Answers) (x y : ℕ) → y ≤ x → (end : Completed)
      → Completes L y (state (leave p (stop r)) P a) end → Completes L x (state (leave k (stop r)) P a) end
  unfolding step leaving
  stopped_on k p r P a x y h end (halts e) = more_turns (halts (ap (λ (z : Completed). halt z) (halt_is e))) x h
  stopped_on k p r P a x y h end (goes e g) = absurd (halt_going e)

  stopped_up : (k p : ℕ) (r : Reason) (P : List ℕ) (a : Answers) {x y : ℕ} → y ≤ x → Leads x (state (leave k (stop r)) P a) y (state (leave p (stop r)) P a)
  stopped_up k p r P a {x} {y} h = record { on = λ end g. stopped_on k p r P a x y h end g }

  -- ---- one turn

  enter_on : (k : ℕ) (n : Node) → L.node k ≡ n → (P : List ℕ) (a : Answers) {x y : ℕ} → suc y ≤ x → Leads x (state (enter k) P a) y (down n k P a)
  unfolding step
  enter_on k n e P a h = one h (ap (λ (z : Node). going (down z k P a)) e)

  up_stop : (n : Node) (p : ℕ) (nx : Option ℕ) (r : Reason) (P : List ℕ) (a : Answers) → state (leave p (stop r)) P a ≡ up n p nx (stop r) P a
  unfolding up labelled breakable loop_continues
  up_stop (an_instr rows) p nx r P a = refl
  up_stop (a_block first) p nx r P a = refl
  up_stop (an_if l c x) p nx r P a = refl
  up_stop (a_case b) p nx r P a = refl
  up_stop (a_switch l cs) p nx r P a = refl
  up_stop (a_loop l before again b) p nx r P a = refl
  up_stop (a_label l b) p nx r P a = refl
  up_stop (a_scope b) p nx r P a = refl
  up_stop (a_leaf c) p nx r P a = refl

  upward : {k p : ℕ} {n : Node} → L.parent k ≡ some p → L.node p ≡ n → (c : Completion) (P : List ℕ) (a : Answers) → up_from L (L.parent k) k c P a ≡ going (up n p (L.next k) c P a)
  unfolding up_from
  upward {k} {p} {n} e h c P a = rw e (ap (λ (z : Node). going (up z p (L.next k) c P a)) h)

  leave_on : {k p : ℕ} {n : Node} → L.parent k ≡ some p → L.node p ≡ n → (c : Completion) (P : List ℕ) (a : Answers) {x y : ℕ} → suc y ≤ x
      → Leads x (state (leave k c) P a) y (up n p (L.next k) c P a)
  unfolding step leaving
  leave_on e h normal P a u = one u (upward e h normal P a)
  leave_on e h (break t i) P a u = one u (upward e h (break t i) P a)
  leave_on e h (continue t i) P a u = one u (upward e h (continue t i) P a)
  leave_on {k} {p} {n} e h (stop r) P a {x} {y} u = same (up_stop n p (L.next k) r P a) (stopped_up k p r P a (le_trans (le_step (le_refl y)) u))

  -- ---- parts in order

  abbrev arrived_by : (Completion → Completion) → ℕ → List ℕ → Completed → State
  arrived_by f k P o = state (leave k (f o.completion)) (P ++ o.rows) o.left

  joined : (f : Completion → Completion) (k : ℕ) (P rows : List ℕ) (o : Completed) → arrived_by f k (P ++ rows) o ≡ arrived_by f k P (prefix rows o)
  unfolding prefix completed
  joined f k P rows o = ap (λ (z : List ℕ). state (leave k (f o.completion)) z o.left) (append_assoc P rows o.rows)

  nothing_more : (c : Completion) (k : ℕ) (P : List ℕ) (a : Answers) → state (leave k c) P a ≡ state (leave k c) (P ++ []) a
  nothing_more c k P a = ap (λ (z : List ℕ). state (leave k c) z a) (sym (append-nil P))

  -- ---- what the answers pay: W turns each

  module _ (W : ℕ) where
    unfoldable worth : Answers → ℕ
    worth [] = 0
    worth (x ∷ a) = W + worth a

    -- a part that begins as s with the answers a takes at most `cost` turns, and what its answers pay for
    abbrev Costs : (cost : ℕ) → (a : Answers) → State → Answers → State → Type 0
    Costs cost a s left t = (z : ℕ) → Leads (cost + (worth a + z)) s (worth left + z) t

    module _ (f : Completion → Completion) where
      then_sim : (c : Completion) (o : Completed) → o.completion ≡ c → (nx : Option ℕ) (b : ℕ) (P : List ℕ) (k : Answers → Completed) (cost : ℕ)
          → ((P' : List ℕ) (a' : Answers) → Costs cost a' (state (or_leave nx b) P' a') (k a').left (arrived_by f b P' (k a')))
          → Costs cost o.left (state (on_if_normal c nx b f) (P ++ o.rows) o.left) (then_on c o k).left (arrived_by f b P (then_on c o k))
      unfolding then_on prefix completed
      then_sim normal o e nx b P k cost h z = same (joined f b P o.rows (k o.left)) (h (P ++ o.rows) o.left z)
      then_sim (break t i) o e nx b P k cost h z = same (ap (λ (z : Completion). state (leave b (f z)) (P ++ o.rows) o.left) (sym e)) (stays _ (omega arith))
      then_sim (continue t i) o e nx b P k cost h z = same (ap (λ (z : Completion). state (leave b (f z)) (P ++ o.rows) o.left) (sym e)) (stays _ (omega arith))
      then_sim (stop r) o e nx b P k cost h z = same (ap (λ (z : Completion). state (leave b (f z)) (P ++ o.rows) o.left) (sym e)) (stays _ (omega arith))

      choose_sim : f (stop no_answer_left) ≡ stop no_answer_left → (k y : ℕ) (n : Option ℕ) (P : List ℕ) (Y N : Answers → Completed) (cost : ℕ)
          → ((a : Answers) → Costs cost a (state (enter y) P a) (Y a).left (arrived_by f k P (Y a))) → ((a : Answers) → Costs cost a (state (or_leave n k) P a) (N a).left (arrived_by f k P (N a)))
          → (a : Answers) → Costs cost a (asked k y n P a) (choose Y N a).left (arrived_by f k P (choose Y N a))
      unfolding asked choose completed worth
      choose_sim e k y n P Y N cost p q [] z = same (ap (λ (z : Completion). state (leave k z) P []) (sym e) ∙ nothing_more (f (stop no_answer_left)) k P []) (stays _ (omega arith))
      choose_sim e k y n P Y N cost p q (zero ∷ a) z = lift (omega arith) (le_refl _) (q a z)
      choose_sim e k y n P Y N cost p q (suc m ∷ a) z = lift (omega arith) (le_refl _) (p a z)

    -- ---- loops

    abbrev ended : Option ℕ → Completion → Completion
    ended l c = labelled l (breakable c)

    abbrev after_on : Bool → Completed → (Answers → Completed) → Completed
    after_on m o next = elim m [ true ↦ prefix o.rows (next o.left) | false ↦ o ]

    abbrev Runs : ℕ → ℕ → (Answers → Completed) → Type 0
    Runs cost b body = (P : List ℕ) (a : Answers) → Costs cost a (state (enter b) P a) (body a).left (arrived b P (body a))

    module _ (l : Option ℕ) (before : Option (List ℕ)) (again : List ℕ) (b k : ℕ) (e : L.node k ≡ a_loop l before again b) (p : L.parent b ≡ some k)
        (body : Answers → Completed) (cost : ℕ) (runs : Runs cost b body) (takes : (a : Answers) → Taken a (body a).left) (pays : suc cost ≤ W) where
      after_on_lem : (m : Bool) (o : Completed) (P : List ℕ) (next : Answers → Completed)
          → Costs 0 o.left (asked k b none ((P ++ o.rows) ++ again) o.left) (next o.left).left (arrived_by (ended l) k (P ++ o.rows) (next o.left))
          → Costs 0 o.left (elim m [ true ↦ asked k b none ((P ++ o.rows) ++ again) o.left | false ↦ state (leave k (ended l o.completion)) (P ++ o.rows) o.left ])
          (after_on m o next).left (arrived_by (ended l) k P (after_on m o next))
      unfolding prefix completed
      after_on_lem true o P next h z = same (joined (ended l) k P o.rows (next o.left)) (h z)
      after_on_lem false o P next h z = stays _ (omega arith)

      -- a round's body, and what follows it
      round_sim : (P : List ℕ) (a : Answers) (next : Answers → Completed)
          → Costs 0 (body a).left (asked k b none ((P ++ (body a).rows) ++ again) (body a).left) (next (body a).left).left (arrived_by (ended l) k (P ++ (body a).rows) (next (body a).left))
          → Costs (suc cost) a (state (enter b) P a) (after_body (label_set l) (body a) next).left (arrived_by (ended l) k P (after_body (label_set l) (body a) next))
      unfolding after_body up
      round_sim P a next h z =
          both (lift (omega arith) (le_refl _) (runs P a (suc z)))
          (both (leave_on p e (body a).completion (P ++ (body a).rows) (body a).left (omega arith)) (after_on_lem (loop_continues (body a).completion (label_set l)) (body a) P next h z))

      rounds_sim : (n : ℕ) (a : Answers) (P : List ℕ) → length a ≤ n
          → Costs 0 a (asked k b none (P ++ again) a) (while_rounds (label_set l) again body n a).left (arrived_by (ended l) k P (while_rounds (label_set l) again body n a))
      unfolding while_rounds asked completed labelled breakable choose worth prefix
      rounds_sim zero [] P h z = stays _ (omega arith)
      rounds_sim zero (x ∷ a) P h z = absurd (not-suc-le-zero h)
      rounds_sim (suc n) [] P h z = same (nothing_more (stop no_answer_left) k (P ++ again) [] ∙ joined (ended l) k P again (completed [] (stop no_answer_left) [])) (stays _ (omega arith))
      rounds_sim (suc n) (zero ∷ a) P h z = same (nothing_more normal k (P ++ again) a ∙ joined (ended l) k P again (completed [] normal a)) (stays _ (omega arith))
      rounds_sim (suc n) (suc m ∷ a) P h z =
          same (joined (ended l) k P again (after_body (label_set l) (body a) (λ z. while_rounds (label_set l) again body n z)))
          (lift (omega (arith, pays)) (le_refl _) (round_sim (P ++ again) a (λ z. while_rounds (label_set l) again body n z)
          (rounds_sim n (body a).left ((P ++ again) ++ (body a).rows) (le_trans (taken_shorter (takes a)) (le_of_suc-le-suc h))) z))

      while_sim : (a : Answers) (P : List ℕ) → Costs 0 a (asked k b none (P ++ again) a) (while_loop (label_set l) again body a).left (arrived_by (ended l) k P (while_loop (label_set l) again body a))
      unfolding while_loop
      while_sim a P = rounds_sim (length a) a P (le_refl (length a))

      abbrev first : Answers → Completed
      first a = choose (λ z. after_body (label_set l) (body z) (λ z'. while_loop (label_set l) again body z')) (λ z. completed [] normal z) a

      -- the first answer, before which other rows may have been performed
      first_sim : (P : List ℕ) (a : Answers) → Costs (suc cost) a (asked k b none P a) (first a).left (arrived_by (ended l) k P (first a))
      unfolding labelled breakable completed
      first_sim P a =
          choose_sim (ended l) refl k b none P (λ z. after_body (label_set l) (body z) (λ z'. while_loop (label_set l) again body z')) (λ z. completed [] normal z) (suc cost)
          (λ z. round_sim P z (λ z'. while_loop (label_set l) again body z') (while_sim (body z).left (P ++ (body z).rows)))
          (λ z y. same (nothing_more normal k P z) (stays _ (omega arith))) a

    -- ---- the cases of a switch

    -- each of the rows is entered as its entry says, and ends the switch at row s
    abbrev EntriesAt : (f : Completion → Completion) → (cost s : ℕ) → List ℕ → List (Answers → Completed) → Type 0
    EntriesAt f cost s [] [] = Unit {0}
    EntriesAt f cost s [] (entry ∷ entries) = ⊥
    EntriesAt f cost s (k ∷ ks) [] = ⊥
    EntriesAt f cost s (k ∷ ks) (entry ∷ entries) = ((P : List ℕ) (a : Answers) → Costs cost a (state (enter k) P a) (entry a).left (arrived_by f s P (entry a))) × EntriesAt f cost s ks entries

    dearer : (f : Completion → Completion) (cost more s : ℕ) → cost ≤ more → (ks : List ℕ) (es : List (Answers → Completed)) → EntriesAt f cost s ks es → EntriesAt f more s ks es
    dearer f cost more s h [] [] q = tt
    dearer f cost more s h [] (e ∷ es) q = absurd q
    dearer f cost more s h (k ∷ ks) [] q = absurd q
    dearer f cost more s h (k ∷ ks) (e ∷ es) (p, q) = ((λ P a z. lift (omega (arith, h)) (le_refl _) (p P a z)), dearer f cost more s h ks es q)

    place_sim : (f : Completion → Completion) (cost s : ℕ) → f normal ≡ normal → (ks : List ℕ) (es : List (Answers → Completed)) → EntriesAt f cost s ks es → (place : ℕ) (P : List ℕ) (a : Answers)
        → Costs cost a (state (or_leave (case_at ks place) s) P a) (entry_at es place a).left (arrived_by f s P (entry_at es place a))
    unfolding entry_at completed
    place_sim f cost s e [] [] h place P a z = same (nothing_more normal s P a ∙ ap (λ (z : Completion). state (leave s z) (P ++ []) a) (sym e)) (stays _ (omega arith))
    place_sim f cost s e [] (x ∷ es) h place P a z = absurd h
    place_sim f cost s e (k ∷ ks) [] h place P a z = absurd h
    place_sim f cost s e (k ∷ ks) (x ∷ es) (h, q) zero P a z = h P a z
    place_sim f cost s e (k ∷ ks) (x ∷ es) (h, q) (suc place) P a z = place_sim f cost s e ks es q place P a z

    places_sim : (f : Completion → Completion) (cost s : ℕ) → f normal ≡ normal → f (stop no_answer_left) ≡ stop no_answer_left
        → (ks : List ℕ) (es : List (Answers → Completed)) → EntriesAt f cost s ks es
        → (P : List ℕ) (a : Answers) → Costs cost a (asked_place s ks P a) (choose_place es a).left (arrived_by f s P (choose_place es a))
    unfolding asked_place choose_place completed worth
    places_sim f cost s e q ks es h P [] z = same (ap (λ (z : Completion). state (leave s z) P []) (sym q) ∙ nothing_more (f (stop no_answer_left)) s P []) (stays _ (omega arith))
    places_sim f cost s e q ks es h P (place ∷ a) z = lift (omega arith) (le_refl _) (place_sim f cost s e ks es h place P a z)

    -- a case's body, and what comes after it
    case_sim : (l : Option ℕ) (cs : List ℕ) (s k b : ℕ) → L.node s ≡ a_switch l cs → L.node k ≡ a_case b → L.parent k ≡ some s → L.parent b ≡ some k
        → (body after : Answers → Completed) (cost more : ℕ) → Runs cost b body
        → ((P : List ℕ) (a : Answers) → Costs more a (state (or_leave (L.next k) s) P a) (after a).left (arrived_by (ended l) s P (after a)))
        → (P : List ℕ) (a : Answers) → Costs (3 + (cost + more)) a (state (enter k) P a) (then (body a) after).left (arrived_by (ended l) s P (then (body a) after))
    unfolding down up then
    case_sim l cs s k b e h p q body after cost more runs on P a z =
        both (enter_on k (a_case b) h P a (omega arith))
        (both (runs P a (2 + (more + z)))
        (both (leave_on q h (body a).completion (P ++ (body a).rows) (body a).left {y = suc (more + (worth (body a).left + z))} (omega arith))
        (both (leave_on p e (body a).completion (P ++ (body a).rows) (body a).left (le_refl _))
        (then_sim (ended l) (body a).completion (body a) refl (L.next k) s P after more on z))))

    -- ---- the tree

    leaf_sim : (k : ℕ) (c : Completion) → L.node k ≡ a_leaf c → (P : List ℕ) (a : Answers) → Costs 1 a (state (enter k) P a) a (arrived k P (completed [] c a))
    unfolding down completed
    leaf_sim k c e P a z = same (nothing_more c k P a) (enter_on k (a_leaf c) e P a (omega arith))

    for_end : (l : Option ℕ) (k : ℕ) (P rows : List ℕ) (o : Completed) → arrived_by (ended l) k P (prefix rows o) ≡ arrived k P (prefix rows (loop l o))
    unfolding prefix loop completing completed
    for_end l k P rows o = refl

    for_left : (l : Option ℕ) (rows rows' : List ℕ) (o : Completed) → o.left ≡ (prefix rows (loop l (prefix rows' o))).left
    unfolding prefix loop completing completed
    for_left l rows rows' o = refl

    paid : {x : ℕ} {s t : State} (z : ℕ) (a b : Answers) → a ≡ b → Leads x s (worth a + z) t → Leads x s (worth b + z) t
    paid {x} {s} {t} z a b e p = subst (λ (y : Answers). Leads x s (worth y + z) t) e p

    -- a block's turns but for the first
    abbrev less : Statements → ℕ
    less done = 0
    less (statement ▸ rest) = turns_of statement + turns_in rest

    one_less : (r : Statements) → suc (less r) ≤ turns_in r
    one_less done = omega arith
    one_less (s ▸ r) = omega arith

    one_of : (r : Statements) (x z : ℕ) → suc (less r + (x + z)) ≤ x + (turns_in r + z)
    one_of r x z = let h : suc (less r) ≤ turns_in r = one_less r in omega (arith, h)

    mutual
      unfolding Laid LaidBlock LaidList LaidCases run_statement run_statements entries_from completed completing down up loop switch_ends then do_while_loop for_loop labelled breakable

      statement_sim : (s : Statement) (k : ℕ) → Laid L s k → turns_of s ≤ W → (P : List ℕ) (a : Answers)
          → Costs (turns_of s) a (state (enter k) P a) (run_statement s a).left (arrived k P (run_statement s a))
      statement_sim (INSTR i lv sp v) k e w P a z = enter_on k _ e P a (omega arith)
      statement_sim (IF t i l c true x) k (kc, kx, e, pc, hc, px, hx) w P a z =
          both (enter_on k _ e P a {y = (1 + (turns_in c + turns_in x)) + (worth a + z)} (omega arith))
          (choose_sim (labelled l) refl k kc (some kx) P (λ z. run_statements c z) (λ z. run_statements x z) (1 + (turns_in c + turns_in x))
          (λ b y. both (lift (omega arith) (le_refl _) (block_sim c kc hc (omega (arith, w)) P b (suc y)))
          (leave_on pc e (run_statements c b).completion (P ++ (run_statements c b).rows) (run_statements c b).left (omega arith)))
          (λ b y. both (lift (omega arith) (le_refl _) (block_sim x kx hx (omega (arith, w)) P b (suc y)))
          (leave_on px e (run_statements x b).completion (P ++ (run_statements x b).rows) (run_statements x b).left (omega arith))) a z)
      statement_sim (IF t i l c false x) k (kc, e, pc, hc) w P a z =
          both (enter_on k _ e P a {y = (1 + turns_in c) + (worth a + z)} (omega arith))
          (choose_sim (labelled l) refl k kc none P (λ z. run_statements c z) (λ z. completed [] normal z) (1 + turns_in c)
          (λ b y. both (lift (omega arith) (le_refl _) (block_sim c kc hc (omega (arith, w)) P b (suc y)))
          (leave_on pc e (run_statements c b).completion (P ++ (run_statements c b).rows) (run_statements c b).left (omega arith)))
          (λ b y. same (nothing_more normal k P b) (stays _ (omega arith))) a z)
      statement_sim (SWITCH t i l cs) k (ks, e, h) w P a z =
          both (enter_on k _ e P a {y = turns_in_cases cs + (worth a + z)} (omega arith))
          (places_sim (ended l) (turns_in_cases cs) k refl refl ks (entries_from cs (λ z. completed [] normal z) [])
          (cases_sim cs k ks l e none [] (λ z. completed [] normal z) [] 0 (turns_in_cases cs) h (omega (arith, w)) (omega arith)
          (λ Q b y. same (nothing_more normal k Q b) (stays _ (omega arith))) tt) P a z)
      statement_sim (DOWHILE i l b t) k (kb, e, p, h) w P a z =
          let pays : suc (turns_in b) ≤ W = omega (arith, w) in
          both (enter_on k _ e P a {y = suc (turns_in b) + (worth a + z)} (omega arith))
          (round_sim l none (performs t) kb k e p (λ z. run_statements b z) (turns_in b) (λ y y' y''. block_sim b kb h (omega (arith, w)) y y' y'')
          (takes_statements b) pays P a (λ z. while_loop (label_set l) (performs t) (λ z'. run_statements b z') z)
          (while_sim l none (performs t) kb k e p (λ z. run_statements b z) (turns_in b) (λ y y' y''. block_sim b kb h (omega (arith, w)) y y' y'')
          (takes_statements b) pays (run_statements b a).left (P ++ (run_statements b a).rows)) z)
      statement_sim (WHILE i l t b) k (kb, e, p, h) w P a z =
          let pays : suc (turns_in b) ≤ W = omega (arith, w) in
          both (enter_on k _ e P a {y = 0 + (worth a + z)} (omega arith))
          (while_sim l (some (performs t)) (performs t) kb k e p (λ z. run_statements b z) (turns_in b) (λ y y' y''. block_sim b kb h (omega (arith, w)) y y' y'') (takes_statements b) pays a P z)
      statement_sim (FOR i l n t u b) k (kb, e, p, h) w P a z =
          let pays : suc (turns_in b) ≤ W = omega (arith, w) in
          let X : Completed = choose (λ z'. after_body (label_set l) (run_statements b z')
          (λ z''. while_loop (label_set l) (performs_update u ++ performs t) (λ y. run_statements b y) z'')) (λ z'. completed [] normal z') a in
          both (enter_on k _ e P a {y = suc (turns_in b) + (worth a + z)} (omega arith))
          (same (ap (λ (z : List ℕ). arrived_by (ended l) k z X) (sym (append_assoc P (performs n) (performs t)))
          ∙ (joined (ended l) k (P ++ performs n) (performs t) X ∙ (joined (ended l) k P (performs n) (prefix (performs t) X) ∙ for_end l k P (performs n) (prefix (performs t) X))))
          (paid z X.left _ (for_left l (performs n) (performs t) X)
          (first_sim l (some (performs n ++ performs t)) (performs_update u ++ performs t) kb k e p (λ z. run_statements b z) (turns_in b)
          (λ y y' y''. block_sim b kb h (omega (arith, w)) y y' y'') (takes_statements b) pays (P ++ (performs n ++ performs t)) a z)))
      statement_sim (FOROF i l s n t b) k e w P a z = leaf_sim k _ e P a z
      statement_sim (FORIN i l s n b) k e w P a z = leaf_sim k _ e P a z
      statement_sim (LABEL i l b) k (kb, e, p, h) w P a z =
          both (enter_on k _ e P a (omega arith))
          (both (block_sim b kb h (omega (arith, w)) P a (suc z)) (leave_on p e (run_statements b a).completion (P ++ (run_statements b a).rows) (run_statements b a).left (omega arith)))
      statement_sim (TRY i l n b h) k e w P a z = leaf_sim k _ e P a z
      statement_sim (SCOPE pr sc b) k (kb, e, p, h) w P a z =
          both (enter_on k _ e P a (omega arith))
          (both (block_sim b kb h (omega (arith, w)) P a (suc z)) (leave_on p e (run_statements b a).completion (P ++ (run_statements b a).rows) (run_statements b a).left (omega arith)))
      statement_sim (RETURN v i) k e w P a z = leaf_sim k _ e P a z
      statement_sim (THROW v i) k e w P a z = leaf_sim k _ e P a z
      statement_sim (BREAK t i kd n) k e w P a z = leaf_sim k _ e P a z
      statement_sim (CONTINUE t i kd n) k e w P a z = leaf_sim k _ e P a z

      block_sim : (s : Statements) (k : ℕ) → LaidBlock L s k → turns_in s ≤ W → (P : List ℕ) (a : Answers)
          → Costs (turns_in s) a (state (enter k) P a) (run_statements s a).left (arrived k P (run_statements s a))
      block_sim done k e w P a z = same (nothing_more normal k P a) (enter_on k _ e P a (omega arith))
      block_sim (s ▸ r) k (m, e, p, h, q) w P a z =
          both (enter_on k _ e P a (omega arith))
          (both (statement_sim s m h (omega (arith, w)) P a (turns_in r + z))
          (both (leave_on p e (run_statement s a).completion (P ++ (run_statement s a).rows) (run_statement s a).left (one_of r (worth (run_statement s a).left) z))
          (then_sim (λ z. z) (run_statement s a).completion (run_statement s a) refl (L.next m) k P (λ z. run_statements r z) (less r)
          (λ y y' y''. list_sim k (some m) e r (L.next m) q (omega (arith, w)) y y' y'') z)))

      list_sim : (k : ℕ) (f : Option ℕ) → L.node k ≡ a_block f → (s : Statements) (first : Option ℕ) → LaidList L k s first → turns_in s ≤ W
          → (P : List ℕ) (a : Answers) → Costs (less s) a (state (or_leave first k) P a) (run_statements s a).left (arrived k P (run_statements s a))
      list_sim k f e done first q w P a z = rw q (same (nothing_more normal k P a) (stays _ (omega arith)))
      list_sim k f e (s ▸ r) first (m, q, p, h, o) w P a z =
          rw q
          (both (lift (omega arith) (le_refl _) (statement_sim s m h (omega (arith, w)) P a (turns_in r + z)))
          (both (leave_on p e (run_statement s a).completion (P ++ (run_statement s a).rows) (run_statement s a).left (one_of r (worth (run_statement s a).left) z))
          (then_sim (λ y. y) (run_statement s a).completion (run_statement s a) refl (L.next m) k P (λ y. run_statements r y) (less r)
          (λ y y' y''. list_sim k f e r (L.next m) o (omega (arith, w)) y y' y'') z)))

      cases_sim : (cs : Cases) (s : ℕ) (all : List ℕ) (l : Option ℕ) → L.node s ≡ a_switch l all
          → (after : Option ℕ) (later : List ℕ) (onward : Answers → Completed) (entries : List (Answers → Completed)) (cost total : ℕ)
          → LaidCases L s all cs after later → turns_in_cases cs ≤ W → cost + turns_in_cases cs ≤ total
          → ((P : List ℕ) (a : Answers) → Costs cost a (state (or_leave after s) P a) (onward a).left (arrived_by (ended l) s P (onward a)))
          → EntriesAt (ended l) total s later entries → EntriesAt (ended l) total s all (entries_from cs onward entries)
      cases_sim no_cases s all l e after later onward entries cost total h w u on z = subst (λ (y : List ℕ). EntriesAt (ended l) total s y entries) h z
      cases_sim (CASE t b earlier) s all l e after later onward entries cost total (k, kb, ek, p, nx, q, hb, hs) w u on z =
          let entry : (P : List ℕ) (a : Answers) → Costs (3 + (turns_in b + cost)) a (state (enter k) P a) (then (run_statements b a) onward).left
          (arrived_by (ended l) s P (then (run_statements b a) onward))
          = case_sim l all s k kb e ek p q (λ y. run_statements b y) onward (turns_in b) cost (λ y y' y''. block_sim b kb hb (omega (arith, w)) y y' y'') (rw nx on) in
          cases_sim earlier s all l e (some k) (k ∷ later) (λ y. then (run_statements b y) onward) ((λ y. then (run_statements b y) onward) ∷ entries)
          (3 + (turns_in b + cost)) total hs (omega (arith, w)) (omega (arith, u)) entry
          ((λ P a y. lift (omega (arith, u)) (le_refl _) (entry P a y)), z)

  -- ---- the whole tree

  root_end : (k : ℕ) → L.parent k ≡ none → (c : Completion) (P : List ℕ) (a : Answers) (n : ℕ) → Completes L (suc n) (state (leave k c) P a) (completed P c a)
  unfolding step leaving up_from
  root_end k e normal P a n = halts (ap (λ (z : Option ℕ). up_from L z k normal P a) e)
  root_end k e (break t i) P a n = halts (ap (λ (z : Option ℕ). up_from L z k (break t i) P a) e)
  root_end k e (continue t i) P a n = halts (ap (λ (z : Option ℕ). up_from L z k (continue t i) P a) e)
  root_end k e (stop r) P a n = halts refl

  worth_length : (W : ℕ) (a : Answers) → worth W a ≡ length a * W
  unfolding worth
  worth_length W [] = sym (zero-mul W)
  worth_length W (x ∷ a) =
      let h : worth W a ≡ length a * W = worth_length W a in
      let e : suc (length a) * W ≡ length a * W + W = suc-mul (length a) W in
      omega (arith, h, e)

  -- the walk that begins at the root BLOCK gives the tree run, within W turns for each answer and W more
  pub walk_runs : (root : Statements) (k : ℕ) → LaidBlock L root k → L.parent k ≡ none → (W : ℕ) → suc (turns_in root) ≤ W → (a : Answers)
      → Completes L (suc (length a) * W) (state (enter k) [] a) (run_statements root a)
  unfolding completed
  walk_runs root k h e W w a =
      let u : worth W a ≡ length a * W = worth_length W a in
      let v : suc (length a) * W ≡ length a * W + W = suc-mul (length a) W in
      more_turns ((block_sim W root k h (omega (arith, w)) [] a 1).on (run_statements root a)
      (more_turns (root_end k e (run_statements root a).completion (run_statements root a).rows (run_statements root a).left 0) (worth W (run_statements root a).left + 1) (omega arith)))
      (suc (length a) * W) (omega (arith, u, v, w))
