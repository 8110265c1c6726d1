-- How large the walk's state grows. Each entered block pays for one entry of the stack, and at most 1,024 are entered; so a build that is
-- watched for a stack without room for one entry more, or for a block that is too deep, is the definition's. Between two watched states an
-- arm adds at most one entry.
use mathlib.Core.Path.{◌≡◌, refl, ap, ◌∙◌, subst}
use Prim.Native.Nat.{ℕ, zero, suc, ◌+◌, ◌≤◌, ◌<◌}
use native.Mathlib.Omega.{arith}
use mathlib.Core.List.{List, [], ◌∷◌}
use mathlib.Core.Option.{Option, none, some}
use mathlib.Core.Bool.{Bool, true, false}
use lib.Dec.{eqb}
use lib.ListN.{length}
use borrow.Author.Tests.{le-leb}
use Rattle.table.specs.Table.{Table, Block, Case, Terminal, absent, unreachable, throw, return, goto, if, branch, switch, do_while, while}
use Rattle.table.specs.Table.{for, for_of, for_in, logical, ternary, optional, label, sequence, maybe_throw, try, scope}
use Rattle.table.specs.Table.{Variant, Break, Continue, Try, block_at, terminal_at}
use Rattle.definition.specs.Around.{Rule, Around, Enclosing, outermost, within}
use Rattle.definition.specs.Context.{Flags, has, add, ControlFlowTarget, target_if, target_switch, target_case, target_loop, blocked_code}
use Rattle.definition.specs.Context.{block_asked, Entry}
use Rattle.definition.specs.Context.{Context, start, is_scheduled, emit, with_visits, mark_scope_fallthrough, schedule_catch_handler}
use Rattle.definition.specs.Context.{pushed, schedule, popped}
use Rattle.definition.specs.Context.{unschedule_top, unschedule}
use Rattle.definition.specs.Marks.{marks}
use Rattle.definition.specs.Result.{Result, ok, refused, ◌>>=◌, refuse_if}
use Rattle.definition.specs.Statement.{BlockResult, TerminalResult, TraverseBlock, TraverseInside, enter_block, unless_scheduled}
use Rattle.definition.specs.Statement.{schedule_if, schedule_switch, unschedule_if, mark_scope_fallthrough_if, visit_goto}
use Rattle.definition.specs.Statement.{traverse_unscheduled, AlternateResult}
use Rattle.definition.specs.Statement.{traverse_alternate, traverse_consequent, traverse_enclosed, traverse_loop, CasesResult}
use Rattle.definition.specs.Statement.{cases_last_first, traverse_cases, unschedule_all, schedule_ids, visit_value_statement}
use Rattle.definition.specs.Statement.{visit_terminal}
use Rattle.definition.specs.Statement.{then_next, visit_block, traverse_block, build_tree}
use Rattle.definition.specs.Tree.{Statement, Statements}
use Rattle.definition.specs.Value.{begin_visit, VisitValueBlock, visit_value_block}
use Rattle.definition.specs.Watched.{Allowed, at_most_entries, at_most_deep, watch, visit_watched, traverse_watched, watched}
use Rattle.definition.proofs.Emitted.{Grows, marks_enter}
use Rattle.definition.proofs.Flags.{has_still, has_new, length_add, length_none, below_blocks, marks_below}
use Rattle.definition.proofs.Steps.{Any, Good, good_bind, good_unless, good_pick, good_any}

-- ---- a step, and one that gives the same

record Same {A : Type 0} (P : A → Type 0) (step step' : Result A) : Type 0 where
  pub is : step' ≡ step
  pub good : Good P step

same_of : {A : Type 0} (P : A → Type 0) (step : Result A) → Good P step → Same P step step
same_of P step h = record { is = refl; good = h }

same_bind : {A B : Type 0} (P : A → Type 0) (Q : B → Type 0) (step step' : Result A) (next next' : A → Result B)
    → Same P step step' → ((a : A) → P a → Same Q (next a) (next' a)) → Same Q (step >>= next) (step' >>= next')
unfolding ◌>>=◌
same_bind P Q (ok a) step' next next' h k = record { is = ap (λ s. s >>= next') h.is ∙ (k a h.good).is; good = (k a h.good).good }
same_bind P Q (refused code at visits) step' next next' h k = record { is = ap (λ s. s >>= next') h.is; good = tt }

same_unless : {B : Type 0} (Q : B → Type 0) (test : Bool) (code at visits : ℕ) (next next' : Unit {0} → Result B)
    → Same Q (next tt) (next' tt) → Same Q (refuse_if test code at visits >>= next) (refuse_if test code at visits >>= next')
unfolding ◌>>=◌ refuse_if
same_unless Q true code at visits next next' h = record { is = refl; good = tt }
same_unless Q false code at visits next next' h = h

same_pick : {A : Type 0} (P : A → Type 0) (test : Bool) (on on' off off' : Result A) → Same P on on' → Same P off off'
    → Same P (elim test [ true ↦ on | false ↦ off ]) (elim test [ true ↦ on' | false ↦ off' ])
same_pick P true on on' off off' h k = h
same_pick P false on on' off off' h k = k

-- ---- the arms, over any count that allows so many entries when these blocks are emitted

module _ (Held : (entries : ℕ) → (emitted : Flags) → Type 0) (fewer : (n : ℕ) (e : Flags) → Held (suc n) e → Held n e) where
  -- the entries are allowed, or one more is
  abbrev Full : Context → Type 0
  Full c = Held (length c.stack) c.emitted

  abbrev Room : Context → Type 0
  Room c = Held (suc (length c.stack)) c.emitted

  full : (c : Context) → Room c → Full c
  full c h = fewer (length c.stack) c.emitted h

  schedule_full : (g : ControlFlowTarget) (c : Context) → Room c → Good Full (schedule g c)
  unfolding schedule pushed
  schedule_full g c h = good_unless Full _ (blocked_code g) (block_asked g) c.visits _ (λ _. h)

  unschedule_room : (i : ℕ) (c : Context) → Full c → Good Room (unschedule i c)
  unfolding unschedule
  unschedule_room i c = from c.stack
    where
      from : (S : List Entry) → Held (length S) c.emitted → Good Room (unschedule_top S i c)
      from [] h = unfold unschedule_top in tt
      from (e ∷ S) h = unfold unschedule_top popped in good_pick Room (eqb e.id i) _ _ h tt

  -- with an entry scheduled for the fallthrough, if it is taken
  abbrev FullIf : Option ℕ → Context → Type 0
  FullIf none c = Room c
  FullIf (some f) c = Full c

  full_if : (g : Option ℕ) (c : Context) → FullIf g c → Full c
  full_if none c h = full c h
  full_if (some f) c h = h

  room_if : (g : Option ℕ) (c : Context) → Room c → FullIf g c
  room_if none c h = h
  room_if (some f) c h = full c h

  schedule_if_full : (g : Option ℕ) (c : Context) → Room c → Good (FullIf g) (schedule_if g c)
  unfolding schedule_if
  schedule_if_full none c h = h
  schedule_if_full (some f) c h = schedule_full (target_if f) c h

  unschedule_if_room : (g : Option ℕ) (i : ℕ) (c : Context) → FullIf g c → Good Room (unschedule_if g i c)
  unfolding unschedule_if
  unschedule_if_room none i c h = h
  unschedule_if_room (some f) i c h = unschedule_room i c h

  -- with the entries of these ids scheduled
  abbrev FullBy : List ℕ → Context → Type 0
  FullBy [] c = Room c
  FullBy (i ∷ ids) c = Full c

  full_by : (ids : List ℕ) (c : Context) → FullBy ids c → Full c
  full_by [] c h = full c h
  full_by (i ∷ ids) c h = h

  room_by : (ids : List ℕ) (c : Context) → Room c → FullBy ids c
  room_by [] c h = h
  room_by (i ∷ ids) c h = full c h

  schedule_switch_full : (g : Option ℕ) (c : Context) → Room c → Good (FullBy (schedule_ids g c.next_id)) (schedule_switch g c)
  unfolding schedule_switch
  schedule_switch_full none c h = h
  schedule_switch_full (some f) c h = schedule_full (target_switch f) c h

  unschedule_all_room : (ids : List ℕ) (c : Context) → FullBy ids c → Good Room (unschedule_all ids c)
  unfolding unschedule_all
  unschedule_all_room [] c h = h
  unschedule_all_room (i ∷ ids) c h = good_bind Room Room _ _ (unschedule_room i c h) (λ d p. unschedule_all_room ids d (room_by ids d p))

  abbrev BlockRoom : BlockResult → Type 0
  BlockRoom r = Room r.context

  abbrev StepRoom : TerminalResult → Type 0
  StepRoom r = Room r.context

  goto_room : (around : Around) (v : Variant) (at g i : ℕ) (c : Context) → Room c → Good StepRoom (visit_goto around v at g i c)
  unfolding visit_goto
  goto_room around Break at g i c h = good_bind Any StepRoom _ _ (good_any _) (λ s _. h)
  goto_room around Continue at g i c h = good_bind Any StepRoom _ _ (good_any _) (λ s _. h)
  goto_room around Try at g i c h = h

  -- a walk begins where the entries are allowed, and leaves room for one more
  unfoldable Walks : TraverseBlock → TraverseBlock → Type 0
  Walks walk walk' = (b : ℕ) (c : Context) → Full c → Same BlockRoom (walk b c) (walk' b c)

  module _ (inner inner' : TraverseBlock) (w : Walks inner inner') where
    inner_same : (b : ℕ) (c : Context) → Full c → Same BlockRoom (inner b c) (inner' b c)
    unfolding Walks
    inner_same b c h = w b c h

    unscheduled_same : (b code at : ℕ) (c : Context) → Full c
        → Same BlockRoom (traverse_unscheduled inner b code at c) (traverse_unscheduled inner' b code at c)
    unfolding traverse_unscheduled
    unscheduled_same b code at c h = same_unless BlockRoom _ code at c.visits _ _ (inner_same b c h)

    abbrev AlternateRoom : AlternateResult → Type 0
    AlternateRoom r = Room r.context

    alternate_same : (a f : ℕ) (c : Context) → Room c
        → Same AlternateRoom (traverse_alternate inner a f c) (traverse_alternate inner' a f c)
    unfolding traverse_alternate
    alternate_same a f c h =
        same_pick AlternateRoom (eqb a f) _ _ _ _ (same_of AlternateRoom _ h)
        (same_bind BlockRoom AlternateRoom _ _ _ _ (unscheduled_same a 13 a c (full c h)) (λ r q. same_of AlternateRoom _ q))

    consequent_same : (around : Around) (at y i : ℕ) (c : Context) → Room c
        → Same BlockRoom (traverse_consequent around inner at y i c) (traverse_consequent around inner' at y i c)
    unfolding traverse_consequent
    consequent_same around at y i c h =
        same_pick BlockRoom (is_scheduled c y) _ _ _ _ (same_of BlockRoom _ (good_bind Any BlockRoom _ _ (good_any _) (λ s _. h)))
        (inner_same y c (full c h))

    enclosed_same : (b code at : ℕ) (g : Option ℕ) (c c₁ : Context) (make : Statements → Statement) → Full c₁
        → Same StepRoom (traverse_enclosed inner b code at g c c₁ make) (traverse_enclosed inner' b code at g c c₁ make)
    unfolding traverse_enclosed
    enclosed_same b code at g c c₁ make h =
        same_bind BlockRoom StepRoom _ _ _ _ (unscheduled_same b code at c₁ h)
        (λ r q. same_of StepRoom _
        (good_bind Room StepRoom _ _ (unschedule_if_room g c.next_id r.context (room_if g r.context q)) (λ e p. p)))

    loop_same : (at l : ℕ) (taken : Bool) (v i : ℕ) (c : Context) (g : Option ℕ) (make : Statements → Statement) → Full c
        → Same StepRoom (traverse_loop inner at l taken v i c g make) (traverse_loop inner' at l taken v i c g make)
    unfolding traverse_loop with_visits
    loop_same at l taken v i c g make h =
        same_unless StepRoom taken 16 at v _ _ (same_bind BlockRoom StepRoom _ _ _ _ (inner_same l (with_visits v c) h)
        (λ r q. same_of StepRoom _ (good_bind Room StepRoom _ _ (unschedule_room i r.context (full r.context q)) (λ e p. p))))

    abbrev CasesFull : CasesResult → Type 0
    CasesFull r = FullBy r.ids r.context

    cases_same : (at f : ℕ) (ks : List Case) (ids : List ℕ) (c : Context) → FullBy ids c
        → Same CasesFull (traverse_cases inner at f ks ids c) (traverse_cases inner' at f ks ids c)
    unfolding traverse_cases
    cases_same at f [] ids c h = same_of CasesFull _ h
    cases_same at f (k ∷ ks) ids c h =
        same_pick CasesFull (is_scheduled c k.block) _ _ _ _
        (same_unless CasesFull _ 14 at c.visits _ _ (cases_same at f ks ids c h))
        (same_bind BlockRoom CasesFull _ _ _ _ (inner_same k.block c (full_by ids c h)) (λ r q.
        same_bind Full CasesFull _ _ _ _ (same_of Full _ (schedule_full (target_case k.block) r.context q)) (λ d o.
        same_bind CasesFull CasesFull _ _ _ _ (cases_same at f ks (r.context.next_id ∷ ids) d o) (λ z u. same_of CasesFull _ u))))

  value_room : (t : Table) (visit : VisitValueBlock) (m : Terminal) (at : ℕ) (k : Block) (f : ℕ) (c : Context) → Room c
      → Good StepRoom (visit_value_statement t visit m at k f c)
  unfolding visit_value_statement with_visits
  value_room t visit m at k f c h =
      good_bind (FullIf (unless_scheduled c f)) StepRoom _ _ (schedule_if_full (unless_scheduled c f) c h) (λ d p.
      good_bind Any StepRoom _ _ (good_any _) (λ r _.
      good_bind Room StepRoom _ _
      (unschedule_if_room (unless_scheduled c f) c.next_id (with_visits r.visits d)
      (visited_if (unless_scheduled c f) r.visits d p)) (λ e q. q)))
    where
      visited_if : (g : Option ℕ) (v : ℕ) (d : Context) → FullIf g d → FullIf g (with_visits v d)
      visited_if none v d p = unfold with_visits in p
      visited_if (some f) v d p = unfold with_visits in p

  scope_full : (g : Option ℕ) (c : Context) → FullIf g c → Full (mark_scope_fallthrough_if g c)
  unfolding mark_scope_fallthrough_if mark_scope_fallthrough
  scope_full none c h = full c h
  scope_full (some f) c h = h

  module _ (t : Table) (visit : VisitValueBlock) (inner inner' : TraverseInside) (around : Around)
      (w : (e : Enclosing) → Walks (inner (within e around)) (inner' (within e around))) where
    arm_same : (m : Terminal) (at : ℕ) (k : Block) (c : Context) → Room c
        → Same StepRoom (visit_terminal t visit inner around m at k c) (visit_terminal t visit inner' around m at k c)
    unfolding visit_terminal schedule_catch_handler with_visits
    arm_same absent at k c h = same_of StepRoom _ tt
    arm_same unreachable at k c h = same_of StepRoom _ h
    arm_same (throw x) at k c h = same_of StepRoom _ h
    arm_same (return x) at k c h = same_of StepRoom _ h
    arm_same (goto g v) at k c h = same_of StepRoom _ (goto_room around v at g k.id c h)
    arm_same (if x y a f) at k c h =
        same_bind Any StepRoom _ _ _ _ (same_of Any _ (good_any _)) (λ g _.
        same_bind (FullIf g) StepRoom _ _ _ _ (same_of (FullIf g) _ (schedule_if_full g c h)) (λ d p.
        same_bind BlockRoom StepRoom _ _ _ _ (unscheduled_same _ _ (w _) y 12 y d (full_if g d p)) (λ r q.
        same_bind (λ s. Room s.context) StepRoom _ _ _ _ (alternate_same _ _ (w _) a f r.context q) (λ s q₁.
        same_of StepRoom _ (good_bind Room StepRoom _ _ (unschedule_if_room g c.next_id s.context (room_if g s.context q₁)) (λ e u. u))))))
    arm_same (branch x y a) at k c h =
        same_bind BlockRoom StepRoom _ _ _ _ (consequent_same _ _ (w _) around at y k.id c h) (λ r q.
        same_bind BlockRoom StepRoom _ _ _ _ (unscheduled_same _ _ (w _) a 19 at r.context (full r.context q))
        (λ s u. same_of StepRoom _ u))
    arm_same (switch x i n f) at k c h =
        same_bind Any StepRoom _ _ _ _ (same_of Any _ (good_any _)) (λ g _.
        same_bind (FullBy (schedule_ids g c.next_id)) StepRoom _ _ _ _ (same_of _ _ (schedule_switch_full g c h)) (λ d p.
        same_bind (λ r. FullBy r.ids r.context) StepRoom _ _ _ _
        (cases_same _ _ (w _) at f (cases_last_first t i n) (schedule_ids g c.next_id) d p) (λ r q.
        same_of StepRoom _ (good_bind Room StepRoom _ _ (unschedule_all_room r.ids r.context q) (λ e u. u)))))
    arm_same (do_while l x f) at k c h =
        same_bind Full StepRoom _ _ _ _ (same_of Full _ (schedule_full (target_loop f x l) c h)) (λ d p.
        same_unless StepRoom _ 16 at d.visits _ _ (same_bind BlockRoom StepRoom _ _ _ _ (inner_same _ _ (w _) l d p) (λ r q.
        same_of StepRoom _ (good_bind Any StepRoom _ _ (good_any _) (λ v _.
        good_bind Room StepRoom _ _ (unschedule_room c.next_id (with_visits v.visits r.context) (full r.context q)) (λ e u. u))))))
    arm_same (while x l f) at k c h =
        same_bind Any StepRoom _ _ _ _ (same_of Any _ (good_any _)) (λ g _.
        same_bind Full StepRoom _ _ _ _ (same_of Full _ (schedule_full (target_loop f x l) c h)) (λ d p.
        same_bind Any StepRoom _ _ _ _ (same_of Any _ (good_any _)) (λ v _. loop_same _ _ (w _) at l _ v.visits c.next_id d g _ p)))
    arm_same (for i x u l f) at k c h =
        same_bind Full StepRoom _ _ _ _ (same_of Full _ (schedule_full _ c h)) (λ d p.
        same_bind Any StepRoom _ _ _ _ (same_of Any _ (good_any _)) (λ n _.
        same_bind Any StepRoom _ _ _ _ (same_of Any _ (good_any _)) (λ v _.
        same_bind Any StepRoom _ _ _ _ (same_of Any _ (good_any _)) (λ o _. loop_same _ _ (w _) at l _ o.visits c.next_id d _ _ p))))
    arm_same (for_of i x l f) at k c h =
        same_bind Full StepRoom _ _ _ _ (same_of Full _ (schedule_full _ c h)) (λ d p.
        same_bind Any StepRoom _ _ _ _ (same_of Any _ (good_any _)) (λ n _.
        same_bind Any StepRoom _ _ _ _ (same_of Any _ (good_any _)) (λ v _. loop_same _ _ (w _) at l _ v.visits c.next_id d _ _ p)))
    arm_same (for_in i l f) at k c h =
        same_bind Full StepRoom _ _ _ _ (same_of Full _ (schedule_full _ c h)) (λ d p.
        same_bind Any StepRoom _ _ _ _ (same_of Any _ (good_any _)) (λ n _. loop_same _ _ (w _) at l _ n.visits c.next_id d _ _ p))
    arm_same (logical o x f) at k c h = same_of StepRoom _ (value_room t visit (logical o x f) at k f c h)
    arm_same (ternary x f) at k c h = same_of StepRoom _ (value_room t visit (ternary x f) at k f c h)
    arm_same (optional g x f) at k c h = same_of StepRoom _ (value_room t visit (optional g x f) at k f c h)
    arm_same (label x f) at k c h =
        same_bind Any StepRoom _ _ _ _ (same_of Any _ (good_any _)) (λ g _.
        same_bind (FullIf g) StepRoom _ _ _ _ (same_of (FullIf g) _ (schedule_if_full g c h)) (λ d p.
        enclosed_same _ _ (w _) x 17 at g c d _ (full_if g d p)))
    arm_same (sequence x f) at k c h = same_of StepRoom _ (value_room t visit (sequence x f) at k f c h)
    arm_same (maybe_throw n) at k c h = same_of StepRoom _ h
    arm_same (try x y f n) at k c h =
        same_bind Any StepRoom _ _ _ _ (same_of Any _ (good_any _)) (λ g _.
        same_bind (FullIf g) StepRoom _ _ _ _ (same_of (FullIf g) _ (schedule_if_full g c h)) (λ d p.
        same_bind BlockRoom StepRoom _ _ _ _ (inner_same _ _ (w _) x (schedule_catch_handler y d) (full_if g d p)) (λ r q.
        same_bind BlockRoom StepRoom _ _ _ _ (inner_same _ _ (w _) y r.context (full r.context q)) (λ s q₁.
        same_of StepRoom _ (good_bind Room StepRoom _ _ (unschedule_if_room g c.next_id s.context (room_if g s.context q₁)) (λ e u. u))))))
    arm_same (scope pr x f s) at k c h =
        same_bind (FullIf (unless_scheduled c f)) StepRoom _ _ _ _ (same_of _ _ (schedule_if_full (unless_scheduled c f) c h)) (λ d p.
        enclosed_same _ _ (w _) x 18 at (unless_scheduled c f) c (mark_scope_fallthrough_if (unless_scheduled c f) d) _
        (scope_full (unless_scheduled c f) d p))

  next_same : (t : Table) (at : ℕ) (again again' : TraverseBlock) (s : Option Statement) (n : Option ℕ) (c : Context)
      → Walks again again' → Room c → Same BlockRoom (then_next t at again s n c) (then_next t at again' s n c)
  unfolding then_next Walks
  next_same t at again again' s none c w h = same_of BlockRoom _ h
  next_same t at again again' s (some n) c w h = same_bind BlockRoom BlockRoom _ _ _ _ (w n c (full c h)) (λ r q. same_of BlockRoom _ q)

  -- watched for what is there anyway
  watch_same : (allowed : Allowed) (around : Around) (walk : TraverseBlock) (b : ℕ) (c : Context) (step : Result BlockResult)
      → allowed around c ≡ true → ((d : Context) → Room d → allowed around d ≡ true) → Same BlockRoom step (walk b c)
      → Same BlockRoom step (watch allowed around walk b c)
  unfolding watch ◌>>=◌ refuse_if
  watch_same allowed around walk b c (ok r) begins ends h = record { is = rw (begins, h.is, ends r.context h.good) refl; good = h.good }
  watch_same allowed around walk b c (refused code at visits) begins ends h = record { is = rw (begins, h.is) refl; good = tt }

-- ---- the walk: an entry for each entered block

record Paid (entries : ℕ) (emitted : Flags) : Type 0 where
  pub few : entries ≤ marks emitted
  pub flags : length emitted ≡ 1024

fewer_paid : (n : ℕ) (e : Flags) → Paid (suc n) e → Paid n e
fewer_paid n e h = record { few = omega (arith, h.few); flags = h.flags }

paid_most : (n : ℕ) (e : Flags) → Paid n e → n ≤ 1024
paid_most n e h = omega (arith, h.few, h.flags, marks_below e)

module _ (allowed : Allowed)
    (small : (around : Around) (c : Context) → length around.statements < 128 → length c.stack ≤ 1024 → allowed around c ≡ true)
    (t : Table) (few : length t.blocks ≤ 1024) where
  enter_room : (b : ℕ) (c : Context) → Full Paid fewer_paid c → Good (Room Paid fewer_paid) (enter_block t b c)
  unfolding enter_block begin_visit emit with_visits
  enter_room b c h =
      good_bind (λ w. b < length t.blocks) (Room Paid fewer_paid) _ _
      (good_unless (λ w. b < length t.blocks) _ 31 b c.visits _ (λ _.
      good_unless (λ w. b < length t.blocks) _ 10 b (suc c.visits) _ (λ h. below_blocks t b h)))
      (λ w below. good_unless (Room Paid fewer_paid) _ 11 b w _ (λ fresh.
      let size : length (add c.emitted b) ≡ 1024 = length_add c.emitted b 1024 h.flags in
      let grows : Grows c.emitted (add c.emitted b) =
      record { size = length_add c.emitted b (length c.emitted) refl; kept = λ x. has_still c.emitted b x } in
      let new : has (add c.emitted b) b ≡ true = has_new c.emitted b (omega (arith, below, few, h.flags)) in
      record {
        few = omega (arith, h.few, marks_enter b c.emitted (add c.emitted b) grows fresh new);
        flags = size;
      }))

  visit_same : (visit : VisitValueBlock) (inner inner' : TraverseInside) (around : Around) → length around.statements < 128
      → ((e : Enclosing) → Walks Paid fewer_paid (inner (within e around)) (inner' (within e around)))
      → (n : ℕ) → Walks Paid fewer_paid (visit_block t visit inner around n) (visit_watched allowed t visit inner' around n)
  unfolding visit_block visit_watched Walks
  visit_same visit inner inner' around shallow w zero b c h = same_of _ _ tt
  visit_same visit inner inner' around shallow w (suc n) b c h =
      watch_same Paid fewer_paid allowed around _ b c _ (small around c shallow (paid_most _ _ h))
      (λ d q. small around d shallow (paid_most _ _ (fewer_paid _ _ q)))
      (same_bind (Room Paid fewer_paid) (BlockRoom Paid fewer_paid) _ _ _ _ (same_of _ _ (enter_room b c h)) (λ d p.
      same_bind (StepRoom Paid fewer_paid) (BlockRoom Paid fewer_paid) _ _ _ _
      (arm_same Paid fewer_paid t visit inner inner' around w (terminal_at t b) b (block_at t b) d p) (λ r q.
      next_same Paid fewer_paid t b _ _ r.statement r.next r.context (visit_same visit inner inner' around shallow w n) q)))

  traverse_same : (d : ℕ) (around : Around) → d + length around.statements ≤ 128
      → Walks Paid fewer_paid (traverse_block t d around) (traverse_watched allowed t d around)
  unfolding traverse_block traverse_watched Walks
  traverse_same zero around deep b c h = same_of _ _ tt
  traverse_same (suc d) around deep b c h =
      visit_same (visit_value_block t d) (traverse_block t d) (traverse_watched allowed t d) around (omega (arith, deep))
      (λ e. traverse_same d (within e around) (omega (arith, deep))) 8193 b c h

  pub watched_same : (rule : Rule) → watched allowed rule t ≡ build_tree rule t
  unfolding watched build_tree Walks start
  watched_same rule =
      (traverse_same 128 (outermost rule) (omega arith) t.entry start (record { few = omega arith; flags = length_none })).is

-- a build that is refused where the stack has no room for one entry more is the definition's
pub stack_most : (rule : Rule) (t : Table) → length t.blocks ≤ 1024 → watched (at_most_entries 1151) rule t ≡ build_tree rule t
stack_most rule t few =
    watched_same (at_most_entries 1151) (λ around c _ small. le-leb (length c.stack) 1151 (omega (arith, small))) t few rule

-- and one that is refused at a block more than 128 deep
pub depth_most : (rule : Rule) (t : Table) → length t.blocks ≤ 1024 → watched (at_most_deep 128) rule t ≡ build_tree rule t
depth_most rule t few =
    watched_same (at_most_deep 128) (λ around c shallow _. le-leb (suc (length around.statements)) 128 (omega (arith, shallow))) t few rule

-- ---- between two watched states

abbrev AtMost : (most : ℕ) → (entries : ℕ) → Flags → Type 0
AtMost most entries emitted = entries ≤ most

fewer_most : (most n : ℕ) (e : Flags) → AtMost most (suc n) e → AtMost most n e
fewer_most most n e h = omega (arith, h)

of_ok : {A : Type 0} (P : A → Type 0) (step : Result A) → ((a : A) → step ≡ ok a → P a) → Good P step
of_ok P (ok a) h = h a refl
of_ok P (refused code at visits) h = tt

-- whatever the walk of the nested blocks: if each ends with fewer than so many entries, as the arm begins, then none begins with more than
-- so many, and the arm ends with fewer
pub one_entry_an_arm : (most : ℕ) (t : Table) (visit : VisitValueBlock) (traverse : TraverseInside)
    → ((around : Around) (block : ℕ) (cx : Context) (result : BlockResult) → length cx.stack ≤ most → traverse around block cx ≡ ok result
    → length result.context.stack < most)
    → (around : Around) (m : Terminal) (at : ℕ) (block : Block) (cx : Context) → length cx.stack < most
    → (visit_terminal t visit (λ around. watch (at_most_entries most) around (traverse around)) around m at block cx
    ≡ visit_terminal t visit traverse around m at block cx)
    × ((result : TerminalResult) → visit_terminal t visit traverse around m at block cx ≡ ok result → length result.context.stack < most)
unfolding Walks
one_entry_an_arm most t visit traverse ends around m at block cx h =
    (arm.is, λ result e. subst (λ (s : Result TerminalResult). Good (λ r. length r.context.stack < most) s) e arm.good)
  where
    arm : Same (λ r. length r.context.stack < most) (visit_terminal t visit traverse around m at block cx)
        (visit_terminal t visit (λ around. watch (at_most_entries most) around (traverse around)) around m at block cx)
    arm =
        arm_same (AtMost most) (fewer_most most) t visit traverse (λ around. watch (at_most_entries most) around (traverse around)) around
        (λ e b c few.
        watch_same (AtMost most) (fewer_most most) (at_most_entries most) (within e around) (traverse (within e around)) b c _
        (le-leb (length c.stack) most few)
        (λ d room. le-leb (length d.stack) most (omega (arith, room))) (same_of _ _ (of_ok _ _ (λ r. ends (within e around) b c r few))))
        m at block cx h
