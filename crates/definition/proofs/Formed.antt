-- Over any checked table: the tree that the build makes is well-formed. A label is a fallthrough, so a block; an alternate that is not present
-- is empty; and a jump leaves at most 128 loops, since each is a level of depth. For proofs/Law.
use mathlib.Core.Path.{◌≡◌, refl, sym, ap, subst}
use Prim.Native.Nat.{ℕ, zero, suc, ◌+◌, ◌≤◌, ◌<◌}
use native.Mathlib.Omega.{arith}
use mathlib.Core.List.{List, [], ◌∷◌}
use mathlib.Core.Option.{Option, none, some}
use mathlib.Core.Bool.{Bool, true, false}
use lib.Dec.{eqb}
use Rattle.table.specs.Words.{largest}
use Rattle.table.specs.Table.{Table, Block, Case, Terminal, absent, unreachable, throw, return, goto, if, branch, switch, do_while, while, for, for_of, for_in}
use Rattle.table.specs.Table.{logical, ternary, optional, label, sequence, maybe_throw, try, scope, Variant, Break, Continue, Try, block_at, terminal_at}
use Rattle.table.specs.Table.{instruction_rows_at, is_absent, is_unreachable}
use Rattle.definition.specs.Tree.{Kind, implicit, labeled, unlabeled, Statement, WHILE, LABEL, SCOPE, Statements, done}
use Rattle.definition.specs.Around.{Rule, Around, outermost}
use Rattle.definition.specs.Result.{Result, ok, refused}
use Rattle.definition.specs.Context.{has, ControlFlowTarget, block_asked, blocked_code, target_if, target_switch, target_case, loops_of, Entry, loops_on}
use Rattle.definition.specs.Context.{Context, start, is_scheduled, with_visits, mark_scope_fallthrough, schedule_catch_handler, target_loop, pushed, schedule}
use Rattle.definition.specs.Context.{unschedule, Resolution, get_break_target, get_continue_target}
use Rattle.definition.specs.Value.{VisitValueBlock, visit_value_block_terminal, visit_value_block}
use Rattle.definition.specs.Statement.{BlockResult, TerminalResult, TraverseBlock, TraverseInside, enter_block, unless_scheduled, unless_unreachable, schedule_if}
use Rattle.definition.specs.Statement.{schedule_switch, unschedule_if, mark_scope_fallthrough_if, break_to_scope, break_resolved, visit_break, continue_resolved}
use Rattle.definition.specs.Statement.{visit_continue, visit_goto, traverse_unscheduled, AlternateResult, traverse_alternate, traverse_consequent}
use Rattle.definition.specs.Statement.{traverse_enclosed, traverse_loop, continue_block_of, visit_update, cases_last_first, traverse_cases, unschedule_all}
use Rattle.definition.specs.Statement.{schedule_ids, visit_value_statement, visit_terminal, instruction_statements, followed_by, then_next, visit_block}
use Rattle.definition.specs.Statement.{traverse_block, build_tree}
use Rattle.definition.specs.Plain.{fallthrough_of}
use Rattle.definition.specs.Reading.{BelowNone, EmptyUnless, WellFormedStatement, WellFormed, WellFormedCases}
use Rattle.definition.proofs.Steps.{Any, Good, good_bind, good_unless, good_pick, good_any, Fine, fine_good}
use Rattle.definition.proofs.ValueWalk.{VisitTook, value_took}
use Rattle.definition.proofs.Never.{After, StepAfter, WalkFine, enter_fine, terminal_fine, walk_fine}
use Rattle.definition.proofs.Crossed.{break_found, continue_found, found_loops}
use Rattle.definition.proofs.Ranged.{Ranged}

abbrev FormedOption : Option Statement → Type 0
FormedOption none = Unit {0}
FormedOption (some s) = WellFormedStatement s

abbrev FormedStep : TerminalResult → Type 0
FormedStep r = FormedOption r.statement

abbrev FormedBlock : BlockResult → Type 0
FormedBlock r = WellFormed r.statements

abbrev FormedAlternate : AlternateResult → Type 0
FormedAlternate r = WellFormed r.statements × EmptyUnless r.present r.statements

-- so many levels are left, and so many more loops there may be on the stack
pub record Low (d : ℕ) (c : Context) : Type 0 where
  pub few : loops_on c.stack + d ≤ 128

unfoldable pub WalkFormed : ℕ → TraverseBlock → Type 0
WalkFormed d inner = (b : ℕ) (c : Context) → Low d c → Good FormedBlock (inner b c)

abbrev LowBlock : ℕ → BlockResult → Type 0
LowBlock d r = FormedBlock r × Low d r.context

pub good_both : {A : Type 0} (P Q : A → Type 0) (m : Result A) → Good P m → Fine Q m → Good (λ a. P a × Q a) m
good_both P Q (ok a) p q = (p, q)
good_both P Q (refused code at visits) p q = tt

-- ---- the loops on the stack

low_after : {d : ℕ} (c e : Context) → Low d c → After c e → Low d e
low_after {d} c e h p = record { few = subst (λ (S : List Entry). loops_on S + d ≤ 128) (sym p.same) h.few }

low_less : {d : ℕ} (c : Context) → Low (suc d) c → Low d c
low_less c h = record { few = omega (arith, h.few) }

-- a target that is a loop takes one of them
schedule_low : {e : ℕ} (d : ℕ) (g : ControlFlowTarget) (c : Context) → Low e c → d + loops_of g ≤ e → Good (Low d) (schedule g c)
unfolding schedule pushed
schedule_low d g c h l = good_unless (Low d) _ (blocked_code g) (block_asked g) c.visits _ (λ _. record { few = omega (arith, h.few, l) })

if_low : {d : ℕ} (g : Option ℕ) (c : Context) → Low (suc d) c → Good (Low d) (schedule_if g c)
unfolding schedule_if
if_low none c h = low_less c h
if_low {d} (some f) c h = schedule_low d (target_if f) c h (omega arith)

switch_low : {d : ℕ} (g : Option ℕ) (c : Context) → Low (suc d) c → Good (Low d) (schedule_switch g c)
unfolding schedule_switch
switch_low none c h = low_less c h
switch_low {d} (some f) c h = schedule_low d (target_switch f) c h (omega arith)

loop_low : {d : ℕ} (f k l : ℕ) (c : Context) → Low (suc d) c → Good (Low d) (schedule (target_loop f k l) c)
loop_low {d} f k l c h = schedule_low d (target_loop f k l) c h (omega arith)

visits_low : {d : ℕ} (v : ℕ) (c : Context) → Low d c → Low d (with_visits v c)
unfolding with_visits
visits_low v c h = record { few = h.few }

catch_low : {d : ℕ} (b : ℕ) (c : Context) → Low d c → Low d (schedule_catch_handler b c)
unfolding schedule_catch_handler
catch_low b c h = record { few = h.few }

scope_low : {d : ℕ} (g : Option ℕ) (c : Context) → Low d c → Low d (mark_scope_fallthrough_if g c)
unfolding mark_scope_fallthrough_if mark_scope_fallthrough
scope_low none c h = h
scope_low (some f) c h = record { few = h.few }

-- ---- labels

scheduled_formed : (c : Context) (f : ℕ) → f < largest → BelowNone (unless_scheduled c f)
unfolding unless_scheduled
scheduled_formed c f h = by (is_scheduled c f)
  where
    by : (y : Bool) → BelowNone (elim y [ true ↦ none | false ↦ some f ])
    by true = tt
    by false = h

reachable_formed : (t : Table) (c : Context) (f : ℕ) → f < largest → Good BelowNone (unless_unreachable t c f)
unfolding unless_unreachable
reachable_formed t c f h = good_unless BelowNone _ 10 f c.visits _ (λ _. by (is_unreachable (terminal_at t f)))
  where
    by : (y : Bool) → BelowNone (elim y [ true ↦ none | false ↦ unless_scheduled c f ])
    by true = tt
    by false = scheduled_formed c f h

-- ---- jumps

scope_formed : (k : Kind) (at v : ℕ) → Good FormedOption (break_to_scope k at v)
unfolding break_to_scope
scope_formed implicit at v = tt
scope_formed labeled at v = tt
scope_formed unlabeled at v = tt

-- what is found has at most so many loops above it
abbrev Crosses : Option Resolution → Type 0
Crosses r = (found : Resolution) → r ≡ some found → found.loops ≤ 128

resolved_formed : (o : Around) (at b i : ℕ) (c : Context) (r : Option Resolution) → Crosses r → Good FormedOption (break_resolved o at b i c r)
unfolding break_resolved WellFormed
resolved_formed o at b i c none n = tt
resolved_formed o at b i c (some r) n =
    good_pick FormedOption (has c.scope_fallthroughs r.target) _ _ (scope_formed r.kind at c.visits)
    (good_unless FormedOption _ 29 at c.visits _ (λ _. n r refl))

break_formed : {d : ℕ} (o : Around) (at b i : ℕ) (c : Context) → Low d c → Good FormedOption (visit_break o at b i c)
unfolding visit_break
break_formed o at b i c h = resolved_formed o at b i c (get_break_target c b) (λ r e. omega (arith, h.few, found_loops c.stack r (break_found c b r e)))

continued_formed : (o : Around) (at b i : ℕ) (c : Context) (r : Option Resolution) → Crosses r → Good WellFormedStatement (continue_resolved o at b i c r)
unfolding continue_resolved WellFormed
continued_formed o at b i c none n = tt
continued_formed o at b i c (some r) n = good_unless WellFormedStatement _ 29 at c.visits _ (λ _. n r refl)

goto_formed : {d : ℕ} (o : Around) (v : Variant) (at b i : ℕ) (c : Context) → Low d c → Good FormedStep (visit_goto o v at b i c)
unfolding visit_goto visit_continue
goto_formed o Break at b i c h = good_bind FormedOption FormedStep _ _ (break_formed o at b i c h) (λ s q. q)
goto_formed o Continue at b i c h =
    good_bind WellFormedStatement FormedStep _ _ (continued_formed o at b i c (get_continue_target c b) (λ r e. omega (arith, h.few, found_loops c.stack r (continue_found c b r e)))) (λ s q. q)
goto_formed o Try at b i c h = tt

followed_formed : (s : Option Statement) (k : Statements) → FormedOption s → WellFormed k → WellFormed (followed_by s k)
unfolding WellFormed
followed_formed none k h q = q
followed_formed (some s) k h q = (h, q)

-- ---- terminals

module _ (d : ℕ) (inner : TraverseBlock) (wf : WalkFormed d inner) (wa : WalkFine inner) where
  inner_formed : (b : ℕ) (c : Context) → Low d c → Good (LowBlock d) (inner b c)
  unfolding WalkFormed WalkFine
  inner_formed b c h = at (inner b c) (wf b c h) (wa b c)
    where
      at : (m : Result BlockResult) → Good FormedBlock m → Fine (λ r. After c r.context) m → Good (LowBlock d) m
      at (ok r) p q = (p, low_after c r.context h q)
      at (refused code place visits) p q = tt

  unscheduled_formed : (b code at : ℕ) (c : Context) → Low d c → Good (LowBlock d) (traverse_unscheduled inner b code at c)
  unfolding traverse_unscheduled
  unscheduled_formed b code at c h = good_unless (LowBlock d) _ code at c.visits _ (λ _. inner_formed b c h)

  alternate_formed : (a f : ℕ) (c : Context) → Low d c → Good FormedAlternate (traverse_alternate inner a f c)
  unfolding traverse_alternate WellFormed
  alternate_formed a f c h =
      good_pick FormedAlternate (eqb a f) _ _ (tt, tt) (good_bind (LowBlock d) FormedAlternate _ _ (unscheduled_formed a 13 a c h) (λ r q. (q.0, tt)))

  consequent_formed : (o : Around) (at y i : ℕ) (c : Context) → Low d c → Good (LowBlock d) (traverse_consequent o inner at y i c)
  unfolding traverse_consequent WellFormed
  consequent_formed o at y i c h =
      good_pick (LowBlock d) (is_scheduled c y) _ _ (good_bind FormedOption (LowBlock d) _ _ (break_formed o at y i c h) (λ s q. (followed_formed s done q tt, h))) (inner_formed y c h)

  enclosed_formed : (b code at : ℕ) (g : Option ℕ) (c c₁ : Context) (make : Statements → Statement) → Low d c₁ → ((s : Statements) → WellFormed s → WellFormedStatement (make s))
      → Good FormedStep (traverse_enclosed inner b code at g c c₁ make)
  unfolding traverse_enclosed
  enclosed_formed b code at g c c₁ make n mk =
      good_bind (LowBlock d) FormedStep _ _ (unscheduled_formed b code at c₁ n)
      (λ r h. good_bind Any FormedStep _ _ (good_any (unschedule_if g c.next_id r.context)) (λ c₂ _. mk r.statements h.0))

  loop_formed : (at l : ℕ) (taken : Bool) (v i : ℕ) (c : Context) (g : Option ℕ) (make : Statements → Statement) → Low d c → ((s : Statements) → WellFormed s → WellFormedStatement (make s))
      → Good FormedStep (traverse_loop inner at l taken v i c g make)
  unfolding traverse_loop
  loop_formed at l taken v i c g make n mk =
      good_unless FormedStep taken 16 at v _ (λ _.
      good_bind (LowBlock d) FormedStep _ _ (inner_formed l (with_visits v c) (visits_low v c n))
      (λ r h. good_bind Any FormedStep _ _ (good_any (unschedule i r.context)) (λ c₂ _. mk r.statements h.0)))

  cases_formed : (at f : ℕ) (ks : List Case) (ids : List ℕ) (c : Context) → Low d c → Good (λ r. WellFormedCases r.cases) (traverse_cases inner at f ks ids c)
  unfolding traverse_cases WellFormed
  cases_formed at f [] ids c n = tt
  cases_formed at f (k ∷ ks) ids c n =
      good_pick (λ r. WellFormedCases r.cases) (is_scheduled c k.block) _ _
      (good_unless (λ r. WellFormedCases r.cases) _ 14 at c.visits _ (λ _. cases_formed at f ks ids c n))
      (good_bind (LowBlock d) (λ r. WellFormedCases r.cases) _ _ (inner_formed k.block c n) (λ r h.
      good_bind (Low d) (λ r. WellFormedCases r.cases) _ _ (schedule_low d (target_case k.block) r.context h.1 (omega arith)) (λ c₁ n₁.
      good_bind (λ r. WellFormedCases r.cases) (λ r. WellFormedCases r.cases) _ _ (cases_formed at f ks (r.context.next_id ∷ ids) c₁ n₁) (λ z q. (h.0, q)))))

module _ (t : Table) (values : VisitValueBlock) (d : ℕ) (inner : TraverseInside) (wf : (a : Around) → WalkFormed d (inner a)) (wa : (a : Around) → WalkFine (inner a)) where
  value_formed : (m : Terminal) (at : ℕ) (k : Block) (f : ℕ) (c : Context) → Good FormedStep (visit_value_statement t values m at k f c)
  unfolding visit_value_statement WellFormed
  value_formed m at k f c =
      good_bind Any FormedStep _ _ (good_any (schedule_if (unless_scheduled c f) c)) (λ c₁ _.
      good_bind Any FormedStep _ _ (good_any (visit_value_block_terminal t values m k.id k.span c₁.visits at)) (λ r _.
      good_bind Any FormedStep _ _ (good_any (unschedule_if (unless_scheduled c f) c.next_id (with_visits r.visits c₁))) (λ c₂ _. tt)))

  -- a terminal whose fallthrough and binding, if it has them, are below 65,535
  abbrev Small : Terminal → Type 0
  Small m = ((f : ℕ) → fallthrough_of m ≡ some f → f < largest) × ((b h f n : ℕ) → m ≡ try b h f (some n) → n < largest)

  binding_formed : (o : Option ℕ) → ((n : ℕ) → o ≡ some n → n < largest) → BelowNone o
  binding_formed none h = tt
  binding_formed (some n) h = h n refl

  terminal_formed : (o : Around) (m : Terminal) (at : ℕ) (k : Block) (c : Context) → Small m → Low (suc d) c → Good FormedStep (visit_terminal t values inner o m at k c)
  unfolding visit_terminal WellFormed
  terminal_formed o absent at k c s n₀ = tt
  terminal_formed o unreachable at k c s n₀ = tt
  terminal_formed o (throw v) at k c s n₀ = tt
  terminal_formed o (return v) at k c s n₀ = tt
  terminal_formed o (goto g v) at k c s n₀ = goto_formed o v at g k.id c n₀
  terminal_formed o (if x y a f) at k c s n₀ =
      good_bind BelowNone FormedStep _ _ (reachable_formed t c f (s.0 f refl)) (λ g l.
      good_bind (Low d) FormedStep _ _ (if_low g c n₀) (λ c₁ n₁.
      good_bind (LowBlock d) FormedStep _ _ (unscheduled_formed d _ (wf _) (wa _) y 12 y c₁ n₁) (λ r h.
      good_bind FormedAlternate FormedStep _ _ (alternate_formed d _ (wf _) (wa _) a f r.context h.1) (λ z q.
      good_bind Any FormedStep _ _ (good_any (unschedule_if g c.next_id z.context)) (λ c₂ _. (l, h.0, q.0, q.1))))))
  terminal_formed o (branch x y a) at k c s n₀ =
      good_bind (LowBlock d) FormedStep _ _ (consequent_formed d _ (wf _) (wa _) o at y k.id c (low_less c n₀)) (λ r h.
      good_bind (LowBlock d) FormedStep _ _ (unscheduled_formed d _ (wf _) (wa _) a 19 at r.context h.1) (λ z q. (tt, h.0, q.0, tt)))
  terminal_formed o (switch x i n f) at k c s n₀ =
      good_bind BelowNone FormedStep _ _ (reachable_formed t c f (s.0 f refl)) (λ g l.
      good_bind (Low d) FormedStep _ _ (switch_low g c n₀) (λ c₁ n₁.
      good_bind (λ r. WellFormedCases r.cases) FormedStep _ _ (cases_formed d _ (wf _) (wa _) at f (cases_last_first t i n) (schedule_ids g c.next_id) c₁ n₁) (λ r h.
      good_bind Any FormedStep _ _ (good_any (unschedule_all r.ids r.context)) (λ c₂ _. (l, h)))))
  terminal_formed o (do_while l x f) at k c s n₀ =
      good_bind (Low d) FormedStep _ _ (loop_low f x l c n₀) (λ c₁ n₁.
      good_unless FormedStep _ 16 at c₁.visits _ (λ _.
      good_bind (LowBlock d) FormedStep _ _ (inner_formed d _ (wf _) (wa _) l c₁ n₁) (λ r h.
      good_bind Any FormedStep _ _ (good_any (values x none k.span r.context.visits)) (λ v _.
      good_bind Any FormedStep _ _ (good_any (unschedule c.next_id (with_visits v.visits r.context))) (λ c₂ _. (scheduled_formed c f (s.0 f refl), h.0))))))
  terminal_formed o (while x l f) at k c s n₀ =
      good_bind BelowNone FormedStep _ _ (reachable_formed t c f (s.0 f refl)) (λ g q.
      good_bind (Low d) FormedStep _ _ (loop_low f x l c n₀) (λ c₁ n₁.
      good_bind Any FormedStep _ _ (good_any (values x none k.span c₁.visits))
      (λ v _. loop_formed d _ (wf _) (wa _) at l _ v.visits c.next_id c₁ g (WHILE k.id g v.value) n₁ (λ z h. (q, h)))))
  terminal_formed o (for i x u l f) at k c s n₀ =
      good_bind (Low d) FormedStep _ _ (loop_low f (continue_block_of u x) l c n₀) (λ c₁ n₁.
      good_bind Any FormedStep _ _ (good_any (values i none k.span c₁.visits)) (λ n _.
      good_bind Any FormedStep _ _ (good_any (values x none k.span n.visits)) (λ v _.
      good_bind Any FormedStep _ _ (good_any (visit_update values u k.span v.visits))
      (λ w _. loop_formed d _ (wf _) (wa _) at l _ w.visits c.next_id c₁ _ _ n₁ (λ z h. (scheduled_formed c f (s.0 f refl), h))))))
  terminal_formed o (for_of i x l f) at k c s n₀ =
      good_bind (Low d) FormedStep _ _ (loop_low f i l c n₀) (λ c₁ n₁.
      good_bind Any FormedStep _ _ (good_any (values i none k.span c₁.visits)) (λ n _.
      good_bind Any FormedStep _ _ (good_any (values x none k.span n.visits))
      (λ v _. loop_formed d _ (wf _) (wa _) at l _ v.visits c.next_id c₁ _ _ n₁ (λ z h. (scheduled_formed c f (s.0 f refl), h)))))
  terminal_formed o (for_in i l f) at k c s n₀ =
      good_bind (Low d) FormedStep _ _ (loop_low f i l c n₀) (λ c₁ n₁.
      good_bind Any FormedStep _ _ (good_any (values i none k.span c₁.visits))
      (λ n _. loop_formed d _ (wf _) (wa _) at l _ n.visits c.next_id c₁ _ _ n₁ (λ z h. (scheduled_formed c f (s.0 f refl), h))))
  terminal_formed o (logical op x f) at k c s n₀ = value_formed (logical op x f) at k f c
  terminal_formed o (ternary x f) at k c s n₀ = value_formed (ternary x f) at k f c
  terminal_formed o (optional g x f) at k c s n₀ = value_formed (optional g x f) at k f c
  terminal_formed o (label x f) at k c s n₀ =
      good_bind BelowNone FormedStep _ _ (reachable_formed t c f (s.0 f refl)) (λ g q.
      good_bind (Low d) FormedStep _ _ (if_low g c n₀) (λ c₁ n₁. enclosed_formed d _ (wf _) (wa _) x 17 at g c c₁ (LABEL k.id g) n₁ (λ z h. (q, h))))
  terminal_formed o (sequence x f) at k c s n₀ = value_formed (sequence x f) at k f c
  terminal_formed o (maybe_throw n) at k c s n₀ = tt
  terminal_formed o (try x h f n) at k c s n₀ =
      good_bind BelowNone FormedStep _ _ (reachable_formed t c f (s.0 f refl)) (λ g q.
      good_bind (Low d) FormedStep _ _ (if_low g c n₀) (λ c₁ n₁.
      good_bind (LowBlock d) FormedStep _ _ (inner_formed d _ (wf _) (wa _) x (schedule_catch_handler h c₁) (catch_low h c₁ n₁)) (λ r p.
      good_bind (LowBlock d) FormedStep _ _ (inner_formed d _ (wf _) (wa _) h r.context p.1) (λ z p₁.
      good_bind Any FormedStep _ _ (good_any (unschedule_if g c.next_id z.context)) (λ c₂ _. (q, binding_formed n (λ i e. s.1 x h f i (ap (try x h f) e)), p.0, p₁.0))))))
  terminal_formed o (scope p x f n) at k c s n₀ =
      good_bind (Low d) FormedStep _ _ (if_low (unless_scheduled c f) c n₀) (λ c₁ n₁.
      enclosed_formed d _ (wf _) (wa _) x 18 at (unless_scheduled c f) c (mark_scope_fallthrough_if (unless_scheduled c f) c₁) (SCOPE p n) (scope_low (unless_scheduled c f) c₁ n₁) (λ z h. h))

-- ---- blocks

instructions_formed : (t : Table) (rs : List ℕ) (k : Statements) → WellFormed k → WellFormed (instruction_statements t rs k)
unfolding instruction_statements WellFormed
instructions_formed t [] k h = h
instructions_formed t (r ∷ rs) k h = (tt, instructions_formed t rs k h)

next_formed : (t : Table) (at : ℕ) (again : TraverseBlock) (s : Option Statement) (n : Option ℕ) (d : ℕ) (c : Context) → WalkFormed d again → Low d c
    → FormedOption s → Good FormedBlock (then_next t at again s n c)
unfolding then_next WalkFormed WellFormed
next_formed t at again s none d c w m h = instructions_formed t (instruction_rows_at t at) (followed_by s done) (followed_formed s done h tt)
next_formed t at again s (some n) d c w m h =
    good_bind FormedBlock FormedBlock _ _ (w n c m) (λ r q. instructions_formed t (instruction_rows_at t at) (followed_by s r.statements) (followed_formed s r.statements h q))

module _ (t : Table) (rg : Ranged t) where
  small : (b : ℕ) → ((f : ℕ) → fallthrough_of (terminal_at t b) ≡ some f → f < largest) × ((x h f n : ℕ) → terminal_at t b ≡ try x h f (some n) → n < largest)
  small b = ((λ f e. omega (arith, rg.fallthroughs b f e, rg.few)), rg.bindings b)

  visit_block_formed : (values : VisitValueBlock) → VisitTook t values → (d : ℕ) (inner : TraverseInside) → ((a : Around) → WalkFormed d (inner a))
      → ((a : Around) → WalkFine (inner a)) → (a : Around) (n : ℕ)
      → WalkFormed (suc d) (visit_block t values inner a n)
  unfolding visit_block WalkFormed
  visit_block_formed values took d inner w wa a zero b c m = tt
  visit_block_formed values took d inner w wa a (suc n) b c m =
      good_bind (Entered b c) FormedBlock _ _ (fine_good (Entered b c) (Entered b c) (enter_block t b c) (λ _ p. p) (enter_fine t values took inner wa b c)) (λ c₁ p.
      good_bind (λ s. FormedStep s × StepAfter c₁ s) FormedBlock _ _
      (good_both FormedStep (StepAfter c₁) (visit_terminal t values inner a (terminal_at t b) b (block_at t b) c₁)
      (terminal_formed t values d inner w wa a (terminal_at t b) b (block_at t b) c₁ (small b) (low_after c c₁ m p.1))
      (terminal_fine t values took inner wa a (terminal_at t b) b (block_at t b) c₁ p.0))
      (λ s h. next_formed t b (visit_block t values inner a n) s.statement s.next (suc d) s.context (visit_block_formed values took d inner w wa a n)
      (low_after c₁ s.context (low_after c c₁ m p.1) h.1) h.0))
    where
      Entered : ℕ → Context → Context → Type 0
      Entered b c e = (is_absent (terminal_at t b) ≡ false) × After c e

  walk_formed : (d : ℕ) (a : Around) → WalkFormed d (traverse_block t d a)
  unfolding traverse_block WalkFormed
  walk_formed zero a b c m = tt
  walk_formed (suc d) a b c m = visit_block_formed (visit_value_block t d) (value_took t d) d (traverse_block t d) (walk_formed d) (walk_fine t d) a 8193 b c m

  pub tree_formed : (rule : Rule) (r : BlockResult) → build_tree rule t ≡ ok r → WellFormed r.statements
  unfolding build_tree WalkFormed start
  tree_formed rule r e = subst (λ (m : Result BlockResult). Good FormedBlock m) e (walk_formed 128 (outermost rule) t.entry start (record { few = omega arith }))
