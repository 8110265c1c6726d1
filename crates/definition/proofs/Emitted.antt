-- M-101: "No two lines of one accepted tree bear the same label". A statement's label is the block that the walk goes on with: it is entered right after
-- the statement, and no block is entered twice (11). So the labels of a tree, in the order of its lines, are blocks entered one after the other, and none
-- is the entry. For theorems/proofs/Found and proofs/Preview.
use mathlib.Core.Path.{◌≡◌, refl, sym, ap, ◌∙◌, subst}
use Prim.Native.Nat.{ℕ, zero, suc, ◌+◌, ◌≤◌, ◌<◌}
use native.Mathlib.Omega.{arith}
use mathlib.Core.List.{List, [], ◌∷◌, ◌++◌, append_assoc, append-nil}
use mathlib.Core.Option.{Option, none, some}
use mathlib.Core.Bool.{Bool, true, false}
use lib.ListN.{length}
use lib.Dec.{eqb}
use Rattle.table.specs.Table.{Table, Block, Case, Terminal, absent, unreachable, throw, return, goto, if, branch, switch, do_while, while, for, for_of, for_in}
use Rattle.table.specs.Table.{logical, ternary, optional, label, sequence, maybe_throw, try, scope, Variant, Break, Continue, Try, block_at, terminal_at}
use Rattle.table.specs.Table.{instruction_rows_at}
use Rattle.definition.specs.Tree.{Statement, IF, LABEL, SCOPE, Statements, done, statement_rows, block_rows}
use Rattle.definition.specs.Around.{Rule, Around, outermost}
use Rattle.definition.specs.Result.{Result, ok, refused}
use Rattle.definition.specs.Context.{Flags, has, ControlFlowTarget, target_if, target_switch, target_case, target_loop, blocked_code, block_asked, Entry}
use Rattle.definition.specs.Context.{Context, start, is_scheduled, emit, with_visits, mark_scope_fallthrough, schedule_catch_handler, pushed, schedule, popped}
use Rattle.definition.specs.Context.{unschedule_top, unschedule}
use Rattle.definition.specs.Value.{begin_visit, VisitValueBlock, visit_value_block_terminal, visit_value_block}
use Rattle.definition.specs.Statement.{BlockResult, TerminalResult, TraverseBlock, TraverseInside, enter_block, unless_scheduled, unless_unreachable}
use Rattle.definition.specs.Statement.{schedule_if, schedule_switch, unschedule_if, mark_scope_fallthrough_if, visit_goto, traverse_unscheduled, AlternateResult}
use Rattle.definition.specs.Statement.{traverse_alternate, traverse_consequent, traverse_enclosed, traverse_loop, continue_block_of, visit_update, CasesResult}
use Rattle.definition.specs.Statement.{cases_last_first, traverse_cases, unschedule_all, schedule_ids, visit_value_statement, visit_terminal}
use Rattle.definition.specs.Statement.{instruction_statements, followed_by, then_next, visit_block, traverse_block, build_tree}
use Rattle.definition.specs.Index.{label_of, rows_in, Labelled, labelled_by, in_parts, in_list, in_cases, labelled}
use Rattle.definition.proofs.Steps.{true_false, none_some, some_eq, Any, Good, good_bind, good_unless, good_pick, good_any}
use Rattle.definition.proofs.Flags.{has_still, has_new, length_add, length_none, below_blocks}
use Rattle.definition.proofs.Never.{false_of}
use Rattle.definition.proofs.Lines.{Unlined, UnlinedStep, unlined_none, break_unlined, continue_unlined, instructions_lined}
use Rattle.definition.specs.Marks.{marks}
use Rattle.definition.proofs.Flags.{marks_below}

-- ---- blocks that are entered one after the other

-- from e to f nothing is taken out of the emitted set
pub record Grows (e f : Flags) : Type 0 where
  pub size : length f ≡ length e
  pub kept : (x : ℕ) → has e x ≡ true → has f x ≡ true

grows_refl : (e : Flags) → Grows e e
grows_refl e = record { size = refl; kept = λ x h. h }

grows_trans : {e f g : Flags} → Grows e f → Grows f g → Grows e g
grows_trans p q = record { size = q.size ∙ p.size; kept = λ x h. q.kept x (p.kept x h) }

not_before : {e f : Flags} (x : ℕ) → Grows e f → has f x ≡ false → has e x ≡ false
not_before {e} x p h = false_of (has e x) (λ y. true_false (sym (p.kept x y) ∙ h))

-- the block b is entered between
pub record Enters (b : ℕ) (e f : Flags) : Type 0 where
  pub grows : Grows e f
  pub before : has e b ≡ false
  pub now : has f b ≡ true

-- and so are these labels, in this order
pub data Emits : Flags → List Labelled → Flags → Type 0 where
  no_more : {e f : Flags} → Grows e f → Emits e [] f
  enters : {e m f : Flags} {l : Labelled} {ls : List Labelled} → Enters l.label e m → Emits m ls f → Emits e (l ∷ ls) f

-- first b, and then they
pub record Starts (b : ℕ) (e : Flags) (ls : List Labelled) (f : Flags) : Type 0 where
  pub middle : Flags
  pub first : Enters b e middle
  pub rest : Emits middle ls f

enters_after : {b : ℕ} {d e f : Flags} → Grows d e → Enters b e f → Enters b d f
enters_after {b} p q = record { grows = grows_trans p q.grows; before = not_before b p q.before; now = q.now }

emits_after : {ls : List Labelled} {d e f : Flags} → Grows d e → Emits e ls f → Emits d ls f
emits_after p (no_more q) = no_more (grows_trans p q)
emits_after p (enters q r) = enters (enters_after p q) r

emits_grows : {ls : List Labelled} {e f : Flags} → Emits e ls f → Grows e f
emits_grows (no_more q) = q
emits_grows (enters q r) = grows_trans q.grows (emits_grows r)

emits_append : {ls ms : List Labelled} {e f g : Flags} → Emits e ls f → Emits f ms g → Emits e (ls ++ ms) g
emits_append (no_more p) q = emits_after p q
emits_append (enters p r) q = enters p (emits_append r q)

emits_then : {ls : List Labelled} {e f g : Flags} → Emits e ls f → Grows f g → Emits e ls g
emits_then (no_more p) q = no_more (grows_trans p q)
emits_then (enters p r) q = enters p (emits_then r q)

starts_emits : {b : ℕ} {e f : Flags} {ls : List Labelled} → Starts b e ls f → Emits e ls f
starts_emits q = emits_after q.first.grows q.rest

-- ---- what a step, a list, a terminal do to the emitted set

abbrev Stepped : Context → Context → Type 0
Stepped c d = Grows c.emitted d.emitted

abbrev ListEmits : Context → BlockResult → Type 0
ListEmits c r = (n : ℕ) → Emits c.emitted (in_list n r.statements) r.context.emitted

abbrev CasesEmit : Context → CasesResult → Type 0
CasesEmit c r = (n : ℕ) → Emits c.emitted (in_cases n r.cases) r.context.emitted

-- an alternate, behind a consequent
abbrev AlternateEmits : Context → AlternateResult → Type 0
AlternateEmits c r =
    (x i : ℕ) (g : Option ℕ) (s : Statements) (n : ℕ) (e : Flags) → Emits e (in_list n s) c.emitted → Emits e
    (in_parts n (IF x i g s r.present r.statements)) r.context.emitted

abbrev in_step : ℕ → Option Statement → List Labelled
in_step n none = []
in_step n (some s) = in_parts n s

-- a label is the block to go on with
abbrev GoesOn : Option ℕ → Option ℕ → Type 0
GoesOn none next = Unit {0}
GoesOn (some g) next = next ≡ some g

abbrev LabelNext : Option Statement → Option ℕ → Type 0
LabelNext none next = Unit {0}
LabelNext (some s) next = GoesOn (label_of s) next

abbrev StepEmits : Context → TerminalResult → Type 0
StepEmits c r = LabelNext r.statement r.next × ((n : ℕ) → Emits c.emitted (in_step n r.statement) r.context.emitted)

goes_on : (g : Option ℕ) → GoesOn g g
goes_on none = tt
goes_on (some f) = refl

unlined_goes : (s : Statement) (next : Option ℕ) → Unlined s → GoesOn (label_of s) next
unlined_goes s next u = subst (λ (g : Option ℕ). GoesOn g next) (sym u.0) tt

-- ---- the context's steps

schedule_grows : (g : ControlFlowTarget) (c : Context) → Good (Stepped c) (schedule g c)
unfolding schedule pushed
schedule_grows g c = good_unless (Stepped c) _ (blocked_code g) (block_asked g) c.visits _ (λ _. grows_refl c.emitted)

if_grows : (g : Option ℕ) (c : Context) → Good (Stepped c) (schedule_if g c)
unfolding schedule_if
if_grows none c = grows_refl c.emitted
if_grows (some f) c = schedule_grows (target_if f) c

switch_grows : (g : Option ℕ) (c : Context) → Good (Stepped c) (schedule_switch g c)
unfolding schedule_switch
switch_grows none c = grows_refl c.emitted
switch_grows (some f) c = schedule_grows (target_switch f) c

loop_grows : (f k l : ℕ) (c : Context) → Good (Stepped c) (schedule (target_loop f k l) c)
loop_grows f k l c = schedule_grows (target_loop f k l) c

off_grows : (i : ℕ) (c : Context) → Good (Stepped c) (unschedule i c)
unfolding unschedule
off_grows i c = from c.stack
  where
    from : (S : List Entry) → Good (Stepped c) (unschedule_top S i c)
    from [] = unfold unschedule_top in tt
    from (e ∷ S) = unfold unschedule_top popped in good_pick (Stepped c) (eqb e.id i) _ _ (grows_refl c.emitted) tt

off_if_grows : (g : Option ℕ) (i : ℕ) (c : Context) → Good (Stepped c) (unschedule_if g i c)
unfolding unschedule_if
off_if_grows none i c = grows_refl c.emitted
off_if_grows (some f) i c = off_grows i c

off_all_grows : (ids : List ℕ) (c : Context) → Good (Stepped c) (unschedule_all ids c)
unfolding unschedule_all
off_all_grows [] c = grows_refl c.emitted
off_all_grows (i ∷ ids) c = good_bind (Stepped c) (Stepped c) _ _ (off_grows i c) (λ d p. good_then d (unschedule_all ids d) p (off_all_grows ids d))
  where
    good_then : (d : Context) (m : Result Context) → Stepped c d → Good (Stepped d) m → Good (Stepped c) m
    good_then d (ok e) p q = grows_trans p q
    good_then d (refused code at visits) p q = tt

visited : (v : ℕ) (c : Context) → (with_visits v c).emitted ≡ c.emitted
unfolding with_visits
visited v c = refl

caught : (h : ℕ) (c : Context) → (schedule_catch_handler h c).emitted ≡ c.emitted
unfolding schedule_catch_handler
caught h c = refl

scoped : (g : Option ℕ) (c : Context) → (mark_scope_fallthrough_if g c).emitted ≡ c.emitted
unfolding mark_scope_fallthrough_if mark_scope_fallthrough
scoped none c = refl
scoped (some f) c = refl

-- ---- nested lists

-- a context whose emitted set has all its flags
pub record Sized (c : Context) : Type 0 where
  pub flags : length c.emitted ≡ 1024

sized_by : (c d : Context) → Stepped c d → Sized c → Sized d
sized_by c d p h = record { flags = p.size ∙ h.flags }

unfoldable pub WalkEmits : TraverseBlock → Type 0
WalkEmits inner = (b : ℕ) (c : Context) → Sized c → Good (λ r. (n : ℕ) → Starts b c.emitted (in_list n r.statements) r.context.emitted) (inner b c)

module _ (inner : TraverseBlock) (we : WalkEmits inner) where
  inner_emits : (b : ℕ) (c : Context) → Sized c → Good (ListEmits c) (inner b c)
  unfolding WalkEmits
  inner_emits b c z = at (inner b c) (we b c z)
    where
      at : (m : Result BlockResult) → Good (λ r. (n : ℕ) → Starts b c.emitted (in_list n r.statements) r.context.emitted) m → Good (ListEmits c) m
      at (ok r) h = λ n. starts_emits (h n)
      at (refused code place visits) h = tt

  -- from a context with the same emitted set
  inner_from : (b : ℕ) (c d : Context) → d.emitted ≡ c.emitted → Sized c → Good (ListEmits c) (inner b d)
  inner_from b c d e z =
      subst (λ (f : Flags). Good (λ r. (n : ℕ) → Emits f (in_list n r.statements) r.context.emitted) (inner b d)) e
      (inner_emits b d (record { flags = ap length e ∙ z.flags }))

  unscheduled_emits : (b code at : ℕ) (c : Context) → Sized c → Good (ListEmits c) (traverse_unscheduled inner b code at c)
  unfolding traverse_unscheduled
  unscheduled_emits b code at c z = good_unless (ListEmits c) _ code at c.visits _ (λ _. inner_emits b c z)

  alternate_emits : (a f : ℕ) (c : Context) → Sized c → Good (AlternateEmits c) (traverse_alternate inner a f c)
  unfolding traverse_alternate in_list
  alternate_emits a f c z = good_pick (AlternateEmits c) (eqb a f) _ _ (λ x i g s n e h. h)
      (good_bind (ListEmits c) (AlternateEmits c) _ _ (unscheduled_emits a 13 a c z) (λ r q x i g s n e h. emits_append h (q (n + rows_in (block_rows s)))))

  consequent_emits : (o : Around) (at y i : ℕ) (c : Context) → Sized c → Good (ListEmits c) (traverse_consequent o inner at y i c)
  unfolding traverse_consequent
  consequent_emits o at y i c z = good_pick (ListEmits c) (is_scheduled c y) _ _
      (good_bind UnlinedStep (ListEmits c) _ _ (break_unlined o at y i c) (λ s u n. none_emitted s u n)) (inner_emits y c z)
    where
      none_emitted : (s : Option Statement) → UnlinedStep s → (n : ℕ) → Emits c.emitted (in_list n (followed_by s done)) c.emitted
      none_emitted none u n = unfold in_list in no_more (grows_refl c.emitted)
      none_emitted (some s) u n = unfold in_list in
          subst (λ (ls : List Labelled). Emits c.emitted ls c.emitted) (sym (append-nil (in_parts n s ++ labelled_by (label_of s) n s) ∙ unlined_none s u n)) (no_more (grows_refl c.emitted))

  -- `before` is the context in which the statement began
  enclosed_emits : (b code at : ℕ) (g : Option ℕ) (before c c₁ : Context) (make : Statements → Statement) → Stepped before c₁ → Sized c₁
      → ((s : Statements) → GoesOn (label_of (make s)) g) → ((s : Statements) (n : ℕ) → in_parts n (make s) ≡ in_list n s) → Good (StepEmits before) (traverse_enclosed inner b code at g c c₁ make)
  unfolding traverse_enclosed
  enclosed_emits b code at g before c c₁ make p z l m =
      good_bind (ListEmits c₁) (StepEmits before) _ _ (unscheduled_emits b code at c₁ z) (λ r h.
      good_bind (Stepped r.context) (StepEmits before) _ _ (off_if_grows g c.next_id r.context) (λ c₂ q.
      (l r.statements, λ n. subst (λ (ls : List Labelled). Emits before.emitted ls c₂.emitted) (sym (m r.statements n)) (emits_after p (emits_then (h n) q)))))

  -- its values have so many rows
  loop_emits : (at l : ℕ) (taken : Bool) (v i : ℕ) (before c : Context) (g : Option ℕ) (make : Statements → Statement) (k : ℕ → ℕ) → Stepped before c → Sized c
      → ((s : Statements) → GoesOn (label_of (make s)) g) → ((s : Statements) (n : ℕ) → in_parts n (make s) ≡ in_list (k n) s) → Good (StepEmits before) (traverse_loop inner at l taken v i c g make)
  unfolding traverse_loop
  loop_emits at l taken v i before c g make k p z lab m =
      good_unless (StepEmits before) taken 16 at v _ (λ _.
      good_bind (ListEmits c) (StepEmits before) _ _ (inner_from l c (with_visits v c) (visited v c) z) (λ r h.
      good_bind (Stepped r.context) (StepEmits before) _ _ (off_grows i r.context) (λ c₂ q.
      (lab r.statements, λ n. subst (λ (ls : List Labelled). Emits before.emitted ls c₂.emitted) (sym (m r.statements n)) (emits_after p (emits_then (h (k n)) q))))))

  cases_emit : (at f : ℕ) (ks : List Case) (ids : List ℕ) (c : Context) → Sized c → Good (CasesEmit c) (traverse_cases inner at f ks ids c)
  unfolding traverse_cases in_list
  cases_emit at f [] ids c z = λ n. no_more (grows_refl c.emitted)
  cases_emit at f (k ∷ ks) ids c z =
      good_pick (CasesEmit c) (is_scheduled c k.block) _ _
      (good_unless (CasesEmit c) _ 14 at c.visits _ (λ _. cases_emit at f ks ids c z))
      (good_bind (ListEmits c) (CasesEmit c) _ _ (inner_emits k.block c z) (λ r h.
      good_bind (Stepped r.context) (CasesEmit c) _ _ (schedule_grows (target_case k.block) r.context) (λ c₁ p.
      good_bind (CasesEmit c₁) (CasesEmit c) _ _ (cases_emit at f ks (r.context.next_id ∷ ids) c₁ (sized_by r.context c₁ p (sized_by c r.context (emits_grows (h 0)) z))) (λ w q n.
      emits_append (emits_then (h n) p) (q (n + (rows_in (block_rows r.statements) + 1)))))))

-- ---- terminals

module _ (t : Table) (values : VisitValueBlock) (inner : TraverseInside) (we : (a : Around) → WalkEmits (inner a)) where
  goto_emits : (o : Around) (v : Variant) (at b i : ℕ) (c : Context) → Good (StepEmits c) (visit_goto o v at b i c)
  unfolding visit_goto
  goto_emits o Break at b i c = good_bind UnlinedStep (StepEmits c) _ _ (break_unlined o at b i c) (λ s u. step s u)
    where
      step : (s : Option Statement) → UnlinedStep s → StepEmits c (record { statement = s; next = none; context = c })
      step none u = (tt, λ n. no_more (grows_refl c.emitted))
      step (some s) u = (unlined_goes s none u, λ n. subst (λ (ls : List Labelled). Emits c.emitted ls c.emitted) (sym (u.1 n)) (no_more (grows_refl c.emitted)))
  goto_emits o Continue at b i c = good_bind Unlined (StepEmits c) _ _ (continue_unlined o at b i c)
      (λ s u. (unlined_goes s none u, λ n. subst (λ (ls : List Labelled). Emits c.emitted ls c.emitted) (sym (u.1 n)) (no_more (grows_refl c.emitted))))
  goto_emits o Try at b i c = (tt, λ n. no_more (grows_refl c.emitted))

  value_emits : (m : Terminal) (at : ℕ) (k : Block) (f : ℕ) (c : Context) → Good (StepEmits c) (visit_value_statement t values m at k f c)
  unfolding visit_value_statement in_list
  value_emits m at k f c =
      good_bind (Stepped c) (StepEmits c) _ _ (if_grows (unless_scheduled c f) c) (λ c₁ p.
      good_bind Any (StepEmits c) _ _ (good_any (visit_value_block_terminal t values m k.id k.span c₁.visits at)) (λ r _.
      good_bind (Stepped c₁) (StepEmits c) _ _ (off_visited (unless_scheduled c f) c.next_id r.visits c₁) (λ c₂ q. (tt, λ n. no_more (grows_trans p q)))))
    where
      off_visited : (g : Option ℕ) (i v : ℕ) (c₁ : Context) → Good (Stepped c₁) (unschedule_if g i (with_visits v c₁))
      off_visited g i v c₁ = subst (λ (f : Flags). Good (λ d. Grows f d.emitted) (unschedule_if g i (with_visits v c₁))) (visited v c₁) (off_if_grows g i (with_visits v c₁))

  terminal_emits : (o : Around) (m : Terminal) (at : ℕ) (k : Block) (c : Context) → Sized c → Good (StepEmits c) (visit_terminal t values inner o m at k c)
  unfolding visit_terminal in_list
  terminal_emits o absent at k c z = tt
  terminal_emits o unreachable at k c z = (tt, λ n. no_more (grows_refl c.emitted))
  terminal_emits o (throw v) at k c z = (tt, λ n. no_more (grows_refl c.emitted))
  terminal_emits o (return v) at k c z = (tt, λ n. no_more (grows_refl c.emitted))
  terminal_emits o (goto g v) at k c z = goto_emits o v at g k.id c
  terminal_emits o (if x y a f) at k c z =
      good_bind Any (StepEmits c) _ _ (good_any (unless_unreachable t c f)) (λ g _.
      good_bind (Stepped c) (StepEmits c) _ _ (if_grows g c) (λ c₁ p.
      good_bind (ListEmits c₁) (StepEmits c) _ _ (unscheduled_emits _ (we _) y 12 y c₁ (sized_by c c₁ p z)) (λ r h.
      good_bind (AlternateEmits r.context) (StepEmits c) _ _ (alternate_emits _ (we _) a f r.context (sized_by c₁ r.context (emits_grows (h 0)) (sized_by c c₁ p z))) (λ w q.
      good_bind (Stepped w.context) (StepEmits c) _ _ (off_if_grows g c.next_id w.context) (λ c₂ u.
      (goes_on g, λ n. emits_then (q x k.id g r.statements n c.emitted (emits_after p (h n))) u))))))
  terminal_emits o (branch x y a) at k c z =
      good_bind (ListEmits c) (StepEmits c) _ _ (consequent_emits _ (we _) o at y k.id c z) (λ r h.
      good_bind (ListEmits r.context) (StepEmits c) _ _ (unscheduled_emits _ (we _) a 19 at r.context (sized_by c r.context (emits_grows (h 0)) z)) (λ w q.
      (tt, λ n. emits_append (h n) (q (n + rows_in (block_rows r.statements))))))
  terminal_emits o (switch x i m f) at k c z =
      good_bind Any (StepEmits c) _ _ (good_any (unless_unreachable t c f)) (λ g _.
      good_bind (Stepped c) (StepEmits c) _ _ (switch_grows g c) (λ c₁ p.
      good_bind (CasesEmit c₁) (StepEmits c) _ _ (cases_emit _ (we _) at f (cases_last_first t i m) (schedule_ids g c.next_id) c₁ (sized_by c c₁ p z)) (λ r h.
      good_bind (Stepped r.context) (StepEmits c) _ _ (off_all_grows r.ids r.context) (λ c₂ u.
      (goes_on g, λ n. emits_after p (emits_then (h n) u))))))
  terminal_emits o (do_while l x f) at k c z =
      good_bind (Stepped c) (StepEmits c) _ _ (loop_grows f x l c) (λ c₁ p.
      good_unless (StepEmits c) _ 16 at c₁.visits _ (λ _.
      good_bind (ListEmits c₁) (StepEmits c) _ _ (inner_emits _ (we _) l c₁ (sized_by c c₁ p z)) (λ r h.
      good_bind Any (StepEmits c) _ _ (good_any (values x none k.span r.context.visits)) (λ v _.
      good_bind (Stepped (with_visits v.visits r.context)) (StepEmits c) _ _ (off_grows c.next_id (with_visits v.visits r.context)) (λ c₂ u.
      (goes_on (unless_scheduled c f), λ n. emits_after p (emits_then (h n) (subst (λ (e : Flags). Grows e c₂.emitted) (visited v.visits r.context) u))))))))
  terminal_emits o (while x l f) at k c z =
      good_bind Any (StepEmits c) _ _ (good_any (unless_unreachable t c f)) (λ g _.
      good_bind (Stepped c) (StepEmits c) _ _ (loop_grows f x l c) (λ c₁ p.
      good_bind Any (StepEmits c) _ _ (good_any (values x none k.span c₁.visits)) (λ v _.
      loop_emits _ (we _) at l _ v.visits c.next_id c c₁ g _ _ p (sized_by c c₁ p z) (λ s. goes_on g) (λ s n. refl))))
  terminal_emits o (for i x u l f) at k c z =
      good_bind (Stepped c) (StepEmits c) _ _ (loop_grows f (continue_block_of u x) l c) (λ c₁ p.
      good_bind Any (StepEmits c) _ _ (good_any (values i none k.span c₁.visits)) (λ n _.
      good_bind Any (StepEmits c) _ _ (good_any (values x none k.span n.visits)) (λ v _.
      good_bind Any (StepEmits c) _ _ (good_any (visit_update values u k.span v.visits)) (λ w _.
      loop_emits _ (we _) at l _ w.visits c.next_id c c₁ (unless_scheduled c f) _ _ p (sized_by c c₁ p z) (λ s. goes_on (unless_scheduled c f)) (λ s n. refl)))))
  terminal_emits o (for_of i x l f) at k c z =
      good_bind (Stepped c) (StepEmits c) _ _ (loop_grows f i l c) (λ c₁ p.
      good_bind Any (StepEmits c) _ _ (good_any (values i none k.span c₁.visits)) (λ n _.
      good_bind Any (StepEmits c) _ _ (good_any (values x none k.span n.visits)) (λ v _.
      loop_emits _ (we _) at l _ v.visits c.next_id c c₁ (unless_scheduled c f) _ _ p (sized_by c c₁ p z) (λ s. goes_on (unless_scheduled c f)) (λ s n. refl))))
  terminal_emits o (for_in i l f) at k c z =
      good_bind (Stepped c) (StepEmits c) _ _ (loop_grows f i l c) (λ c₁ p.
      good_bind Any (StepEmits c) _ _ (good_any (values i none k.span c₁.visits)) (λ n _.
      loop_emits _ (we _) at l _ n.visits c.next_id c c₁ (unless_scheduled c f) _ _ p (sized_by c c₁ p z) (λ s. goes_on (unless_scheduled c f)) (λ s n. refl)))
  terminal_emits o (logical op x f) at k c z = value_emits (logical op x f) at k f c
  terminal_emits o (ternary x f) at k c z = value_emits (ternary x f) at k f c
  terminal_emits o (optional g x f) at k c z = value_emits (optional g x f) at k f c
  terminal_emits o (label x f) at k c z =
      good_bind Any (StepEmits c) _ _ (good_any (unless_unreachable t c f)) (λ g _.
      good_bind (Stepped c) (StepEmits c) _ _ (if_grows g c) (λ c₁ p.
      enclosed_emits _ (we _) x 17 at g c c c₁ (LABEL k.id g) p (sized_by c c₁ p z) (λ s. goes_on g) (λ s n. refl)))
  terminal_emits o (sequence x f) at k c z = value_emits (sequence x f) at k f c
  terminal_emits o (maybe_throw n) at k c z = (tt, λ m. no_more (grows_refl c.emitted))
  terminal_emits o (try x h f m) at k c z =
      good_bind Any (StepEmits c) _ _ (good_any (unless_unreachable t c f)) (λ g _.
      good_bind (Stepped c) (StepEmits c) _ _ (if_grows g c) (λ c₁ p.
      good_bind (ListEmits c₁) (StepEmits c) _ _ (inner_from _ (we _) x c₁ (schedule_catch_handler h c₁) (caught h c₁) (sized_by c c₁ p z)) (λ r q.
      good_bind (ListEmits r.context) (StepEmits c) _ _ (inner_emits _ (we _) h r.context (sized_by c₁ r.context (emits_grows (q 0)) (sized_by c c₁ p z))) (λ w q₁.
      good_bind (Stepped w.context) (StepEmits c) _ _ (off_if_grows g c.next_id w.context) (λ c₂ u. (
        goes_on g,
        λ n. emits_append (emits_after p (q n))
            (emits_then (q₁ (n + rows_in (block_rows r.statements))) u),
      ))))))
  terminal_emits o (scope p x f n) at k c z =
      good_bind (Stepped c) (StepEmits c) _ _ (if_grows (unless_scheduled c f) c) (λ c₁ g.
      let c₂ : Context = mark_scope_fallthrough_if (unless_scheduled c f) c₁ in
      let g₂ : Stepped c c₂ = subst (λ (e : Flags). Grows c.emitted e) (sym (scoped (unless_scheduled c f) c₁)) g in
      enclosed_emits _ (we _) x 18 at (unless_scheduled c f) c c c₂ (SCOPE p n) g₂ (sized_by c c₂ g₂ z) (λ s. tt) (λ s n. refl))

-- ---- blocks

-- a statement's label is entered next
own_emits : (g : Option ℕ) (next n : ℕ) (s : Statement) {ls : List Labelled} {e f : Flags} → GoesOn g (some next) → Starts next e ls f → Emits e (labelled_by g n s ++ ls) f
own_emits none next n s h q = starts_emits q
own_emits (some g) next n s {e = e} h q = enters (subst (λ (b : ℕ). Enters b e q.middle) (some_eq h) q.first) q.rest

followed_emits : (s : Option Statement) (next n : ℕ) (rest : Statements) (e f g : Flags) → LabelNext s (some next) → Emits e (in_step n s) f
    → ((m : ℕ) → Starts next f (in_list m rest) g) → Emits e (in_list n (followed_by s rest)) g
unfolding in_list
followed_emits none next n rest e f g l (no_more p) q = emits_after p (starts_emits (q n))
followed_emits (some s) next n rest e f g l p q =
    subst (λ (ls : List Labelled). Emits e ls g) (sym (append_assoc (in_parts n s) (labelled_by (label_of s) n s) (in_list (n + rows_in (statement_rows s)) rest)))
    (emits_append p
    (own_emits (label_of s) next n s l (q (n + rows_in (statement_rows s)))))

last_emits : (s : Option Statement) (n : ℕ) (e f : Flags) → LabelNext s none → Emits e (in_step n s) f → Emits e (in_list n (followed_by s done)) f
unfolding in_list
last_emits none n e f l p = p
last_emits (some s) n e f l p = subst (λ (ls : List Labelled). Emits e ls f) (sym (append-nil (in_parts n s ++ labelled_by (label_of s) n s) ∙ bare (label_of s) l)) p
  where
    bare : (g : Option ℕ) → GoesOn g none → in_parts n s ++ labelled_by g n s ≡ in_parts n s
    bare none h = append-nil (in_parts n s)
    bare (some g) h = absurd (none_some h)

next_emits : (t : Table) (at : ℕ) (again : TraverseBlock) (c : Context) (r : TerminalResult) → WalkEmits again → Sized c → StepEmits c r
    → Good (ListEmits c) (then_next t at again r.statement r.next r.context)
next_emits t at again c r w z h = by r.next h.0
  where
    instructed : (s : Statements) (f : Flags) → ((n : ℕ) → Emits c.emitted (in_list n s) f) → (n : ℕ) → Emits c.emitted (in_list n (instruction_statements t (instruction_rows_at t at) s)) f
    instructed s f q n = subst (λ (ls : List Labelled). Emits c.emitted ls f) (sym (instructions_lined t (instruction_rows_at t at) n s)) (q _)

    by : (next : Option ℕ) → LabelNext r.statement next → Good (ListEmits c) (then_next t at again r.statement next r.context)
    by none l = unfold then_next in instructed (followed_by r.statement done) r.context.emitted (λ n. last_emits r.statement n c.emitted r.context.emitted l (h.1 n))
    by (some next) l = unfold then_next WalkEmits in
        good_bind (λ q. (n : ℕ) → Starts next r.context.emitted (in_list n q.statements) q.context.emitted) (ListEmits c) _ _
        (w next r.context (sized_by c r.context (emits_grows (h.1 0)) z))
        (λ q k. instructed (followed_by r.statement q.statements) q.context.emitted
        (λ n. followed_emits r.statement next n q.statements c.emitted r.context.emitted q.context.emitted l (h.1 n) k))

module _ (t : Table) (few : length t.blocks ≤ 1024) where
  enter_emits : (b : ℕ) (c : Context) → Sized c → Good (λ d. Enters b c.emitted d.emitted) (enter_block t b c)
  unfolding enter_block begin_visit emit with_visits
  enter_emits b c z =
      good_bind (λ w. b < length t.blocks) (λ d. Enters b c.emitted d.emitted) _ _
      (good_unless (λ w. b < length t.blocks) _ 31 b c.visits _ (λ _. good_unless (λ w. b < length t.blocks) _ 10 b (suc c.visits) _ (λ h. below_blocks t b h)))
      (λ w below. good_unless (λ d. Enters b c.emitted d.emitted) _ 11 b w _ (λ h. record {
        grows = record { size = length_add c.emitted b (length c.emitted) refl; kept = λ x. has_still c.emitted b x };
        before = h;
        now = has_new c.emitted b (omega (arith, below, few, z.flags));
      }))

  visit_emits : (values : VisitValueBlock) (inner : TraverseInside) → ((a : Around) → WalkEmits (inner a)) → (a : Around) (n : ℕ) → WalkEmits (visit_block t values inner a n)
  unfolding visit_block WalkEmits
  visit_emits values inner we a zero b c z = tt
  visit_emits values inner we a (suc n) b c z =
      good_bind (λ d. Enters b c.emitted d.emitted) (λ r. (m : ℕ) → Starts b c.emitted (in_list m r.statements) r.context.emitted) _ _ (enter_emits b c z) (λ c₁ p.
      good_bind (StepEmits c₁) (λ r. (m : ℕ) → Starts b c.emitted (in_list m r.statements) r.context.emitted) _ _
      (terminal_emits t values inner we a (terminal_at t b) b (block_at t b) c₁ (sized_by c c₁ p.grows z)) (λ s h.
      at c₁ p (then_next t b (visit_block t values inner a n) s.statement s.next s.context)
      (next_emits t b (visit_block t values inner a n) c₁ s (visit_emits values inner we a n) (sized_by c c₁ p.grows z) h)))
    where
      at : (c₁ : Context) → Enters b c.emitted c₁.emitted → (m : Result BlockResult) → Good (ListEmits c₁) m
          → Good (λ r. (n : ℕ) → Starts b c.emitted (in_list n r.statements) r.context.emitted) m
      at c₁ p (ok r) h = λ n. record { middle = c₁.emitted; first = p; rest = h n }
      at c₁ p (refused code place visits) h = tt

  walk_emits : (d : ℕ) (a : Around) → WalkEmits (traverse_block t d a)
  unfolding traverse_block WalkEmits
  walk_emits zero a b c z = tt
  walk_emits (suc d) a b c z = visit_emits (visit_value_block t d) (traverse_block t d) (walk_emits d) a 8193 b c z

  -- from the start the entry is entered, and then the labels of the tree
  pub tree_emits : (rule : Rule) (r : BlockResult) → build_tree rule t ≡ ok r → Starts t.entry start.emitted (labelled r.statements) r.context.emitted
  unfolding build_tree WalkEmits start
  tree_emits rule r e =
      subst (λ (m : Result BlockResult). Good (λ r. (n : ℕ) → Starts t.entry start.emitted (in_list n r.statements) r.context.emitted) m) e
      (walk_emits 128 (outermost rule) t.entry start (record { flags = length_none })) 0

-- ---- so the labels differ

-- none of these is the label b
abbrev pub Without : ℕ → List Labelled → Type 0
Without b [] = Unit {0}
Without b (l ∷ ls) = (l.label ≡ b → ⊥) × Without b ls

abbrev pub Different : List Labelled → Type 0
Different [] = Unit {0}
Different (l ∷ ls) = Without l.label ls × Different ls

emits_without : (b : ℕ) {ls : List Labelled} {e f : Flags} → has e b ≡ true → Emits e ls f → Without b ls
emits_without b h (no_more q) = tt
emits_without b {e = e} h (enters q r) = ((λ k. true_false (sym (subst (λ (x : ℕ). has e x ≡ true) (sym k) h) ∙ q.before)), emits_without b (q.grows.kept b h) r)

emits_different : {ls : List Labelled} {e f : Flags} → Emits e ls f → Different ls
emits_different (no_more q) = tt
emits_different (enters {l = l} q r) = (emits_without l.label q.now r, emits_different r)

pub tree_different : (rule : Rule) (t : Table) → length t.blocks ≤ 1024 → (r : BlockResult) → build_tree rule t ≡ ok r → Different (labelled r.statements)
tree_different rule t few r e = emits_different (tree_emits t few rule r e).rest

-- ---- and are at most 1,023

grows_tail : (x y : Bool) (e f : Flags) → Grows (x ∷ e) (y ∷ f) → Grows e f
unfolding has
grows_tail x y e f g = record { size = omega (arith, g.size); kept = λ n h. g.kept (suc n) h }

marks_grow : (e f : Flags) → Grows e f → marks e ≤ marks f
unfolding has
marks_grow [] f g = omega arith
marks_grow (x ∷ e) [] g = absurd (omega (arith, g.size))
marks_grow (true ∷ e) (true ∷ f) g = omega (arith, marks_grow e f (grows_tail true true e f g))
marks_grow (true ∷ e) (false ∷ f) g = absurd (true_false (sym (g.kept 0 refl)))
marks_grow (false ∷ e) (true ∷ f) g = omega (arith, marks_grow e f (grows_tail false true e f g))
marks_grow (false ∷ e) (false ∷ f) g = marks_grow e f (grows_tail false false e f g)

pub marks_enter : (b : ℕ) (e f : Flags) → Grows e f → has e b ≡ false → has f b ≡ true → marks e < marks f
unfolding has
marks_enter b [] [] g h k = absurd (true_false (sym k))
marks_enter b [] (y ∷ f) g h k = absurd (omega (arith, g.size))
marks_enter b (x ∷ e) [] g h k = absurd (omega (arith, g.size))
marks_enter zero (true ∷ e) (y ∷ f) g h k = absurd (true_false h)
marks_enter zero (false ∷ e) (false ∷ f) g h k = absurd (true_false (sym k))
marks_enter zero (false ∷ e) (true ∷ f) g h k = omega (arith, marks_grow e f (grows_tail false true e f g))
marks_enter (suc b) (true ∷ e) (true ∷ f) g h k = omega (arith, marks_enter b e f (grows_tail true true e f g) h k)
marks_enter (suc b) (true ∷ e) (false ∷ f) g h k = absurd (true_false (sym (g.kept 0 refl)))
marks_enter (suc b) (false ∷ e) (true ∷ f) g h k = omega (arith, marks_enter b e f (grows_tail false true e f g) h k)
marks_enter (suc b) (false ∷ e) (false ∷ f) g h k = marks_enter b e f (grows_tail false false e f g) h k

emits_marks : {ls : List Labelled} {e f : Flags} → Emits e ls f → length ls + marks e ≤ marks f
emits_marks {e = e} {f} (no_more q) = omega (arith, marks_grow e f q)
emits_marks {e = e} (enters {m = m} {l = l} q r) = omega (arith, marks_enter l.label e m q.grows q.before q.now, emits_marks r)

pub tree_few : (rule : Rule) (t : Table) → length t.blocks ≤ 1024 → (r : BlockResult) → build_tree rule t ≡ ok r → length (labelled r.statements) ≤ 1023
unfolding start
tree_few rule t few r e =
    let s : Starts t.entry start.emitted (labelled r.statements) r.context.emitted = tree_emits t few rule r e in
    omega (
      arith,
      marks_enter t.entry start.emitted s.middle s.first.grows s.first.before s.first.now,
      emits_marks s.rest,
      marks_below r.context.emitted,
      (emits_grows s.rest).size,
      s.first.grows.size,
      length_none,
    )
