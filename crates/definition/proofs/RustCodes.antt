-- Over any table: the Rust-equal entry never gives 29, M-102's refusal. For the reader; with proofs/Never its refusals are paper 01's, 10 to 28, 30 and 31.
use mathlib.Core.Path.{◌≡◌, refl, ap, subst}
use Prim.Native.Nat.{ℕ, zero, suc}
use mathlib.Core.List.{List, [], ◌∷◌}
use mathlib.Core.Option.{Option, none, some}
use mathlib.Core.Bool.{Bool, true, false, not}
use lib.Dec.{T, eqb}
use Rattle.table.specs.Table.{Table, Block, Case, Terminal, absent, unreachable, throw, return, goto, if, branch, switch, do_while, while, for, for_of, for_in}
use Rattle.table.specs.Table.{logical, ternary, optional, label, sequence, maybe_throw, try, scope, Variant, Break, Continue, Try, block_at, terminal_at}
use Rattle.table.specs.declared.columns.Span.{Span}
use Rattle.table.specs.Table.{instruction_rows}
use Rattle.definition.specs.Tree.{Kind, implicit, labeled, unlabeled, Statement, Statements}
use Rattle.definition.specs.Around.{Rule, rust, Around, outermost, unnamed, break_unnamed, continue_unnamed}
use Rattle.definition.specs.Result.{Result, ok, refused, ◌>>=◌, refuse_if}
use Rattle.definition.specs.Context.{has, ControlFlowTarget, target_if, target_switch, target_case, target_loop, Entry, Context, start, is_scheduled}
use Rattle.definition.specs.Context.{with_visits, schedule_catch_handler, schedule, unscheduled_by, popped, unschedule_top, unschedule, Resolution}
use Rattle.definition.specs.Context.{get_break_target, get_continue_target}
use Rattle.definition.specs.Value.{begin_visit, ValueBlockResult, ValueTerminalResult, Ways, VisitValueBlock, branch_ways, extract_or_refuse}
use Rattle.definition.specs.Value.{test_block_ended, visit_test_block, visit_value_block_terminal, then_fallthrough, branch_value, is_empty_goto, maybe_throw_value}
use Rattle.definition.specs.Value.{visit_value_block_at, visit_value_block}
use Rattle.definition.specs.Statement.{BlockResult, TraverseBlock, TraverseInside, enter_block, unless_scheduled, unless_unreachable}
use Rattle.definition.specs.Statement.{schedule_if, schedule_switch, unschedule_if, mark_scope_fallthrough_if, break_to_scope, break_resolved, visit_break}
use Rattle.definition.specs.Statement.{continue_resolved, visit_continue, visit_goto, traverse_unscheduled, traverse_alternate, traverse_consequent}
use Rattle.definition.specs.Statement.{traverse_enclosed, traverse_loop, visit_update, cases_last_first, traverse_cases, unschedule_all, schedule_ids}
use Rattle.definition.specs.Statement.{visit_value_statement, visit_terminal, then_next, visit_block, traverse_block, build_tree}

-- not refused 29
abbrev Not29 : {A : Type 0} → Result A → Type 0
Not29 (ok a) = Unit {0}
Not29 (refused code at visits) = T (not (eqb code 29))

n_bind : {A B : Type 0} (m : Result A) (f : A → Result B) → Not29 m → ((a : A) → Not29 (f a)) → Not29 (m >>= f)
unfolding ◌>>=◌
n_bind (ok a) f h k = k a
n_bind (refused code at visits) f h k = h

n_unless : {B : Type 0} (test : Bool) (code at visits : ℕ) (next : Unit {0} → Result B) → T (not (eqb code 29)) → Not29 (next tt) → Not29 (refuse_if test code at visits >>= next)
unfolding ◌>>=◌ refuse_if
n_unless true code at visits next c k = c
n_unless false code at visits next c k = k

n_pick : {A : Type 0} (test : Bool) (m n : Result A) → Not29 m → Not29 n → Not29 {A = A} (elim test [ true ↦ m | false ↦ n ])
n_pick true m n h k = h
n_pick false m n h k = k

-- ---- values

unfoldable ValuesNot29 : VisitValueBlock → Type 0
ValuesNot29 visit = (b : ℕ) (o : Option ℕ) (span : Span) (v : ℕ) → Not29 (visit b o span v)

begin_codes : (t : Table) (b v : ℕ) → Not29 (begin_visit t b v)
unfolding begin_visit
begin_codes t b v = n_unless _ 31 b v _ tt (n_unless _ 10 b (suc v) _ tt tt)

ended_codes : (w : ValueBlockResult) (ways : Option Ways) (at : ℕ) → Not29 (test_block_ended w ways at)
unfolding test_block_ended
ended_codes w none at = tt
ended_codes w (some ways) at = tt

module _ (t : Table) where
  extract_codes : (b : ℕ) (rows : List ℕ) (v code at : ℕ) → T (not (eqb code 29)) → Not29 (extract_or_refuse t b rows v code at)
  unfolding extract_or_refuse
  extract_codes b [] v code at h = h
  extract_codes b (r ∷ rs) v code at h = tt

  branch_codes : (b x i : ℕ) (rows : List ℕ) (v : ℕ) → Not29 (branch_value t b x i rows v)
  unfolding branch_value
  branch_codes b x i [] v = tt
  branch_codes b x i (r ∷ rs) v = tt

module _ (t : Table) (visit : VisitValueBlock) (vn : ValuesNot29 visit) where
  vs : (b : ℕ) (o : Option ℕ) (span : Span) (v : ℕ) → Not29 (visit b o span v)
  unfolding ValuesNot29
  vs b o span v = vn b o span v

  test_codes : (b : ℕ) (span : Span) (v at : ℕ) → Not29 (visit_test_block t visit b span v at)
  unfolding visit_test_block
  test_codes b span v at = n_bind _ _ (vs b none span v) (λ w. ended_codes w (branch_ways (terminal_at t w.block)) at)

  value_terminal_codes : (m : Terminal) (id : ℕ) (span : Span) (v at : ℕ) → Not29 (visit_value_block_terminal t visit m id span v at)
  unfolding visit_value_block_terminal
  value_terminal_codes absent id span v at = tt
  value_terminal_codes unreachable id span v at = tt
  value_terminal_codes (throw w) id span v at = tt
  value_terminal_codes (return w) id span v at = tt
  value_terminal_codes (goto g w) id span v at = tt
  value_terminal_codes (if x y a f) id span v at = tt
  value_terminal_codes (branch x y a) id span v at = tt
  value_terminal_codes (switch x i n f) id span v at = tt
  value_terminal_codes (do_while l x f) id span v at = tt
  value_terminal_codes (while x l f) id span v at = tt
  value_terminal_codes (for i x u l f) id span v at = tt
  value_terminal_codes (for_of i x l f) id span v at = tt
  value_terminal_codes (for_in i l f) id span v at = tt
  value_terminal_codes (logical op x f) id span v at = n_bind _ _ (test_codes x span v at) (λ w. n_bind _ _ (vs _ _ span _) (λ l. n_bind _ _ (vs _ _ span _) (λ r. tt)))
  value_terminal_codes (ternary x f) id span v at = n_bind _ _ (test_codes x span v at) (λ w. n_bind _ _ (vs _ _ span _) (λ l. n_bind _ _ (vs _ _ span _) (λ r. tt)))
  value_terminal_codes (optional g x f) id span v at = n_bind _ _ (test_codes x span v at) (λ w. n_bind _ _ (vs _ _ span _) (λ l. tt))
  value_terminal_codes (label x f) id span v at = tt
  value_terminal_codes (sequence x f) id span v at = n_bind _ _ (vs x _ span v) (λ w. tt)
  value_terminal_codes (maybe_throw n) id span v at = tt
  value_terminal_codes (try x y f n) id span v at = tt
  value_terminal_codes (scope p x f n) id span v at = tt

  through_codes : (k : Block) (span : Span) (m : Result ValueTerminalResult) → Not29 m → Not29 (then_fallthrough t visit k span m)
  unfolding then_fallthrough
  through_codes k span m h = n_bind _ _ h (λ i. n_bind _ _ (vs _ none span _) (λ r. tt))

  maybe_throw_codes : (b c : ℕ) (rows : List ℕ) (o : Option ℕ) (span : Span) (v : ℕ) (y : Bool) → Not29 (maybe_throw_value t visit b c rows o span v y)
  unfolding maybe_throw_value
  maybe_throw_codes b c rows o span v true = extract_codes t c rows v 28 b tt
  maybe_throw_codes b c rows o span v false = n_bind _ _ (vs c o span v) (λ r. tt)

  value_at_codes : (m : Terminal) (b : ℕ) (k : Block) (o : Option ℕ) (span : Span) (v : ℕ) → Not29 (visit_value_block_at t visit m b k o span v)
  unfolding visit_value_block_at
  value_at_codes absent b k o span v = through_codes k span _ (value_terminal_codes absent k.id k.span v b)
  value_at_codes unreachable b k o span v = through_codes k span _ (value_terminal_codes unreachable k.id k.span v b)
  value_at_codes (throw w) b k o span v = through_codes k span _ (value_terminal_codes (throw w) k.id k.span v b)
  value_at_codes (return w) b k o span v = through_codes k span _ (value_terminal_codes (return w) k.id k.span v b)
  value_at_codes (goto g w) b k o span v = extract_codes t b (instruction_rows k) v 24 b tt
  value_at_codes (if x y a f) b k o span v = through_codes k span _ (value_terminal_codes (if x y a f) k.id k.span v b)
  value_at_codes (branch x y a) b k o span v = branch_codes t b x k.id (instruction_rows k) v
  value_at_codes (switch x i n f) b k o span v = through_codes k span _ (value_terminal_codes (switch x i n f) k.id k.span v b)
  value_at_codes (do_while l x f) b k o span v = through_codes k span _ (value_terminal_codes (do_while l x f) k.id k.span v b)
  value_at_codes (while x l f) b k o span v = through_codes k span _ (value_terminal_codes (while x l f) k.id k.span v b)
  value_at_codes (for i x u l f) b k o span v = through_codes k span _ (value_terminal_codes (for i x u l f) k.id k.span v b)
  value_at_codes (for_of i x l f) b k o span v = through_codes k span _ (value_terminal_codes (for_of i x l f) k.id k.span v b)
  value_at_codes (for_in i l f) b k o span v = through_codes k span _ (value_terminal_codes (for_in i l f) k.id k.span v b)
  value_at_codes (logical op x f) b k o span v = through_codes k span _ (value_terminal_codes (logical op x f) k.id k.span v b)
  value_at_codes (ternary x f) b k o span v = through_codes k span _ (value_terminal_codes (ternary x f) k.id k.span v b)
  value_at_codes (optional g x f) b k o span v = through_codes k span _ (value_terminal_codes (optional g x f) k.id k.span v b)
  value_at_codes (label x f) b k o span v = through_codes k span _ (value_terminal_codes (label x f) k.id k.span v b)
  value_at_codes (sequence x f) b k o span v = through_codes k span _ (value_terminal_codes (sequence x f) k.id k.span v b)
  value_at_codes (maybe_throw n) b k o span v = n_unless _ 10 n v _ tt (maybe_throw_codes b n (instruction_rows k) o span v (is_empty_goto (block_at t n)))
  value_at_codes (try x y f n) b k o span v = through_codes k span _ (value_terminal_codes (try x y f n) k.id k.span v b)
  value_at_codes (scope p x f n) b k o span v = through_codes k span _ (value_terminal_codes (scope p x f n) k.id k.span v b)

value_codes : (t : Table) (d : ℕ) → ValuesNot29 (visit_value_block t d)
unfolding visit_value_block ValuesNot29
value_codes t zero b o span v = tt
value_codes t (suc d) b o span v =
    n_bind _ _ (begin_codes t b v) (λ w. n_unless _ 23 b w _ tt (value_at_codes t (visit_value_block t d) (value_codes t d) (terminal_at t b) b (block_at t b) o span w))

-- ---- the control stack

schedule_codes : (g : ControlFlowTarget) (c : Context) → Not29 (schedule g c)
unfolding schedule
schedule_codes (target_if f) c = n_unless _ 90 f c.visits _ tt tt
schedule_codes (target_switch f) c = n_unless _ 90 f c.visits _ tt tt
schedule_codes (target_case f) c = n_unless _ 90 f c.visits _ tt tt
schedule_codes (target_loop f k l) c = n_unless _ 15 k c.visits _ tt tt

schedule_if_codes : (g : Option ℕ) (c : Context) → Not29 (schedule_if g c)
unfolding schedule_if
schedule_if_codes none c = tt
schedule_if_codes (some f) c = schedule_codes (target_if f) c

schedule_switch_codes : (g : Option ℕ) (c : Context) → Not29 (schedule_switch g c)
unfolding schedule_switch
schedule_switch_codes none c = tt
schedule_switch_codes (some f) c = schedule_codes (target_switch f) c

unschedule_codes : (i : ℕ) (c : Context) → Not29 (unschedule i c)
unfolding unschedule
unschedule_codes i c = by c.stack
  where
    by : (S : List Entry) → Not29 (unschedule_top S i c)
    by [] = unfold unschedule_top in tt
    by (e ∷ S) = unfold unschedule_top in n_pick (eqb e.id i) (ok (popped S (unscheduled_by e.target e.owns_loop c.scheduled) c)) (refused 91 0 c.visits) tt tt

unschedule_if_codes : (g : Option ℕ) (i : ℕ) (c : Context) → Not29 (unschedule_if g i c)
unfolding unschedule_if
unschedule_if_codes none i c = tt
unschedule_if_codes (some f) i c = unschedule_codes i c

unschedule_all_codes : (is : List ℕ) (c : Context) → Not29 (unschedule_all is c)
unfolding unschedule_all
unschedule_all_codes [] c = tt
unschedule_all_codes (i ∷ is) c = n_bind _ _ (unschedule_codes i c) (λ d. unschedule_all_codes is d)

reachable_codes : (t : Table) (c : Context) (f : ℕ) → Not29 (unless_unreachable t c f)
unfolding unless_unreachable
reachable_codes t c f = n_unless _ 10 f c.visits _ tt tt

-- ---- jumps: a Labeled jump needs no label

never_unnamed : (rule : Rule) (k : Kind) (named : Bool) → rule ≡ rust → unnamed rule k named ≡ false
unfolding unnamed
never_unnamed rule k named e = ap (λ (z : Rule). unnamed z k named) e

n_named : {B : Type 0} (test : Bool) (at visits : ℕ) (next : Unit {0} → Result B) → test ≡ false → Not29 (next tt) → Not29 (refuse_if test 29 at visits >>= next)
unfolding ◌>>=◌ refuse_if
n_named true at visits next e k = subst (λ (y : Bool). T y) e tt
n_named false at visits next e k = k

scope_codes : (k : Kind) (at v : ℕ) → Not29 (break_to_scope k at v)
unfolding break_to_scope
scope_codes implicit at v = tt
scope_codes labeled at v = tt
scope_codes unlabeled at v = tt

break_codes : (o : Around) → o.rule ≡ rust → (at b i : ℕ) (c : Context) → Not29 (visit_break o at b i c)
unfolding visit_break
break_codes o e at b i c = by (get_break_target c b)
  where
    by : (r : Option Resolution) → Not29 (break_resolved o at b i c r)
    by none = unfold break_resolved in tt
    by (some r) = unfold break_resolved break_unnamed in
        n_pick (has c.scope_fallthroughs r.target) _ _ (scope_codes r.kind at c.visits) (n_named _ at c.visits _ (never_unnamed o.rule _ _ e) tt)

continue_codes : (o : Around) → o.rule ≡ rust → (at b i : ℕ) (c : Context) → Not29 (visit_continue o at b i c)
unfolding visit_continue
continue_codes o e at b i c = by (get_continue_target c b)
  where
    by : (r : Option Resolution) → Not29 (continue_resolved o at b i c r)
    by none = unfold continue_resolved in tt
    by (some r) = unfold continue_resolved continue_unnamed in n_named _ at c.visits _ (never_unnamed o.rule _ _ e) tt

goto_codes : (o : Around) → o.rule ≡ rust → (v : Variant) (at b i : ℕ) (c : Context) → Not29 (visit_goto o v at b i c)
unfolding visit_goto
goto_codes o e Break at b i c = n_bind _ _ (break_codes o e at b i c) (λ s. tt)
goto_codes o e Continue at b i c = n_bind _ _ (continue_codes o e at b i c) (λ s. tt)
goto_codes o e Try at b i c = tt

-- ---- nested lists

unfoldable BlockNot29 : TraverseBlock → Type 0
BlockNot29 inner = (b : ℕ) (c : Context) → Not29 (inner b c)

module _ (inner : TraverseBlock) (bn : BlockNot29 inner) where
  unscheduled_codes : (b code at : ℕ) (c : Context) → T (not (eqb code 29)) → Not29 (traverse_unscheduled inner b code at c)
  unfolding traverse_unscheduled BlockNot29
  unscheduled_codes b code at c h = n_unless _ code at c.visits _ h (bn b c)

  alternate_codes : (a f : ℕ) (c : Context) → Not29 (traverse_alternate inner a f c)
  unfolding traverse_alternate
  alternate_codes a f c = n_pick (eqb a f) _ _ tt (n_bind _ _ (unscheduled_codes a 13 a c tt) (λ r. tt))

  consequent_codes : (o : Around) → o.rule ≡ rust → (at y i : ℕ) (c : Context) → Not29 (traverse_consequent o inner at y i c)
  unfolding traverse_consequent BlockNot29
  consequent_codes o e at y i c = n_pick (is_scheduled c y) _ _ (n_bind _ _ (break_codes o e at y i c) (λ s. tt)) (bn y c)

  enclosed_codes : (b code at : ℕ) (g : Option ℕ) (c c₁ : Context) (make : Statements → Statement) → T (not (eqb code 29)) → Not29 (traverse_enclosed inner b code at g c c₁ make)
  unfolding traverse_enclosed
  enclosed_codes b code at g c c₁ make h = n_bind _ _ (unscheduled_codes b code at c₁ h) (λ r. n_bind _ _ (unschedule_if_codes g c.next_id r.context) (λ d. tt))

  loop_codes : (at l : ℕ) (taken : Bool) (v i : ℕ) (c : Context) (g : Option ℕ) (make : Statements → Statement) → Not29 (traverse_loop inner at l taken v i c g make)
  unfolding traverse_loop BlockNot29
  loop_codes at l taken v i c g make = n_unless taken 16 at v _ tt (n_bind _ _ (bn l (with_visits v c)) (λ r. n_bind _ _ (unschedule_codes i r.context) (λ d. tt)))

  cases_codes : (at f : ℕ) (ks : List Case) (is : List ℕ) (c : Context) → Not29 (traverse_cases inner at f ks is c)
  unfolding traverse_cases BlockNot29
  cases_codes at f [] is c = tt
  cases_codes at f (k ∷ ks) is c =
      n_pick (is_scheduled c k.block) _ _ (n_unless _ 14 at c.visits _ tt (cases_codes at f ks is c))
      (n_bind _ _ (bn k.block c) (λ r. n_bind _ _ (schedule_codes (target_case k.block) r.context) (λ d. n_bind _ _ (cases_codes at f ks (r.context.next_id ∷ is) d) (λ z. tt))))

-- ---- terminals and blocks

unfoldable WalkNot29 : TraverseInside → Type 0
WalkNot29 inner = (o : Around) → o.rule ≡ rust → BlockNot29 (inner o)

module _ (t : Table) (values : VisitValueBlock) (vn : ValuesNot29 values) (inner : TraverseInside) (wn : WalkNot29 inner) where
  values_codes : (b : ℕ) (o : Option ℕ) (span : Span) (v : ℕ) → Not29 (values b o span v)
  unfolding ValuesNot29
  values_codes b o span v = vn b o span v

  inside : (o : Around) → o.rule ≡ rust → BlockNot29 (inner o)
  unfolding WalkNot29
  inside o e = wn o e

  walked : (o : Around) → o.rule ≡ rust → (b : ℕ) (c : Context) → Not29 (inner o b c)
  unfolding WalkNot29 BlockNot29
  walked o e b c = wn o e b c

  update_codes : (u : Option ℕ) (span : Span) (v : ℕ) → Not29 (visit_update values u span v)
  unfolding visit_update
  update_codes none span v = tt
  update_codes (some u) span v = n_bind _ _ (values_codes u none span v) (λ r. tt)

  statement_codes : (m : Terminal) (at : ℕ) (k : Block) (f : ℕ) (c : Context) → Not29 (visit_value_statement t values m at k f c)
  unfolding visit_value_statement
  statement_codes m at k f c =
      n_bind _ _ (schedule_if_codes (unless_scheduled c f) c) (λ d. n_bind _ _ (value_terminal_codes t values vn m k.id k.span d.visits at) (λ r.
      n_bind _ _ (unschedule_if_codes (unless_scheduled c f) c.next_id (with_visits r.visits d)) (λ e. tt)))

  terminal_codes : (o : Around) → o.rule ≡ rust → (m : Terminal) (at : ℕ) (k : Block) (c : Context) → Not29 (visit_terminal t values inner o m at k c)
  unfolding visit_terminal
  terminal_codes o e absent at k c = tt
  terminal_codes o e unreachable at k c = tt
  terminal_codes o e (throw v) at k c = tt
  terminal_codes o e (return v) at k c = tt
  terminal_codes o e (goto g v) at k c = goto_codes o e v at g k.id c
  terminal_codes o e (if x y a f) at k c =
      n_bind _ _ (reachable_codes t c f) (λ g. n_bind _ _ (schedule_if_codes g c) (λ c₁.
      n_bind _ _ (unscheduled_codes _ (inside _ e) y 12 y c₁ tt) (λ r. n_bind _ _ (alternate_codes _ (inside _ e) a f r.context) (λ z.
      n_bind _ _ (unschedule_if_codes g c.next_id z.context) (λ d. tt)))))
  terminal_codes o e (branch x y a) at k c =
      n_bind _ _ (consequent_codes _ (inside _ e) o e at y k.id c) (λ r. n_bind _ _ (unscheduled_codes _ (inside _ e) a 19 at r.context tt) (λ z. tt))
  terminal_codes o e (switch x i n f) at k c =
      n_bind _ _ (reachable_codes t c f) (λ g. n_bind _ _ (schedule_switch_codes g c) (λ c₁.
      n_bind _ _ (cases_codes _ (inside _ e) at f (cases_last_first t i n) (schedule_ids g c.next_id) c₁) (λ r. n_bind _ _ (unschedule_all_codes r.ids r.context) (λ d. tt))))
  terminal_codes o e (do_while l x f) at k c =
      n_bind _ _ (schedule_codes (target_loop f x l) c) (λ c₁. n_unless _ 16 at c₁.visits _ tt (n_bind _ _ (walked _ e l c₁) (λ r.
      n_bind _ _ (values_codes x none k.span r.context.visits) (λ v. n_bind _ _ (unschedule_codes c.next_id (with_visits v.visits r.context)) (λ d. tt)))))
  terminal_codes o e (while x l f) at k c =
      n_bind _ _ (reachable_codes t c f) (λ g. n_bind _ _ (schedule_codes (target_loop f x l) c)
      (λ c₁. n_bind _ _ (values_codes x none k.span c₁.visits) (λ v. loop_codes _ (inside _ e) at l _ _ _ _ _ _)))
  terminal_codes o e (for i x u l f) at k c =
      n_bind _ _ (schedule_codes (target_loop f _ l) c) (λ c₁. n_bind _ _ (values_codes i none k.span c₁.visits) (λ n. n_bind _ _ (values_codes x none k.span n.visits) (λ v.
      n_bind _ _ (update_codes u k.span v.visits) (λ w. loop_codes _ (inside _ e) at l _ _ _ _ _ _))))
  terminal_codes o e (for_of i x l f) at k c =
      n_bind _ _ (schedule_codes (target_loop f i l) c) (λ c₁. n_bind _ _ (values_codes i none k.span c₁.visits) (λ n. n_bind _ _ (values_codes x none k.span n.visits) (λ v.
      loop_codes _ (inside _ e) at l _ _ _ _ _ _)))
  terminal_codes o e (for_in i l f) at k c =
      n_bind _ _ (schedule_codes (target_loop f i l) c) (λ c₁. n_bind _ _ (values_codes i none k.span c₁.visits) (λ n. loop_codes _ (inside _ e) at l _ _ _ _ _ _))
  terminal_codes o e (logical op x f) at k c = statement_codes (logical op x f) at k f c
  terminal_codes o e (ternary x f) at k c = statement_codes (ternary x f) at k f c
  terminal_codes o e (optional g x f) at k c = statement_codes (optional g x f) at k f c
  terminal_codes o e (label x f) at k c = n_bind _ _ (reachable_codes t c f) (λ g. n_bind _ _ (schedule_if_codes g c) (λ c₁. enclosed_codes _ (inside _ e) x 17 at g c c₁ _ tt))
  terminal_codes o e (sequence x f) at k c = statement_codes (sequence x f) at k f c
  terminal_codes o e (maybe_throw n) at k c = tt
  terminal_codes o e (try x y f n) at k c =
      n_bind _ _ (reachable_codes t c f) (λ g. n_bind _ _ (schedule_if_codes g c) (λ c₁. n_bind _ _ (walked _ e x (schedule_catch_handler y c₁)) (λ r. n_bind _ _ (walked _ e y r.context) (λ z.
      n_bind _ _ (unschedule_if_codes g c.next_id z.context) (λ d. tt)))))
  terminal_codes o e (scope p x f n) at k c =
      n_bind _ _ (schedule_if_codes (unless_scheduled c f) c) (λ c₁. enclosed_codes _ (inside _ e) x 18 at (unless_scheduled c f) c (mark_scope_fallthrough_if (unless_scheduled c f) c₁) _ tt)

  next_codes : (at : ℕ) (again : TraverseBlock) (s : Option Statement) (n : Option ℕ) (c : Context) → BlockNot29 again → Not29 (then_next t at again s n c)
  unfolding then_next BlockNot29
  next_codes at again s none c w = tt
  next_codes at again s (some n) c w = n_bind _ _ (w n c) (λ r. tt)

  enter_codes : (b : ℕ) (c : Context) → Not29 (enter_block t b c)
  unfolding enter_block
  enter_codes b c = n_bind _ _ (begin_codes t b c.visits) (λ v. n_unless _ 11 b v _ tt tt)

  block_codes : (o : Around) → o.rule ≡ rust → (n : ℕ) → BlockNot29 (visit_block t values inner o n)
  unfolding visit_block BlockNot29
  block_codes o e zero b c = tt
  block_codes o e (suc n) b c =
      n_bind _ _ (enter_codes b c) (λ c₁. n_bind _ _ (terminal_codes o e (terminal_at t b) b (block_at t b) c₁) (λ s.
      next_codes b (visit_block t values inner o n) s.statement s.next s.context (block_codes o e n)))

walk_codes : (t : Table) (d : ℕ) → WalkNot29 (traverse_block t d)
unfolding traverse_block WalkNot29 BlockNot29
walk_codes t zero o e b c = tt
walk_codes t (suc d) o e b c = block_codes t (visit_value_block t d) (value_codes t d) (traverse_block t d) (walk_codes t d) o e 8193 b c

pub rust_never_29 : (t : Table) (at visits : ℕ) → build_tree rust t ≡ refused 29 at visits → ⊥
unfolding build_tree WalkNot29 BlockNot29
rust_never_29 t at visits e = subst (λ (m : Result BlockResult). Not29 m) e (walk_codes t 128 (outermost rust) refl t.entry start)
