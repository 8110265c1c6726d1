-- The statement walk over a renamed table: the same statements with labels and targets renamed, or the same refusal with its block renamed.
use mathlib.Core.Path.{◌≡◌, refl, sym, ap, ◌∙◌, subst}
use Prim.Native.Nat.{ℕ, zero, suc}
use mathlib.Core.List.{List, [], ◌∷◌, map, reverse, reverse_aux}
use mathlib.Core.Option
use mathlib.Core.Option.{Option, none, some}
use mathlib.Core.Bool.{Bool, true, false, not}
use lib.ListN.{take, drop}
use lib.Dec.{eqb}
use Rattle.table.specs.declared.columns.Span.{Span}
use Rattle.table.specs.Table.{Table, Block, Case, Terminal, absent, unreachable, throw, return, goto, if, branch, switch, do_while, while, for, for_of, for_in}
use Rattle.table.specs.Table.{logical, ternary, optional, label, sequence, maybe_throw, try, scope, Variant, Break, Continue, Try, block_at, terminal_at}
use Rattle.table.specs.Table.{instruction_at, instruction_rows, instruction_rows_at, is_unreachable}
use Rattle.definition.specs.Tree.{Kind, implicit, labeled, unlabeled, Value, PLAIN, Statement, INSTR, FOR, FOROF, FORIN}
use Rattle.definition.specs.Tree.{BREAK, Statements, done, ◌▸◌, Cases}
use Rattle.definition.specs.Result.{Result, ok, ◌>>=◌}
use Rattle.definition.specs.Context.{target_if, target_switch, target_case, target_loop, Context, start, is_scheduled, with_visits}
use Rattle.definition.specs.Context.{schedule_catch_handler, Resolution, get_break_target, get_continue_target}
use Rattle.definition.specs.Around.{Rule, Around, outermost, within, a_loop, a_switch, another}
use Rattle.definition.specs.Value.{begin_visit, VisitValueBlock, visit_value_block_terminal, visit_value_block, value_block_result_to_sequence}
use Rattle.definition.specs.Statement.{BlockResult, TerminalResult, TraverseBlock, TraverseInside, enter_block, unless_scheduled, unless_unreachable, schedule_if}
use Rattle.definition.specs.Statement.{schedule_switch, unschedule_if, mark_scope_fallthrough_if, break_to_scope, break_resolved, visit_break, continue_resolved}
use Rattle.definition.specs.Statement.{visit_continue, visit_goto, traverse_unscheduled, AlternateResult, traverse_alternate, followed_by, traverse_consequent}
use Rattle.definition.specs.Statement.{traverse_enclosed, loop_is_taken, traverse_loop, continue_block_of, OptionalValue, visit_update, CasesResult, cases_last_first}
use Rattle.definition.specs.Statement.{traverse_cases, unschedule_all, schedule_ids, visit_value_statement, visit_terminal, instruction_statements, then_next}
use Rattle.definition.specs.Statement.{visit_block, traverse_block, build_tree}
use Rattle.renaming.proofs.Alike.{Moves, same_test, Alike, alike_bind, alike_by, alike_unless, alike_pick}
use Rattle.renaming.proofs.Contexts.{Alongside, renamed_resolution, along_start, along_scheduled, along_emit, along_visits, along_scope, along_handler}
use Rattle.renaming.proofs.Contexts.{along_schedule, along_unschedule, along_break, along_continue}
use Rattle.renaming.proofs.Arounds.{renamed_around, kind_same, break_unnamed_lem, continue_unnamed_lem}
use Rattle.renaming.proofs.Tables.{renamed_terminal, renamed_block, renamed_case, renamed_table, Reordered, absent_same, unreachable_same}
use Rattle.renaming.proofs.Values.{renamed_value, SameValue, SameEnd, ValuesAlike, sequence_same, begin_alike, end_alike, values_alike}
use Rattle.renaming.proofs.Trees.{renamed_statement, renamed_statements, renamed_cases}

-- ---- what the steps give

abbrev pub SameBlock : (new : ℕ → ℕ) → BlockResult → BlockResult → Type 0
SameBlock new r r' = (r'.statements ≡ renamed_statements new r.statements) × Alongside new r.context r'.context

abbrev SameStep : (new : ℕ → ℕ) → TerminalResult → TerminalResult → Type 0
SameStep new r r' = (r'.statement ≡ Option.map (renamed_statement new) r.statement) × (r'.next ≡ Option.map new r.next) × Alongside new r.context r'.context

abbrev SameAlternate : (new : ℕ → ℕ) → AlternateResult → AlternateResult → Type 0
SameAlternate new r r' = (r'.present ≡ r.present) × (r'.statements ≡ renamed_statements new r.statements) × Alongside new r.context r'.context

abbrev SameCases : (new : ℕ → ℕ) → CasesResult → CasesResult → Type 0
SameCases new r r' = (r'.cases ≡ renamed_cases new r.cases) × (r'.ids ≡ r.ids) × Alongside new r.context r'.context

unfoldable pub WalkAlike : (new : ℕ → ℕ) → (traverse traverse' : TraverseBlock) → Type 0
WalkAlike new traverse traverse' = (b : ℕ) (c c' : Context) → Alongside new c c' → Alike new (SameBlock new) (traverse b c) (traverse' (new b) c')

-- a step whose result is followed by another: the renamed result stands in the goal
module _ (new : ℕ → ℕ) {B : Type 0} (S : B → B → Type 0) where
  alike_block : (step step' : Result BlockResult) (next next' : BlockResult → Result B) → Alike new (SameBlock new) step step'
      → ((s : Statements) (c c' : Context) → Alongside new c c' → Alike new S (next (record { statements = s; context = c })) (next' (record { statements = renamed_statements new s; context = c' })))
      → Alike new S (step >>= next) (step' >>= next')
  alike_block step step' next next' h k = alike_bind new (SameBlock new) S step step' next next' h (λ r r' e.
      subst (λ (z : Statements). Alike new S (next r) (next' (record { statements = z; context = r'.context }))) (sym e.0) (k r.statements r.context r'.context e.1))

  alike_alternate : (step step' : Result AlternateResult) (next next' : AlternateResult → Result B) → Alike new (SameAlternate new) step step'
      → ((p : Bool) (s : Statements) (c c' : Context) → Alongside new c c'
      → Alike new S (next (record { present = p; statements = s; context = c })) (next' (record { present = p; statements = renamed_statements new s; context = c' })))
      → Alike new S (step >>= next) (step' >>= next')
  alike_alternate step step' next next' h k = alike_bind new (SameAlternate new) S step step' next next' h (λ r r' e.
      subst (λ (y : Bool). Alike new S (next r) (next' (record { present = y; statements = r'.statements; context = r'.context }))) (sym e.0)
      (subst (λ (z : Statements). Alike new S (next r) (next' (record { present = r.present; statements = z; context = r'.context }))) (sym e.1)
      (k r.present r.statements r.context r'.context e.2)))

  alike_cases : (step step' : Result CasesResult) (next next' : CasesResult → Result B) → Alike new (SameCases new) step step'
      → ((x : Cases) (ids : List ℕ) (c c' : Context) → Alongside new c c'
      → Alike new S (next (record { cases = x; ids = ids; context = c })) (next' (record { cases = renamed_cases new x; ids = ids; context = c' })))
      → Alike new S (step >>= next) (step' >>= next')
  alike_cases step step' next next' h k = alike_bind new (SameCases new) S step step' next next' h (λ r r' e.
      subst (λ (y : Cases). Alike new S (next r) (next' (record { cases = y; ids = r'.ids; context = r'.context }))) (sym e.0)
      (subst (λ (z : List ℕ). Alike new S (next r) (next' (record { cases = renamed_cases new r.cases; ids = z; context = r'.context }))) (sym e.1)
      (k r.cases r.ids r.context r'.context e.2)))

  alike_step : (step step' : Result TerminalResult) (next next' : TerminalResult → Result B) → Alike new (SameStep new) step step'
      → ((s : Option Statement) (n : Option ℕ) (c c' : Context) → Alongside new c c'
      → Alike new S (next (record { statement = s; next = n; context = c })) (next' (record { statement = Option.map (renamed_statement new) s; next = Option.map new n; context = c' })))
      → Alike new S (step >>= next) (step' >>= next')
  alike_step step step' next next' h k = alike_bind new (SameStep new) S step step' next next' h (λ r r' e.
      subst (λ (y : Option Statement). Alike new S (next r) (next' (record { statement = y; next = r'.next; context = r'.context }))) (sym e.0)
      (subst (λ (z : Option ℕ). Alike new S (next r) (next' (record { statement = Option.map (renamed_statement new) r.statement; next = z; context = r'.context }))) (sym e.1)
      (k r.statement r.next r.context r'.context e.2)))

-- ---- fallthroughs and jumps

module _ (new : ℕ → ℕ) (m : Moves new) where
  unless_same : (y y' : Bool) (f : ℕ) → y' ≡ y → elim y' [ true ↦ none | false ↦ some (new f) ] ≡ Option.map new (elim y [ true ↦ none | false ↦ some f ])
  unless_same true y' f e = rw e
  unless_same false y' f e = rw e

  module _ (c c' : Context) (h : Alongside new c c') where
    taken_same : (f : ℕ) → unless_scheduled c' (new f) ≡ Option.map new (unless_scheduled c f)
    unfolding unless_scheduled
    taken_same f = unless_same (is_scheduled c f) (is_scheduled c' (new f)) f (along_scheduled new m c c' h f)

    loop_same : (l f : ℕ) → loop_is_taken c' (new l) (new f) ≡ loop_is_taken c l f
    unfolding loop_is_taken
    loop_same l f = rw (along_scheduled new m c c' h l, same_test new m l f)

    if_alike : (g : Option ℕ) → Alike new (Alongside new) (schedule_if g c) (schedule_if (Option.map new g) c')
    unfolding schedule_if
    if_alike none = h
    if_alike (some f) = along_schedule new m c c' h (target_if f)

    switch_alike : (g : Option ℕ) → Alike new (Alongside new) (schedule_switch g c) (schedule_switch (Option.map new g) c')
    unfolding schedule_switch
    switch_alike none = h
    switch_alike (some f) = along_schedule new m c c' h (target_switch f)

    unschedule_alike : (g : Option ℕ) {i i' : ℕ} → i' ≡ i → Alike new (Alongside new) (unschedule_if g i c) (unschedule_if (Option.map new g) i' c')
    unfolding unschedule_if
    unschedule_alike none e = h
    unschedule_alike (some f) e = along_unschedule new m c c' h e

    mark_alike : (g : Option ℕ) → Alongside new (mark_scope_fallthrough_if g c) (mark_scope_fallthrough_if (Option.map new g) c')
    unfolding mark_scope_fallthrough_if
    mark_alike none = h
    mark_alike (some f) = along_scope new m c c' h f

    scope_alike : (k : Kind) (at : ℕ) → Alike new (λ a a'. a' ≡ Option.map (renamed_statement new) a) (break_to_scope k at c.visits) (break_to_scope k (new at) c'.visits)
    unfolding break_to_scope
    scope_alike implicit at = refl
    scope_alike labeled at = (refl, (λ _. refl), h.visits)
    scope_alike unlabeled at = (refl, (λ _. refl), h.visits)

    resolved_alike : (a : Around) (at b id : ℕ) (found : Option Resolution)
        → Alike new (λ a a'. a' ≡ Option.map (renamed_statement new) a) (break_resolved a at b id c found)
        (break_resolved (renamed_around new a) (new at) (new b) id c' (Option.map (renamed_resolution new) found))
    unfolding break_resolved
    resolved_alike a at b id none = (refl, (λ _. refl), h.visits)
    resolved_alike a at b id (some found) =
        alike_pick new (λ a a'. a' ≡ Option.map (renamed_statement new) a) _ _ _ _ _ _ (h.scope_fallthroughs.flag found.target) (scope_alike found.kind at)
        (alike_unless new (λ a a'. a' ≡ Option.map (renamed_statement new) a) _ _ 29 at _ _ _ _ _ (break_unnamed_lem new m a found) refl h.visits
        (ap (λ (k : Kind). some (BREAK (new found.target) id k found.loops)) (kind_same new m a found.kind)))

    break_alike : (a : Around) (at b id : ℕ) → Alike new (λ a a'. a' ≡ Option.map (renamed_statement new) a) (visit_break a at b id c) (visit_break (renamed_around new a) (new at) (new b) id c')
    unfolding visit_break
    break_alike a at b id = rw (along_break new m c c' h b) (resolved_alike a at b id (get_break_target c b))

    continued_alike : (a : Around) (at b id : ℕ) (found : Option Resolution)
        → Alike new (λ a a'. a' ≡ renamed_statement new a) (continue_resolved a at b id c found)
        (continue_resolved (renamed_around new a) (new at) (new b) id c' (Option.map (renamed_resolution new) found))
    unfolding continue_resolved
    continued_alike a at b id none = (refl, (λ _. refl), h.visits)
    continued_alike a at b id (some found) = alike_unless new (λ a a'. a' ≡ renamed_statement new a) _ _ 29 at _ _ _ _ _ (continue_unnamed_lem new m a found) refl h.visits refl

    continue_alike : (a : Around) (at b id : ℕ) → Alike new (λ a a'. a' ≡ renamed_statement new a) (visit_continue a at b id c) (visit_continue (renamed_around new a) (new at) (new b) id c')
    unfolding visit_continue
    continue_alike a at b id = rw (along_continue new m c c' h b) (continued_alike a at b id (get_continue_target c b))

    goto_alike : (a : Around) (v : Variant) (at b id : ℕ) → Alike new (SameStep new) (visit_goto a v at b id c) (visit_goto (renamed_around new a) v (new at) (new b) id c')
    unfolding visit_goto
    goto_alike a Break at b id = alike_by new (Option.map (renamed_statement new)) (SameStep new) _ _ _ _ (break_alike a at b id) (λ s. (refl, refl, h))
    goto_alike a Continue at b id = alike_by new (renamed_statement new) (SameStep new) _ _ _ _ (continue_alike a at b id) (λ s. (refl, refl, h))
    goto_alike a Try at b id = (refl, refl, h)

  followed_same : (s : Option Statement) (k : Statements) → followed_by (Option.map (renamed_statement new) s) (renamed_statements new k) ≡ renamed_statements new (followed_by s k)
  followed_same none k = refl
  followed_same (some s) k = refl

  continue_same : (u : Option ℕ) (x : ℕ) → continue_block_of (Option.map new u) (new x) ≡ new (continue_block_of u x)
  continue_same none x = refl
  continue_same (some u) x = refl

  ids_same : (g : Option ℕ) (i : ℕ) → schedule_ids (Option.map new g) i ≡ schedule_ids g i
  ids_same none i = refl
  ids_same (some f) i = refl

  all_alike : (ids : List ℕ) (c c' : Context) → Alongside new c c' → Alike new (Alongside new) (unschedule_all ids c) (unschedule_all ids c')
  unfolding unschedule_all
  all_alike [] c c' h = h
  all_alike (i ∷ ids) c c' h = alike_bind new (Alongside new) (Alongside new) _ _ _ _ (along_unschedule new m c c' h refl) (λ d d' q. all_alike ids d d' q)

-- ---- cases, last first

reverse_cases : (f : Case → Case) (l r : List Case) → reverse_aux (map f l) (map f r) ≡ map f (reverse_aux l r)
reverse_cases f [] r = refl
reverse_cases f (x ∷ l) r = reverse_cases f l (x ∷ r)

pub map_take : {A B : Type 0} (f : A → B) (n : ℕ) (l : List A) → take n (map f l) ≡ map f (take n l)
map_take f zero l = refl
map_take f (suc n) [] = refl
map_take {B = B} f (suc n) (x ∷ l) = ap (λ (z : List B). f x ∷ z) (map_take f n l)

pub map_drop : {A B : Type 0} (f : A → B) (n : ℕ) (l : List A) → drop n (map f l) ≡ map f (drop n l)
map_drop f zero l = refl
map_drop f (suc n) [] = refl
map_drop f (suc n) (x ∷ l) = map_drop f n l

cases_renamed : (new : ℕ → ℕ) (t : Table) (blocks : List Block) (first number : ℕ)
    → cases_last_first (renamed_table new blocks t) first number ≡ map (renamed_case new) (cases_last_first t first number)
unfolding cases_last_first
cases_renamed new t blocks first number =
    ap (λ (l : List Case). reverse (take number l)) (map_drop (renamed_case new) first t.cases)
    ∙ (ap (λ (l : List Case). reverse l) (map_take (renamed_case new) number (drop first t.cases))
    ∙ reverse_cases (renamed_case new) (take number (drop first t.cases)) [])

-- ---- nested blocks

module _ (new : ℕ → ℕ) (m : Moves new) (traverse traverse' : TraverseBlock) (wa : WalkAlike new traverse traverse') where
  module _ (c c' : Context) (h : Alongside new c c') where
    unscheduled_alike : (b code at : ℕ) → Alike new (SameBlock new) (traverse_unscheduled traverse b code at c) (traverse_unscheduled traverse' (new b) code (new at) c')
    unfolding traverse_unscheduled WalkAlike
    unscheduled_alike b code at = alike_unless new (SameBlock new) _ _ code at _ _ _ _ _ (along_scheduled new m c c' h b) refl h.visits (wa b c c' h)

    alternate_alike : (a f : ℕ) → Alike new (SameAlternate new) (traverse_alternate traverse a f c) (traverse_alternate traverse' (new a) (new f) c')
    unfolding traverse_alternate
    alternate_alike a f =
        alike_pick new (SameAlternate new) (eqb a f) _ (ok (record { present = false; statements = done; context = c })) _
        (ok (record { present = false; statements = done; context = c' })) _ (same_test new m a f)
        (refl, refl, h) (alike_block new (SameAlternate new) _ _ _ _ (unscheduled_alike a 13 a) (λ s d d' q. (refl, refl, q)))

    consequent_alike : (a : Around) (at y id : ℕ) → Alike new (SameBlock new) (traverse_consequent a traverse at y id c) (traverse_consequent (renamed_around new a) traverse' (new at) (new y) id c')
    unfolding traverse_consequent WalkAlike
    consequent_alike a at y id =
        alike_pick new (SameBlock new) _ _ _ _ _ _ (along_scheduled new m c c' h y)
        (alike_by new (Option.map (renamed_statement new)) (SameBlock new) _ _ _ _ (break_alike new m c c' h a at y id) (λ s. (followed_same new m s done, h))) (wa y c c' h)

  enclosed_alike : (b code at : ℕ) (g : Option ℕ) (c c' d d' : Context) (make make' : Statements → Statement) → Alongside new c c' → Alongside new d d'
      → ((s : Statements) → make' (renamed_statements new s) ≡ renamed_statement new (make s))
      → Alike new (SameStep new) (traverse_enclosed traverse b code at g c d make) (traverse_enclosed traverse' (new b) code (new at) (Option.map new g) c' d' make')
  unfolding traverse_enclosed
  enclosed_alike b code at g c c' d d' make make' h q mk =
      alike_block new (SameStep new) _ _ _ _ (unscheduled_alike d d' q b code at) (λ s e e' p.
      alike_bind new (Alongside new) (SameStep new) _ _ _ _ (unschedule_alike new m e e' p g h.next_id) (λ k k' l. (ap some (mk s), refl, l)))

  body_alike : (at l : ℕ) (y y' : Bool) (v v' i i' : ℕ) (c c' : Context) (g : Option ℕ) (make make' : Statements → Statement) → Alongside new c c' → y' ≡ y → v' ≡ v → i' ≡ i
      → ((s : Statements) → make' (renamed_statements new s) ≡ renamed_statement new (make s))
      → Alike new (SameStep new) (traverse_loop traverse at l y v i c g make) (traverse_loop traverse' (new at) (new l) y' v' i' c' (Option.map new g) make')
  unfolding traverse_loop WalkAlike
  body_alike at l y y' v v' i i' c c' g make make' h ey ev ei mk =
      alike_unless new (SameStep new) y y' 16 at _ v v' _ _ ey refl ev
      (alike_block new (SameStep new) _ _ _ _ (wa l (with_visits v c) (with_visits v' c') (along_visits new m c c' h ev)) (λ s d d' q.
      alike_bind new (Alongside new) (SameStep new) _ _ _ _ (along_unschedule new m d d' q ei) (λ k k' p. (ap some (mk s), refl, p))))

  cases_alike : (at f : ℕ) (ks : List Case) (ids : List ℕ) (c c' : Context) → Alongside new c c'
      → Alike new (SameCases new) (traverse_cases traverse at f ks ids c) (traverse_cases traverse' (new at) (new f) (map (renamed_case new) ks) ids c')
  unfolding traverse_cases WalkAlike
  cases_alike at f [] ids c c' h = (refl, refl, h)
  cases_alike at f (k ∷ ks) ids c c' h =
      alike_pick new (SameCases new) _ _ _ _ _ _ (along_scheduled new m c c' h k.block)
      (alike_unless new (SameCases new) _ _ 14 at _ _ _ _ _ (ap not (same_test new m k.block f)) refl h.visits (cases_alike at f ks ids c c' h))
      (alike_block new (SameCases new) _ _ _ _ (wa k.block c c' h) (λ s d d' q.
      alike_bind new (Alongside new) (SameCases new) _ _ _ _ (along_schedule new m d d' q (target_case k.block)) (λ e e' p.
      rw q.next_id (alike_cases new (SameCases new) _ _ _ _ (cases_alike at f ks (d.next_id ∷ ids) e e' p) (λ x is g g' l. (refl, refl, l))))))

-- ---- terminals

module _ (new : ℕ → ℕ) (m : Moves new) (t : Table) (blocks : List Block) (moved : Reordered new t.blocks blocks) where
  abbrev there : Table
  there = renamed_table new blocks t

  reachable_alike : (c c' : Context) → Alongside new c c' → (f : ℕ) → Alike new (λ a a'. a' ≡ Option.map new a) (unless_unreachable t c f) (unless_unreachable there c' (new f))
  unfolding unless_unreachable
  reachable_alike c c' h f =
      alike_unless new (λ a a'. a' ≡ Option.map new a) _ _ 10 f _ _ _ _ _ (absent_same new t blocks moved f) refl h.visits
      (by (is_unreachable (terminal_at t f)) (is_unreachable (terminal_at there (new f))) (unreachable_same new t blocks moved f))
    where
      by : (y y' : Bool) → y' ≡ y → elim y' [ true ↦ none | false ↦ unless_scheduled c' (new f) ] ≡ Option.map new (elim y [ true ↦ none | false ↦ unless_scheduled c f ])
      by true y' e = rw e
      by false y' e = rw e (taken_same new m c c' h f)

  enter_alike : (b : ℕ) (c c' : Context) → Alongside new c c' → Alike new (Alongside new) (enter_block t b c) (enter_block there (new b) c')
  unfolding enter_block
  enter_alike b c c' h =
      alike_by new (λ v. v) (Alongside new) _ _ _ _ (begins b h.visits) (λ v.
      alike_unless new (Alongside new) _ _ 11 b _ v v _ _ (h.emitted.flag b) refl refl (along_emit new m (with_visits v c) (with_visits v c') (along_visits new m c c' h refl) b))
    where
      begins : (b : ℕ) {v v' : ℕ} → v' ≡ v → Alike new (λ a a'. a' ≡ a) (begin_visit t b v) (begin_visit there (new b) v')
      begins b {v} e = rw e (begin_alike new m t blocks moved b v)

  module _ (visit visit' : VisitValueBlock) (va : ValuesAlike new visit visit') (traverse traverse' : TraverseInside)
      (wi : (a : Around) → WalkAlike new (traverse a) (traverse' (renamed_around new a))) where
    visit_alike : (b : ℕ) (f : Option ℕ) (span : Span) {v v' : ℕ} → v' ≡ v → Alike new (SameValue new) (visit b f span v) (visit' (new b) (Option.map new f) span v')
    unfolding ValuesAlike
    visit_alike b f span {v} e = rw e (va b f span v)

    update_alike : (u : Option ℕ) (span : Span) (v : ℕ) → Alike new (λ a a'. a' ≡ a) (visit_update visit u span v) (visit_update visit' (Option.map new u) span v)
    unfolding visit_update
    update_alike none span v = refl
    update_alike (some u) span v = alike_by new (renamed_value new) (λ a a'. a' ≡ a) _ _ _ _ (visit_alike u none span refl) (λ r. refl)

    value_alike : (x : Terminal) (at : ℕ) (k : Block) (f : ℕ) (c c' : Context) → Alongside new c c'
        → Alike new (SameStep new) (visit_value_statement t visit x at k f c) (visit_value_statement there visit' (renamed_terminal new x) (new at) (renamed_block new k) (new f) c')
    unfolding visit_value_statement
    value_alike x at k f c c' h =
        rw (taken_same new m c c' h f)
        (alike_bind new (Alongside new) (SameStep new) _ _ _ _ (if_alike new m c c' h (unless_scheduled c f)) (λ d d' q.
        alike_bind new (SameEnd new) (SameStep new) _ _ _ _ (ends q.visits) (λ r r' e.
        rw e (alike_bind new (Alongside new) (SameStep new) _ _ _ _
        (unschedule_alike new m (with_visits r.visits d) (with_visits r.visits d') (along_visits new m d d' q refl) (unless_scheduled c f) h.next_id) (λ g g' l. (refl, refl, l))))))
      where
        ends : {v v' : ℕ} → v' ≡ v → Alike new (SameEnd new) (visit_value_block_terminal t visit x k.id k.span v at)
            (visit_value_block_terminal there visit' (renamed_terminal new x) k.id k.span v' (new at))
        ends {v} e = rw e (end_alike new m t blocks moved visit visit' va x k.id k.span v at)

    terminal_alike : (a : Around) (x : Terminal) (at : ℕ) (k : Block) (c c' : Context) → Alongside new c c'
        → Alike new (SameStep new) (visit_terminal t visit traverse a x at k c)
        (visit_terminal there visit' traverse' (renamed_around new a) (renamed_terminal new x) (new at) (renamed_block new k) c')
    unfolding visit_terminal WalkAlike
    terminal_alike ar absent at k c c' h = (refl, (λ _. refl), h.visits)
    terminal_alike ar unreachable at k c c' h = (refl, refl, h)
    terminal_alike ar (throw v) at k c c' h = (refl, refl, h)
    terminal_alike ar (return v) at k c c' h = (refl, refl, h)
    terminal_alike ar (goto b v) at k c c' h = goto_alike new m c c' h ar v at b k.id
    terminal_alike ar (if x y a f) at k c c' h =
        alike_by new (Option.map new) (SameStep new) _ _ _ _ (reachable_alike c c' h f) (λ g.
        alike_bind new (Alongside new) (SameStep new) _ _ _ _ (if_alike new m c c' h g) (λ c₁ c₁' h₁.
        alike_block new (SameStep new) _ _ _ _ (unscheduled_alike new m _ _ (wi (within (another g) ar)) c₁ c₁' h₁ y 12 y) (λ s c₂ c₂' h₂.
        alike_alternate new (SameStep new) _ _ _ _ (alternate_alike new m _ _ (wi (within (another g) ar)) c₂ c₂' h₂ a f) (λ p z c₃ c₃' h₃.
        alike_bind new (Alongside new) (SameStep new) _ _ _ _ (unschedule_alike new m c₃ c₃' h₃ g h.next_id) (λ c₄ c₄' h₄. (refl, refl, h₄))))))
    terminal_alike ar (branch x y a) at k c c' h =
        alike_block new (SameStep new) _ _ _ _ (consequent_alike new m _ _ (wi (within (another none) ar)) c c' h ar at y k.id) (λ s c₁ c₁' h₁.
        alike_block new (SameStep new) _ _ _ _ (unscheduled_alike new m _ _ (wi (within (another none) ar)) c₁ c₁' h₁ a 19 at) (λ z c₂ c₂' h₂. (refl, refl, h₂)))
    terminal_alike ar (switch x i n f) at k c c' h =
        alike_by new (Option.map new) (SameStep new) _ _ _ _ (reachable_alike c c' h f) (λ g.
        alike_bind new (Alongside new) (SameStep new) _ _ _ _ (switch_alike new m c c' h g) (λ c₁ c₁' h₁.
        rw (cases_renamed new t blocks i n, ids_same new m g c'.next_id, h.next_id)
        (alike_cases new (SameStep new) _ _ _ _ (cases_alike new m _ _ (wi (within (a_switch g) ar)) at f (cases_last_first t i n) (schedule_ids g c.next_id) c₁ c₁' h₁) (λ z ids c₂ c₂' h₂.
        alike_bind new (Alongside new) (SameStep new) _ _ _ _ (all_alike new m ids c₂ c₂' h₂) (λ c₃ c₃' h₃. (refl, refl, h₃))))))
    terminal_alike ar (do_while l x f) at k c c' h =
        rw (taken_same new m c c' h f)
        (alike_bind new (Alongside new) (SameStep new) _ _ _ _ (along_schedule new m c c' h (target_loop f x l)) (λ c₁ c₁' h₁.
        alike_unless new (SameStep new) _ _ 16 at _ _ _ _ _ (loop_same new m c c' h l f) refl h₁.visits
        (alike_block new (SameStep new) _ _ _ _ (wi (within (a_loop (unless_scheduled c f)) ar) l c₁ c₁' h₁) (λ s c₂ c₂' h₂.
        alike_by new (renamed_value new) (SameStep new) _ _ _ _ (visit_alike x none k.span h₂.visits) (λ r.
        alike_bind new (Alongside new) (SameStep new) _ _ _ _
        (along_unschedule new m (with_visits r.visits c₂) (with_visits r.visits c₂') (along_visits new m c₂ c₂' h₂ refl) h.next_id) (λ c₃ c₃' h₃. (refl, refl, h₃)))))))
    terminal_alike ar (while x l f) at k c c' h =
        alike_by new (Option.map new) (SameStep new) _ _ _ _ (reachable_alike c c' h f) (λ g.
        alike_bind new (Alongside new) (SameStep new) _ _ _ _ (along_schedule new m c c' h (target_loop f x l)) (λ c₁ c₁' h₁.
        alike_by new (renamed_value new) (SameStep new) _ _ _ _ (visit_alike x none k.span h₁.visits) (λ r.
        body_alike new m _ _ (wi (within (a_loop g) ar)) at l _ _ _ _ _ _ c₁ c₁' g _ _ h₁ (loop_same new m c c' h l f) refl h.next_id (λ s. refl))))
    terminal_alike ar (for i x u l f) at k c c' h =
        rw (taken_same new m c c' h f, continue_same new m u x)
        (alike_bind new (Alongside new) (SameStep new) _ _ _ _ (along_schedule new m c c' h (target_loop f (continue_block_of u x) l)) (λ c₁ c₁' h₁.
        alike_by new (renamed_value new) (SameStep new) _ _ _ _ (visit_alike i none k.span h₁.visits) (λ r.
        alike_by new (renamed_value new) (SameStep new) _ _ _ _ (visit_alike x none k.span refl) (λ q.
        alike_by new (λ (o : OptionalValue). o) (SameStep new) _ _ _ _ (update_alike u k.span q.visits) (λ o.
        body_alike new m _ _ (wi (within (a_loop (unless_scheduled c f)) ar)) at l _ _ _ _ _ _ c₁ c₁' (unless_scheduled c f) _ _ h₁ (loop_same new m c c' h l f) refl h.next_id
        (λ s. ap (λ (v : Value). FOR k.id (Option.map new (unless_scheduled c f)) v q.value o.value (renamed_statements new s)) (sequence_same new t blocks r k.span)))))))
    terminal_alike ar (for_of i x l f) at k c c' h =
        rw (taken_same new m c c' h f)
        (alike_bind new (Alongside new) (SameStep new) _ _ _ _ (along_schedule new m c c' h (target_loop f i l)) (λ c₁ c₁' h₁.
        alike_by new (renamed_value new) (SameStep new) _ _ _ _ (visit_alike i none k.span h₁.visits) (λ r.
        alike_by new (renamed_value new) (SameStep new) _ _ _ _ (visit_alike x none k.span refl) (λ q.
        body_alike new m _ _ (wi (within (a_loop (unless_scheduled c f)) ar)) at l _ _ _ _ _ _ c₁ c₁' (unless_scheduled c f) _ _ h₁ (loop_same new m c c' h l f) refl h.next_id
        (λ s. ap (λ (v : Value). FOROF k.id (Option.map new (unless_scheduled c f)) k.span v
        (value_block_result_to_sequence there (renamed_value new q) k.span) (renamed_statements new s)) (sequence_same new t blocks r k.span)
        ∙ ap (λ (v : Value). FOROF k.id (Option.map new (unless_scheduled c f)) k.span (value_block_result_to_sequence t r k.span) v
        (renamed_statements new s)) (sequence_same new t blocks q k.span))))))
    terminal_alike ar (for_in i l f) at k c c' h =
        rw (taken_same new m c c' h f)
        (alike_bind new (Alongside new) (SameStep new) _ _ _ _ (along_schedule new m c c' h (target_loop f i l)) (λ c₁ c₁' h₁.
        alike_by new (renamed_value new) (SameStep new) _ _ _ _ (visit_alike i none k.span h₁.visits) (λ r.
        body_alike new m _ _ (wi (within (a_loop (unless_scheduled c f)) ar)) at l _ _ _ _ _ _ c₁ c₁' (unless_scheduled c f) _ _ h₁ (loop_same new m c c' h l f) refl h.next_id
        (λ s. ap (λ (v : Value). FORIN k.id (Option.map new (unless_scheduled c f)) k.span v (renamed_statements new s)) (sequence_same new t blocks r k.span)))))
    terminal_alike ar (logical o x f) at k c c' h = value_alike (logical o x f) at k f c c' h
    terminal_alike ar (ternary x f) at k c c' h = value_alike (ternary x f) at k f c c' h
    terminal_alike ar (optional g x f) at k c c' h = value_alike (optional g x f) at k f c c' h
    terminal_alike ar (label x f) at k c c' h =
        alike_by new (Option.map new) (SameStep new) _ _ _ _ (reachable_alike c c' h f) (λ g.
        alike_bind new (Alongside new) (SameStep new) _ _ _ _ (if_alike new m c c' h g) (λ c₁ c₁' h₁.
        enclosed_alike new m _ _ (wi (within (another g) ar)) x 17 at g c c' c₁ c₁' _ _ h h₁ (λ s. refl)))
    terminal_alike ar (sequence x f) at k c c' h = value_alike (sequence x f) at k f c c' h
    terminal_alike ar (maybe_throw x) at k c c' h = (refl, taken_same new m c c' h x, h)
    terminal_alike ar (try x y f n) at k c c' h =
        alike_by new (Option.map new) (SameStep new) _ _ _ _ (reachable_alike c c' h f) (λ g.
        alike_bind new (Alongside new) (SameStep new) _ _ _ _ (if_alike new m c c' h g) (λ c₁ c₁' h₁.
        alike_block new (SameStep new) _ _ _ _ (wi (within (another g) ar) x (schedule_catch_handler y c₁) (schedule_catch_handler (new y) c₁') (along_handler new m c₁ c₁' h₁ y)) (λ s c₂ c₂' h₂.
        alike_block new (SameStep new) _ _ _ _ (wi (within (another g) ar) y c₂ c₂' h₂) (λ z c₃ c₃' h₃.
        alike_bind new (Alongside new) (SameStep new) _ _ _ _ (unschedule_alike new m c₃ c₃' h₃ g h.next_id) (λ c₄ c₄' h₄. (refl, refl, h₄))))))
    terminal_alike ar (scope p x f n) at k c c' h =
        rw (taken_same new m c c' h f)
        (alike_bind new (Alongside new) (SameStep new) _ _ _ _ (if_alike new m c c' h (unless_scheduled c f)) (λ c₁ c₁' h₁.
        enclosed_alike new m _ _ (wi (within (another none) ar)) x 18 at (unless_scheduled c f) c c' _ _ _ _ h (mark_alike new m c₁ c₁' h₁ (unless_scheduled c f)) (λ s. refl)))

  -- ---- blocks

  statements_same : (rs : List ℕ) (k : Statements) → instruction_statements there rs (renamed_statements new k) ≡ renamed_statements new (instruction_statements t rs k)
  unfolding instruction_statements
  statements_same [] k = refl
  statements_same (r ∷ rs) k = ap (λ (z : Statements). INSTR (instruction_at t r).id (instruction_at t r).lvalue (instruction_at t r).span (PLAIN r) ▸ z) (statements_same rs k)

  block_same : (at : ℕ) (s : Option Statement) (k : Statements)
      → instruction_statements there (instruction_rows_at there (new at)) (followed_by (Option.map (renamed_statement new) s) (renamed_statements new k)) ≡
      renamed_statements new (instruction_statements t (instruction_rows_at t at) (followed_by s k))
  block_same at s k =
      ap (λ (b : Block). instruction_statements there (instruction_rows b) (followed_by (Option.map (renamed_statement new) s) (renamed_statements new k))) (moved at)
      ∙ (ap (instruction_statements there (instruction_rows_at t at)) (followed_same new m s k) ∙ statements_same (instruction_rows_at t at) (followed_by s k))

  next_alike : (at : ℕ) (again again' : TraverseBlock) → WalkAlike new again again' → (s : Option Statement) (n : Option ℕ) (c c' : Context) → Alongside new c c'
      → Alike new (SameBlock new) (then_next t at again s n c) (then_next there (new at) again' (Option.map (renamed_statement new) s) (Option.map new n) c')
  unfolding then_next WalkAlike
  next_alike at again again' wa s none c c' h = (block_same at s done, h)
  next_alike at again again' wa s (some n) c c' h = alike_block new (SameBlock new) _ _ _ _ (wa n c c' h) (λ z d d' q. (block_same at s z, q))

  visit_block_alike : (visit visit' : VisitValueBlock) → ValuesAlike new visit visit' → (traverse traverse' : TraverseInside)
      → ((a : Around) → WalkAlike new (traverse a) (traverse' (renamed_around new a)))
      → (a : Around) (n : ℕ) → WalkAlike new (visit_block t visit traverse a n) (visit_block there visit' traverse' (renamed_around new a) n)
  unfolding visit_block WalkAlike
  visit_block_alike visit visit' va traverse traverse' wa a zero b c c' h = (refl, (λ _. refl), h.visits)
  visit_block_alike visit visit' va traverse traverse' wa a (suc n) b c c' h =
      alike_bind new (Alongside new) (SameBlock new) _ _ _ _ (enter_alike b c c' h) (λ d d' q.
      alike_step new (SameBlock new) _ _ _ _
      (subst (λ (k : Block). Alike new (SameStep new) (visit_terminal t visit traverse a (terminal_at t b) b (block_at t b) d)
      (visit_terminal there visit' traverse' (renamed_around new a) k.terminal (new b) k d')) (sym (moved b))
      (terminal_alike visit visit' va traverse traverse' wa a (terminal_at t b) b (block_at t b) d d' q))
      (λ s i e e' p. next_alike b (visit_block t visit traverse a n) (visit_block there visit' traverse' (renamed_around new a) n)
      (visit_block_alike visit visit' va traverse traverse' wa a n) s i e e' p))

  walk_alike : (d : ℕ) (a : Around) → WalkAlike new (traverse_block t d a) (traverse_block there d (renamed_around new a))
  unfolding traverse_block WalkAlike
  walk_alike zero a b c c' h = (refl, (λ _. refl), h.visits)
  walk_alike (suc d) a b c c' h =
      visit_block_alike (visit_value_block t d) (visit_value_block there d) (values_alike new m t blocks moved d) (traverse_block t d) (traverse_block there d) (walk_alike d) a 8193 b c c' h

  pub tree_alike : (rule : Rule) → Alike new (SameBlock new) (build_tree rule t) (build_tree rule there)
  unfolding build_tree WalkAlike
  tree_alike rule = walk_alike 128 (outermost rule) t.entry start start (along_start new m)
