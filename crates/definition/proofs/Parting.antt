-- M-102: the language entry "differs only as follows": where the first entry refuses, it refuses alike or with 29; where the first accepts, it accepts
-- that tree relabeled (specs/Relabeled), or gives 29. Its 29 comes with no more visits: what the first entry does after it
-- lowers no count.
use mathlib.Core.Path.{◌≡◌, refl, ap, ◌∙◌, subst}
use Prim.Native.Nat.{ℕ, zero, suc, ◌≤◌, ◌<◌}
use native.Mathlib.Omega.{arith}
use mathlib.Core.List.{List, [], ◌∷◌}
use mathlib.Core.Logic.{inl, inr}
use mathlib.Core.Option.{Option, none, some}
use mathlib.Core.Bool.{Bool, true, false}
use lib.Dec.{eqb}
use Rattle.table.specs.Table.{Table, Block, Case, Terminal, absent, unreachable, throw, return, goto, if, branch, switch, do_while, while, for, for_of, for_in}
use Rattle.table.specs.Table.{logical, ternary, optional, sequence, maybe_throw, try, scope, Variant, Break, Continue, Try, label, block_at, terminal_at, instruction_at, instruction_rows_at}
use Rattle.definition.specs.Result.{Result, ok, refused, ◌>>=◌, refuse_if}
use Rattle.table.specs.declared.columns.Span.{Span}
use Rattle.definition.specs.Tree.{Kind, implicit, labeled, unlabeled, Value, RETURN, THROW, Statement, INSTR, IF, SWITCH, BREAK, CONTINUE, PLAIN}
use Rattle.definition.specs.Tree.{Statements, done, ◌▸◌, Cases, no_cases, CASE}
use Rattle.definition.specs.Context.{has, Context, start, is_scheduled, with_visits, schedule_catch_handler, target_case, schedule, unschedule}
use Rattle.definition.specs.Context.{Resolution}
use Rattle.definition.specs.Around.{rust, language, Enclosing, a_loop, a_switch, another, Around, kind_by, break_kind_in, unnamed, break_unnamed, continue_unnamed, is_switch_inside}
use Rattle.definition.specs.Value.{most_visits, VisitValueBlock, visit_value_block}
use Rattle.definition.specs.Statement.{BlockResult, TerminalResult, TraverseBlock, TraverseInside, AlternateResult, CasesResult, unless_scheduled}
use Rattle.definition.specs.Statement.{unschedule_if, break_to_scope, break_resolved}
use Rattle.definition.specs.Statement.{visit_break, continue_resolved, visit_continue, visit_goto, traverse_unscheduled, traverse_alternate, traverse_consequent, followed_by}
use Rattle.definition.specs.Statement.{traverse_enclosed, traverse_loop, cases_last_first, traverse_cases, unschedule_all, schedule_ids}
use Rattle.definition.specs.Statement.{visit_value_statement, visit_terminal, instruction_statements, then_next, visit_block, traverse_block, build_tree}
use Rattle.definition.specs.Relabeled.{relabeled_statement, relabeled, relabeled_cases, Apart, AlikeBlocks, alike_blocks, visits_after}
use Rattle.definition.proofs.Steps.{Counted, counted_bind}
use Rattle.definition.proofs.Visits.{VisitCounted, nested, value_counted, schedule_counted, unschedule_counted, unschedule_if_counted, unschedule_all_counted}
use Rattle.definition.proofs.Visits.{WalkCounted, unscheduled_counted, alternate_counted, cases_counted, next_counted, blocks_counted, statements_counted}

-- ---- steps

-- the count of visits is at least so much, after a result and after a refusal
abbrev From : ℕ → ℕ → Type 0
From least visits = least ≤ visits

abbrev Rises : {A : Type 0} → (least : ℕ) → (seen : A → ℕ) → Result A → Type 0
Rises least seen m = Counted (From least) seen m

-- a visit adds one
more : (least visits : ℕ) → visits < most_visits → From least visits → From least (suc visits)
more least visits few h = omega (arith, h)

rises_less : {A : Type 0} (least less : ℕ) (seen : A → ℕ) (m : Result A) → less ≤ least → Rises least seen m → Rises less seen m
rises_less least less seen (ok a) p h = omega (arith, p, h)
rises_less least less seen (refused code at visits) p h = omega (arith, p, h)

-- once the language entry has given 29
late : {A : Type 0} (Alike : A → A → Type 0) (seen : A → ℕ) (m : Result A) (code at visits : ℕ) → code ≡ 29 → Rises visits seen m → Apart Alike seen m (refused code at visits)
late Alike seen (ok a) code at visits e h = (e, h)
late Alike seen (refused c p v) code at visits e h = inr (e, h)

-- where the first entry goes on after the other has given 29, its count does not fall
apart_bind : {A B : Type 0} (R : A → A → Type 0) (S : B → B → Type 0) (of : A → ℕ) (seen : B → ℕ) (m n : Result A) (f g : A → Result B) → Apart R of m n
    → ((a : A) → Rises (of a) seen (f a)) → ((a b : A) → R a b → Apart S seen (f a) (g b)) → Apart S seen (m >>= f) (n >>= g)
unfolding ◌>>=◌
apart_bind R S of seen (ok a) (ok b) f g h rises k = k a b h
apart_bind R S of seen (ok a) (refused c p v) f g h rises k = late S seen (f a) c p v h.0 (rises_less (of a) v seen (f a) h.1 (rises a))
apart_bind R S of seen (refused c p v) (ok b) f g h rises k = absurd h
apart_bind R S of seen (refused c p v) (refused c' p' v') f g h rises k = h

-- a step that both take
share : {A B : Type 0} (S : B → B → Type 0) (seen : B → ℕ) (m : Result A) (f g : A → Result B) → ((a : A) → Apart S seen (f a) (g a)) → Apart S seen (m >>= f) (m >>= g)
unfolding ◌>>=◌
share S seen (ok a) f g k = k a
share S seen (refused c p v) f g k = inl (refl, refl, refl)

apart_pick : {A : Type 0} (S : A → A → Type 0) (seen : A → ℕ) (y : Bool) (m m' n n' : Result A) → Apart S seen m n → Apart S seen m' n'
    → Apart S seen (elim y [ true ↦ m | false ↦ m' ]) (elim y [ true ↦ n | false ↦ n' ])
apart_pick S seen true m m' n n' h h' = h
apart_pick S seen false m m' n n' h h' = h'

-- a test that the language entry alone may refuse, with 29
maybe_29 : {A : Type 0} (S : A → A → Type 0) (seen : A → ℕ) (y : Bool) (at visits : ℕ) (m n : Result A) → Rises visits seen m → Apart S seen m n
    → Apart S seen m (refuse_if y 29 at visits >>= λ _. n)
unfolding refuse_if ◌>>=◌
maybe_29 S seen true at visits m n rises h = late S seen m 29 at visits refl rises
maybe_29 S seen false at visits m n rises h = h

-- ---- results

abbrev of_end : TerminalResult → ℕ
of_end result = result.context.visits

abbrev of_alternate : AlternateResult → ℕ
of_alternate result = result.context.visits

abbrev of_cases : CasesResult → ℕ
of_cases result = result.context.visits

abbrev of_context : Context → ℕ
of_context cx = cx.visits

-- a step whose result has no count of its own keeps the one that it was given
abbrev kept : {A : Type 0} → ℕ → A → ℕ
kept visits a = visits

-- what the first entry made within E, and the same relabeled
data AlikeOption (E : List Enclosing) : Option Statement → Option Statement → Type 0 where
  no_statement : AlikeOption E none none
  a_statement : (s : Statement) → AlikeOption E (some s) (some (relabeled_statement E s))

data AlikeEnds (E : List Enclosing) : TerminalResult → TerminalResult → Type 0 where
  alike_ends : (s s' : Option Statement) (next : Option ℕ) (c : Context) → AlikeOption E s s'
      → AlikeEnds E (record { statement = s; next = next; context = c }) (record { statement = s'; next = next; context = c })

data AlikeAlternates (E : List Enclosing) : AlternateResult → AlternateResult → Type 0 where
  alike_alternates : (present : Bool) (s : Statements) (c : Context)
      → AlikeAlternates E (record { present = present; statements = s; context = c }) (record { present = present; statements = relabeled E s; context = c })

data AlikeCases (E : List Enclosing) : CasesResult → CasesResult → Type 0 where
  alike_cases : (s : Cases) (ids : List ℕ) (c : Context)
      → AlikeCases E (record { cases = s; ids = ids; context = c }) (record { cases = relabeled_cases E s; ids = ids; context = c })

-- a statement whose parts are relabeled
ends_made : (E : List Enclosing) (s s' : Statement) (next : Option ℕ) (c : Context) → relabeled_statement E s ≡ s'
    → AlikeEnds E (record { statement = some s; next = next; context = c }) (record { statement = some s'; next = next; context = c })
ends_made E s s' next c e = alike_ends (some s) (some s') next c (subst (λ (z : Statement). AlikeOption E (some s) (some z)) e (a_statement s))

block_bind : {B : Type 0} (D : List Enclosing) (S : B → B → Type 0) (seen : B → ℕ) (m n : Result BlockResult) (f g : BlockResult → Result B) → Apart (AlikeBlocks D) visits_after m n
    → ((a : BlockResult) → Rises (visits_after a) seen (f a))
    → ((s : Statements) (c : Context) → Apart S seen (f (record { statements = s; context = c })) (g (record { statements = relabeled D s; context = c })))
    → Apart S seen (m >>= f) (n >>= g)
block_bind D S seen m n f g h rises k = apart_bind (AlikeBlocks D) S visits_after seen m n f g h rises (λ a b p. on a b p)
  where
    on : (a b : BlockResult) → AlikeBlocks D a b → Apart S seen (f a) (g b)
    on a b (alike_blocks s c) = k s c

-- ---- the ends of statements, after which the count is what it was

module _ (least : ℕ) where
  closes_if : (taken : Option ℕ) (id : ℕ) (cx : Context) (end : Context → TerminalResult) → ((after : Context) → of_end (end after) ≡ after.visits) → least ≤ cx.visits
      → Rises least of_end (unschedule_if taken id cx >>= λ after. ok (end after))
  closes_if taken id cx end e h =
      counted_bind (From least) of_context of_end _ _ (unschedule_if_counted (From least) (more least) taken id cx h) (λ after k. omega (arith, k, e after))

  closes : (id : ℕ) (cx : Context) (end : Context → TerminalResult) → ((after : Context) → of_end (end after) ≡ after.visits) → least ≤ cx.visits
      → Rises least of_end (unschedule id cx >>= λ after. ok (end after))
  closes id cx end e h = counted_bind (From least) of_context of_end _ _ (unschedule_counted (From least) (more least) id cx h) (λ after k. omega (arith, k, e after))

  closes_all : (ids : List ℕ) (cx : Context) (end : Context → TerminalResult) → ((after : Context) → of_end (end after) ≡ after.visits) → least ≤ cx.visits
      → Rises least of_end (unschedule_all ids cx >>= λ after. ok (end after))
  closes_all ids cx end e h = counted_bind (From least) of_context of_end _ _ (unschedule_all_counted (From least) (more least) ids cx h) (λ after k. omega (arith, k, e after))

-- ---- jumps

scope_itself : (E : List Enclosing) (kind : Kind) (at visits : ℕ) → Apart (AlikeOption E) (kept visits) (break_to_scope kind at visits) (break_to_scope kind at visits)
unfolding break_to_scope
scope_itself E implicit at visits = no_statement
scope_itself E labeled at visits = inl (refl, refl, refl)
scope_itself E unlabeled at visits = inl (refl, refl, refl)

abbrev by_rust : List Enclosing → Around
by_rust E = record { rule = rust; statements = E }

abbrev by_language : List Enclosing → Around
by_language E = record { rule = language; statements = E }

-- within E; D is where the statement stands, which is E but for a Branch's break, around which its IF is too
module _ (E D : List Enclosing) (inside : is_switch_inside D ≡ is_switch_inside E) where
  break_relabeled : (target id loops : ℕ) (kind : Kind) → relabeled_statement D (BREAK target id kind loops) ≡ BREAK target id (kind_by language (is_switch_inside E) kind) loops
  unfolding relabeled
  break_relabeled target id loops kind = ap (λ (y : Bool). BREAK target id (kind_by language y kind) loops) inside

  break_apart : (at block id : ℕ) (cx : Context) (found : Option Resolution)
      → Apart (AlikeOption D) (kept cx.visits) (break_resolved (by_rust E) at block id cx found) (break_resolved (by_language E) at block id cx found)
  unfolding break_resolved break_unnamed break_kind_in unnamed kind_by refuse_if ◌>>=◌
  break_apart at block id cx none = inl (refl, refl, refl)
  break_apart at block id cx (some found) =
      apart_pick (AlikeOption D) (kept cx.visits) (has cx.scope_fallthroughs found.target) _ _ _ _ (scope_itself D found.kind at cx.visits)
      (maybe_29 (AlikeOption D) (kept cx.visits) (break_unnamed (by_language E) found) at cx.visits (ok (some (BREAK found.target id found.kind found.loops)))
      (ok (some (BREAK found.target id (kind_by language (is_switch_inside E) found.kind) found.loops))) (omega arith)
      (subst (λ (z : Statement). AlikeOption D (some (BREAK found.target id found.kind found.loops)) (some z))
      (break_relabeled found.target id found.loops found.kind) (a_statement _)))

module _ (E : List Enclosing) where
  continue_apart : (at block id : ℕ) (cx : Context) (found : Option Resolution)
      → Apart (λ s s'. AlikeOption E (some s) (some s')) (kept cx.visits) (continue_resolved (by_rust E) at block id cx found) (continue_resolved (by_language E) at block id cx found)
  unfolding continue_resolved continue_unnamed unnamed refuse_if ◌>>=◌ relabeled
  continue_apart at block id cx none = inl (refl, refl, refl)
  continue_apart at block id cx (some found) =
      maybe_29 {A = Statement} (λ s s'. AlikeOption E (some s) (some s')) (kept cx.visits) (continue_unnamed (by_language E) found) at cx.visits
      (ok (CONTINUE found.target id found.kind found.loops)) (ok (CONTINUE found.target id found.kind found.loops)) (omega arith)
      (a_statement (CONTINUE found.target id found.kind found.loops))

  goto_apart : (variant : Variant) (at block id : ℕ) (cx : Context) → Apart (AlikeEnds E) of_end (visit_goto (by_rust E) variant at block id cx) (visit_goto (by_language E) variant at block id cx)
  unfolding visit_goto visit_break visit_continue
  goto_apart Break at block id cx =
      apart_bind (AlikeOption E) (AlikeEnds E) (kept cx.visits) of_end _ _ _ _ (break_apart E E refl at block id cx _) (λ s. omega arith) (λ s s' p. alike_ends s s' none cx p)
  goto_apart Continue at block id cx =
      apart_bind (λ s s'. AlikeOption E (some s) (some s')) (AlikeEnds E) (kept cx.visits) of_end _ _ _ _ (continue_apart at block id cx _) (λ s. omega arith)
      (λ s s' p. alike_ends (some s) (some s') none cx p)
  goto_apart Try at block id cx = alike_ends none none none cx no_statement

-- ---- nested lists

unfoldable WalkApart : List Enclosing → TraverseBlock → TraverseBlock → Type 0
WalkApart D f g = (block : ℕ) (cx : Context) → Apart (AlikeBlocks D) visits_after (f block cx) (g block cx)

-- no walk lowers the count (proofs/Visits)
abbrev Valued : VisitValueBlock → Type 0
Valued visit = (least : ℕ) → VisitCounted (From least) (more least) visit

abbrev Rising : TraverseBlock → Type 0
Rising f = (least : ℕ) → WalkCounted (From least) (more least) f

module _ (t : Table) (visit : VisitValueBlock) (vc : Valued visit) (D : List Enclosing) (f g : TraverseBlock) (fc : Rising f) (wa : WalkApart D f g) where
  unscheduled_apart : (block code at : ℕ) (cx : Context) → Apart (AlikeBlocks D) visits_after (traverse_unscheduled f block code at cx) (traverse_unscheduled g block code at cx)
  unfolding traverse_unscheduled WalkApart
  unscheduled_apart block code at cx = share (AlikeBlocks D) visits_after _ _ _ (λ _. wa block cx)

  nothing_alike : (cx : Context) → AlikeAlternates D (record { present = false; statements = done; context = cx }) (record { present = false; statements = done; context = cx })
  unfolding relabeled
  nothing_alike cx = alike_alternates false done cx

  alternate_apart : (alternate fallthrough : ℕ) (cx : Context) → Apart (AlikeAlternates D) of_alternate (traverse_alternate f alternate fallthrough cx) (traverse_alternate g alternate fallthrough cx)
  unfolding traverse_alternate
  alternate_apart alternate fallthrough cx =
      apart_pick (AlikeAlternates D) of_alternate (eqb alternate fallthrough) _ _ _ _ (nothing_alike cx)
      (block_bind D (AlikeAlternates D) of_alternate _ _ _ _ (unscheduled_apart alternate 13 alternate cx) (λ body. omega arith) (λ s c. alike_alternates true s c))

  enclosed_apart : (E : List Enclosing) (block code at : ℕ) (taken : Option ℕ) (before inside : Context) (make : Statements → Statement)
      → ((s : Statements) → relabeled_statement E (make s) ≡ make (relabeled D s))
      → Apart (AlikeEnds E) of_end (traverse_enclosed f block code at taken before inside make) (traverse_enclosed g block code at taken before inside make)
  unfolding traverse_enclosed
  enclosed_apart E block code at taken before inside make l =
      block_bind D (AlikeEnds E) of_end _ _ _ _ (unscheduled_apart block code at inside)
      (λ body. closes_if (visits_after body) taken before.next_id body.context _ (λ _. refl) (omega arith))
      (λ s c. share (AlikeEnds E) of_end _ _ _ (λ after. ends_made E _ _ taken after (l s)))

  loop_apart : (E : List Enclosing) (at loop : ℕ) (taken : Bool) (visits id : ℕ) (cx : Context) (fallthrough : Option ℕ) (make : Statements → Statement)
      → ((s : Statements) → relabeled_statement E (make s) ≡ make (relabeled D s))
      → Apart (AlikeEnds E) of_end (traverse_loop f at loop taken visits id cx fallthrough make) (traverse_loop g at loop taken visits id cx fallthrough make)
  unfolding traverse_loop WalkApart
  loop_apart E at loop taken visits id cx fallthrough make l =
      share (AlikeEnds E) of_end _ _ _ (λ _. block_bind D (AlikeEnds E) of_end _ _ _ _ (wa loop (with_visits visits cx))
      (λ body. closes (visits_after body) id body.context _ (λ _. refl) (omega arith))
      (λ s c. share (AlikeEnds E) of_end _ _ _ (λ after. ends_made E _ _ fallthrough after (l s))))

  cases_apart : (at fallthrough : ℕ) (cases : List Case) (ids : List ℕ) (cx : Context)
      → Apart (AlikeCases D) of_cases (traverse_cases f at fallthrough cases ids cx) (traverse_cases g at fallthrough cases ids cx)
  unfolding traverse_cases WalkApart relabeled
  cases_apart at fallthrough [] ids cx = alike_cases no_cases ids cx
  cases_apart at fallthrough (case ∷ earlier) ids cx =
      apart_pick (AlikeCases D) of_cases (is_scheduled cx case.block) _ _ _ _ (share (AlikeCases D) of_cases _ _ _ (λ _. cases_apart at fallthrough earlier ids cx))
      (block_bind D (AlikeCases D) of_cases _ _ _ _ (wa case.block cx) rises (λ s c. share (AlikeCases D) of_cases _ _ _ (λ after.
      apart_bind (AlikeCases D) (AlikeCases D) of_cases of_cases _ _ _ _ (cases_apart at fallthrough earlier (c.next_id ∷ ids) after) (λ r. omega arith) (λ r r' q. on s r r' q))))
    where
      rises : (body : BlockResult)
          → Rises (visits_after body) of_cases
          (schedule (target_case case.block) body.context >>= λ after. traverse_cases f at fallthrough earlier (body.context.next_id ∷ ids) after >>= λ rest.
          ok (record { cases = CASE case.test body.statements rest.cases; ids = rest.ids; context = rest.context }))
      rises body =
          let least = visits_after body in
          counted_bind (From least) of_context of_cases _ _ (schedule_counted (From least) (more least) (target_case case.block) body.context (omega arith)) (λ after h.
          counted_bind (From least) of_cases of_cases _ _ (cases_counted (From least) (more least) t visit (vc least) f (fc least) at fallthrough earlier _ after h) (λ _ k. k))

      on : (s : Statements) (r r' : CasesResult) → AlikeCases D r r'
          → AlikeCases D (record { cases = CASE case.test s r.cases; ids = r.ids; context = r.context })
          (record { cases = CASE case.test (relabeled D s) r'.cases; ids = r'.ids; context = r'.context })
      on s r r' (alike_cases z is d) = alike_cases (CASE case.test s z) is d

followed_alike : (D : List Enclosing) (s s' : Option Statement) (more : Statements) → AlikeOption D s s' → relabeled D (followed_by s more) ≡ followed_by s' (relabeled D more)
unfolding relabeled
followed_alike D s s' more no_statement = refl
followed_alike D s s' more (a_statement z) = refl

-- a block's statements, where they are those of the first, relabeled
blocks_made : (D : List Enclosing) (s s' : Statements) (c : Context) → relabeled D s ≡ s' → AlikeBlocks D (record { statements = s; context = c }) (record { statements = s'; context = c })
blocks_made D s s' c e = subst (λ (z : Statements). AlikeBlocks D (record { statements = s; context = c }) (record { statements = z; context = c })) e (alike_blocks s c)

-- ---- terminals

module _ (t : Table) (visit : VisitValueBlock) (vc : Valued visit) (inner : TraverseInside) (ic : (around : Around) → Rising (inner around))
    (wa : (E : List Enclosing) → WalkApart E (inner (by_rust E)) (inner (by_language E))) (E : List Enclosing) where
  -- a Branch's own IF has no label, and is no switch
  branch_inside : is_switch_inside (another none ∷ E) ≡ is_switch_inside E
  unfolding is_switch_inside
  branch_inside = refl

  consequent_apart : (at consequent id : ℕ) (cx : Context)
      → Apart (AlikeBlocks (another none ∷ E)) visits_after (traverse_consequent (by_rust E) (inner (by_rust (another none ∷ E))) at consequent id cx)
      (traverse_consequent (by_language E) (inner (by_language (another none ∷ E))) at consequent id cx)
  unfolding traverse_consequent visit_break WalkApart relabeled
  consequent_apart at consequent id cx =
      apart_pick (AlikeBlocks (another none ∷ E)) visits_after (is_scheduled cx consequent) _ _ _ _
      (apart_bind (AlikeOption (another none ∷ E)) (AlikeBlocks (another none ∷ E)) (kept cx.visits) visits_after _ _ _ _
      (break_apart E (another none ∷ E) branch_inside at consequent id cx _) (λ s. omega arith)
      (λ s s' p. blocks_made (another none ∷ E) _ _ cx (followed_alike (another none ∷ E) s s' done p)))
      (wa (another none ∷ E) consequent cx)

  value_same : (i l : ℕ) (span : Span) (v : Value) (next : Option ℕ) (c : Context)
      → AlikeEnds E (record { statement = some (INSTR i l span v); next = next; context = c }) (record { statement = some (INSTR i l span v); next = next; context = c })
  unfolding relabeled
  value_same i l span v next c = alike_ends _ _ next c (a_statement (INSTR i l span v))

  value_apart : (e : Terminal) (at : ℕ) (block : Block) (fallthrough : ℕ) (cx : Context)
      → Apart (AlikeEnds E) of_end (visit_value_statement t visit e at block fallthrough cx) (visit_value_statement t visit e at block fallthrough cx)
  unfolding visit_value_statement
  value_apart e at block fallthrough cx =
      share (AlikeEnds E) of_end _ _ _ (λ inside. share (AlikeEnds E) of_end _ _ _ (λ result. share (AlikeEnds E) of_end _ _ _ (λ after. value_same _ _ _ _ _ after)))

  -- the walk inside of one more statement: parts of a terminal's statement
  module _ (x : Enclosing) where
    abbrev Inside : List Enclosing
    Inside = x ∷ E

    unscheduled : (block code at : ℕ) (cx : Context)
        → Apart (AlikeBlocks Inside) visits_after (traverse_unscheduled (inner (by_rust Inside)) block code at cx) (traverse_unscheduled (inner (by_language Inside)) block code at cx)
    unscheduled = unscheduled_apart t visit vc Inside _ _ (ic _) (wa Inside)

    alternate : (a f : ℕ) (cx : Context)
        → Apart (AlikeAlternates Inside) of_alternate (traverse_alternate (inner (by_rust Inside)) a f cx) (traverse_alternate (inner (by_language Inside)) a f cx)
    alternate = alternate_apart t visit vc Inside _ _ (ic _) (wa Inside)

    cases : (at f : ℕ) (ks : List Case) (ids : List ℕ) (cx : Context)
        → Apart (AlikeCases Inside) of_cases (traverse_cases (inner (by_rust Inside)) at f ks ids cx) (traverse_cases (inner (by_language Inside)) at f ks ids cx)
    cases = cases_apart t visit vc Inside _ _ (ic _) (wa Inside)

    enclosed : (block code at : ℕ) (taken : Option ℕ) (before inside : Context) (make : Statements → Statement)
        → ((s : Statements) → relabeled_statement E (make s) ≡ make (relabeled Inside s))
        → Apart (AlikeEnds E) of_end (traverse_enclosed (inner (by_rust Inside)) block code at taken before inside make)
        (traverse_enclosed (inner (by_language Inside)) block code at taken before inside make)
    enclosed = enclosed_apart t visit vc Inside _ _ (ic _) (wa Inside) E

    in_loop : (at loop : ℕ) (taken : Bool) (visits id : ℕ) (cx : Context) (fallthrough : Option ℕ) (make : Statements → Statement)
        → ((s : Statements) → relabeled_statement E (make s) ≡ make (relabeled Inside s))
        → Apart (AlikeEnds E) of_end (traverse_loop (inner (by_rust Inside)) at loop taken visits id cx fallthrough make)
        (traverse_loop (inner (by_language Inside)) at loop taken visits id cx fallthrough make)
    in_loop = loop_apart t visit vc Inside _ _ (ic _) (wa Inside) E

    walks : (block : ℕ) (cx : Context) → Apart (AlikeBlocks Inside) visits_after (inner (by_rust Inside) block cx) (inner (by_language Inside) block cx)
    unfolding WalkApart
    walks = wa Inside

  terminal_apart : (e : Terminal) (at : ℕ) (block : Block) (cx : Context)
      → Apart (AlikeEnds E) of_end (visit_terminal t visit inner (by_rust E) e at block cx) (visit_terminal t visit inner (by_language E) e at block cx)
  unfolding visit_terminal WalkCounted with_visits relabeled
  terminal_apart absent at block cx = inl (refl, refl, refl)
  terminal_apart unreachable at block cx = alike_ends none none none cx no_statement
  terminal_apart (throw x) at block cx = alike_ends _ _ none cx (a_statement (THROW x block.id))
  terminal_apart (return x) at block cx = alike_ends _ _ none cx (a_statement (RETURN x block.id))
  terminal_apart (goto target variant) at block cx = goto_apart E variant at target block.id cx
  terminal_apart (if test consequent alternative fallthrough) at block cx =
      share (AlikeEnds E) of_end _ _ _ (λ taken. share (AlikeEnds E) of_end _ _ _ (λ inside.
      block_bind (another taken ∷ E) (AlikeEnds E) of_end _ _ _ _ (unscheduled (another taken) consequent 12 consequent inside)
      (λ first. let least = visits_after first in
      counted_bind (From least) of_alternate of_end _ _ (alternate_counted (From least) (more least) t visit (vc least) _ (ic _ least) alternative fallthrough first.context (omega arith)) (λ r h.
      closes_if least taken cx.next_id r.context _ (λ _. refl) h)) (λ s c.
      apart_bind (AlikeAlternates (another taken ∷ E)) (AlikeEnds E) of_alternate of_end _ _ _ _ (alternate (another taken) alternative fallthrough c)
      (λ r. closes_if (of_alternate r) taken cx.next_id r.context _ (λ _. refl) (omega arith)) (λ r r' q. second taken s r r' q))))
    where
      second : (taken : Option ℕ) (s : Statements) (r r' : AlternateResult) → AlikeAlternates (another taken ∷ E) r r'
          → Apart (AlikeEnds E) of_end
          (unschedule_if taken cx.next_id r.context >>= λ after. ok (record { statement = some (IF test block.id taken s r.present r.statements); next = taken; context = after }))
          (unschedule_if taken cx.next_id r'.context >>= λ after.
          ok (record { statement = some (IF test block.id taken (relabeled (another taken ∷ E) s) r'.present r'.statements); next = taken; context = after }))
      second taken s r r' (alike_alternates present z d) =
          share (AlikeEnds E) of_end _ _ _ (λ after. alike_ends _ _ taken after (a_statement (IF test block.id taken s present z)))
  terminal_apart (branch test consequent alternative) at block cx =
      block_bind (another none ∷ E) (AlikeEnds E) of_end _ _ _ _ (consequent_apart at consequent block.id cx)
      (λ first. let least = visits_after first in
      counted_bind (From least) visits_after of_end _ _
      (unscheduled_counted (From least) (more least) t visit (vc least) _ (ic _ least) alternative 19 at first.context (omega arith)) (λ _ k. k)) (λ s c.
      block_bind (another none ∷ E) (AlikeEnds E) of_end _ _ _ _ (unscheduled (another none) alternative 19 at c) (λ second. omega arith)
      (λ z d. alike_ends _ _ none d (a_statement (IF test block.id none s true z))))
  terminal_apart (switch test first number fallthrough) at block cx =
      share (AlikeEnds E) of_end _ _ _ (λ taken. share (AlikeEnds E) of_end _ _ _ (λ inside.
      apart_bind (AlikeCases (a_switch taken ∷ E)) (AlikeEnds E) of_cases of_end _ _ _ _
      (cases (a_switch taken) at fallthrough (cases_last_first t first number) (schedule_ids taken cx.next_id) inside)
      (λ r. closes_all (of_cases r) r.ids r.context _ (λ _. refl) (omega arith)) (λ r r' q. on taken r r' q)))
    where
      on : (taken : Option ℕ) (r r' : CasesResult) → AlikeCases (a_switch taken ∷ E) r r'
          → Apart (AlikeEnds E) of_end
          (unschedule_all r.ids r.context >>= λ after. ok (record { statement = some (SWITCH test block.id taken r.cases); next = taken; context = after }))
          (unschedule_all r'.ids r'.context >>= λ after. ok (record { statement = some (SWITCH test block.id taken r'.cases); next = taken; context = after }))
      on taken r r' (alike_cases z ids d) = share (AlikeEnds E) of_end _ _ _ (λ after. alike_ends _ _ taken after (a_statement (SWITCH test block.id taken z)))
  terminal_apart (do_while loop test fallthrough) at block cx =
      let label : Option ℕ = unless_scheduled cx fallthrough in
      share (AlikeEnds E) of_end _ _ _ (λ inside. share (AlikeEnds E) of_end _ _ _ (λ _. block_bind (a_loop label ∷ E) (AlikeEnds E) of_end _ _ _ _ (walks (a_loop label) loop inside)
      (λ body. let least = visits_after body in
      counted_bind (From least) (λ r. r.visits) of_end _ _ (nested (From least) (more least) t visit (vc least) test none block.span body.context.visits (omega arith)) (λ tested h.
      closes least cx.next_id (with_visits tested.visits body.context) _ (λ _. refl) h)) (λ s c.
      share (AlikeEnds E) of_end _ _ _ (λ tested. share (AlikeEnds E) of_end _ _ _ (λ after. ends_made E _ _ _ after refl)))))
  terminal_apart (while test loop fallthrough) at block cx =
      share (AlikeEnds E) of_end _ _ _ (λ taken. share (AlikeEnds E) of_end _ _ _ (λ inside. share (AlikeEnds E) of_end _ _ _ (λ tested.
      in_loop (a_loop taken) at loop _ _ _ inside taken _ (λ s. refl))))
  terminal_apart (for init test update loop fallthrough) at block cx =
      share (AlikeEnds E) of_end _ _ _ (λ inside. share (AlikeEnds E) of_end _ _ _ (λ first. share (AlikeEnds E) of_end _ _ _ (λ tested. share (AlikeEnds E) of_end _ _ _ (λ updated.
      in_loop (a_loop (unless_scheduled cx fallthrough)) at loop _ _ _ inside _ _ (λ s. refl)))))
  terminal_apart (for_of init test loop fallthrough) at block cx =
      share (AlikeEnds E) of_end _ _ _ (λ inside. share (AlikeEnds E) of_end _ _ _ (λ first. share (AlikeEnds E) of_end _ _ _ (λ tested.
      in_loop (a_loop (unless_scheduled cx fallthrough)) at loop _ _ _ inside _ _ (λ s. refl))))
  terminal_apart (for_in init loop fallthrough) at block cx =
      share (AlikeEnds E) of_end _ _ _ (λ inside. share (AlikeEnds E) of_end _ _ _ (λ first. in_loop (a_loop (unless_scheduled cx fallthrough)) at loop _ _ _ inside _ _ (λ s. refl)))
  terminal_apart (logical operator test fallthrough) at block cx = value_apart _ at block fallthrough cx
  terminal_apart (ternary test fallthrough) at block cx = value_apart _ at block fallthrough cx
  terminal_apart (optional flag test fallthrough) at block cx = value_apart _ at block fallthrough cx
  terminal_apart (label body fallthrough) at block cx =
      share (AlikeEnds E) of_end _ _ _ (λ taken. share (AlikeEnds E) of_end _ _ _ (λ inside. enclosed (another taken) body 17 at taken cx inside _ (λ s. refl)))
  terminal_apart (sequence body fallthrough) at block cx = value_apart _ at block fallthrough cx
  terminal_apart (maybe_throw continuation) at block cx = alike_ends none none _ cx no_statement
  terminal_apart (try body handler fallthrough binding) at block cx =
      share (AlikeEnds E) of_end _ _ _ (λ taken. share (AlikeEnds E) of_end _ _ _ (λ inside.
      block_bind (another taken ∷ E) (AlikeEnds E) of_end _ _ _ _ (walks (another taken) body (schedule_catch_handler handler inside))
      (λ first. let least = visits_after first in
      counted_bind (From least) visits_after of_end _ _ (ic _ least handler first.context (omega arith)) (λ second h. closes_if least taken cx.next_id second.context _ (λ _. refl) h)) (λ s c.
      block_bind (another taken ∷ E) (AlikeEnds E) of_end _ _ _ _ (walks (another taken) handler c)
      (λ second. closes_if (visits_after second) taken cx.next_id second.context _ (λ _. refl) (omega arith))
      (λ z d. share (AlikeEnds E) of_end _ _ _ (λ after. ends_made E _ _ taken after refl)))))
  terminal_apart (scope pruned body fallthrough number) at block cx =
      share (AlikeEnds E) of_end _ _ _ (λ inside. enclosed (another none) body 18 at _ cx _ _ (λ s. refl))

  -- ---- blocks

  instructions_alike : (rows : List ℕ) (more : Statements) → relabeled E (instruction_statements t rows more) ≡ instruction_statements t rows (relabeled E more)
  unfolding instruction_statements relabeled
  instructions_alike [] more = refl
  instructions_alike (r ∷ rs) more =
      ap (λ (z : Statements). INSTR (instruction_at t r).id (instruction_at t r).lvalue (instruction_at t r).span (PLAIN r) ▸ z) (instructions_alike rs more)

  next_apart : (at : ℕ) (f g : TraverseBlock) → WalkApart E f g → (s s' : Option Statement) (next : Option ℕ) (cx : Context) → AlikeOption E s s'
      → Apart (AlikeBlocks E) visits_after (then_next t at f s next cx) (then_next t at g s' next cx)
  unfolding then_next WalkApart relabeled
  next_apart at f g w s s' none cx p =
      blocks_made E _ _ cx
      (instructions_alike (instruction_rows_at t at) (followed_by s done) ∙ ap (instruction_statements t (instruction_rows_at t at)) (followed_done s s' p))
    where
      followed_done : (s s' : Option Statement) → AlikeOption E s s' → relabeled E (followed_by s done) ≡ followed_by s' done
      followed_done s s' q = followed_alike E s s' done q
  next_apart at f g w s s' (some next) cx p =
      block_bind E (AlikeBlocks E) visits_after _ _ _ _ (w next cx) (λ rest. omega arith) (λ z c. blocks_made E _ _ c
      (instructions_alike (instruction_rows_at t at) (followed_by s z) ∙ ap (instruction_statements t (instruction_rows_at t at)) (followed_alike E s s' z p)))

  blocks_apart : (left : ℕ) → WalkApart E (visit_block t visit inner (by_rust E) left) (visit_block t visit inner (by_language E) left)
  unfolding visit_block WalkApart
  blocks_apart zero block cx = inl (refl, refl, refl)
  blocks_apart (suc left) block cx =
      share (AlikeBlocks E) visits_after _ _ _ (λ entered.
      apart_bind (AlikeEnds E) (AlikeBlocks E) of_end visits_after _ _ _ _ (terminal_apart (terminal_at t block) block (block_at t block) entered) rises (λ r r' p. on (blocks_apart left) r r' p))
    where
      rises : (r : TerminalResult) → Rises (of_end r) visits_after (then_next t block (visit_block t visit inner (by_rust E) left) r.statement r.next r.context)
      rises r =
          let least = of_end r in
          next_counted (From least) (more least) t visit (vc least) inner (λ around. ic around least) block _ r.statement r.next r.context
          (blocks_counted (From least) (more least) t visit (vc least) inner (λ around. ic around least) (by_rust E) left) (omega arith)

      on : WalkApart E (visit_block t visit inner (by_rust E) left) (visit_block t visit inner (by_language E) left) → (r r' : TerminalResult) → AlikeEnds E r r'
          → Apart (AlikeBlocks E) visits_after (then_next t block (visit_block t visit inner (by_rust E) left) r.statement r.next r.context)
          (then_next t block (visit_block t visit inner (by_language E) left) r'.statement r'.next r'.context)
      on w r r' (alike_ends s s' next c p) = next_apart block _ _ w s s' next c p

walk_apart : (t : Table) (d : ℕ) (E : List Enclosing) → WalkApart E (traverse_block t d (by_rust E)) (traverse_block t d (by_language E))
unfolding traverse_block WalkApart
walk_apart t zero E block cx = inl (refl, refl, refl)
walk_apart t (suc d) E block cx = blocks_apart t (visit_value_block t d) (λ least. value_counted (From least) (more least) t d) (traverse_block t d)
    (λ around least. statements_counted (From least) (more least) t d around) (λ D. walk_apart t d D) E _ block cx

-- over any table
pub differs_only_so : (t : Table) → Apart (AlikeBlocks []) visits_after (build_tree rust t) (build_tree language t)
unfolding build_tree WalkApart
differs_only_so t = walk_apart t 128 [] t.entry start
