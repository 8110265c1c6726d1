-- The tree that the build makes of a checked table has its columns in range; so every list that the build makes within 2,048 rows is accepted.
use mathlib.Core.Path.{◌≡◌, subst}
use Prim.Native.Nat.{ℕ, zero, suc, ◌+◌, ◌<◌, ◌≤◌}
use native.Mathlib.Omega.{arith}
use mathlib.Core.List.{List, [], ◌∷◌, reverse_aux}
use mathlib.Core.Option.{Option, none, some}
use mathlib.Core.Bool.{Bool, true, false}
use mathlib.Core.Logic.{◌⊎◌}
use lib.ListN.{take, drop}
use lib.Dec.{eqb}
use Rattle.table.specs.Table.{Table, Case, Operation, other, load_local, store_local, Terminal, absent, unreachable, throw, return, goto, if, branch}
use Rattle.table.specs.Table.{switch, do_while, while, for, for_of, for_in, logical, ternary, optional, label, sequence, maybe_throw, try, scope, Variant}
use Rattle.table.specs.Table.{Break, Continue, Try, block_at, terminal_at, instruction_at, instruction_rows_at, rows_from, is_unreachable}
use Rattle.table.specs.Promise.{InRange, OperandsInRange, BelowUnlessNone}
use Rattle.definition.specs.Tree.{Kind, implicit, labeled, unlabeled, Value, PLAIN, LOAD, UNDEF, SEQ, LOGICAL, COND, OPTIONAL, Instructions, no_instructions}
use Rattle.definition.specs.Tree.{instruction, Statement, Statements, done}
use Rattle.definition.specs.Result.{Result, ok, refused}
use Rattle.definition.specs.Context.{has, ControlFlowTarget, target_if, target_switch, target_case, target_loop, target_block, continues_at, loops_of, Entry}
use Rattle.definition.specs.Context.{Context, start, is_scheduled, emit, with_visits, mark_scope_fallthrough, schedule_catch_handler, pushed, schedule, blocked_code}
use Rattle.definition.specs.Context.{popped, unschedule_top, unschedule, Resolution, break_target_from, get_break_target, continue_target_from}
use Rattle.definition.specs.Context.{get_continue_target}
use Rattle.definition.specs.Around.{Rule, Around, outermost}
use Rattle.definition.specs.Value.{begin_visit, ValueBlockResult, ValueTerminalResult, instructions_of, wrap_with_sequence, final_value, final_place}
use Rattle.definition.specs.Value.{all_but_last, last, extract_value_block_result, extract_or_refuse, VisitValueBlock, branch_ways, test_block_ended}
use Rattle.definition.specs.Value.{visit_test_block, visit_value_block_terminal, then_fallthrough, branch_value, is_empty_goto, maybe_throw_value}
use Rattle.definition.specs.Value.{terminal_then_fallthrough, visit_value_block_at, visit_value_block, appended, sequenced_instructions, innermost_value}
use Rattle.definition.specs.Value.{unless_same, value_block_result_to_sequence}
use Rattle.definition.specs.Statement.{BlockResult, TerminalResult, TraverseBlock, TraverseInside, enter_block, unless_scheduled, unless_unreachable, schedule_if, schedule_switch}
use Rattle.definition.specs.Statement.{unschedule_if, mark_scope_fallthrough_if, break_to_scope, break_resolved, visit_break, continue_resolved, visit_continue}
use Rattle.definition.specs.Statement.{visit_goto, traverse_unscheduled, AlternateResult, traverse_alternate, followed_by, traverse_consequent, traverse_enclosed}
use Rattle.definition.specs.Statement.{traverse_loop, continue_block_of, visit_update, CasesResult, cases_last_first, traverse_cases, unschedule_all}
use Rattle.definition.specs.Statement.{schedule_ids, visit_value_statement, visit_terminal, instruction_statements, then_next, visit_block, traverse_block, build_tree}
use Rattle.definition.proofs.Steps.{Any, Good, good_bind, good_unless, good_pick, good_any}
use Rattle.table.specs.declared.columns.Span.{Span}
use Rattle.tree_grammar.proofs.Trees.{Spanned, RangedValue, RangedInstructions, Below, RangedUpdate, RangedStatement, RangedStatements, RangedCases}

-- ---- what is asked of the table

-- cases whose tests and blocks are in range
abbrev pub Cased : ℕ → List Case → Type 0
Cased blocks [] = Unit {0}
Cased blocks (x ∷ xs) = ((x.test ≡ 65535) ⊎ (x.test < 4096)) × (x.block < blocks) × Cased blocks xs

pub record Bounded (t : Table) (blocks places instructions cases : ℕ) : Type 0 where
  pub few_blocks : blocks ≤ 1024
  pub few_places : places ≤ 4096
  pub few_instructions : instructions ≤ 4096
  pub ends : (b : ℕ) → InRange blocks places cases (terminal_at t b)
  pub id : (b : ℕ) → (block_at t b).id ≤ 65535
  pub span : (b : ℕ) → Spanned (block_at t b).span
  pub run : (b : ℕ) → (block_at t b).first + (block_at t b).count ≤ instructions
  pub instruction_id : (i : ℕ) → i < instructions → (instruction_at t i).id ≤ 65535
  pub lvalue : (i : ℕ) → i < instructions → (instruction_at t i).lvalue < places
  pub instruction_span : (i : ℕ) → i < instructions → Spanned (instruction_at t i).span
  pub operands : (i : ℕ) → i < instructions → OperandsInRange places (instruction_at t i).operation
  pub cased : Cased blocks t.cases

module _ (t : Table) (nb np ni nc : ℕ) (k : Bounded t nb np ni nc) where
  -- ---- rows of instructions

  abbrev Rows : List ℕ → Type 0
  Rows [] = Unit {0}
  Rows (r ∷ rs) = (r < ni) × Rows rs

  rows_from_lem : (first count : ℕ) → first + count ≤ ni → Rows (rows_from first count)
  rows_from_lem first zero h = tt
  rows_from_lem first (suc count) h = (omega arith, rows_from_lem (suc first) count (omega arith))

  rows_of : (b : ℕ) → Rows (instruction_rows_at t b)
  rows_of b = rows_from_lem (block_at t b).first (block_at t b).count (k.run b)

  instructions_ranged : (rs : List ℕ) (more : Instructions) → Rows rs → RangedInstructions more → RangedInstructions (instructions_of t rs more)
  unfolding instructions_of
  instructions_ranged [] more h q = q
  instructions_ranged (r ∷ rs) more h q =
      (k.instruction_id r h.0, omega (arith, k.lvalue r h.0, k.few_places), k.instruction_span r h.0, omega (arith, h.0, k.few_instructions), instructions_ranged rs more h.1 q)

  wrap_ranged : (rs : List ℕ) (id : ℕ) (v : Value) → Rows rs → id ≤ 65535 → RangedValue v → RangedValue (wrap_with_sequence t rs id v)
  unfolding wrap_with_sequence
  wrap_ranged [] id v h i q = q
  wrap_ranged (r ∷ rs) id v h i q = (instructions_ranged (r ∷ rs) no_instructions h tt, i, q)

  last_row : (r : ℕ) (rs : List ℕ) → r < ni → Rows rs → last r rs < ni
  unfolding last
  last_row r [] h q = h
  last_row r (n ∷ rs) h q = last_row n rs q.0 q.1

  first_rows : (r : ℕ) (rs : List ℕ) → r < ni → Rows rs → Rows (all_but_last r rs)
  unfolding all_but_last
  first_rows r [] h q = tt
  first_rows r (n ∷ rs) h q = (h, first_rows n rs q.0 q.1)

  -- ---- values

  abbrev VB : ValueBlockResult → Type 0
  VB r = RangedValue r.value × (r.place < np) × (r.id ≤ 65535)

  final_value_lem : (r : ℕ) (o : Operation) (n : ℕ) → r < ni → OperandsInRange np o → RangedValue (final_value r o n)
  unfolding final_value
  final_value_lem r other n h q = omega (arith, k.few_instructions)
  final_value_lem r (load_local p) n h q = omega (arith, k.few_instructions)
  final_value_lem r (store_local p v) zero h q = omega (arith, k.few_places, q.1)
  final_value_lem r (store_local p v) (suc n) h q = omega (arith, k.few_instructions)

  final_place_lem : (o : Operation) (n l : ℕ) → l < np → OperandsInRange np o → final_place o n l < np
  unfolding final_place
  final_place_lem other n l h q = h
  final_place_lem (load_local p) n l h q = h
  final_place_lem (store_local p v) zero l h q = q.0
  final_place_lem (store_local p v) (suc n) l h q = h

  extract_ranged : (b r : ℕ) (rs : List ℕ) (v : ℕ) → r < ni → Rows rs → VB (extract_value_block_result t b r rs v)
  unfolding extract_value_block_result
  extract_ranged b r rs v h q =
      let f : last r rs < ni = last_row r rs h q in (
        wrap_ranged (all_but_last r rs) (instruction_at t (last r rs)).id _ (first_rows r rs h q) (k.instruction_id (last r rs) f) (final_value_lem (last r rs) _ _ f (k.operands (last r rs) f)),
        final_place_lem _ _ _ (k.lvalue (last r rs) f) (k.operands (last r rs) f),
        k.instruction_id (last r rs) f,
      )

  extract_good : (b : ℕ) (rs : List ℕ) (v code at : ℕ) → Rows rs → Good VB (extract_or_refuse t b rs v code at)
  unfolding extract_or_refuse
  extract_good b [] v code at h = tt
  extract_good b (r ∷ rs) v code at h = extract_ranged b r rs v h.0 h.1

  abbrev VT : ValueTerminalResult → Type 0
  VT r = RangedValue r.value × (r.place < np) × (r.id ≤ 65535)

  unfoldable VisitRanged : VisitValueBlock → Type 0
  VisitRanged visit = (b : ℕ) (f : Option ℕ) (span : Span) (v : ℕ) → Spanned span → Good VB (visit b f span v)

  module _ (visit : VisitValueBlock) (vr : VisitRanged visit) where
    test_good : (b : ℕ) (span : Span) (v at : ℕ) → Spanned span → Good (λ r. VB r.test) (visit_test_block t visit b span v at)
    unfolding visit_test_block VisitRanged test_block_ended
    test_good b span v at h = good_bind VB (λ r. VB r.test) _ _ (vr b none span v h) (λ r q. by r q (branch_ways (terminal_at t r.block)))
      where
        by : (r : ValueBlockResult) → VB r → (w : Option _) → Good (λ r. VB r.test) (test_block_ended r w at)
        by r q none = tt
        by r q (some w) = q

    end_good : (x : Terminal) (id : ℕ) (span : Span) (v at : ℕ) → InRange nb np nc x → id ≤ 65535 → Spanned span → Good VT (visit_value_block_terminal t visit x id span v at)
    unfolding visit_value_block_terminal VisitRanged
    end_good absent id span v at r i h = tt
    end_good unreachable id span v at r i h = tt
    end_good (throw x) id span v at r i h = tt
    end_good (return x) id span v at r i h = tt
    end_good (goto b w) id span v at r i h = tt
    end_good (if x c a f) id span v at r i h = tt
    end_good (branch x c a) id span v at r i h = tt
    end_good (switch x s n f) id span v at r i h = tt
    end_good (do_while l x f) id span v at r i h = tt
    end_good (while x l f) id span v at r i h = tt
    end_good (for n x u l f) id span v at r i h = tt
    end_good (for_of n x l f) id span v at r i h = tt
    end_good (for_in n l f) id span v at r i h = tt
    end_good (logical o x f) id span v at r i h =
        good_bind (λ r. VB r.test) VT _ _ (test_good x span v at h) (λ tested p.
        good_bind VB VT _ _ (vr tested.ways.consequent (some f) span tested.test.visits h) (λ left q.
        good_bind VB VT _ _ (vr tested.ways.alternate (some f) span left.visits h) (λ right z.
        ((r.0, ((p.2, omega (arith, p.1, k.few_places), h, p.0, tt), q.2, q.0), z.0), q.1, i))))
    end_good (ternary x f) id span v at r i h =
        good_bind (λ r. VB r.test) VT _ _ (test_good x span v at h) (λ tested p.
        good_bind VB VT _ _ (vr tested.ways.consequent (some f) span tested.test.visits h) (λ left q.
        good_bind VB VT _ _ (vr tested.ways.alternate (some f) span left.visits h) (λ right z. ((p.0, q.0, z.0), q.1, i))))
    end_good (optional g x f) id span v at r i h =
        good_bind (λ r. VB r.test) VT _ _ (test_good x span v at h) (λ tested p.
        good_bind VB VT _ _ (vr tested.ways.consequent (some f) span tested.test.visits h) (λ left q.
        ((r.0, ((p.2, omega (arith, p.1, k.few_places), k.span tested.test.block, p.0, tt), q.2, q.0)), q.1, i)))
    end_good (label x f) id span v at r i h = tt
    end_good (sequence x f) id span v at r i h = good_bind VB VT _ _ (vr x (some f) span v h) (λ q z. (z.0, z.1, i))
    end_good (maybe_throw x) id span v at r i h = tt
    end_good (try x y f n) id span v at r i h = tt
    end_good (scope p x f n) id span v at r i h = tt

    then_good : (x : Terminal) (b : ℕ) (span : Span) (v : ℕ) → InRange nb np nc x → Spanned span → Good VB (terminal_then_fallthrough t visit x b (block_at t b) span v)
    unfolding then_fallthrough VisitRanged
    then_good x b span v r h =
        good_bind VT VB _ _ (end_good x (block_at t b).id (block_at t b).span v b r (k.id b) (k.span b)) (λ init p.
        good_bind VB VB _ _ (vr init.fallthrough none span init.visits h) (λ final q.
        ((instructions_ranged (instruction_rows_at t b) _ (rows_of b) (p.2, omega (arith, p.1, k.few_places), h, p.0, tt), q.2, q.0), q.1, q.2)))

    branch_good : (b x id : ℕ) (rs : List ℕ) (v : ℕ) → x < np → id ≤ 65535 → Rows rs → Good VB (branch_value t b x id rs v)
    unfolding branch_value
    branch_good b x id [] v h i q = (omega (arith, k.few_places), h, i)
    branch_good b x id (r ∷ rs) v h i q = extract_ranged b r rs v q.0 q.1

    maybe_good : (b x : ℕ) (rs : List ℕ) (f : Option ℕ) (span : Span) (v : ℕ) (y : Bool) → Rows rs → Spanned span → Good VB (maybe_throw_value t visit b x rs f span v y)
    unfolding maybe_throw_value VisitRanged
    maybe_good b x rs f span v true q h = extract_good x rs v 28 b q
    maybe_good b x rs f span v false q h = good_bind VB VB _ _ (vr x f span v h) (λ r p. (wrap_ranged rs r.id r.value q p.2 p.0, p.1, p.2))

    at_good : (x : Terminal) (b : ℕ) (f : Option ℕ) (span : Span) (v : ℕ) → InRange nb np nc x → Spanned span → Good VB (visit_value_block_at t visit x b (block_at t b) f span v)
    unfolding visit_value_block_at
    at_good absent b f span v r h = then_good absent b span v r h
    at_good unreachable b f span v r h = then_good unreachable b span v r h
    at_good (throw x) b f span v r h = then_good (throw x) b span v r h
    at_good (return x) b f span v r h = then_good (return x) b span v r h
    at_good (goto x w) b f span v r h = extract_good b (instruction_rows_at t b) v 24 b (rows_of b)
    at_good (if x c a g) b f span v r h = then_good (if x c a g) b span v r h
    at_good (branch x c a) b f span v r h = branch_good b x (block_at t b).id (instruction_rows_at t b) v r.0 (k.id b) (rows_of b)
    at_good (switch x s n g) b f span v r h = then_good (switch x s n g) b span v r h
    at_good (do_while l x g) b f span v r h = then_good (do_while l x g) b span v r h
    at_good (while x l g) b f span v r h = then_good (while x l g) b span v r h
    at_good (for n x u l g) b f span v r h = then_good (for n x u l g) b span v r h
    at_good (for_of n x l g) b f span v r h = then_good (for_of n x l g) b span v r h
    at_good (for_in n l g) b f span v r h = then_good (for_in n l g) b span v r h
    at_good (logical o x g) b f span v r h = then_good (logical o x g) b span v r h
    at_good (ternary x g) b f span v r h = then_good (ternary x g) b span v r h
    at_good (optional o x g) b f span v r h = then_good (optional o x g) b span v r h
    at_good (label x g) b f span v r h = then_good (label x g) b span v r h
    at_good (sequence x g) b f span v r h = then_good (sequence x g) b span v r h
    at_good (maybe_throw x) b f span v r h = good_unless VB _ 10 x v _ (λ _. maybe_good b x (instruction_rows_at t b) f span v (is_empty_goto (block_at t x)) (rows_of b) h)
    at_good (try x y g n) b f span v r h = then_good (try x y g n) b span v r h
    at_good (scope p x g n) b f span v r h = then_good (scope p x g n) b span v r h

  visit_ranged : (d : ℕ) → VisitRanged (visit_value_block t d)
  unfolding visit_value_block VisitRanged
  visit_ranged zero b f span v h = tt
  visit_ranged (suc d) b f span v h =
      good_bind Any VB _ _ (good_any (begin_visit t b v))
      (λ begun _. good_unless VB _ 23 b begun _ (λ _. at_good (visit_value_block t d) (visit_ranged d) (terminal_at t b) b f span begun (k.ends b) h))

  -- ---- flattening

  appended_ranged : (is more : Instructions) → RangedInstructions is → RangedInstructions more → RangedInstructions (appended is more)
  unfolding appended
  appended_ranged no_instructions more h q = q
  appended_ranged (instruction id l s v rest) more h q = (h.0, h.1, h.2, h.3, appended_ranged rest more h.4 q)

  sequenced_ranged : (v : Value) (more : Instructions) → RangedValue v → RangedInstructions more → RangedInstructions (sequenced_instructions v more)
  sequenced_ranged (PLAIN r) more h q = q
  sequenced_ranged (LOAD p) more h q = q
  sequenced_ranged (UNDEF s) more h q = q
  sequenced_ranged (SEQ is id v) more h q = appended_ranged is (sequenced_instructions v more) h.0 (sequenced_ranged v more h.2 q)
  sequenced_ranged (LOGICAL o l r) more h q = q
  sequenced_ranged (COND x y z) more h q = q
  sequenced_ranged (OPTIONAL f v) more h q = q

  innermost_ranged : (v : Value) → RangedValue v → RangedValue (innermost_value v)
  innermost_ranged (PLAIN r) h = h
  innermost_ranged (LOAD p) h = h
  innermost_ranged (UNDEF s) h = h
  innermost_ranged (SEQ is id v) h = innermost_ranged v h.2
  innermost_ranged (LOGICAL o l r) h = h
  innermost_ranged (COND x y z) h = h
  innermost_ranged (OPTIONAL f v) h = h

  unless_ranged : (y : Bool) (is : Instructions) → RangedInstructions is → RangedInstructions (unless_same y is)
  unfolding unless_same
  unless_ranged true is h = tt
  unless_ranged false is h = h

  sequence_ranged : (r : ValueBlockResult) (span : Span) → VB r → Spanned span → RangedValue (value_block_result_to_sequence t r span)
  unfolding value_block_result_to_sequence
  sequence_ranged r span h s =
      (sequenced_ranged r.value _ h.0 (unless_ranged _ _ (h.2, omega (arith, h.1, k.few_places), s, innermost_ranged r.value h.0, tt)), h.2, s)

  -- ---- the stack: a continue names the fallthrough of an entry

  abbrev Entries : List Entry → Type 0
  Entries [] = Unit {0}
  Entries (e ∷ s) = (target_block e.target < nb) × Entries s

  unfoldable Stacked : Context → Type 0
  Stacked c = Entries c.stack

  start_stacked : Stacked start
  unfolding Stacked start
  start_stacked = tt

  module _ (c : Context) (s : Stacked c) where
    emit_stacked : (b v : ℕ) → Stacked (emit b (with_visits v c))
    unfolding Stacked emit with_visits
    emit_stacked b v = s

    visits_stacked : (v : ℕ) → Stacked (with_visits v c)
    unfolding Stacked with_visits
    visits_stacked v = s

    handler_stacked : (b : ℕ) → Stacked (schedule_catch_handler b c)
    unfolding Stacked schedule_catch_handler
    handler_stacked b = s

    mark_stacked : (g : Option ℕ) → Stacked (mark_scope_fallthrough_if g c)
    unfolding Stacked mark_scope_fallthrough_if mark_scope_fallthrough
    mark_stacked none = s
    mark_stacked (some f) = s

    schedule_good : (x : ControlFlowTarget) → target_block x < nb → Good Stacked (schedule x c)
    unfolding Stacked schedule pushed
    schedule_good x h = good_unless Stacked _ (blocked_code x) _ c.visits _ (λ _. (h, s))

    if_good : (g : Option ℕ) → Below nb g → Good Stacked (schedule_if g c)
    unfolding schedule_if
    if_good none h = s
    if_good (some f) h = schedule_good (target_if f) h

    switch_good : (g : Option ℕ) → Below nb g → Good Stacked (schedule_switch g c)
    unfolding schedule_switch
    switch_good none h = s
    switch_good (some f) h = schedule_good (target_switch f) h

    top_good : (es : List Entry) (i : ℕ) → Entries es → Good Stacked (unschedule_top es i c)
    unfolding unschedule_top popped Stacked
    top_good [] i h = tt
    top_good (e ∷ es) i h = good_pick Stacked (eqb e.id i) _ (refused 91 0 c.visits) h.1 tt

    unschedule_good : (i : ℕ) → Good Stacked (unschedule i c)
    unfolding unschedule Stacked
    unschedule_good i = top_good c.stack i s

    unschedule_if_good : (g : Option ℕ) (i : ℕ) → Good Stacked (unschedule_if g i c)
    unfolding unschedule_if
    unschedule_if_good none i = s
    unschedule_if_good (some f) i = unschedule_good i

    -- ---- jumps

    abbrev Found : Option Resolution → Type 0
    Found none = Unit {0}
    Found (some r) = r.target < nb

    found_pick : (y : Bool) (r : Resolution) (o : Option Resolution) → r.target < nb → Found o → Found (elim y [ true ↦ some r | false ↦ o ])
    found_pick true r o p q = p
    found_pick false r o p q = q

    break_from : (es : List Entry) (b : ℕ) (top : Bool) (above : ℕ) → b < nb → Found (break_target_from es b top above)
    unfolding break_target_from
    break_from [] b top above h = tt
    break_from (e ∷ es) b top above h = found_pick (eqb (target_block e.target) b) _ _ h (break_from es b false (loops_of e.target + above) h)

    continue_from : (es : List Entry) (b : ℕ) (top : Bool) (above : ℕ) → Entries es → Found (continue_target_from es b top above)
    unfolding continue_target_from
    continue_from [] b top above h = tt
    continue_from (e ∷ es) b top above h = found_pick (continues_at e.target b) _ _ h.0 (continue_from es b false (loops_of e.target + above) h.1)

    abbrev RO : Option Statement → Type 0
    RO none = Unit {0}
    RO (some z) = RangedStatement z

    scope_good : (d : Kind) (at v : ℕ) → Good RO (break_to_scope d at v)
    unfolding break_to_scope
    scope_good implicit at v = tt
    scope_good labeled at v = tt
    scope_good unlabeled at v = tt

    resolved_good : (o : Around) (at b id : ℕ) (found : Option Resolution) → Found found → id ≤ 65535 → Good RO (break_resolved o at b id c found)
    unfolding break_resolved
    resolved_good o at b id none h i = tt
    resolved_good o at b id (some r) h i =
        good_pick RO (has c.scope_fallthroughs r.target) _ _ (scope_good r.kind at c.visits)
        (good_unless RO _ 29 at c.visits _ (λ _. (omega (arith, h, k.few_blocks), i)))

    break_good : (o : Around) (at b id : ℕ) → b < nb → id ≤ 65535 → Good RO (visit_break o at b id c)
    unfolding visit_break get_break_target
    break_good o at b id h i = resolved_good o at b id (get_break_target c b) (break_from c.stack b true 0 h) i

    continued_good : (o : Around) (at b id : ℕ) (found : Option Resolution) → Found found → id ≤ 65535 → Good RangedStatement (continue_resolved o at b id c found)
    unfolding continue_resolved
    continued_good o at b id none h i = tt
    continued_good o at b id (some r) h i = good_unless RangedStatement _ 29 at c.visits _ (λ _. (omega (arith, h, k.few_blocks), i))

    continue_good : (o : Around) (at b id : ℕ) → id ≤ 65535 → Good RangedStatement (visit_continue o at b id c)
    unfolding visit_continue get_continue_target Stacked
    continue_good o at b id i = continued_good o at b id (get_continue_target c b) (continue_from c.stack b true 0 s) i

    goto_good : (o : Around) (w : Variant) (at b id : ℕ) → b < nb → id ≤ 65535 → Good (λ r. RO r.statement × Stacked r.context) (visit_goto o w at b id c)
    unfolding visit_goto
    goto_good o Break at b id h i = good_bind RO (λ r. RO r.statement × Stacked r.context) _ _ (break_good o at b id h i) (λ z q. (q, s))
    goto_good o Continue at b id h i = good_bind RangedStatement (λ r. RO r.statement × Stacked r.context) _ _ (continue_good o at b id i) (λ z q. (q, s))
    goto_good o Try at b id h i = (tt, s)

  -- ---- cases, last first

  cased_take : (n : ℕ) (l : List Case) → Cased nb l → Cased nb (take n l)
  cased_take zero l h = tt
  cased_take (suc n) [] h = tt
  cased_take (suc n) (x ∷ l) h = (h.0, h.1, cased_take n l h.2)

  cased_drop : (n : ℕ) (l : List Case) → Cased nb l → Cased nb (drop n l)
  cased_drop zero l h = h
  cased_drop (suc n) [] h = tt
  cased_drop (suc n) (x ∷ l) h = cased_drop n l h.2

  cased_reverse : (l r : List Case) → Cased nb l → Cased nb r → Cased nb (reverse_aux l r)
  cased_reverse [] r h q = q
  cased_reverse (x ∷ l) r h q = cased_reverse l (x ∷ r) h.2 (h.0, h.1, q)

  last_first : (i n : ℕ) → Cased nb (cases_last_first t i n)
  unfolding cases_last_first
  last_first i n = cased_reverse (take n (drop i t.cases)) [] (cased_take n (drop i t.cases) (cased_drop i t.cases k.cased)) tt

  -- ---- labels

  taken_below : (c : Context) (f : ℕ) → f < nb → Below nb (unless_scheduled c f)
  unfolding unless_scheduled
  taken_below c f h = by (is_scheduled c f)
    where
      by : (y : Bool) → Below nb (elim y [ true ↦ none | false ↦ some f ])
      by true = tt
      by false = h

  reachable_below : (c : Context) (f : ℕ) → f < nb → Good (Below nb) (unless_unreachable t c f)
  unfolding unless_unreachable
  reachable_below c f h = good_unless (Below nb) _ 10 f c.visits _ (λ _. by (is_unreachable (terminal_at t f)))
    where
      by : (y : Bool) → Below nb (elim y [ true ↦ none | false ↦ unless_scheduled c f ])
      by true = tt
      by false = taken_below c f h

  label_below : (g : Option ℕ) → Below nb g → Below 1024 g
  label_below none h = tt
  label_below (some f) h = omega (arith, h, k.few_blocks)

  binding_below : (n : Option ℕ) → BelowUnlessNone np n → Below 4096 n
  binding_below none h = tt
  binding_below (some n) h = omega (arith, h, k.few_places)

  -- ---- statements

  abbrev SB : BlockResult → Type 0
  SB r = RangedStatements r.statements × Stacked r.context

  abbrev ST : TerminalResult → Type 0
  ST r = RO start start_stacked r.statement × Stacked r.context

  unfoldable WalkRanged : TraverseBlock → Type 0
  WalkRanged inner = (b : ℕ) (c : Context) → Stacked c → Good SB (inner b c)

  followed_ranged : (z : Option Statement) (more : Statements) → RO start start_stacked z → RangedStatements more → RangedStatements (followed_by z more)
  followed_ranged none more h q = q
  followed_ranged (some z) more h q = (h, q)

  abbrev SA : AlternateResult → Type 0
  SA r = RangedStatements r.statements × Stacked r.context

  abbrev SC : CasesResult → Type 0
  SC r = RangedCases r.cases × Stacked r.context

  all_good : (ids : List ℕ) (c : Context) → Stacked c → Good Stacked (unschedule_all ids c)
  unfolding unschedule_all
  all_good [] c s = s
  all_good (i ∷ ids) c s = good_bind Stacked Stacked _ _ (unschedule_good c s i) (λ c₁ s₁. all_good ids c₁ s₁)

  module _ (visit : VisitValueBlock) (vr : VisitRanged visit) where
    value_good : (b : ℕ) (f : Option ℕ) (span : Span) (v : ℕ) → Spanned span → Good VB (visit b f span v)
    unfolding VisitRanged
    value_good b f span v h = vr b f span v h

    update_good : (u : Option ℕ) (span : Span) (v : ℕ) → Spanned span → Good (λ r. RangedUpdate r.value) (visit_update visit u span v)
    unfolding visit_update
    update_good none span v h = tt
    update_good (some u) span v h = good_bind VB (λ r. RangedUpdate r.value) _ _ (value_good u none span v h) (λ r q. q.0)

    statement_good : (x : Terminal) (at : ℕ) (f : ℕ) (c : Context) → Stacked c → InRange nb np nc x → f < nb → Good ST (visit_value_statement t visit x at (block_at t at) f c)
    unfolding visit_value_statement
    statement_good x at f c s r h =
        good_bind Stacked ST _ _ (if_good c s (unless_scheduled c f) (taken_below c f h)) (λ c₁ s₁.
        good_bind VT ST _ _ (end_good visit vr x (block_at t at).id (block_at t at).span c₁.visits at r (k.id at) (k.span at)) (λ q p.
        good_bind Stacked ST _ _ (unschedule_if_good (with_visits q.visits c₁) (visits_stacked c₁ s₁ q.visits) (unless_scheduled c f) c.next_id) (λ c₂ s₂.
        ((p.2, omega (arith, p.1, k.few_places), k.span at, p.0), s₂))))

  module _ (inner : TraverseBlock) (wr : WalkRanged inner) where
    walk_good : (b : ℕ) (c : Context) → Stacked c → Good SB (inner b c)
    unfolding WalkRanged
    walk_good b c s = wr b c s

    unscheduled_good : (b code at : ℕ) (c : Context) → Stacked c → Good SB (traverse_unscheduled inner b code at c)
    unfolding traverse_unscheduled
    unscheduled_good b code at c s = good_unless SB _ code at c.visits _ (λ _. walk_good b c s)

    alternate_good : (a f : ℕ) (c : Context) → Stacked c → Good SA (traverse_alternate inner a f c)
    unfolding traverse_alternate
    alternate_good a f c s = good_pick SA (eqb a f) _ _ (tt, s) (good_bind SB SA _ _ (unscheduled_good a 13 a c s) (λ r h. h))

    consequent_good : (o : Around) (at y i : ℕ) (c : Context) → Stacked c → y < nb → i ≤ 65535 → Good SB (traverse_consequent o inner at y i c)
    unfolding traverse_consequent
    consequent_good o at y i c s h q =
        good_pick SB (is_scheduled c y) _ _ (good_bind (RO start start_stacked) SB _ _ (break_good c s o at y i h q) (λ z p. (followed_ranged z done p tt, s))) (walk_good y c s)

    enclosed_good : (b code at : ℕ) (g : Option ℕ) (c c₁ : Context) (make : Statements → Statement) → Stacked c₁ → ((z : Statements) → RangedStatements z → RangedStatement (make z))
        → Good ST (traverse_enclosed inner b code at g c c₁ make)
    unfolding traverse_enclosed
    enclosed_good b code at g c c₁ make s mk =
        good_bind SB ST _ _ (unscheduled_good b code at c₁ s) (λ r h. good_bind Stacked ST _ _ (unschedule_if_good r.context h.1 g c.next_id) (λ c₂ s₂. (mk r.statements h.0, s₂)))

    body_good : (at l : ℕ) (y : Bool) (v i : ℕ) (c : Context) (g : Option ℕ) (make : Statements → Statement) → Stacked c → ((z : Statements) → RangedStatements z → RangedStatement (make z))
        → Good ST (traverse_loop inner at l y v i c g make)
    unfolding traverse_loop
    body_good at l y v i c g make s mk =
        good_unless ST y 16 at v _ (λ _.
        good_bind SB ST _ _ (walk_good l (with_visits v c) (visits_stacked c s v)) (λ r h. good_bind Stacked ST _ _ (unschedule_good r.context h.1 i) (λ c₂ s₂. (mk r.statements h.0, s₂))))

    cases_good : (at f : ℕ) (ks : List Case) (ids : List ℕ) (c : Context) → Stacked c → Cased nb ks → Good SC (traverse_cases inner at f ks ids c)
    unfolding traverse_cases
    cases_good at f [] ids c s h = (tt, s)
    cases_good at f (x ∷ ks) ids c s h =
        good_pick SC (is_scheduled c x.block) _ _ (good_unless SC _ 14 at c.visits _ (λ _. cases_good at f ks ids c s h.2))
        (good_bind SB SC _ _ (walk_good x.block c s) (λ r q.
        good_bind Stacked SC _ _ (schedule_good r.context q.1 (target_case x.block) h.1) (λ c₁ s₁.
        good_bind SC SC _ _ (cases_good at f ks (r.context.next_id ∷ ids) c₁ s₁ h.2) (λ z p. ((h.0, q.0, p.0), p.1)))))

  module _ (visit : VisitValueBlock) (vr : VisitRanged visit) (inner : TraverseInside) (wr : (o : Around) → WalkRanged (inner o)) where
    terminal_good : (o : Around) (x : Terminal) (at : ℕ) (c : Context) → Stacked c → InRange nb np nc x → Good ST (visit_terminal t visit inner o x at (block_at t at) c)
    unfolding visit_terminal
    terminal_good o absent at c s r = tt
    terminal_good o unreachable at c s r = (tt, s)
    terminal_good o (throw v) at c s r = ((omega (arith, r, k.few_places), k.id at), s)
    terminal_good o (return v) at c s r = ((omega (arith, r, k.few_places), k.id at), s)
    terminal_good o (goto b w) at c s r = goto_good c s o w at b (block_at t at).id r (k.id at)
    terminal_good o (if x y a f) at c s r =
        good_bind (Below nb) ST _ _ (reachable_below c f r.3) (λ g l.
        good_bind Stacked ST _ _ (if_good c s g l) (λ c₁ s₁.
        good_bind SB ST _ _ (unscheduled_good _ (wr _) y 12 y c₁ s₁) (λ p h.
        good_bind SA ST _ _ (alternate_good _ (wr _) a f p.context h.1) (λ z q.
        good_bind Stacked ST _ _ (unschedule_if_good z.context q.1 g c.next_id) (λ c₂ s₂. ((omega (arith, r.0, k.few_places), k.id at, label_below g l, h.0, q.0), s₂))))))
    terminal_good o (branch x y a) at c s r =
        good_bind SB ST _ _ (consequent_good _ (wr _) o at y (block_at t at).id c s r.1 (k.id at)) (λ p h.
        good_bind SB ST _ _ (unscheduled_good _ (wr _) a 19 at p.context h.1) (λ z q. ((omega (arith, r.0, k.few_places), k.id at, tt, h.0, q.0), q.1)))
    terminal_good o (switch x i n f) at c s r =
        good_bind (Below nb) ST _ _ (reachable_below c f r.2) (λ g l.
        good_bind Stacked ST _ _ (switch_good c s g l) (λ c₁ s₁.
        good_bind SC ST _ _ (cases_good _ (wr _) at f (cases_last_first t i n) (schedule_ids g c.next_id) c₁ s₁ (last_first i n)) (λ p h.
        good_bind Stacked ST _ _ (all_good p.ids p.context h.1) (λ c₂ s₂. ((omega (arith, r.0, k.few_places), k.id at, label_below g l, h.0), s₂)))))
    terminal_good o (do_while l x f) at c s r =
        good_bind Stacked ST _ _ (schedule_good c s (target_loop f x l) r.2) (λ c₁ s₁.
        good_unless ST _ 16 at c₁.visits _ (λ _.
        good_bind SB ST _ _ (walk_good _ (wr _) l c₁ s₁) (λ p h.
        good_bind VB ST _ _ (value_good visit vr x none (block_at t at).span p.context.visits (k.span at)) (λ v q.
        good_bind Stacked ST _ _ (unschedule_good (with_visits v.visits p.context) (visits_stacked p.context h.1 v.visits) c.next_id) (λ c₂ s₂.
        ((k.id at, label_below (unless_scheduled c f) (taken_below c f r.2), h.0, q.0), s₂))))))
    terminal_good o (while x l f) at c s r =
        good_bind (Below nb) ST _ _ (reachable_below c f r.2) (λ g z.
        good_bind Stacked ST _ _ (schedule_good c s (target_loop f x l) r.2) (λ c₁ s₁.
        good_bind VB ST _ _ (value_good visit vr x none (block_at t at).span c₁.visits (k.span at)) (λ v q.
        body_good _ (wr _) at l _ v.visits c.next_id c₁ g _ s₁ (λ b h. (k.id at, label_below g z, q.0, h)))))
    terminal_good o (for i x u l f) at c s r =
        good_bind Stacked ST _ _ (schedule_good c s (target_loop f (continue_block_of u x) l) r.4) (λ c₁ s₁.
        good_bind VB ST _ _ (value_good visit vr i none (block_at t at).span c₁.visits (k.span at)) (λ n p.
        good_bind VB ST _ _ (value_good visit vr x none (block_at t at).span n.visits (k.span at)) (λ v q.
        good_bind (λ r. RangedUpdate r.value) ST _ _ (update_good visit vr u (block_at t at).span v.visits (k.span at)) (λ w z.
        body_good _ (wr _) at l _ w.visits c.next_id c₁ _ _ s₁
        (λ b h. (k.id at, label_below (unless_scheduled c f) (taken_below c f r.4), sequence_ranged n (block_at t at).span p (k.span at), q.0, z, h))))))
    terminal_good o (for_of i x l f) at c s r =
        good_bind Stacked ST _ _ (schedule_good c s (target_loop f i l) r.3) (λ c₁ s₁.
        good_bind VB ST _ _ (value_good visit vr i none (block_at t at).span c₁.visits (k.span at)) (λ n p.
        good_bind VB ST _ _ (value_good visit vr x none (block_at t at).span n.visits (k.span at)) (λ v q.
        body_good _ (wr _) at l _ v.visits c.next_id c₁ _ _ s₁
        (λ b h. (
          k.id at,
          label_below (unless_scheduled c f) (taken_below c f r.3),
          k.span at,
          sequence_ranged n (block_at t at).span p (k.span at),
          sequence_ranged v (block_at t at).span q (k.span at),
          h,
        )))))
    terminal_good o (for_in i l f) at c s r =
        good_bind Stacked ST _ _ (schedule_good c s (target_loop f i l) r.2) (λ c₁ s₁.
        good_bind VB ST _ _ (value_good visit vr i none (block_at t at).span c₁.visits (k.span at)) (λ n p.
        body_good _ (wr _) at l _ n.visits c.next_id c₁ _ _ s₁
        (λ b h. (k.id at, label_below (unless_scheduled c f) (taken_below c f r.2), k.span at, sequence_ranged n (block_at t at).span p (k.span at), h))))
    terminal_good o (logical p x f) at c s r = statement_good visit vr (logical p x f) at f c s r r.2
    terminal_good o (ternary x f) at c s r = statement_good visit vr (ternary x f) at f c s r r.1
    terminal_good o (optional g x f) at c s r = statement_good visit vr (optional g x f) at f c s r r.2
    terminal_good o (label x f) at c s r =
        good_bind (Below nb) ST _ _ (reachable_below c f r.1) (λ g l.
        good_bind Stacked ST _ _ (if_good c s g l) (λ c₁ s₁. enclosed_good _ (wr _) x 17 at g c c₁ _ s₁ (λ z h. (k.id at, label_below g l, h))))
    terminal_good o (sequence x f) at c s r = statement_good visit vr (sequence x f) at f c s r r.1
    terminal_good o (maybe_throw x) at c s r = (tt, s)
    terminal_good o (try x y f n) at c s r =
        good_bind (Below nb) ST _ _ (reachable_below c f r.2) (λ g l.
        good_bind Stacked ST _ _ (if_good c s g l) (λ c₁ s₁.
        good_bind SB ST _ _ (walk_good _ (wr _) x (schedule_catch_handler y c₁) (handler_stacked c₁ s₁ y)) (λ p h.
        good_bind SB ST _ _ (walk_good _ (wr _) y p.context h.1) (λ z q.
        good_bind Stacked ST _ _ (unschedule_if_good z.context q.1 g c.next_id) (λ c₂ s₂. ((k.id at, label_below g l, binding_below n r.3, h.0, q.0), s₂))))))
    terminal_good o (scope p x f n) at c s r =
        good_bind Stacked ST _ _ (if_good c s (unless_scheduled c f) (taken_below c f r.1)) (λ c₁ s₁.
        enclosed_good _ (wr _) x 18 at (unless_scheduled c f) c _ _ (mark_stacked c₁ s₁ (unless_scheduled c f)) (λ z h. (r.2, h)))

  -- ---- blocks

  statements_ranged : (rs : List ℕ) (more : Statements) → Rows rs → RangedStatements more → RangedStatements (instruction_statements t rs more)
  unfolding instruction_statements
  statements_ranged [] more h q = q
  statements_ranged (r ∷ rs) more h q =
      ((k.instruction_id r h.0, omega (arith, k.lvalue r h.0, k.few_places), k.instruction_span r h.0, omega (arith, h.0, k.few_instructions)), statements_ranged rs more h.1 q)

  next_good : (at : ℕ) (again : TraverseBlock) (z : Option Statement) (n : Option ℕ) (c : Context) → WalkRanged again → RO start start_stacked z → Stacked c → Good SB (then_next t at again z n c)
  unfolding then_next WalkRanged
  next_good at again z none c w h s = (statements_ranged (instruction_rows_at t at) (followed_by z done) (rows_of at) (followed_ranged z done h tt), s)
  next_good at again z (some n) c w h s =
      good_bind SB SB _ _ (w n c s) (λ r q. (statements_ranged (instruction_rows_at t at) (followed_by z r.statements) (rows_of at) (followed_ranged z r.statements h q.0), q.1))

  enter_good : (b : ℕ) (c : Context) → Stacked c → Good Stacked (enter_block t b c)
  unfolding enter_block
  enter_good b c s = good_bind Any Stacked _ _ (good_any (begin_visit t b c.visits)) (λ v _. good_unless Stacked _ 11 b v _ (λ _. emit_stacked c s b v))

  visit_block_ranged : (visit : VisitValueBlock) → VisitRanged visit → (inner : TraverseInside) → ((o : Around) → WalkRanged (inner o)) → (o : Around) (n : ℕ)
      → WalkRanged (visit_block t visit inner o n)
  unfolding visit_block WalkRanged
  visit_block_ranged visit vr inner wr o zero b c s = tt
  visit_block_ranged visit vr inner wr o (suc n) b c s =
      good_bind Stacked SB _ _ (enter_good b c s) (λ c₁ s₁.
      good_bind ST SB _ _ (terminal_good visit vr inner wr o (terminal_at t b) b c₁ s₁ (k.ends b)) (λ r h.
      next_good b (visit_block t visit inner o n) r.statement r.next r.context (visit_block_ranged visit vr inner wr o n) h.0 h.1))

  walk_ranged : (d : ℕ) (o : Around) → WalkRanged (traverse_block t d o)
  unfolding traverse_block WalkRanged
  walk_ranged zero o b c s = tt
  walk_ranged (suc d) o b c s = visit_block_ranged (visit_value_block t d) (visit_ranged d) (traverse_block t d) (walk_ranged d) o 8193 b c s

  pub tree_ranged : (rule : Rule) (r : BlockResult) → build_tree rule t ≡ ok r → RangedStatements r.statements
  unfolding build_tree WalkRanged
  tree_ranged rule r e = (subst (λ (z : Result BlockResult). Good SB z) e (walk_ranged 128 (outermost rule) t.entry start start_stacked)).0
