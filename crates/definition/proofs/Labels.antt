-- Over any table: in the tree that the build makes, the number of a jump counts the loops around it up to the statement that it was resolved on, and a jump
-- to a loop is Labeled by the first rule exactly when that number is above 0; and in the tree of the language entry every Labeled jump names a label around
-- it, and an Unlabeled break stands directly in its loop. For the reader: a printer may write Unlabeled as a bare break and Labeled with its label.
-- The walk keeps `Matched`: the control stack is that of the statements around.
use mathlib.Core.Path.{◌≡◌, refl, sym, ap, ◌∙◌, subst}
use Prim.Native.Nat.{ℕ, zero, suc, ◌+◌}
use native.Mathlib.Nat.{zero-add, add-zero}
use native.Mathlib.Omega.{arith}
use mathlib.Core.List.{List, [], ◌∷◌}
use mathlib.Core.Option.{Option, none, some}
use mathlib.Core.Bool.{Bool, true, false, not}
use lib.Dec.{eqb}
use borrow.Author.Tests.{eqb-true, eq-eqb}
use Rattle.table.specs.Table.{Table, Block, Case, Terminal, absent, unreachable, throw, return, goto, if, branch, switch, do_while, while, for, for_of, for_in}
use Rattle.table.specs.Table.{logical, ternary, optional, label, sequence, maybe_throw, try, scope, Variant, Break, Continue, Try, block_at, terminal_at}
use Rattle.table.specs.Table.{instruction_rows_at, is_absent, is_unreachable}
use Rattle.definition.specs.Tree.{Kind, implicit, labeled, unlabeled, Statement, WHILE, LABEL, SCOPE, Statements, done}
use Rattle.definition.specs.Around.{Rule, rust, language, Enclosing, a_loop, a_switch, another, Around, outermost, within, is_switch_inside, kind_by}
use Rattle.definition.specs.Around.{break_kind_in, is_label, names_statement, names_loop, unnamed, break_unnamed, continue_unnamed}
use Rattle.definition.specs.Named.{BreakNamed, ContinueNamed, InLanguage, LabelOr, VeryLoop, NamedStatement, Named, NamedCases}
use Rattle.definition.specs.Named.{Landing, on_a_loop, on_another, OtherLabel, Lands, this_loop, this_switch, this_statement, a_later_case}
use Rattle.definition.specs.Named.{inside_a_loop, inside_a_switch, inside_another, LandedKind, BreakLanded, ContinueLanded}
use Rattle.definition.specs.Result.{Result, ok, refused}
use Rattle.definition.specs.Context.{has, ControlFlowTarget, target_block, continues_at, is_loop, loops_of, target_if, target_switch, target_case, target_loop, Entry, Context, start}
use Rattle.definition.specs.Context.{is_scheduled, with_visits, mark_scope_fallthrough, schedule_catch_handler, pushed, blocked_code, block_asked, schedule}
use Rattle.definition.specs.Context.{unschedule, Resolution, break_kind, break_target_from, get_break_target, continue_kind, continue_target_from, get_continue_target}
use Rattle.definition.specs.Value.{VisitValueBlock, visit_value_block_terminal, visit_value_block}
use Rattle.definition.specs.Statement.{BlockResult, TerminalResult, TraverseBlock, TraverseInside, enter_block, unless_scheduled, unless_unreachable}
use Rattle.definition.specs.Statement.{schedule_if, schedule_switch, unschedule_if, mark_scope_fallthrough_if, break_to_scope, break_resolved, visit_break}
use Rattle.definition.specs.Statement.{continue_resolved, visit_continue, visit_goto, traverse_unscheduled, AlternateResult, traverse_alternate}
use Rattle.definition.specs.Statement.{traverse_consequent, traverse_enclosed, traverse_loop, continue_block_of, visit_update, cases_last_first, CasesResult}
use Rattle.definition.specs.Statement.{traverse_cases, unschedule_all, schedule_ids, visit_value_statement, visit_terminal, instruction_statements, followed_by}
use Rattle.definition.specs.Statement.{then_next, visit_block, traverse_block, build_tree}
use Rattle.definition.proofs.Steps.{true_false, none_some, some_eq, Any, Good, good_bind, good_unless, good_pick, good_any, Fine, fine_good}
use Rattle.definition.proofs.ValueWalk.{VisitTook, value_took}
use Rattle.definition.proofs.Never.{After, StepAfter, WalkFine, enter_fine, terminal_fine, walk_fine}
use Rattle.definition.proofs.Formed.{good_both}

-- ---- the stack is that of the statements around

-- a statement that took its fallthrough has its entry, a loop always; a scope may have one; and above a switch stand the cases built
pub data Matched : List Enclosing → List Entry → Type 0 where
  nothing_built : Matched [] []
  untaken_built : {E : List Enclosing} {S : List Entry} → Matched E S → Matched (another none ∷ E) S
  another_built : {E : List Enclosing} {S : List Entry} (i f : ℕ) (owns : Bool) (l : Option ℕ) → LabelOr l f → Matched E S
      → Matched (another l ∷ E) (record { id = i; target = target_if f; owns_loop = owns } ∷ S)
  untaken_switch : {E : List Enclosing} {S : List Entry} → Matched E S → Matched (a_switch none ∷ E) S
  switch_built : {E : List Enclosing} {S : List Entry} (i f : ℕ) (owns : Bool) → Matched E S
      → Matched (a_switch (some f) ∷ E) (record { id = i; target = target_switch f; owns_loop = owns } ∷ S)
  case_built_lem : {E : List Enclosing} {S : List Entry} (i g : ℕ) (owns : Bool) (l : Option ℕ) → Matched (a_switch l ∷ E) S
      → Matched (a_switch l ∷ E) (record { id = i; target = target_case g; owns_loop = owns } ∷ S)
  loop_built : {E : List Enclosing} {S : List Entry} (i f k m : ℕ) (owns : Bool) (l : Option ℕ) → LabelOr l f → Matched E S
      → Matched (a_loop l ∷ E) (record { id = i; target = target_loop f k m; owns_loop = owns } ∷ S)

-- a continue that finds a loop on the stack, with n loops above already
record Very (E : List Enclosing) (n : ℕ) (r : Resolution) : Type 0 where
  more : ℕ
  number : r.loops ≡ n + more
  loop : VeryLoop E more r.target

very_lower : {E : List Enclosing} {n : ℕ} {r : Resolution} → Very E (0 + n) r → Very E n r
very_lower v = record { more = v.more; number = omega (arith, v.number); loop = v.loop }

-- past a statement that is no loop
very_past : {E : List Enclosing} {n : ℕ} {r : Resolution} (x : Enclosing) → ((m t : ℕ) → VeryLoop E m t → VeryLoop (x ∷ E) m t) → Very E n r → Very (x ∷ E) n r
very_past x over v = record { more = v.more; number = v.number; loop = over v.more _ v.loop }

very_from : {E : List Enclosing} {S : List Entry} → Matched E S → (g : ℕ) (top : Bool) (n : ℕ) (r : Resolution) → continue_target_from S g top n ≡ some r → Very E n r
unfolding continue_target_from
very_from nothing_built g top n r e = absurd (none_some e)
very_from (untaken_built p) g top n r e = very_past (another none) (λ m t h. h) (very_from p g top n r e)
very_from (another_built i f owns l u p) g top n r e = very_past (another l) (λ m t h. h) (very_lower (very_from p g false (0 + n) r e))
very_from (untaken_switch p) g top n r e = very_past (a_switch none) (λ m t h. h) (very_from p g top n r e)
very_from (switch_built i f owns p) g top n r e = very_past (a_switch (some f)) (λ m t h. h) (very_lower (very_from p g false (0 + n) r e))
very_from (case_built_lem i b owns l p) g top n r e = very_lower (very_from p g false (0 + n) r e)
very_from (loop_built {E} {S} i f k m owns l h p) g top n r e = at (eqb k g) e (λ q. very_from p g false (1 + n) r q)
  where
    at : (y : Bool) → elim y [ true ↦ some (record { target = f; kind = continue_kind top n; loops = n }) | false ↦ continue_target_from S g false (1 + n) ] ≡ some r
        → (continue_target_from S g false (1 + n) ≡ some r → Very E (1 + n) r) → Very (a_loop l ∷ E) n r
    at true e again = record {
      more = 0;
      number = sym (ap (λ (z : Resolution). z.loops) (some_eq e)) ∙ sym (add-zero n);
      loop = subst (λ (z : ℕ). LabelOr l z) (ap (λ (z : Resolution). z.target) (some_eq e)) h;
    }
    at false e again = let v : Very E (1 + n) r = again e in record { more = suc v.more; number = omega (arith, v.number); loop = v.loop }

very_loop : {E : List Enclosing} (c : Context) (g : ℕ) (r : Resolution) → Matched E c.stack → get_continue_target c g ≡ some r → VeryLoop E r.loops r.target
unfolding get_continue_target
very_loop {E} c g r p e =
    let v : Very E 0 r = very_from p g true 0 r e in
    subst (λ (n : ℕ). VeryLoop E n r.target) (sym (v.number ∙ zero-add v.more)) v.loop

-- ---- where a break lands, with n loops above already

record Landed (E : List Enclosing) (n : ℕ) (r : Resolution) : Type 0 where
  landing : Landing
  more : ℕ
  number : r.loops ≡ n + more
  lands : Lands landing E more r.target
  landed : LandedKind landing r.loops r.kind

landed_lower : {E : List Enclosing} {n : ℕ} {r : Resolution} → Landed E (0 + n) r → Landed E n r
landed_lower v = record { landing = v.landing; more = v.more; number = omega (arith, v.number); lands = v.lands; landed = v.landed }

landed_past : {E D : List Enclosing} {n : ℕ} {r : Resolution} → ((landing : Landing) (m t : ℕ) → r.target ≡ t → Lands landing E m t → Lands landing D m t) → Landed E n r → Landed D n r
landed_past over v = record { landing = v.landing; more = v.more; number = v.number; lands = over v.landing v.more _ refl v.lands; landed = v.landed }

-- the kind on a loop, and on another entry
loop_kind : (top : Bool) (n : ℕ) → LandedKind on_a_loop n (break_kind true top n)
unfolding break_kind
loop_kind top zero = refl
loop_kind top (suc n) = refl

other_kind : (top : Bool) (n : ℕ) → LandedKind on_another n (break_kind false top n)
unfolding break_kind
other_kind true n e = let z : ◌≡◌ {A = ℕ} 0 1 = cc in omega arith
other_kind false n e = let z : ◌≡◌ {A = ℕ} 0 1 = cc in omega arith

-- the label of an entry passed over is another
other_label : (l : Option ℕ) (f g : ℕ) → LabelOr l f → eqb f g ≡ false → OtherLabel l g
other_label none f g h e = tt
other_label (some k) f g h e = λ q. true_false (sym (eq-eqb f g (sym h ∙ q)) ∙ e)

-- a break's target is the block asked for
target_is : (S : List Entry) (g : ℕ) (top : Bool) (n : ℕ) (r : Resolution) → break_target_from S g top n ≡ some r → r.target ≡ g
unfolding break_target_from
target_is [] g top n r e = absurd (none_some e)
target_is (x ∷ S) g top n r e = at (eqb (target_block x.target) g) e (λ q. target_is S g false (loops_of x.target + n) r q)
  where
    at : (y : Bool) → elim y [
      | true ↦ some (record { target = g; kind = break_kind (is_loop x.target) top n; loops = n })
      | false ↦ break_target_from S g false (loops_of x.target + n)
    ] ≡ some r → (break_target_from S g false (loops_of x.target + n) ≡ some r → r.target ≡ g) → r.target ≡ g
    at true e again = sym (ap (λ (z : Resolution). z.target) (some_eq e))
    at false e again = again e

-- found here
landed_here : {E : List Enclosing} (landing : Landing) (g n : ℕ) (k : Kind) (r : Resolution) → LandedKind landing n k → Lands landing E 0 g
    → record { target = g; kind = k; loops = n } ≡ r → Landed E n r
landed_here {E} landing g n k r h l e = subst (λ (z : Resolution). Landed E n z) e (record { landing = landing; more = 0; number = sym (add-zero n); lands = l; landed = h })

module _ (g : ℕ) where
  -- an entry that does not fit is passed over
  abbrev Step : (x : Entry) (S : List Entry) (top : Bool) (n : ℕ) (r : Resolution) → Bool → Type 0
  Step x S top n r y = elim y [
    | true ↦ some (record { target = g; kind = break_kind (is_loop x.target) top n; loops = n })
    | false ↦ break_target_from S g false (loops_of x.target + n)
  ] ≡ some r

  landed_from : {E : List Enclosing} {S : List Entry} → Matched E S → (top : Bool) (n : ℕ) (r : Resolution) → break_target_from S g top n ≡ some r → Landed E n r
  unfolding break_target_from
  landed_from nothing_built top n r e = absurd (none_some e)
  landed_from (untaken_built p) top n r e = landed_past (λ _ _ _ _ l. inside_another none tt l) (landed_from p top n r e)
  landed_from (another_built {E} {S} i f owns l u p) top n r e = at (eqb f g) refl e (λ q. landed_from p false (0 + n) r q)
    where
      at : (y : Bool) → eqb f g ≡ y → Step (record { id = i; target = target_if f; owns_loop = owns }) S top n r y
          → (break_target_from S g false (0 + n) ≡ some r → Landed E (0 + n) r) → Landed (another l ∷ E) n r
      at true q e again = landed_here on_another g n (break_kind false top n) r (other_kind top n) (this_statement l g (subst (LabelOr l) (eqb-true f g q) u)) (some_eq e)
      at false q e again =
          landed_past (λ _ _ t h k. inside_another l (subst (OtherLabel l) (sym (target_is S g false (0 + n) r e) ∙ h) (other_label l f g u q)) k) (landed_lower (again e))
  landed_from (untaken_switch p) top n r e = landed_past (λ _ _ _ _ l. inside_a_switch none tt l) (landed_from p top n r e)
  landed_from (switch_built {E} {S} i f owns p) top n r e = at (eqb f g) refl e (λ q. landed_from p false (0 + n) r q)
    where
      at : (y : Bool) → eqb f g ≡ y → Step (record { id = i; target = target_switch f; owns_loop = owns }) S top n r y
          → (break_target_from S g false (0 + n) ≡ some r → Landed E (0 + n) r) → Landed (a_switch (some f) ∷ E) n r
      at true q e again = landed_here on_another g n (break_kind false top n) r (other_kind top n)
          (subst (λ (z : ℕ). Lands on_another (a_switch (some z) ∷ E) 0 g) (sym (eqb-true f g q)) (this_switch g)) (some_eq e)
      at false q e again =
          landed_past (λ _ _ t h k. inside_a_switch (some f) (subst (OtherLabel (some f)) (sym (target_is S g false (0 + n) r e) ∙ h) (other_label (some f) f g refl q)) k)
          (landed_lower (again e))
  landed_from (case_built_lem {E} {S} i b owns l p) top n r e = at (eqb b g) e (λ q. landed_from p false (0 + n) r q)
    where
      at : (y : Bool) → Step (record { id = i; target = target_case b; owns_loop = owns }) S top n r y
          → (break_target_from S g false (0 + n) ≡ some r → Landed (a_switch l ∷ E) (0 + n) r) → Landed (a_switch l ∷ E) n r
      at true e again = landed_here on_another g n (break_kind false top n) r (other_kind top n) (a_later_case l g) (some_eq e)
      at false e again = landed_lower (again e)
  landed_from (loop_built {E} {S} i f k m owns l u p) top n r e = at (eqb f g) refl e (λ q. landed_from p false (1 + n) r q)
    where
      at : (y : Bool) → eqb f g ≡ y → Step (record { id = i; target = target_loop f k m; owns_loop = owns }) S top n r y
          → (break_target_from S g false (1 + n) ≡ some r → Landed E (1 + n) r) → Landed (a_loop l ∷ E) n r
      at true q e again = landed_here on_a_loop g n (break_kind true top n) r (loop_kind top n) (this_loop l g (subst (LabelOr l) (eqb-true f g q) u)) (some_eq e)
      at false q e again =
          let v : Landed E (1 + n) r = again e in
          let other : OtherLabel l r.target = subst (OtherLabel l) (sym (target_is S g false (1 + n) r e)) (other_label l f g u q) in
          record { landing = v.landing; more = suc v.more; number = omega (arith, v.number); lands = inside_a_loop l other v.lands; landed = v.landed }

  break_landed : (E : List Enclosing) (rule : Rule) (o : Around) (c : Context) (r : Resolution) → o.rule ≡ rule → is_switch_inside o.statements ≡ is_switch_inside E → Matched E c.stack
      → get_break_target c g ≡ some r → BreakLanded rule E r.target (break_kind_in o r.kind) r.loops
  unfolding get_break_target break_kind_in
  break_landed E rule o c r ruled same p e =
      let v : Landed E 0 r = landed_from p true 0 r e in record {
        landing = v.landing;
        lands = subst (λ (n : ℕ). Lands v.landing E n r.target) (sym (v.number ∙ zero-add v.more)) v.lands;
        first = r.kind;
        landed = v.landed;
        by_rule = rw (ruled, same);
      }

-- a continue is Labeled exactly where a loop is above its own
continue_kind_lem : (top : Bool) (n : ℕ) → ContinueLanded n (continue_kind top n)
unfolding continue_kind
continue_kind_lem true zero = λ e. let z : ◌≡◌ {A = ℕ} 0 1 = cc in omega arith
continue_kind_lem false zero = λ e. let z : ◌≡◌ {A = ℕ} 0 1 = cc in omega arith
continue_kind_lem top (suc n) = refl

continue_landed : (S : List Entry) (g : ℕ) (top : Bool) (n : ℕ) (r : Resolution) → continue_target_from S g top n ≡ some r → ContinueLanded r.loops r.kind
unfolding continue_target_from
continue_landed [] g top n r e = absurd (none_some e)
continue_landed (x ∷ S) g top n r e = at (continues_at x.target g) e (λ q. continue_landed S g false (loops_of x.target + n) r q)
  where
    at : (y : Bool) → elim y [
      | true ↦ some (record { target = target_block x.target; kind = continue_kind top n; loops = n })
      | false ↦ continue_target_from S g false (loops_of x.target + n)
    ] ≡ some r
        → (continue_target_from S g false (loops_of x.target + n) ≡ some r → ContinueLanded r.loops r.kind) → ContinueLanded r.loops r.kind
    at true e again = subst (λ (z : Resolution). ContinueLanded z.loops z.kind) (some_eq e) (continue_kind_lem top n)
    at false e again = again e

found_landed : (c : Context) (g : ℕ) (r : Resolution) → get_continue_target c g ≡ some r → ContinueLanded r.loops r.kind
unfolding get_continue_target
found_landed c g r e = continue_landed c.stack g true 0 r e

-- ---- how the steps keep it

matched_after : {E : List Enclosing} {c d : Context} → Matched E c.stack → After c d → Matched E d.stack
matched_after {E} h p = subst (λ (S : List Entry). Matched E S) (sym p.same) h

-- an entry is pushed, whose blocks are free
schedule_matched : {D : List Enclosing} (g : ControlFlowTarget) (c : Context)
    → ((owns : Bool) → Matched D (record { id = c.next_id; target = g; owns_loop = owns } ∷ c.stack)) → Good (λ d. Matched D d.stack) (schedule g c)
unfolding schedule pushed
schedule_matched {D} g c h = good_unless (λ d. Matched D d.stack) _ (blocked_code g) (block_asked g) c.visits _ (λ _. h _)

-- a statement with its label, and a scope, which has none
if_matched : {E : List Enclosing} (g : Option ℕ) (c : Context) → Matched E c.stack → Good (λ d. Matched (another g ∷ E) d.stack) (schedule_if g c)
unfolding schedule_if
if_matched none c h = untaken_built h
if_matched (some f) c h = schedule_matched (target_if f) c (λ owns. another_built c.next_id f owns (some f) refl h)

scope_built : {E : List Enclosing} (g : Option ℕ) (c : Context) → Matched E c.stack → Good (λ d. Matched (another none ∷ E) d.stack) (schedule_if g c)
unfolding schedule_if
scope_built none c h = untaken_built h
scope_built (some f) c h = schedule_matched (target_if f) c (λ owns. another_built c.next_id f owns none tt h)

switch_matched : {E : List Enclosing} (g : Option ℕ) (c : Context) → Matched E c.stack → Good (λ d. Matched (a_switch g ∷ E) d.stack) (schedule_switch g c)
unfolding schedule_switch
switch_matched none c h = untaken_switch h
switch_matched (some f) c h = schedule_matched (target_switch f) c (λ owns. switch_built c.next_id f owns h)

case_matched : {E : List Enclosing} (D : List Enclosing) (l : Option ℕ) → E ≡ a_switch l ∷ D → (b : ℕ) (c : Context) → Matched E c.stack
    → Good (λ d. Matched E d.stack) (schedule (target_case b) c)
case_matched {E} D l is b c h =
    schedule_matched (target_case b) c
    (λ owns. subst (λ (z : List Enclosing). Matched z (record { id = c.next_id; target = target_case b; owns_loop = owns } ∷ c.stack)) (sym is)
    (case_built_lem c.next_id b owns l (subst (λ (z : List Enclosing). Matched z c.stack) is h)))

loop_matched : {E : List Enclosing} (f k l : ℕ) (g : Option ℕ) (c : Context) → LabelOr g f → Matched E c.stack → Good (λ d. Matched (a_loop g ∷ E) d.stack) (schedule (target_loop f k l) c)
unfolding schedule pushed
loop_matched {E} f k l g c q h = good_unless (λ d. Matched (a_loop g ∷ E) d.stack) _ 15 k c.visits _ (λ _. loop_built c.next_id f k l _ g q h)

visits_matched : {E : List Enclosing} (v : ℕ) (c : Context) → Matched E c.stack → Matched E (with_visits v c).stack
unfolding with_visits
visits_matched v c h = h

catch_matched : {E : List Enclosing} (b : ℕ) (c : Context) → Matched E c.stack → Matched E (schedule_catch_handler b c).stack
unfolding schedule_catch_handler
catch_matched b c h = h

scope_matched : {E : List Enclosing} (g : Option ℕ) (c : Context) → Matched E c.stack → Matched E (mark_scope_fallthrough_if g c).stack
unfolding mark_scope_fallthrough_if mark_scope_fallthrough
scope_matched none c h = h
scope_matched (some f) c h = h

-- a fallthrough that is taken is the terminal's
scheduled_label : (c : Context) (f : ℕ) → LabelOr (unless_scheduled c f) f
unfolding unless_scheduled
scheduled_label c f = by (is_scheduled c f)
  where
    by : (y : Bool) → LabelOr (elim y [ true ↦ none | false ↦ some f ]) f
    by true = tt
    by false = refl

reachable_label : (t : Table) (c : Context) (f : ℕ) → Good (λ g. LabelOr g f) (unless_unreachable t c f)
unfolding unless_unreachable
reachable_label t c f = good_unless (λ g. LabelOr g f) _ 10 f c.visits _ (λ _. by (is_unreachable (terminal_at t f)))
  where
    by : (y : Bool) → LabelOr (elim y [ true ↦ none | false ↦ unless_scheduled c f ]) f
    by true = tt
    by false = scheduled_label c f

-- ---- jumps

not_false : (y : Bool) → not y ≡ false → y ≡ true
not_false true e = refl
not_false false e = absurd (true_false e)

break_by : (inside named : Bool) (k : Kind) → unnamed language (kind_by language inside k) named ≡ false → BreakNamed inside named (kind_by language inside k)
unfolding unnamed kind_by
break_by inside named implicit h = tt
break_by inside named labeled h = not_false named h
break_by true named unlabeled h = not_false named h
break_by false named unlabeled h = refl

continue_by : (named : Bool) (k : Kind) → unnamed language k named ≡ false → ContinueNamed named k
unfolding unnamed
continue_by named implicit h = tt
continue_by named labeled h = not_false named h
continue_by named unlabeled h = tt

break_named : (rule : Rule) (o : Around) (r : Resolution) → o.rule ≡ rule → break_unnamed o r ≡ false
    → InLanguage rule (BreakNamed (is_switch_inside o.statements) (names_statement o.statements r.target) (break_kind_in o r.kind))
unfolding break_unnamed break_kind_in
break_named rust o r e h = tt
break_named language o r e h = rw e (break_by (is_switch_inside o.statements) (names_statement o.statements r.target) r.kind (rw e at h))

continue_named : (rule : Rule) (o : Around) (r : Resolution) → o.rule ≡ rule → continue_unnamed o r ≡ false
    → InLanguage rule (ContinueNamed (names_loop o.statements r.loops r.target) r.kind)
unfolding continue_unnamed
continue_named rust o r e h = tt
continue_named language o r e h = continue_by (names_loop o.statements r.loops r.target) r.kind (rw e at h)

-- ---- a part of the walk

module _ (rule : Rule) where
  abbrev NamedOption : List Enclosing → Option Statement → Type 0
  NamedOption E none = Unit {0}
  NamedOption E (some s) = NamedStatement rule E s

  abbrev NamedStep : List Enclosing → TerminalResult → Type 0
  NamedStep E r = NamedOption E r.statement

  abbrev pub NamedBlock : List Enclosing → BlockResult → Type 0
  NamedBlock E r = Named rule E r.statements

  abbrev KeptBlock : List Enclosing → BlockResult → Type 0
  KeptBlock E r = Named rule E r.statements × Matched E r.context.stack

  abbrev NamedAlternate : List Enclosing → AlternateResult → Type 0
  NamedAlternate E r = Named rule E r.statements

  abbrev CasesNamed : List Enclosing → CasesResult → Type 0
  CasesNamed E r = NamedCases rule E r.cases

  unfoldable pub BlockNamed : List Enclosing → TraverseBlock → Type 0
  BlockNamed E inner = (b : ℕ) (c : Context) → Matched E c.stack → Good (NamedBlock E) (inner b c)

  unfoldable pub WalkNamed : TraverseInside → Type 0
  WalkNamed inner = (o : Around) → o.rule ≡ rule → BlockNamed o.statements (inner o)

  -- in a list within E, where what is named around the jump is named within E
  abbrev Inner : List Enclosing → List Enclosing → Type 0
  Inner E D = (k : Kind) (target : ℕ) → InLanguage rule (BreakNamed (is_switch_inside D) (names_statement D target) k) → InLanguage rule (BreakNamed (is_switch_inside E) (names_statement E target) k)

  -- a Branch's own IF is around the break in place of its consequent, and changes nothing: it has no label
  branch_around : (E : List Enclosing) → Inner (another none ∷ E) E
  unfolding is_switch_inside names_statement is_label
  branch_around E k target h = h

  branch_inside : (E : List Enclosing) → is_switch_inside E ≡ is_switch_inside (another none ∷ E)
  unfolding is_switch_inside
  branch_inside E = refl

  -- what a break found on the stack, by what is around
  abbrev FoundIn : List Enclosing → Around → Option Resolution → Type 0
  FoundIn E o r = (found : Resolution) → r ≡ some found → BreakLanded rule E found.target (break_kind_in o found.kind) found.loops

  scope_named : (E : List Enclosing) (k : Kind) (at v : ℕ) → Good (NamedOption E) (break_to_scope k at v)
  unfolding break_to_scope
  scope_named E implicit at v = tt
  scope_named E labeled at v = tt
  scope_named E unlabeled at v = tt

  resolved_named : (E : List Enclosing) (o : Around) → Inner E o.statements → o.rule ≡ rule → (at b i : ℕ) (c : Context) (r : Option Resolution) → FoundIn E o r
      → Good (NamedOption E) (break_resolved o at b i c r)
  unfolding break_resolved Named
  resolved_named E o n e at b i c none v = tt
  resolved_named E o n e at b i c (some r) v =
      good_pick (NamedOption E) (has c.scope_fallthroughs r.target) _ _ (scope_named E r.kind at c.visits)
      (good_unless (NamedOption E) (break_unnamed o r) 29 at c.visits _ (λ h. (v r refl, n (break_kind_in o r.kind) r.target (break_named rule o r e h))))

  visit_break_named : (E : List Enclosing) (o : Around) → Inner E o.statements → is_switch_inside o.statements ≡ is_switch_inside E → o.rule ≡ rule
      → (at b i : ℕ) (c : Context) → Matched E c.stack → Good (NamedOption E) (visit_break o at b i c)
  unfolding visit_break
  visit_break_named E o n inside e at b i c m = resolved_named E o n e at b i c (get_break_target c b) (λ r q. break_landed b E rule o c r e inside m q)

  continued_named : (o : Around) → o.rule ≡ rule → (at b i : ℕ) (c : Context) (r : Option Resolution)
      → ((found : Resolution) → r ≡ some found → VeryLoop o.statements found.loops found.target × ContinueLanded found.loops found.kind)
      → Good (NamedStatement rule o.statements) (continue_resolved o at b i c r)
  unfolding continue_resolved Named
  continued_named o e at b i c none v = tt
  continued_named o e at b i c (some r) v =
      good_unless (NamedStatement rule o.statements) (continue_unnamed o r) 29 at c.visits _ (λ h. ((v r refl).0, (v r refl).1, continue_named rule o r e h))

  goto_named : (o : Around) → o.rule ≡ rule → (v : Variant) (at b i : ℕ) (c : Context) → Matched o.statements c.stack → Good (NamedStep o.statements) (visit_goto o v at b i c)
  unfolding visit_goto visit_continue
  goto_named o e Break at b i c m = good_bind (NamedOption o.statements) (NamedStep o.statements) _ _ (visit_break_named o.statements o (λ k t h. h) refl e at b i c m) (λ s h. h)
  goto_named o e Continue at b i c m =
      good_bind (NamedStatement rule o.statements) (NamedStep o.statements) _ _
      (continued_named o e at b i c (get_continue_target c b) (λ r q. (very_loop c b r m q, found_landed c b r q))) (λ s h. h)
  goto_named o e Try at b i c m = tt

  followed_named : (E : List Enclosing) (s : Option Statement) (k : Statements) → NamedOption E s → Named rule E k → Named rule E (followed_by s k)
  unfolding Named
  followed_named E none k h q = q
  followed_named E (some s) k h q = (h, q)

  -- ---- nested lists

  module _ (E : List Enclosing) (inner : TraverseBlock) (wn : BlockNamed E inner) (wa : WalkFine inner) where
    inner_named : (b : ℕ) (c : Context) → Matched E c.stack → Good (KeptBlock E) (inner b c)
    unfolding BlockNamed WalkFine
    inner_named b c h = by (inner b c) (wn b c h) (wa b c)
      where
        by : (m : Result BlockResult) → Good (NamedBlock E) m → Fine (λ r. After c r.context) m → Good (KeptBlock E) m
        by (ok r) p q = (p, matched_after h q)
        by (refused code at visits) p q = tt

    unscheduled_named : (b code at : ℕ) (c : Context) → Matched E c.stack → Good (KeptBlock E) (traverse_unscheduled inner b code at c)
    unfolding traverse_unscheduled
    unscheduled_named b code at c h = good_unless (KeptBlock E) _ code at c.visits _ (λ _. inner_named b c h)

    alternate_named : (a f : ℕ) (c : Context) → Matched E c.stack → Good (NamedAlternate E) (traverse_alternate inner a f c)
    unfolding traverse_alternate Named
    alternate_named a f c m = good_pick (NamedAlternate E) (eqb a f) _ _ tt (good_bind (KeptBlock E) (NamedAlternate E) _ _ (unscheduled_named a 13 a c m) (λ r h. h.0))

    enclosed_named : (D : List Enclosing) (b code at : ℕ) (g : Option ℕ) (c c₁ : Context) (make : Statements → Statement) → Matched E c₁.stack
        → ((s : Statements) → Named rule E s → NamedStatement rule D (make s))
        → Good (NamedStep D) (traverse_enclosed inner b code at g c c₁ make)
    unfolding traverse_enclosed
    enclosed_named D b code at g c c₁ make m mk =
        good_bind (KeptBlock E) (NamedStep D) _ _ (unscheduled_named b code at c₁ m)
        (λ r h. good_bind Any (NamedStep D) _ _ (good_any (unschedule_if g c.next_id r.context)) (λ c₂ _. mk r.statements h.0))

    loop_named : (D : List Enclosing) (at l : ℕ) (taken : Bool) (v i : ℕ) (c : Context) (g : Option ℕ) (make : Statements → Statement) → Matched E c.stack
        → ((s : Statements) → Named rule E s → NamedStatement rule D (make s))
        → Good (NamedStep D) (traverse_loop inner at l taken v i c g make)
    unfolding traverse_loop
    loop_named D at l taken v i c g make m mk =
        good_unless (NamedStep D) taken 16 at v _ (λ _.
        good_bind (KeptBlock E) (NamedStep D) _ _ (inner_named l (with_visits v c) (visits_matched v c m))
        (λ r h. good_bind Any (NamedStep D) _ _ (good_any (unschedule i r.context)) (λ c₂ _. mk r.statements h.0)))

    -- the cases of a switch: each is pushed above it
    cases_named : (D : List Enclosing) (l : Option ℕ) → E ≡ a_switch l ∷ D → (at f : ℕ) (ks : List Case) (ids : List ℕ) (c : Context) → Matched E c.stack
        → Good (CasesNamed E) (traverse_cases inner at f ks ids c)
    unfolding traverse_cases Named
    cases_named D l is at f [] ids c m = tt
    cases_named D l is at f (k ∷ ks) ids c m =
        good_pick (CasesNamed E) (is_scheduled c k.block) _ _
        (good_unless (CasesNamed E) _ 14 at c.visits _ (λ _. cases_named D l is at f ks ids c m))
        (good_bind (KeptBlock E) (CasesNamed E) _ _ (inner_named k.block c m) (λ r h.
        good_bind (λ d. Matched E d.stack) (CasesNamed E) _ _ (case_matched D l is k.block r.context h.1) (λ c₁ n.
        good_bind (CasesNamed E) (CasesNamed E) _ _ (cases_named D l is at f ks (r.context.next_id ∷ ids) c₁ n) (λ z q. (h.0, q)))))

    consequent_named : (o : Around) → Inner E o.statements → is_switch_inside o.statements ≡ is_switch_inside E → o.rule ≡ rule
        → (at y i : ℕ) (c : Context) → Matched E c.stack → Good (KeptBlock E) (traverse_consequent o inner at y i c)
    unfolding traverse_consequent Named
    consequent_named o n inside e at y i c m =
        good_pick (KeptBlock E) (is_scheduled c y) _ _
        (good_bind (NamedOption E) (KeptBlock E) _ _ (visit_break_named E o n inside e at y i c m) (λ s h. (followed_named E s done h tt, m))) (inner_named y c m)

  -- ---- terminals

  module _ (t : Table) (values : VisitValueBlock) (inner : TraverseInside) (wn : WalkNamed inner) (wa : (a : Around) → WalkFine (inner a)) where
    value_named : (E : List Enclosing) (m : Terminal) (at : ℕ) (k : Block) (f : ℕ) (c : Context) → Good (NamedStep E) (visit_value_statement t values m at k f c)
    unfolding visit_value_statement Named
    value_named E m at k f c =
        good_bind Any (NamedStep E) _ _ (good_any (schedule_if (unless_scheduled c f) c)) (λ c₁ _.
        good_bind Any (NamedStep E) _ _ (good_any (visit_value_block_terminal t values m k.id k.span c₁.visits at)) (λ r _.
        good_bind Any (NamedStep E) _ _ (good_any (unschedule_if (unless_scheduled c f) c.next_id (with_visits r.visits c₁))) (λ c₂ _. tt)))

    module _ (o : Around) (e : o.rule ≡ rule) where
      abbrev E : List Enclosing
      E = o.statements

      -- the walk inside of one more statement
      deeper : (x : Enclosing) → BlockNamed (x ∷ E) (inner (within x o))
      unfolding WalkNamed
      deeper x = wn (within x o) e

      terminal_named : (m : Terminal) (at : ℕ) (k : Block) (c : Context) → Matched E c.stack → Good (NamedStep E) (visit_terminal t values inner o m at k c)
      unfolding visit_terminal Named
      terminal_named absent at k c m = tt
      terminal_named unreachable at k c m = tt
      terminal_named (throw v) at k c m = tt
      terminal_named (return v) at k c m = tt
      terminal_named (goto g v) at k c m = goto_named o e v at g k.id c m
      terminal_named (if x y a f) at k c m =
          good_bind Any (NamedStep E) _ _ (good_any (unless_unreachable t c f)) (λ g _.
          good_bind (λ d. Matched (another g ∷ E) d.stack) (NamedStep E) _ _ (if_matched g c m) (λ c₁ m₁.
          good_bind (KeptBlock (another g ∷ E)) (NamedStep E) _ _ (unscheduled_named (another g ∷ E) _ (deeper (another g)) (wa _) y 12 y c₁ m₁) (λ r h.
          good_bind (NamedAlternate (another g ∷ E)) (NamedStep E) _ _ (alternate_named (another g ∷ E) _ (deeper (another g)) (wa _) a f r.context h.1) (λ z q.
          good_bind Any (NamedStep E) _ _ (good_any (unschedule_if g c.next_id z.context)) (λ c₂ _. (h.0, q))))))
      terminal_named (branch x y a) at k c m =
          good_bind (KeptBlock (another none ∷ E)) (NamedStep E) _ _
          (consequent_named (another none ∷ E) _ (deeper (another none)) (wa _) o (branch_around E) (branch_inside E) e at y k.id c (untaken_built m)) (λ r h.
          good_bind (KeptBlock (another none ∷ E)) (NamedStep E) _ _ (unscheduled_named (another none ∷ E) _ (deeper (another none)) (wa _) a 19 at r.context h.1) (λ z q. (h.0, q.0)))
      terminal_named (switch x i n f) at k c m =
          good_bind Any (NamedStep E) _ _ (good_any (unless_unreachable t c f)) (λ g _.
          good_bind (λ d. Matched (a_switch g ∷ E) d.stack) (NamedStep E) _ _ (switch_matched g c m) (λ c₁ m₁.
          good_bind (CasesNamed (a_switch g ∷ E)) (NamedStep E) _ _
          (cases_named (a_switch g ∷ E) _ (deeper (a_switch g)) (wa _) E g refl at f (cases_last_first t i n) (schedule_ids g c.next_id) c₁ m₁) (λ r h.
          good_bind Any (NamedStep E) _ _ (good_any (unschedule_all r.ids r.context)) (λ c₂ _. h))))
      terminal_named (do_while l x f) at k c m =
          good_bind (λ d. Matched (a_loop (unless_scheduled c f) ∷ E) d.stack) (NamedStep E) _ _ (loop_matched f x l (unless_scheduled c f) c (scheduled_label c f) m) (λ c₁ m₁.
          good_unless (NamedStep E) _ 16 at c₁.visits _ (λ _.
          good_bind (KeptBlock (a_loop (unless_scheduled c f) ∷ E)) (NamedStep E) _ _
          (inner_named (a_loop (unless_scheduled c f) ∷ E) _ (deeper (a_loop (unless_scheduled c f))) (wa _) l c₁ m₁) (λ r h.
          good_bind Any (NamedStep E) _ _ (good_any (values x none k.span r.context.visits)) (λ v _.
          good_bind Any (NamedStep E) _ _ (good_any (unschedule c.next_id (with_visits v.visits r.context))) (λ c₂ _. h.0)))))
      terminal_named (while x l f) at k c m =
          good_bind (λ g. LabelOr g f) (NamedStep E) _ _ (reachable_label t c f) (λ g u.
          good_bind (λ d. Matched (a_loop g ∷ E) d.stack) (NamedStep E) _ _ (loop_matched f x l g c u m) (λ c₁ m₁.
          good_bind Any (NamedStep E) _ _ (good_any (values x none k.span c₁.visits)) (λ v _.
          loop_named (a_loop g ∷ E) _ (deeper (a_loop g)) (wa _) E at l _ v.visits c.next_id c₁ g (WHILE k.id g v.value) m₁ (λ z h. h))))
      terminal_named (for i x u l f) at k c m =
          good_bind (λ d. Matched (a_loop (unless_scheduled c f) ∷ E) d.stack) (NamedStep E) _ _ (loop_matched f (continue_block_of u x) l (unless_scheduled c f) c (scheduled_label c f) m) (λ c₁ m₁.
          good_bind Any (NamedStep E) _ _ (good_any (values i none k.span c₁.visits)) (λ n _.
          good_bind Any (NamedStep E) _ _ (good_any (values x none k.span n.visits)) (λ v _.
          good_bind Any (NamedStep E) _ _ (good_any (visit_update values u k.span v.visits)) (λ w _.
          loop_named (a_loop (unless_scheduled c f) ∷ E) _ (deeper (a_loop (unless_scheduled c f))) (wa _) E at l _ w.visits c.next_id c₁ _ _ m₁ (λ z h. h)))))
      terminal_named (for_of i x l f) at k c m =
          good_bind (λ d. Matched (a_loop (unless_scheduled c f) ∷ E) d.stack) (NamedStep E) _ _ (loop_matched f i l (unless_scheduled c f) c (scheduled_label c f) m) (λ c₁ m₁.
          good_bind Any (NamedStep E) _ _ (good_any (values i none k.span c₁.visits)) (λ n _.
          good_bind Any (NamedStep E) _ _ (good_any (values x none k.span n.visits)) (λ v _.
          loop_named (a_loop (unless_scheduled c f) ∷ E) _ (deeper (a_loop (unless_scheduled c f))) (wa _) E at l _ v.visits c.next_id c₁ _ _ m₁ (λ z h. h))))
      terminal_named (for_in i l f) at k c m =
          good_bind (λ d. Matched (a_loop (unless_scheduled c f) ∷ E) d.stack) (NamedStep E) _ _ (loop_matched f i l (unless_scheduled c f) c (scheduled_label c f) m) (λ c₁ m₁.
          good_bind Any (NamedStep E) _ _ (good_any (values i none k.span c₁.visits)) (λ n _.
          loop_named (a_loop (unless_scheduled c f) ∷ E) _ (deeper (a_loop (unless_scheduled c f))) (wa _) E at l _ n.visits c.next_id c₁ _ _ m₁ (λ z h. h)))
      terminal_named (logical op x f) at k c m = value_named E (logical op x f) at k f c
      terminal_named (ternary x f) at k c m = value_named E (ternary x f) at k f c
      terminal_named (optional g x f) at k c m = value_named E (optional g x f) at k f c
      terminal_named (label x f) at k c m =
          good_bind Any (NamedStep E) _ _ (good_any (unless_unreachable t c f)) (λ g _.
          good_bind (λ d. Matched (another g ∷ E) d.stack) (NamedStep E) _ _ (if_matched g c m) (λ c₁ m₁.
          enclosed_named (another g ∷ E) _ (deeper (another g)) (wa _) E x 17 at g c c₁ (LABEL k.id g) m₁ (λ z h. h)))
      terminal_named (sequence x f) at k c m = value_named E (sequence x f) at k f c
      terminal_named (maybe_throw n) at k c m = tt
      terminal_named (try x y f n) at k c m =
          good_bind Any (NamedStep E) _ _ (good_any (unless_unreachable t c f)) (λ g _.
          good_bind (λ d. Matched (another g ∷ E) d.stack) (NamedStep E) _ _ (if_matched g c m) (λ c₁ m₁.
          good_bind (KeptBlock (another g ∷ E)) (NamedStep E) _ _ (inner_named (another g ∷ E) _ (deeper (another g)) (wa _) x (schedule_catch_handler y c₁) (catch_matched y c₁ m₁)) (λ r h.
          good_bind (KeptBlock (another g ∷ E)) (NamedStep E) _ _ (inner_named (another g ∷ E) _ (deeper (another g)) (wa _) y r.context h.1) (λ z q.
          good_bind Any (NamedStep E) _ _ (good_any (unschedule_if g c.next_id z.context)) (λ c₂ _. (h.0, q.0))))))
      terminal_named (scope p x f n) at k c m =
          good_bind (λ d. Matched (another none ∷ E) d.stack) (NamedStep E) _ _ (scope_built (unless_scheduled c f) c m) (λ c₁ m₁.
          enclosed_named (another none ∷ E) _ (deeper (another none)) (wa _) E x 18 at (unless_scheduled c f) c (mark_scope_fallthrough_if (unless_scheduled c f) c₁) (SCOPE p n)
          (scope_matched (unless_scheduled c f) c₁ m₁) (λ z h. h))

  -- ---- blocks

  instructions_named : (E : List Enclosing) (t : Table) (rs : List ℕ) (k : Statements) → Named rule E k → Named rule E (instruction_statements t rs k)
  unfolding instruction_statements Named
  instructions_named E t [] k h = h
  instructions_named E t (r ∷ rs) k h = (tt, instructions_named E t rs k h)

  next_named : (E : List Enclosing) (t : Table) (at : ℕ) (again : TraverseBlock) (s : Option Statement) (n : Option ℕ) (c : Context) → BlockNamed E again
      → Matched E c.stack → NamedOption E s → Good (NamedBlock E) (then_next t at again s n c)
  unfolding then_next BlockNamed Named
  next_named E t at again s none c w m h = instructions_named E t (instruction_rows_at t at) (followed_by s done) (followed_named E s done h tt)
  next_named E t at again s (some n) c w m h =
      good_bind (NamedBlock E) (NamedBlock E) _ _ (w n c m) (λ r q. instructions_named E t (instruction_rows_at t at) (followed_by s r.statements) (followed_named E s r.statements h q))

  visit_block_named : (t : Table) (values : VisitValueBlock) → VisitTook t values → (inner : TraverseInside) → WalkNamed inner
      → ((a : Around) → WalkFine (inner a)) → (o : Around) → o.rule ≡ rule → (n : ℕ)
      → BlockNamed o.statements (visit_block t values inner o n)
  unfolding visit_block BlockNamed
  visit_block_named t values took inner w wa o e zero b c m = tt
  visit_block_named t values took inner w wa o e (suc n) b c m =
      good_bind (λ d. (is_absent (terminal_at t b) ≡ false) × After c d) (NamedBlock o.statements) _ _
      (fine_good (λ d. (is_absent (terminal_at t b) ≡ false) × After c d) (λ d. (is_absent (terminal_at t b) ≡ false) × After c d) (enter_block t b c) (λ _ p. p)
      (enter_fine t values took inner wa b c)) (λ c₁ p.
      good_bind (λ s. NamedStep o.statements s × StepAfter c₁ s) (NamedBlock o.statements) _ _
      (good_both (NamedStep o.statements) (StepAfter c₁) (visit_terminal t values inner o (terminal_at t b) b (block_at t b) c₁)
      (terminal_named t values inner w wa o e (terminal_at t b) b (block_at t b) c₁ (matched_after m p.1)) (terminal_fine t values took inner wa o (terminal_at t b) b (block_at t b) c₁ p.0))
      (λ s h. next_named o.statements t b (visit_block t values inner o n) s.statement s.next s.context (visit_block_named t values took inner w wa o e n)
      (matched_after (matched_after m p.1) h.1) h.0))

  walk_named : (t : Table) (d : ℕ) → WalkNamed (traverse_block t d)
  unfolding traverse_block WalkNamed BlockNamed
  walk_named t zero o e b c m = tt
  walk_named t (suc d) o e b c m = visit_block_named t (visit_value_block t d) (value_took t d) (traverse_block t d) (walk_named t d) (walk_fine t d) o e 8193 b c m

-- what the build makes by either entry, whatever the table
pub tree_named : (rule : Rule) (t : Table) (r : BlockResult) → build_tree rule t ≡ ok r → Named rule [] r.statements
unfolding build_tree WalkNamed BlockNamed start
tree_named rule t r e = subst (λ (m : Result BlockResult). Good (NamedBlock rule []) m) e (walk_named rule t 128 (outermost rule) refl t.entry start nothing_built)
