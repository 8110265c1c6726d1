-- An accepted walk over a wide plain table makes a tree that `Built` describes. For proofs/LawOfValues.
use mathlib.Core.Path.{◌≡◌, refl, sym, ap, ◌∙◌, subst}
use Prim.Native.Nat.{ℕ, zero, suc, ◌<◌, ◌≤◌}
use native.Mathlib.Omega.{arith}
use mathlib.Core.Logic.{◌⊎◌, inl, inr}
use mathlib.Core.List.{List, [], ◌∷◌}
use mathlib.Core.Option.{Option, none, some}
use mathlib.Core.Bool.{Bool, true, false, not, ◌||◌, cond}
use lib.Dec.{eqb}
use borrow.Author.Tests.{eqb-true, eq-eqb}
use Rattle.table.specs.declared.columns.Span.{Span}
use Rattle.table.specs.Table.{code_of, Table, Block, Case, Terminal, absent, unreachable, throw, return, goto, if}
use Rattle.table.specs.Table.{branch, switch, do_while, while, for, for_of, for_in, logical, ternary, optional, sequence, maybe_throw, try, scope, Variant}
use Rattle.table.specs.Table.{Break, Continue, Try, block_at, terminal_at, instruction_rows_at, is_absent, is_unreachable, label}
use Rattle.definition.specs.Context.{get_break_target, get_continue_target, Resolution, has, Entry, target_if, target_switch, target_case, target_loop}
use Rattle.definition.specs.Context.{Context, is_scheduled, with_visits, mark_scope_fallthrough, pushed, schedule, unschedule, break_target_from}
use Rattle.definition.specs.Context.{continue_target_from}
use Rattle.definition.specs.Plain.{Width, paper_01, with_switch, blocks_of, fallthrough_of, All}
use Rattle.definition.specs.Around.{Rule, rust, language, Enclosing, Around, a_loop, a_switch, another, within}
use Rattle.definition.specs.Around.{is_switch_inside, kind_by, break_kind_in, names_statement, unnamed, break_unnamed, continue_unnamed}
use Rattle.definition.specs.Result.{Result, ok, ◌>>=◌, refuse_if}
use Rattle.definition.specs.Run.{Answers}
use Rattle.definition.specs.Completion.{contains, Completion, normal, break, continue, stop}
use Rattle.definition.specs.TreeRun.{completed, prefix, then, then_on, jump_completion}
use Rattle.definition.specs.Statement.{break_to_scope, visit_break, visit_continue, TerminalResult, BlockResult, TraverseBlock, TraverseInside, enter_block}
use Rattle.definition.specs.Statement.{unless_scheduled, unless_unreachable, schedule_if, unschedule_if, mark_scope_fallthrough_if, traverse_unscheduled}
use Rattle.definition.specs.Statement.{AlternateResult, traverse_alternate, break_resolved, continue_resolved, visit_goto, traverse_enclosed, loop_is_taken}
use Rattle.definition.specs.Statement.{traverse_loop, continue_block_of, OptionalValue, visit_update, CasesResult, cases_last_first, traverse_cases, schedule_switch, schedule_ids, unschedule_all}
use Rattle.definition.specs.Statement.{traverse_consequent, visit_value_statement, visit_terminal, instruction_statements, followed_by, then_next, visit_block, traverse_block}
use Rattle.definition.specs.Tree.{Kind, implicit, labeled, unlabeled, Value}
use Rattle.definition.specs.Tree.{Statement, INSTR, IF, SWITCH, CASE, DOWHILE, WHILE, FOR, LABEL, SCOPE, BREAK, CONTINUE, Statements, done, ◌▸◌}
use Rattle.definition.specs.Value.{most_depth, ValueTerminalResult, visit_value_block_terminal, visit_value_block, ValueBlockResult, VisitValueBlock}
use Rattle.definition.specs.Value.{value_block_result_to_sequence}
use Rattle.definition.proofs.Ranged.{Ranged}
use Rattle.definition.proofs.Resolve.{Clear, Fits, fits_open, fits_open_switch, fits_label, fits_scope, fits_loop, fits_switch, fits_case, clear_around, clear_paper}
use Rattle.definition.proofs.Resolve.{break_exit, break_names, break_at_lem, break_target, named_at, no_case, continue_target}
use Rattle.definition.proofs.State.{Known, fallthrough_of_lem, loop_of_lem, again_of, a_case, StateOk, with_visits_ok, Entered, enter_ok, fallthrough_free, untaken_free, push_label_ok}
use Rattle.definition.proofs.State.{push_scope_ok, push_loop_ok, push_switch_ok, push_case_ok, switch_scheduled, open_state, close_state, schedule_ok, Closed, unschedule_ok}
use Rattle.definition.specs.Result.{refused}
use Rattle.definition.specs.PlainLoops.{drop_own, proper_blocks_of, IsProper, loop_codes, new_loop, loop_of, Reached, may_be_open}
use Rattle.definition.proofs.Steps.{true_false, none_some, some_eq, refused_ok, ok_eq, bind_ok, unless_ok, Good}
use Rattle.definition.proofs.Frames.{Frame, in_label, in_scope, in_loop, in_switch, in_open, in_case, is_open, exit, break_out, continue_out, break_at, continue_at, target}
use Rattle.definition.specs.ValueEnds.{ends_at, end_of, value_fallthrough}
use Rattle.definition.specs.ValueRun.{Valued, valued, run_value}
use Rattle.definition.specs.WideTreeRun.{run_update, wide_statement, wide_statements}
use Rattle.definition.specs.WideLoops.{wide_codes, wide_entered_by, WideLoops}
use Rattle.definition.specs.PlainValue.{is_optional, GoesTo}
use Rattle.definition.proofs.Chains.{Silent, silent_goto, silent_throw, Bare, bare_branch, bare_throw, Owns, Exits, exit_last, exit_linked}
use Rattle.definition.proofs.SeenConditions.{SeenValues, SeenInits}
use Rattle.definition.proofs.Arrive.{onward_here, TermOn, ValueOn}
use Rattle.definition.proofs.ValueReads.{Placed, Reads, ReadsTerminal, reads_logical, reads_ternary, reads_optional, reads_sequence, ReadTo, TerminalRead, ends_in, value_reads, terminal_reads}
use Rattle.definition.proofs.ValueLead.{value_code, codes, throw_eq, goto_eq, arm, goto_unowned, quiet_of, optional_link, value_leads, terminal_leads}
use Rattle.definition.proofs.Flattened.{run_flattened}
use Rattle.definition.proofs.Runnable.{StraightUpdate, Runnable}
use Rattle.definition.proofs.StraightValues.{NoValues, straight_read, straight_sequence}
use Rattle.definition.proofs.Semantics.{Built, BuiltCases, built_none, built_case, built_switch, built_return, built_throw, built_jump, built_if, built_if_only, built_label, built_scope}
use Rattle.definition.proofs.Semantics.{built_unreached, built_switch_open, built_if_open, built_label_open, built_while, built_do_while, built_for, built_value, built_throws, built_branch, built_branch_out}

-- the entry that a law speaks of, for a table of this width: a Switch only in the language entry
abbrev pub Covers : Rule → Width → Type 0
Covers rust paper_01 = Unit {0}
Covers rust with_switch = ⊥
Covers language width = Unit {0}

-- ---- a part of the walk

module _ (t : Table) (seen_row : ℕ → Bool) where
  pub record ReadEnd (b : ℕ) (r : ValueBlockResult) : Type 0 where
    pub holder : ℕ
    pub placed : Placed t r.value r.place holder
    pub reads : Reads t b r.value holder r.block
    pub ends : end_of t b ≡ some (ends_at holder r.block)

  -- what the value walk makes is read off
  pub record ValuesOk (values : VisitValueBlock) : Type 0 where
    pub blocks : (b : ℕ) (f : Option ℕ) (span : Span) (v : ℕ) (r : ValueBlockResult) → values b f span v ≡ ok r → ReadEnd b r
    pub terminals : (m : Terminal) (id : ℕ) (span : Span) (v at : ℕ) (r : ValueTerminalResult) → visit_value_block_terminal t values m id span v at ≡ ok r → ReadsTerminal t m r.value r.fallthrough

  good_of : {A : Type 0} (P : A → Type 0) (step : Result A) (a : A) → Good P step → step ≡ ok a → P a
  good_of P (ok a) a' h e = subst P (ok_eq e) h
  good_of P (refused code at visits) a' h e = absurd (refused_ok e)

  pub values_ok : (d : ℕ) → d ≤ most_depth → ValuesOk (visit_value_block t d)
  values_ok d h = record {
    blocks = λ b f span v r e. read b r (good_of (λ r'. ReadTo t d b r'.value r'.place r'.block) (visit_value_block t d b f span v) r (value_reads t d h b f span v) e);
    terminals = λ m id span v at r e.
        (good_of (TerminalRead t m) (visit_value_block_terminal t (visit_value_block t d) m id span v at) r (terminal_reads t d h (visit_value_block t d) (value_reads t d h) m id span v at) e).reads;
  }
    where
      read : (b : ℕ) (r : ValueBlockResult) → ReadTo t d b r.value r.place r.block → ReadEnd b r
      read b r z = record { holder = z.holder; placed = z.placed; reads = z.reads; ends = ends_in t d b (ends_at z.holder r.block) h z.ends }

  reads_fallthrough : {m : Terminal} {w : Value} {f : ℕ} → ReadsTerminal t m w f → value_fallthrough m ≡ some f
  reads_fallthrough (reads_logical o x f y p c d hx hl el hr er j l i s q _ _ _ _ _ _ _ _) = ap value_fallthrough q
  reads_fallthrough (reads_ternary x f y p c d hx hl el hr er q _ _ _ _ _ _ _ _) = ap value_fallthrough q
  reads_fallthrough (reads_optional o x f y p c d hx hl el j l i s q _ _ _ _ _ _) = ap value_fallthrough q
  reads_fallthrough (reads_sequence c f hl el q _ _) = ap value_fallthrough q

  pub record Made (F : List Frame) (b : ℕ) (S : List Entry) (r : BlockResult) : Type 0 where
    pub tree : Built t seen_row F b r.statements
    pub left : Closed t F S r.context

  -- ---- the exits of chains are not where a completion leads

  abbrev pub NotExit : ℕ → Type 0
  NotExit x = (b o y : ℕ) → terminal_at t b ≡ optional o y x → ⊥

  abbrev pub Free : List Frame → Type 0
  Free [] = Unit {0}
  Free (in_label l ∷ F) = NotExit l × Free F
  Free (in_scope l ∷ F) = NotExit l × Free F
  Free (in_loop l k ∷ F) = NotExit l × NotExit k × Free F
  Free (in_switch l ∷ F) = NotExit l × Free F
  Free (in_open ∷ F) = Free F
  Free (in_case k ∷ F) = NotExit k × Free F

  not_at : {l x : ℕ} → NotExit l → some l ≡ some x → NotExit x
  not_at n e b o y q = n b o y (q ∙ ap (λ (z : ℕ). optional o y z) (sym (some_eq e)))

  not_cond : (l x : ℕ) (y : Bool) (r : Option ℕ) → NotExit l → (r ≡ some x → NotExit x) → cond y (some l) r ≡ some x → NotExit x
  not_cond l x true r n k e = not_at n e
  not_cond l x false r n k e = k e

  exit_free : (F : List Frame) (x : ℕ) → Free F → exit F ≡ some x → NotExit x
  exit_free [] x f e = absurd (none_some e)
  exit_free (in_label l ∷ F) x f e = not_at f.0 e
  exit_free (in_scope l ∷ F) x f e = not_at f.0 e
  exit_free (in_loop l k ∷ F) x f e = not_at f.1 e
  exit_free (in_switch l ∷ F) x f e = not_at f.0 e
  exit_free (in_open ∷ F) x f e = exit_free F x f e
  exit_free (in_case k ∷ F) x f e = not_at f.0 e

  break_free : (F : List Frame) (x : ℕ) → Free F → break_out F ≡ some x → NotExit x
  break_free [] x f e = absurd (none_some e)
  break_free (in_label l ∷ F) x f e = break_free F x f.1 e
  break_free (in_scope l ∷ F) x f e = break_free F x f.1 e
  break_free (in_loop l k ∷ F) x f e = not_at f.0 e
  break_free (in_switch l ∷ F) x f e = not_at f.0 e
  break_free (in_open ∷ F) x f e = absurd (none_some e)
  break_free (in_case k ∷ F) x f e = break_free F x f.1 e

  continue_free : (F : List Frame) (x : ℕ) → Free F → continue_out F ≡ some x → NotExit x
  continue_free [] x f e = absurd (none_some e)
  continue_free (in_label l ∷ F) x f e = continue_free F x f.1 e
  continue_free (in_scope l ∷ F) x f e = continue_free F x f.1 e
  continue_free (in_loop l k ∷ F) x f e = not_at f.1 e
  continue_free (in_switch l ∷ F) x f e = continue_free F x f.1 e
  continue_free (in_open ∷ F) x f e = continue_free F x f e
  continue_free (in_case k ∷ F) x f e = continue_free F x f.1 e

  break_at_free : (F : List Frame) (n x : ℕ) → Free F → break_at F n ≡ some x → NotExit x
  break_at_free [] n x f e = absurd (none_some e)
  break_at_free (in_label l ∷ F) n x f e = not_cond l x (eqb l n) (break_at F n) f.0 (λ q. break_at_free F n x f.1 q) e
  break_at_free (in_scope l ∷ F) n x f e = break_at_free F n x f.1 e
  break_at_free (in_loop l k ∷ F) n x f e = not_cond l x (eqb l n) (break_at F n) f.0 (λ q. break_at_free F n x f.2 q) e
  break_at_free (in_switch l ∷ F) n x f e = not_cond l x (eqb l n) (break_at F n) f.0 (λ q. break_at_free F n x f.1 q) e
  break_at_free (in_open ∷ F) n x f e = break_at_free F n x f e
  break_at_free (in_case k ∷ F) n x f e = break_at_free F n x f.1 e

  continue_at_free : (F : List Frame) (n x : ℕ) → Free F → continue_at F n ≡ some x → NotExit x
  continue_at_free [] n x f e = absurd (none_some e)
  continue_at_free (in_label l ∷ F) n x f e = continue_at_free F n x f.1 e
  continue_at_free (in_scope l ∷ F) n x f e = continue_at_free F n x f.1 e
  continue_at_free (in_loop l k ∷ F) n x f e = not_cond k x (eqb l n) (continue_at F n) f.1 (λ q. continue_at_free F n x f.2 q) e
  continue_at_free (in_switch l ∷ F) n x f e = continue_at_free F n x f.1 e
  continue_at_free (in_open ∷ F) n x f e = continue_at_free F n x f e
  continue_at_free (in_case k ∷ F) n x f e = continue_at_free F n x f.1 e

  target_free : (F : List Frame) (c : Completion) (x : ℕ) → Free F → target F c ≡ some x → NotExit x
  target_free F normal x f e = exit_free F x f e
  target_free F (break none j) x f e = break_free F x f e
  target_free F (break (some n) j) x f e = break_at_free F n x f e
  target_free F (continue none j) x f e = continue_free F x f e
  target_free F (continue (some n) j) x f e = continue_at_free F n x f e
  target_free F (stop r) x f e = absurd (none_some e)

  exits_is : {b x : ℕ} → Exits t b x → NotExit x → ⊥
  exits_is {b} (exit_last o y f e h) n = n b o y e
  exits_is (exit_linked o y f e b' h z w k) n = exits_is k n

  -- ---- what a block's tree was built of

  value_not : (b : ℕ) (m m' : Terminal) → contains (13 ∷ 14 ∷ 15 ∷ 17 ∷ []) (code_of m) ≡ true → terminal_at t b ≡ m → terminal_at t b ≡ m'
      → contains (13 ∷ 14 ∷ 15 ∷ 17 ∷ []) (code_of m') ≡ false → ⊥
  value_not b m m' h e e' k = true_false (sym h ∙ ap (λ (z : Terminal). contains (13 ∷ 14 ∷ 15 ∷ 17 ∷ []) (code_of z)) (sym e ∙ e') ∙ k)

  built_moved : {F : List Frame} {x y : ℕ} {s : Statements} → x ≡ y → Built t seen_row F x s → Built t seen_row F y s
  built_moved {F} {s} q p = subst (λ (z : ℕ). Built t seen_row F z s) q p

  scope_not : (p : Bool) (b c f n : ℕ) (m : Terminal) → terminal_at t b ≡ scope p c f n → terminal_at t b ≡ m → eqb 20 (code_of m) ≡ false → eqb 21 (code_of m) ≡ false → ⊥
  scope_not false b c f n m e e' h k = codes t seen_row b (scope false c f n) m e e' h
  scope_not true b c f n m e e' h k = codes t seen_row b (scope true c f n) m e e' k

  no_way : {p c d p' c' d' : ℕ} → branch p c d ≡ branch p' c' d' → d ≡ d'
  no_way e = cc

  goto_built : {F : List Frame} {b : ℕ} {s₀ : Statements} → Built t seen_row F b s₀ → (g : ℕ) (k' : Variant) → terminal_at t b ≡ goto g k' → (c : Completion) × (target F c ≡ some g)
  goto_built {F} {b} (built_return v e q) g' k' e' = absurd (codes t seen_row b (return v) (goto g' k') e e' refl)
  goto_built {F} {b} (built_throw v e q) g' k' e' = absurd (codes t seen_row b (throw v) (goto g' k') e e' refl)
  goto_built {F} {b} (built_jump g v c s e k r _ q) g' k' e' = (c, k ∙ ap (λ (z : ℕ). some z) (goto_eq t seen_row (sym e ∙ e')))
  goto_built {F} {b} (built_if x c a f i e p1 p2 p3 q) g' k' e' = absurd (codes t seen_row b (if x c a f) (goto g' k') e e' refl)
  goto_built {F} {b} (built_if_only x c f i e p1 p3 q) g' k' e' = absurd (codes t seen_row b (if x c f f) (goto g' k') e e' refl)
  goto_built {F} {b} (built_label c f i e p1 p3 q) g' k' e' = absurd (codes t seen_row b (label c f) (goto g' k') e e' refl)
  goto_built {F} {b} (built_if_open x c a f i e p1 p2 q) g' k' e' = absurd (codes t seen_row b (if x c a f) (goto g' k') e e' refl)
  goto_built {F} {b} (built_label_open c f i e p1 q) g' k' e' = absurd (codes t seen_row b (label c f) (goto g' k') e e' refl)
  goto_built {F} {b} (built_unreached e q) g' k' e' = absurd (true_false (sym e ∙ ap is_unreachable e'))
  goto_built {F} {b} (built_scope p c f n e p1 p3 q) g' k' e' = absurd (scope_not p b c f n (goto g' k') e e' refl refl)
  goto_built {F} {b} (built_value m start f i l sp w vc e mv ld p3 q) g' k' e' = absurd (value_not b m (goto g' k') vc e e' refl)
  goto_built {F} {b} (built_throws n e p1 q) g' k' e' = absurd (codes t seen_row b (maybe_throw n) (goto g' k') e e' refl)
  goto_built {F} {b} (built_branch p c d i e p1 p2 q) g' k' e' = absurd (codes t seen_row b (branch p c d) (goto g' k') e e' refl)
  goto_built {F} {b} (built_branch_out p c d i o s1 e k r _ p2 q) g' k' e' = absurd (codes t seen_row b (branch p c d) (goto g' k') e e' refl)
  goto_built {F} {b} (built_while x l f y p i v e e1 ld _ p1 p3 q) g' k' e' = absurd (codes t seen_row b (while x l f) (goto g' k') e e' refl)
  goto_built {F} {b} (built_do_while l x f y p i v e e1 ld _ p1 p3 q) g' k' e' = absurd (codes t seen_row b (do_while l x f) (goto g' k') e e' refl)
  goto_built {F} {b} (built_for n x u l f k y p i vn vx vu e e1 li lx lu _ p1 p3 q) g' k' e' = absurd (codes t seen_row b (for n x u l f) (goto g' k') e e' refl)
  goto_built {F} {b} (built_switch x i n f d e p1 p3 q) g' k' e' = absurd (codes t seen_row b (switch x i n f) (goto g' k') e e' refl)
  goto_built {F} {b} (built_switch_open x i n f d e p1 q) g' k' e' = absurd (codes t seen_row b (switch x i n f) (goto g' k') e e' refl)

  throw_built : {F : List Frame} {b : ℕ} {s₀ : Statements} → Built t seen_row F b s₀ → (n : ℕ) → terminal_at t b ≡ maybe_throw n → (s : Statements) × Built t seen_row F n s
  throw_built {F} {b} (built_return v e q) n' e' = absurd (codes t seen_row b (return v) (maybe_throw n') e e' refl)
  throw_built {F} {b} (built_throw v e q) n' e' = absurd (codes t seen_row b (throw v) (maybe_throw n') e e' refl)
  throw_built {F} {b} (built_jump g v c s e k r _ q) n' e' = absurd (codes t seen_row b (goto g v) (maybe_throw n') e e' refl)
  throw_built {F} {b} (built_if x c a f i e p1 p2 p3 q) n' e' = absurd (codes t seen_row b (if x c a f) (maybe_throw n') e e' refl)
  throw_built {F} {b} (built_if_only x c f i e p1 p3 q) n' e' = absurd (codes t seen_row b (if x c f f) (maybe_throw n') e e' refl)
  throw_built {F} {b} (built_label c f i e p1 p3 q) n' e' = absurd (codes t seen_row b (label c f) (maybe_throw n') e e' refl)
  throw_built {F} {b} (built_if_open x c a f i e p1 p2 q) n' e' = absurd (codes t seen_row b (if x c a f) (maybe_throw n') e e' refl)
  throw_built {F} {b} (built_label_open c f i e p1 q) n' e' = absurd (codes t seen_row b (label c f) (maybe_throw n') e e' refl)
  throw_built {F} {b} (built_unreached e q) n' e' = absurd (true_false (sym e ∙ ap is_unreachable e'))
  throw_built {F} {b} (built_scope p c f n e p1 p3 q) n' e' = absurd (scope_not p b c f n (maybe_throw n') e e' refl refl)
  throw_built {F} {b} (built_value m start f i l sp w vc e mv ld p3 q) n' e' = absurd (value_not b m (maybe_throw n') vc e e' refl)
  throw_built {F} {b} (built_throws n e p1 q) n' e' = (_, built_moved (throw_eq t seen_row (sym e ∙ e')) p1)
  throw_built {F} {b} (built_branch p c d i e p1 p2 q) n' e' = absurd (codes t seen_row b (branch p c d) (maybe_throw n') e e' refl)
  throw_built {F} {b} (built_branch_out p c d i o s1 e k r _ p2 q) n' e' = absurd (codes t seen_row b (branch p c d) (maybe_throw n') e e' refl)
  throw_built {F} {b} (built_while x l f y p i v e e1 ld _ p1 p3 q) n' e' = absurd (codes t seen_row b (while x l f) (maybe_throw n') e e' refl)
  throw_built {F} {b} (built_do_while l x f y p i v e e1 ld _ p1 p3 q) n' e' = absurd (codes t seen_row b (do_while l x f) (maybe_throw n') e e' refl)
  throw_built {F} {b} (built_for n x u l f k y p i vn vx vu e e1 li lx lu _ p1 p3 q) n' e' = absurd (codes t seen_row b (for n x u l f) (maybe_throw n') e e' refl)
  throw_built {F} {b} (built_switch x i n f d e p1 p3 q) n' e' = absurd (codes t seen_row b (switch x i n f) (maybe_throw n') e e' refl)
  throw_built {F} {b} (built_switch_open x i n f d e p1 q) n' e' = absurd (codes t seen_row b (switch x i n f) (maybe_throw n') e e' refl)

  branch_built : {F : List Frame} {b : ℕ} {s₀ : Statements} → Built t seen_row F b s₀ → (p c d : ℕ) → terminal_at t b ≡ branch p c d → (s : Statements) × Built t seen_row F d s
  branch_built {F} {b} (built_return v e q) p' c' d' e' = absurd (codes t seen_row b (return v) (branch p' c' d') e e' refl)
  branch_built {F} {b} (built_throw v e q) p' c' d' e' = absurd (codes t seen_row b (throw v) (branch p' c' d') e e' refl)
  branch_built {F} {b} (built_jump g v c s e k r _ q) p' c' d' e' = absurd (codes t seen_row b (goto g v) (branch p' c' d') e e' refl)
  branch_built {F} {b} (built_if x c a f i e p1 p2 p3 q) p' c' d' e' = absurd (codes t seen_row b (if x c a f) (branch p' c' d') e e' refl)
  branch_built {F} {b} (built_if_only x c f i e p1 p3 q) p' c' d' e' = absurd (codes t seen_row b (if x c f f) (branch p' c' d') e e' refl)
  branch_built {F} {b} (built_label c f i e p1 p3 q) p' c' d' e' = absurd (codes t seen_row b (label c f) (branch p' c' d') e e' refl)
  branch_built {F} {b} (built_if_open x c a f i e p1 p2 q) p' c' d' e' = absurd (codes t seen_row b (if x c a f) (branch p' c' d') e e' refl)
  branch_built {F} {b} (built_label_open c f i e p1 q) p' c' d' e' = absurd (codes t seen_row b (label c f) (branch p' c' d') e e' refl)
  branch_built {F} {b} (built_unreached e q) p' c' d' e' = absurd (true_false (sym e ∙ ap is_unreachable e'))
  branch_built {F} {b} (built_scope p c f n e p1 p3 q) p' c' d' e' = absurd (scope_not p b c f n (branch p' c' d') e e' refl refl)
  branch_built {F} {b} (built_value m start f i l sp w vc e mv ld p3 q) p' c' d' e' = absurd (value_not b m (branch p' c' d') vc e e' refl)
  branch_built {F} {b} (built_throws n e p1 q) p' c' d' e' = absurd (codes t seen_row b (maybe_throw n) (branch p' c' d') e e' refl)
  branch_built {F} {b} (built_branch p c d i e p1 p2 q) p' c' d' e' = (_, built_moved (no_way (sym e ∙ e')) p2)
  branch_built {F} {b} (built_branch_out p c d i o s1 e k r _ p2 q) p' c' d' e' = (_, built_moved (no_way (sym e ∙ e')) p2)
  branch_built {F} {b} (built_while x l f y p i v e e1 ld _ p1 p3 q) p' c' d' e' = absurd (codes t seen_row b (while x l f) (branch p' c' d') e e' refl)
  branch_built {F} {b} (built_do_while l x f y p i v e e1 ld _ p1 p3 q) p' c' d' e' = absurd (codes t seen_row b (do_while l x f) (branch p' c' d') e e' refl)
  branch_built {F} {b} (built_for n x u l f k y p i vn vx vu e e1 li lx lu _ p1 p3 q) p' c' d' e' = absurd (codes t seen_row b (for n x u l f) (branch p' c' d') e e' refl)
  branch_built {F} {b} (built_switch x i n f d e p1 p3 q) p' c' d' e' = absurd (codes t seen_row b (switch x i n f) (branch p' c' d') e e' refl)
  branch_built {F} {b} (built_switch_open x i n f d e p1 q) p' c' d' e' = absurd (codes t seen_row b (switch x i n f) (branch p' c' d') e e' refl)

  -- a silent way that is built leads to where a completion leads, so to no exit
  silent_free : {F : List Frame} {d x : ℕ} {s : Statements} → Free F → Silent t seen_row d x → Built t seen_row F d s → NotExit x
  silent_free {F} {d} {x} f (silent_goto k e r) p = let (c, h) = goto_built p x k e in target_free F c x f h
  silent_free f (silent_throw n e r z) p = let (s, q) = throw_built p n e in silent_free f z q

  owned_free : {F : List Frame} {e b' : ℕ} {s : Statements} → Free F → SeenValues t seen_row → (o : Owns t e b') → Built t seen_row F o.alternate s → ⊥
  owned_free {e} {b'} free pv o q =
      let (x, exits) = pv.exits b' o.flag o.test o.fallthrough o.asks.terminal in
      exits_is exits (silent_free free (pv.no_value b' o.flag o.test o.fallthrough o.holder e o.consequent o.alternate x o.asks exits) q)

  -- so the Branch of an Optional's test is never a statement
  bare_free : {F : List Frame} {f e b' : ℕ} {s : Statements} → Free F → SeenValues t seen_row → Bare t f e → Owns t e b' → Built t seen_row F f s → ⊥
  bare_free free pv (bare_branch p c d e r) owns q =
      let (s, w) = branch_built q owns.asks.place owns.consequent owns.alternate owns.asks.ways in owned_free free pv owns w
  bare_free free pv (bare_throw n e i r z) owns q = let (s, w) = throw_built q n e in bare_free free pv z owns w

  -- the frames are those of what is around, and the rule is the entry's
  pub record Suits (rule : Rule) (o : Around) (F : List Frame) : Type 0 where
    pub by_rule : o.rule ≡ rule
    pub fits : Fits t F o.statements
    -- no completion leads to an Optional's fallthrough
    pub free : Free F

  unfoldable pub BlockOk : List Frame → TraverseBlock → Type 0
  BlockOk F inner = (b : ℕ) (c : Context) (r : BlockResult) → StateOk t F c → Reached t b → inner b c ≡ ok r → Made F b c.stack r

  unfoldable pub WalkOk : Rule → TraverseInside → Type 0
  WalkOk rule inner = (o : Around) (F : List Frame) → Suits rule o F → BlockOk F (inner o)

  -- what a block's end gives: it ends the list, or the fallthrough goes on
  pub data StepOk (F : List Frame) (b : ℕ) (S : List Entry) (s : TerminalResult) : Type 0 where
    ends_here : s.next ≡ none → Built t seen_row F b (instruction_statements t (instruction_rows_at t b) (followed_by s.statement done)) → Closed t F S s.context → StepOk F b S s
    goes_on : (f : ℕ) → s.next ≡ some f → Reached t f
        → ((r : Statements) → Built t seen_row F f r → Built t seen_row F b (instruction_statements t (instruction_rows_at t b) (followed_by s.statement r)))
        → Closed t F S s.context → StepOk F b S s
    -- it goes on to an Unreachable block, as a scope does
    goes_out : (f : ℕ) → s.next ≡ some f → is_unreachable (terminal_at t f) ≡ true
        → ((r : Statements) → Built t seen_row F f r → Built t seen_row F b (instruction_statements t (instruction_rows_at t b) (followed_by s.statement r)))
        → Closed t F S s.context → StepOk F b S s

  -- the walk at an Unreachable block
  unfoldable OpenOk : List Frame → TraverseBlock → Type 0
  OpenOk F inner = (b : ℕ) (c : Context) (r : BlockResult) → StateOk t F c → is_unreachable (terminal_at t b) ≡ true → inner b c ≡ ok r → Made F b c.stack r

  next_ok : (F : List Frame) (b : ℕ) (S : List Entry) (again : TraverseBlock) (s : TerminalResult) (r : BlockResult) → BlockOk F again → OpenOk F again → StepOk F b S s
      → then_next t b again s.statement s.next s.context ≡ ok r → Made F b S r
  unfolding BlockOk OpenOk then_next
  next_ok F b S again s r w v (goes_out f h n p q) e =
      let (r₁, h₁, e₁) = bind_ok (again f s.context) _ r (subst (λ (z : Option ℕ). then_next t b again s.statement z s.context ≡ ok r) h e) in
      let m : Made F f s.context.stack r₁ = v f s.context r₁ q.state n h₁ in
      subst (λ (z : BlockResult). Made F b S z) (ok_eq e₁) (record { tree = p r₁.statements m.tree; left = record { state = m.left.state; same = m.left.same ∙ q.same } })
  next_ok F b S again s r w v (ends_here h p q) e =
      subst (λ (z : BlockResult). Made F b S z) (ok_eq (subst (λ (z : Option ℕ). then_next t b again s.statement z s.context ≡ ok r) h e)) (record { tree = p; left = q })
  next_ok F b S again s r w v (goes_on f h n p q) e =
      let (r₁, h₁, e₁) = bind_ok (again f s.context) _ r (subst (λ (z : Option ℕ). then_next t b again s.statement z s.context ≡ ok r) h e) in
      let m : Made F f s.context.stack r₁ = w f s.context r₁ q.state n h₁ in
      subst (λ (z : BlockResult). Made F b S z) (ok_eq e₁) (record { tree = p r₁.statements m.tree; left = record { state = m.left.state; same = m.left.same ∙ q.same } })

  -- a target on top of the stack
  record Opened (G : Frame) (F : List Frame) (c c₁ : Context) : Type 0 where
    state : StateOk t (G ∷ F) c₁
    real : is_open G ≡ false
    top : Entry
    stack : c₁.stack ≡ top ∷ c.stack

  opened_label : {F : List Frame} {c c₁ : Context} (f : ℕ) → StateOk t F c → Known t c.emitted f → schedule_if (some f) c ≡ ok c₁ → Opened (in_label f) F c c₁
  unfolding schedule_if pushed
  opened_label {F} {c} {c₁} f p k e =
      subst (λ (d : Context). Opened (in_label f) F c d) (schedule_ok t (target_if f) c c₁ e)
      (record { state = push_label_ok t f p k; real = refl; top = record { id = c.next_id; target = target_if f; owns_loop = false }; stack = refl })

  opened_scope : {F : List Frame} {c c₁ : Context} (f : ℕ) → f < 1024 → StateOk t F c → Known t c.emitted f → schedule_if (some f) c ≡ ok c₁
      → Opened (in_scope f) F c (mark_scope_fallthrough_if (some f) c₁)
  unfolding schedule_if pushed mark_scope_fallthrough_if mark_scope_fallthrough
  opened_scope {F} {c} {c₁} f h p k e =
      subst (λ (d : Context). Opened (in_scope f) F c (mark_scope_fallthrough f d)) (schedule_ok t (target_if f) c c₁ e)
      (record { state = push_scope_ok t f h p k; real = refl; top = record { id = c.next_id; target = target_if f; owns_loop = false }; stack = refl })

  opened_loop : {F : List Frame} {c c₁ : Context} (w z l f x : ℕ) → StateOk t F c → loop_of (terminal_at t w) ≡ some (new_loop z l f x) → Known t c.emitted f
      → schedule (target_loop f x l) c ≡ ok c₁ → Opened (in_loop f x) F c c₁
  unfolding pushed
  opened_loop {F} {c} {c₁} w z l f x p h k e =
      subst (λ (d : Context). Opened (in_loop f x) F c d) (schedule_ok t (target_loop f x l) c c₁ e)
      (record { state = push_loop_ok t w z l f x p h k; real = refl; top = record { id = c.next_id; target = target_loop f x l; owns_loop = _ }; stack = refl })

  unscheduled_ok : (inner : TraverseBlock) (F : List Frame) → BlockOk F inner → (b code at : ℕ) (c : Context) (r : BlockResult) → StateOk t F c → Reached t b
      → traverse_unscheduled inner b code at c ≡ ok r → Made F b c.stack r
  unfolding traverse_unscheduled BlockOk
  unscheduled_ok inner F w b code at c r p n e =
      let (u, h, e₁) = bind_ok (refuse_if (is_scheduled c b) code at c.visits) _ r e in w b c r p n e₁

  -- a block that the walk may enter
  abbrev pub Fit : ℕ → Type 0
  Fit b = Reached t b

  -- the fallthrough of an entered block is taken, if it is reached
  reached_ok : (c : Context) (f : ℕ) (g : Option ℕ) → Reached t f → is_scheduled c f ≡ false → unless_unreachable t c f ≡ ok g → g ≡ some f
  unfolding unless_unreachable
  reached_ok c f g q h e =
      let (u, h₁, e₁) = bind_ok (refuse_if (is_absent (terminal_at t f)) 10 f c.visits) _ g e in
      sym (ok_eq e₁) ∙ ap (λ (y : Bool). elim y [ true ↦ none | false ↦ unless_scheduled c f ]) q ∙ untaken_free t c f h

  open_ok : (c : Context) (f : ℕ) (g : Option ℕ) → is_unreachable (terminal_at t f) ≡ true → unless_unreachable t c f ≡ ok g → g ≡ none
  unfolding unless_unreachable
  open_ok c f g q e =
      let (u, h₁, e₁) = bind_ok (refuse_if (is_absent (terminal_at t f)) 10 f c.visits) _ g e in
      sym (ok_eq e₁) ∙ ap (λ (y : Bool). elim y [ true ↦ none | false ↦ unless_scheduled c f ]) q

  by_reach : {P : Type 0} (f : ℕ) → (Reached t f → P) → (is_unreachable (terminal_at t f) ≡ true → P) → P
  by_reach {P} f then' else' = at (is_unreachable (terminal_at t f)) refl
    where
      at : (y : Bool) → is_unreachable (terminal_at t f) ≡ y → P
      at true e = else' e
      at false e = then' e

  -- of another statement than an If or a Label it is reached
  end_reached : {width : Width} → WideLoops width t → (b f : ℕ) (m : Terminal) → terminal_at t b ≡ m → fallthrough_of m ≡ some f → may_be_open m ≡ false → Reached t f
  end_reached pl b f m e q h = by_reach f (λ z. z) (λ z. absurd (true_false (sym (pl.open_ends b f (ap fallthrough_of e ∙ q) z) ∙ ap may_be_open e ∙ h)))

  closed_ok : {G : Frame} {F : List Frame} {c c₁ d c₂ : Context} (f : ℕ) → Opened G F c c₁ → Closed t (G ∷ F) c₁.stack d → unschedule_if (some f) c.next_id d ≡ ok c₂ → Closed t F c.stack c₂
  unfolding unschedule_if
  closed_ok {G} {F} {c} {c₁} {d} {c₂} f o p e = unschedule_ok t c.next_id o.top c.stack d c₂ o.real p.state (p.same ∙ o.stack) e

  -- ---- If

  data AltOk (F : List Frame) (a f : ℕ) (S : List Entry) (s : AlternateResult) : Type 0 where
    no_alt : a ≡ f → s.present ≡ false → s.statements ≡ done → Closed t F S s.context → AltOk F a f S s
    an_alt : s.present ≡ true → Built t seen_row F a s.statements → Closed t F S s.context → AltOk F a f S s

  alternate_at : (inner : TraverseBlock) (F : List Frame) → BlockOk F inner → (a f : ℕ) (c : Context) (s : AlternateResult) (y : Bool) → eqb a f ≡ y → StateOk t F c → Reached t a
      → elim y [
        | true ↦ ok (record { present = false; statements = done; context = c })
        | false ↦ traverse_unscheduled inner a 13 a c >>= λ r. ok (record { present = true; statements = r.statements; context = r.context })
      ] ≡ ok s
      → AltOk F a f c.stack s
  alternate_at inner F w a f c s true h p n e =
      subst (λ (z : AlternateResult). AltOk F a f c.stack z) (ok_eq e) (no_alt (eqb-true a f h) refl refl (record { state = p; same = refl }))
  alternate_at inner F w a f c s false h p n e =
      let (r, h₁, e₁) = bind_ok (traverse_unscheduled inner a 13 a c) _ s e in
      let m : Made F a c.stack r = unscheduled_ok inner F w a 13 a c r p n h₁ in
      subst (λ (z : AlternateResult). AltOk F a f c.stack z) (ok_eq e₁) (an_alt refl m.tree m.left)

  alternate_ok : (inner : TraverseBlock) (F : List Frame) → BlockOk F inner → (a f : ℕ) (c : Context) (s : AlternateResult) → StateOk t F c → Reached t a
      → traverse_alternate inner a f c ≡ ok s → AltOk F a f c.stack s
  unfolding traverse_alternate
  alternate_ok inner F w a f c s p n e = alternate_at inner F w a f c s (eqb a f) refl p n e

  if_built : (F : List Frame) (b x y a f i : ℕ) (S : List Entry) (s₁ : Statements) (s : AlternateResult) → terminal_at t b ≡ if x y a f
      → Built t seen_row (in_label f ∷ F) y s₁ → AltOk (in_label f ∷ F) a f S s
      → (r : Statements) → Built t seen_row F f r → Built t seen_row F b (instruction_statements t (instruction_rows_at t b) (IF x i (some f) s₁ s.present s.statements ▸ r))
  if_built F b x y a f i S s₁ s e p (no_alt h n q k) r m = rw (n, q) (built_if_only x y f i (e ∙ ap (λ (z : ℕ). if x y z f) h) p m refl)
  if_built F b x y a f i S s₁ s e p (an_alt n q k) r m = rw n (built_if x y a f i e p q m refl)

  alt_left : {F : List Frame} {a f : ℕ} {S : List Entry} {s : AlternateResult} → AltOk F a f S s → Closed t F S s.context
  alt_left (no_alt h n q k) = k
  alt_left (an_alt n q k) = k

  and_then : {F : List Frame} {S S' : List Entry} {c : Context} → Closed t F S c → S ≡ S' → Closed t F S' c
  and_then p h = record { state = p.state; same = p.same ∙ h }

  suits_in : {rule : Rule} {o : Around} {F : List Frame} (e : Enclosing) (G : Frame) → Suits rule o F
      → (Fits t F o.statements → Fits t (G ∷ F) (e ∷ o.statements)) → (Free F → Free (G ∷ F)) → Suits rule (within e o) (G ∷ F)
  suits_in e G su k n = record { by_rule = su.by_rule; fits = k su.fits; free = n su.free }

  module _ (rule : Rule) {width : Width} (covers : Covers rule width) (pl : WideLoops width t) (rg : Ranged t) (pv : SeenValues t seen_row) (si : SeenInits t seen_row) (values : VisitValueBlock) (vo : ValuesOk values)
      (inner : TraverseInside) (wo : WalkOk rule inner) where
    not_exit : (b f : ℕ) (m : Terminal) → terminal_at t b ≡ m → fallthrough_of m ≡ some f → is_optional m ≡ false → NotExit f
    not_exit b f m e q h b' o y e' =
        let same : b ≡ b' = pl.one_fallthrough b b' f (ap fallthrough_of e ∙ q) (ap fallthrough_of e') in
        true_false (sym (ap is_optional (sym e ∙ ap (λ (z : ℕ). terminal_at t z) same ∙ e')) ∙ h)

    again_not_exit : (b x l f k : ℕ) → loop_of (terminal_at t b) ≡ some (new_loop x l f k) → NotExit k
    again_not_exit b x l f k q b' o y e' = pl.no_again b' k b x l f k (ap fallthrough_of e') q refl

    case_not_exit : (k : ℕ) → IsProper t k → NotExit k
    case_not_exit k c b' o y e' = pl.case_fallthrough b' k (ap fallthrough_of e') c

    -- a loop's test, which ends in no Optional's Branch, as the loop's fallthrough is built
    test_leads : {F : List Frame} {o : Around} → Suits rule o F → (b x l f k y : ℕ) (v : ValueBlockResult) (rd : ReadEnd x v) → loop_of (terminal_at t b) ≡ some (new_loop x l f k)
        → terminal_at t v.block ≡ branch y l f → (r' : Statements) → Built t seen_row F f r' → (a : Answers) → ValueOn t seen_row none v.block x a (run_value seen_row v.value false a)
    test_leads {F} su b x l f k y v rd it e₁ r' p' a =
        value_leads t seen_row pv rd.reads none (quiet_of t seen_row pv rd.holder (pl.test_store b x l f k rd.holder v.block it rd.ends))
        (λ b' owns. owned_free su.free pv owns (built_moved (no_way (sym e₁ ∙ owns.asks.ways)) p')) a

    -- an Optional that is a statement is linked to none
    unlinked : {F : List Frame} {o : Around} → Suits rule o F → (b : ℕ) (m : Terminal) (f : ℕ) {w : Value} → ReadsTerminal t m w f → terminal_at t b ≡ m → is_optional m ≡ true
        → (r' : Statements) → Built t seen_row F f r' → Exits t b f
    unlinked su b m f reads e opt r' p' =
        let (l, o, x, q) = optional_link t seen_row reads opt in
        exit_last o x f (e ∙ q) (λ e' bare b' owns. bare_free su.free pv bare owns p')

    inside_label : {F : List Frame} (o : Around) (f : ℕ) → NotExit f → Suits rule o F → BlockOk (in_label f ∷ F) (inner (within (another (some f)) o))
    unfolding WalkOk
    inside_label {F} o f n su = wo (within (another (some f)) o) (in_label f ∷ F) (suits_in (another (some f)) (in_label f) su (λ p. fits_label f p) (λ z. (n, z)))

    inside_scope : {F : List Frame} (o : Around) (f : ℕ) → NotExit f → Suits rule o F → BlockOk (in_scope f ∷ F) (inner (within (another none) o))
    unfolding WalkOk
    inside_scope {F} o f n su = wo (within (another none) o) (in_scope f ∷ F) (suits_in (another none) (in_scope f) su (λ p. fits_scope f p) (λ z. (n, z)))

    inside_loop : {F : List Frame} (o : Around) (f x : ℕ) → NotExit f → NotExit x → Suits rule o F → BlockOk (in_loop f x ∷ F) (inner (within (a_loop (some f)) o))
    unfolding WalkOk
    inside_loop {F} o f x n n' su = wo (within (a_loop (some f)) o) (in_loop f x ∷ F) (suits_in (a_loop (some f)) (in_loop f x) su (λ p. fits_loop f x p) (λ z. (n, n', z)))

    inside_open : {F : List Frame} (o : Around) → Suits rule o F → BlockOk F (inner (within (another none) o))
    unfolding WalkOk
    inside_open {F} o su = wo (within (another none) o) F (record { by_rule = su.by_rule; fits = fits_open su.fits; free = su.free })

    nothing_scheduled : (c c₁ : Context) → schedule_if none c ≡ ok c₁ → c ≡ c₁
    unfolding schedule_if
    nothing_scheduled c c₁ e = ok_eq e

    nothing_unscheduled : (i : ℕ) (c c₁ : Context) → unschedule_if none i c ≡ ok c₁ → c ≡ c₁
    unfolding unschedule_if
    nothing_unscheduled i c c₁ e = ok_eq e

    if_ok : {F : List Frame} {c₀ c : Context} (o : Around) → Suits rule o F → (b x y a f : ℕ) (k : Block) (s : TerminalResult) → Entered t b F c₀ c → terminal_at t b ≡ if x y a f
        → visit_terminal t values inner o (if x y a f) b k c ≡ ok s → StepOk F b c.stack s
    unfolding visit_terminal
    if_ok {F} {c₀} {c} o su b x y a f k s p e h =
        let (g, h₁, k₁) = bind_ok (unless_unreachable t c f) _ s h in
        let (c₁, h₂, k₂) = bind_ok (schedule_if g c) _ s k₁ in
        let (r, h₃, k₃) = bind_ok (traverse_unscheduled (inner (within (another g) o)) y 12 y c₁) _ s k₂ in
        let (w, h₄, k₄) = bind_ok (traverse_alternate (inner (within (another g) o)) a f r.context) _ s k₃ in
        let (c₂, h₅, k₅) = bind_ok (unschedule_if g c.next_id w.context) _ s k₄ in
        by_reach f (λ z. finish z g c₁ r w c₂ (reached_ok c f g z (fallthrough_free t pl b f p (ap fallthrough_of e)) h₁) h₂ h₃ h₄ h₅ k₅)
        (λ z. opened z g c₁ r w c₂ (open_ok c f g z h₁) h₂ h₃ h₄ h₅ k₅)
      where
        into : All (Reached t) (wide_entered_by (if x y a f))
        into = subst (λ (m : Terminal). All (Reached t) (wide_entered_by m)) e (pl.entered b)

        finish : Reached t f → (g : Option ℕ) (c₁ : Context) (r : BlockResult) (w : AlternateResult) (c₂ : Context) → g ≡ some f → schedule_if g c ≡ ok c₁
            → traverse_unscheduled (inner (within (another g) o)) y 12 y c₁ ≡ ok r
            → traverse_alternate (inner (within (another g) o)) a f r.context ≡ ok w → unschedule_if g c.next_id w.context ≡ ok c₂
            → ok (record { statement = some (IF x k.id g r.statements w.present w.statements); next = g; context = c₂ }) ≡ ok s → StepOk F b c.stack s
        finish rf g c₁ r w c₂ q h₂ h₃ h₄ h₅ k₅ =
            let z₁ : Opened (in_label f) F c c₁ = opened_label f p.state (fallthrough_of_lem b p.new (ap fallthrough_of e)) (rw q at h₂) in
            let m : Made (in_label f ∷ F) y c₁.stack r = unscheduled_ok (inner (within (another (some f)) o)) (in_label f ∷ F) (inside_label o f (not_exit b f (if x y a f) e refl refl) su) y 12 y
            c₁ r z₁.state into.0 (rw q at h₃) in
            let z : AltOk (in_label f ∷ F) a f r.context.stack w = alternate_ok (inner (within (another (some f)) o)) (in_label f ∷ F) (inside_label o f (not_exit b f (if x y a f) e refl refl) su)
            a f r.context w m.left.state into.1.0 (rw q at h₄) in
            let u : Closed t F c.stack c₂ = closed_ok f z₁ (and_then (alt_left z) m.left.same) (rw q at h₅) in
            subst (λ (v : TerminalResult). StepOk F b c.stack v) (ok_eq k₅)
            (rw q (goes_on f refl rf (if_built F b x y a f k.id r.context.stack r.statements w e m.tree z) u))

        -- its end is not reached, so that its alternate is another block
        built_open : (r : BlockResult) (w : AlternateResult) (S : List Entry) → is_unreachable (terminal_at t f) ≡ true → Built t seen_row F y r.statements → AltOk F a f S w
            → Built t seen_row F b (instruction_statements t (instruction_rows_at t b) (IF x k.id none r.statements w.present w.statements ▸ done))
        built_open r w S u m (no_alt h n q z) = absurd (true_false (sym (ap (λ (v : ℕ). is_unreachable (terminal_at t v)) h ∙ u) ∙ into.1.0))
        built_open r w S u m (an_alt n q z) = rw n (built_if_open x y a f k.id e m q refl)

        opened : is_unreachable (terminal_at t f) ≡ true → (g : Option ℕ) (c₁ : Context) (r : BlockResult) (w : AlternateResult) (c₂ : Context) → g ≡ none → schedule_if g c ≡ ok c₁
            → traverse_unscheduled (inner (within (another g) o)) y 12 y c₁ ≡ ok r
            → traverse_alternate (inner (within (another g) o)) a f r.context ≡ ok w → unschedule_if g c.next_id w.context ≡ ok c₂
            → ok (record { statement = some (IF x k.id g r.statements w.present w.statements); next = g; context = c₂ }) ≡ ok s → StepOk F b c.stack s
        opened u g c₁ r w c₂ q h₂ h₃ h₄ h₅ k₅ =
            let i : c ≡ c₁ = nothing_scheduled c c₁ (rw q at h₂) in
            let m : Made F y c₁.stack r = unscheduled_ok (inner (within (another none) o)) F (inside_open o su) y 12 y
            c₁ r (subst (λ (d : Context). StateOk t F d) i p.state) into.0 (rw q at h₃) in
            let z : AltOk F a f r.context.stack w = alternate_ok (inner (within (another none) o)) F (inside_open o su)
            a f r.context w m.left.state into.1.0 (rw q at h₄) in
            let v : w.context ≡ c₂ = nothing_unscheduled c.next_id w.context c₂ (rw q at h₅) in
            let l : Closed t F c.stack w.context = and_then (alt_left z) (m.left.same ∙ ap (λ (d : Context). d.stack) (sym i)) in
            subst (λ (v : TerminalResult). StepOk F b c.stack v) (ok_eq k₅)
            (rw q (ends_here refl (built_open r w r.context.stack u m.tree z) (subst (λ (d : Context). Closed t F c.stack d) v l)))

    -- ---- Label and the scopes

    enclosed_ok : {G : Frame} {F : List Frame} {c c₁ : Context} (a : Around) → BlockOk (G ∷ F) (inner a)
        → (b x code at f : ℕ) (make : Statements → Statement) (s : TerminalResult) → Opened G F c c₁ → Fit x → Fit f ⊎ (is_unreachable (terminal_at t f) ≡ true)
        → ((s₁ r : Statements) → Built t seen_row (G ∷ F) x s₁ → Built t seen_row F f r → Built t seen_row F b (instruction_statements t (instruction_rows_at t b) (make s₁ ▸ r)))
        → traverse_enclosed (inner a) x code at (some f) c c₁ make ≡ ok s → StepOk F b c.stack s
    unfolding traverse_enclosed
    enclosed_ok {G} {F} {c} {c₁} a w b x code at f make s o n nf mk h =
        let (r, h₁, k₁) = bind_ok (traverse_unscheduled (inner a) x code at c₁) _ s h in
        let (c₂, h₂, k₂) = bind_ok (unschedule_if (some f) c.next_id r.context) _ s k₁ in
        let m : Made (G ∷ F) x c₁.stack r = unscheduled_ok (inner a) (G ∷ F) w x code at c₁ r o.state n h₁ in
        subst (λ (v : TerminalResult). StepOk F b c.stack v) (ok_eq k₂)
        (onto f nf refl (λ r' q. mk r.statements r' m.tree q) (closed_ok f o m.left h₂))
      where
        onto : {S : List Entry} {v : TerminalResult} (g : ℕ) → Fit g ⊎ (is_unreachable (terminal_at t g) ≡ true) → v.next ≡ some g
            → ((r : Statements) → Built t seen_row F g r → Built t seen_row F b (instruction_statements t (instruction_rows_at t b) (followed_by v.statement r)))
            → Closed t F S v.context → StepOk F b S v
        onto g (inl n') q p l = goes_on g q n' p l
        onto g (inr z) q p l = goes_out g q z p l

    label_ok : {F : List Frame} {c₀ c : Context} (o : Around) → Suits rule o F → (b x f : ℕ) (k : Block) (s : TerminalResult) → Entered t b F c₀ c → terminal_at t b ≡ label x f
        → visit_terminal t values inner o (label x f) b k c ≡ ok s → StepOk F b c.stack s
    unfolding visit_terminal traverse_enclosed
    label_ok {F} {c₀} {c} o su b x f k s p e h =
        let (g, h₁, k₁) = bind_ok (unless_unreachable t c f) _ s h in
        by_reach f (λ z. finish z g (reached_ok c f g z (fallthrough_free t pl b f p (ap fallthrough_of e)) h₁) k₁) (λ z. opened g (open_ok c f g z h₁) k₁)
      where
        into : All (Reached t) (wide_entered_by (label x f))
        into = subst (λ (m : Terminal). All (Reached t) (wide_entered_by m)) e (pl.entered b)

        taken : Reached t f → (schedule_if (some f) c >>= λ c₁. traverse_enclosed (inner (within (another (some f)) o)) x 17 b (some f) c c₁ (LABEL k.id (some f))) ≡ ok s → StepOk F b c.stack s
        taken rf h₁ =
            let (c₁, h₂, k₂) = bind_ok (schedule_if (some f) c) _ s h₁ in
            enclosed_ok (within (another (some f)) o) (inside_label o f (not_exit b f (label x f) e refl refl) su) b x 17 b f (LABEL k.id (some f)) s
            (opened_label f p.state (fallthrough_of_lem b p.new (ap fallthrough_of e)) h₂) into.0 (inl rf)
            (λ s₁ r p₁ p₂. built_label x f k.id e p₁ p₂ refl) k₂

        finish : Reached t f → (g : Option ℕ) → g ≡ some f → (schedule_if g c >>= λ c₁. traverse_enclosed (inner (within (another g) o)) x 17 b g c c₁ (LABEL k.id g)) ≡ ok s → StepOk F b c.stack s
        finish rf g q k₁ = taken rf (rw q at k₁)

        nothing : (schedule_if none c >>= λ c₁. traverse_enclosed (inner (within (another none) o)) x 17 b none c c₁ (LABEL k.id none)) ≡ ok s → StepOk F b c.stack s
        nothing h₁ =
            let (c₁, h₂, k₂) = bind_ok (schedule_if none c) _ s h₁ in
            let (r, h₃, k₃) = bind_ok (traverse_unscheduled (inner (within (another none) o)) x 17 b c₁) _ s k₂ in
            let (c₂, h₄, k₄) = bind_ok (unschedule_if none c.next_id r.context) _ s k₃ in
            let i : c ≡ c₁ = nothing_scheduled c c₁ h₂ in
            let m : Made F x c₁.stack r = unscheduled_ok (inner (within (another none) o)) F (inside_open o su) x 17 b
            c₁ r (subst (λ (d : Context). StateOk t F d) i p.state) into.0 h₃ in
            let l : Closed t F c.stack r.context = and_then m.left (ap (λ (d : Context). d.stack) (sym i)) in
            subst (λ (v : TerminalResult). StepOk F b c.stack v) (ok_eq k₄)
            (ends_here refl (built_label_open x f k.id e m.tree refl) (subst (λ (d : Context). Closed t F c.stack d) (nothing_unscheduled c.next_id r.context c₂ h₄) l))

        opened : (g : Option ℕ) → g ≡ none → (schedule_if g c >>= λ c₁. traverse_enclosed (inner (within (another g) o)) x 17 b g c c₁ (LABEL k.id g)) ≡ ok s → StepOk F b c.stack s
        opened g q k₁ = nothing (rw q at k₁)

    scope_ok : {F : List Frame} {c₀ c : Context} (o : Around) → Suits rule o F → (b : ℕ) (pr : Bool) (x f n : ℕ) (k : Block) (s : TerminalResult)
        → Entered t b F c₀ c → terminal_at t b ≡ scope pr x f n
        → visit_terminal t values inner o (scope pr x f n) b k c ≡ ok s → StepOk F b c.stack s
    unfolding visit_terminal
    scope_ok {F} {c₀} {c} o su b pr x f n k s p e h = finish (unless_scheduled c f) (untaken_free t c f (fallthrough_free t pl b f p (ap fallthrough_of e))) h
      where
        into : All (Reached t) (wide_entered_by (scope pr x f n))
        into = subst (λ (m : Terminal). All (Reached t) (wide_entered_by m)) e (pl.entered b)

        taken : (schedule_if (some f) c >>= λ c₁. traverse_enclosed (inner (within (another none) o)) x 18 b (some f) c (mark_scope_fallthrough_if (some f) c₁)
            (SCOPE pr n)) ≡ ok s → StepOk F b c.stack s
        taken h₁ =
            let (c₁, h₂, k₂) = bind_ok (schedule_if (some f) c) _ s h₁ in
            enclosed_ok (within (another none) o) (inside_scope o f (not_exit b f (scope pr x f n) e refl refl) su) b x 18 b f (SCOPE pr n) s
            (opened_scope f (omega (arith, rg.fallthroughs b f (ap fallthrough_of e), rg.few)) p.state (fallthrough_of_lem b p.new (ap fallthrough_of e)) h₂)
            into.0 (by_reach f (λ z. inl z) (λ z. inr z))
            (λ s₁ r p₁ p₂. built_scope pr x f n e p₁ p₂ refl) k₂

        finish : (g : Option ℕ) → g ≡ some f → (schedule_if g c >>= λ c₁. traverse_enclosed (inner (within (another none) o)) x 18 b g c
            (mark_scope_fallthrough_if g c₁) (SCOPE pr n)) ≡ ok s → StepOk F b c.stack s
        finish g q k₁ = taken (rw q at k₁)

    -- ---- While

    while_ok : {F : List Frame} {c₀ c : Context} (o : Around) → Suits rule o F → (b x l f : ℕ) (k : Block) (s : TerminalResult) → Entered t b F c₀ c → terminal_at t b ≡ while x l f
        → visit_terminal t values inner o (while x l f) b k c ≡ ok s → StepOk F b c.stack s
    unfolding visit_terminal traverse_loop BlockOk with_visits
    while_ok {F} {c₀} {c} o su b x l f k s p e h =
        let (g, h₁, k₁) = bind_ok (unless_unreachable t c f) _ s h in
        let (c₁, h₂, k₂) = bind_ok (schedule (target_loop f x l) c) _ s k₁ in
        let (v, h₃, k₃) = bind_ok (values x none k.span c₁.visits) _ s k₂ in
        let (u, h₄, k₄) = bind_ok (refuse_if (loop_is_taken c l f) 16 b v.visits) _ s k₃ in
        let (r, h₅, k₅) = bind_ok (inner (within (a_loop g) o) l (with_visits v.visits c₁)) _ s k₄ in
        let (c₂, h₆, k₆) = bind_ok (unschedule c.next_id r.context) _ s k₅ in
        finish g c₁ v r c₂ (reached_ok c f g parts.1 (fallthrough_free t pl b f p (ap fallthrough_of e)) h₁) h₂ h₃ h₅ h₆ k₆
      where
        it : loop_of (terminal_at t b) ≡ some (new_loop x l f x)
        it = ap loop_of e

        parts : Fit l × Fit f
        parts =
            let w : All (Reached t) (wide_entered_by (while x l f)) = subst (λ (m : Terminal). All (Reached t) (wide_entered_by m)) e (pl.entered b) in
            (w.1.0, end_reached pl b f (while x l f) e refl refl)

        finish : (g : Option ℕ) (c₁ : Context) (v : ValueBlockResult) (r : BlockResult) (c₂ : Context) → g ≡ some f → schedule (target_loop f x l) c ≡ ok c₁
            → values x none k.span c₁.visits ≡ ok v → inner (within (a_loop g) o) l (with_visits v.visits c₁) ≡ ok r → unschedule c.next_id r.context ≡ ok c₂
            → ok (record { statement = some (WHILE k.id g v.value r.statements); next = g; context = c₂ }) ≡ ok s → StepOk F b c.stack s
        finish g c₁ v r c₂ q h₂ h₃ h₅ h₆ k₆ =
            let z₁ : Opened (in_loop f x) F c c₁ = opened_loop b x l f x p.state it (fallthrough_of_lem b p.new (ap fallthrough_of e)) h₂ in
            let m : Made (in_loop f x ∷ F) l c₁.stack r = inside_loop o f x (not_exit b f (while x l f) e refl refl) (again_not_exit b x l f x it) su l (with_visits v.visits c₁) r (with_visits_ok t v.visits z₁.state) parts.0 (rw q at h₅) in
            let rd : ReadEnd x v = vo.blocks x none k.span c₁.visits v h₃ in
            let (y, e₁) = pl.tests b x l f x rd.holder v.block it rd.ends in
            subst (λ (z : TerminalResult). StepOk F b c.stack z) (ok_eq k₆)
            (rw q (goes_on f refl parts.1
            (λ r' p'. built_while x l f v.block y k.id v.value e e₁ (test_leads su b x l f x y v rd it e₁ r' p') (λ nv. straight_read t nv rd.reads) m.tree p' refl)
            (unschedule_ok t c.next_id z₁.top c.stack r.context c₂ refl m.left.state (m.left.same ∙ z₁.stack) h₆)))

    -- ---- DoWhile

    do_while_ok : {F : List Frame} {c₀ c : Context} (o : Around) → Suits rule o F → (b l x f : ℕ) (k : Block) (s : TerminalResult) → Entered t b F c₀ c → terminal_at t b ≡ do_while l x f
        → visit_terminal t values inner o (do_while l x f) b k c ≡ ok s → StepOk F b c.stack s
    unfolding visit_terminal BlockOk with_visits
    do_while_ok {F} {c₀} {c} o su b l x f k s p e h =
        let (c₁, h₂, k₂) = bind_ok (schedule (target_loop f x l) c) _ s h in
        let (u, h₄, k₄) = bind_ok (refuse_if (loop_is_taken c l f) 16 b c₁.visits) _ s k₂ in
        let (r, h₅, k₅) = bind_ok (inner (within (a_loop (unless_scheduled c f)) o) l c₁) _ s k₄ in
        let (v, h₃, k₃) = bind_ok (values x none k.span r.context.visits) _ s k₅ in
        let (c₂, h₆, k₆) = bind_ok (unschedule c.next_id (with_visits v.visits r.context)) _ s k₃ in
        finish (unless_scheduled c f) c₁ v r c₂ (untaken_free t c f (fallthrough_free t pl b f p (ap fallthrough_of e))) h₂ h₃ h₅ h₆ k₆
      where
        it : loop_of (terminal_at t b) ≡ some (new_loop x l f x)
        it = ap loop_of e

        parts : Fit l × Fit f
        parts =
            let w : All (Reached t) (wide_entered_by (do_while l x f)) = subst (λ (m : Terminal). All (Reached t) (wide_entered_by m)) e (pl.entered b) in
            (w.0, end_reached pl b f (do_while l x f) e refl refl)

        finish : (g : Option ℕ) (c₁ : Context) (v : ValueBlockResult) (r : BlockResult) (c₂ : Context) → g ≡ some f → schedule (target_loop f x l) c ≡ ok c₁
            → values x none k.span r.context.visits ≡ ok v → inner (within (a_loop g) o) l c₁ ≡ ok r → unschedule c.next_id (with_visits v.visits r.context) ≡ ok c₂
            → ok (record { statement = some (DOWHILE k.id g r.statements v.value); next = g; context = c₂ }) ≡ ok s → StepOk F b c.stack s
        finish g c₁ v r c₂ q h₂ h₃ h₅ h₆ k₆ =
            let z₁ : Opened (in_loop f x) F c c₁ = opened_loop b x l f x p.state it (fallthrough_of_lem b p.new (ap fallthrough_of e)) h₂ in
            let m : Made (in_loop f x ∷ F) l c₁.stack r = inside_loop o f x (not_exit b f (do_while l x f) e refl refl) (again_not_exit b x l f x it) su l c₁ r z₁.state parts.0 (rw q at h₅) in
            let rd : ReadEnd x v = vo.blocks x none k.span r.context.visits v h₃ in
            let (y, e₁) = pl.tests b x l f x rd.holder v.block it rd.ends in
            subst (λ (z : TerminalResult). StepOk F b c.stack z) (ok_eq k₆)
            (rw q (goes_on f refl parts.1
            (λ r' p'. built_do_while l x f v.block y k.id v.value e e₁ (test_leads su b x l f x y v rd it e₁ r' p') (λ nv. straight_read t nv rd.reads) m.tree p' refl)
            (unschedule_ok t c.next_id z₁.top c.stack (with_visits v.visits r.context) c₂ refl (with_visits_ok t v.visits m.left.state) (m.left.same ∙ z₁.stack) h₆)))

    -- ---- For

    -- the update, if there is one: from where the loop continues to the test
    update_ok : (b n x : ℕ) (u : Option ℕ) (l f : ℕ) (span : Span) (v : ℕ) (z : OptionalValue) → terminal_at t b ≡ for n x u l f → visit_update values u span v ≡ ok z
        → (a : Answers) → TermOn t seen_row none x (continue_block_of u x) a (run_update seen_row z.value a)
    unfolding visit_update valued
    update_ok b n x none l f span v z e h a =
        subst (λ (w : OptionalValue). TermOn t seen_row none x x a (run_update seen_row w.value a)) (ok_eq h) (onward_here t seen_row x a)
    update_ok b n x (some u) l f span v z e h a =
        let (r, h₁, k₁) = bind_ok (values u none span v) _ z h in
        let rd : ReadEnd u r = vo.blocks u none span v r h₁ in
        let goes : GoesTo t r.block x = pl.updates b n x u l f rd.holder r.block e rd.ends in
        subst (λ (w : OptionalValue). TermOn t seen_row none x u a (run_update seen_row w.value a)) (ok_eq k₁)
        (arm t seen_row r.block x u a (run_value seen_row r.value false a) goes
        (value_leads t seen_row pv rd.reads none (quiet_of t seen_row pv rd.holder (pl.update_store b n x u l f rd.holder r.block e rd.ends)) (goto_unowned t seen_row r.block x goes) a))

    update_straight : NoValues t → (u : Option ℕ) (span : Span) (v : ℕ) (z : OptionalValue) → visit_update values u span v ≡ ok z → StraightUpdate z.value
    unfolding visit_update
    update_straight nv none span v z h = subst (λ (w : OptionalValue). StraightUpdate w.value) (ok_eq h) tt
    update_straight nv (some u) span v z h =
        let (r, h₁, k₁) = bind_ok (values u none span v) _ z h in
        subst (λ (w : OptionalValue). StraightUpdate w.value) (ok_eq k₁) (straight_read t nv (vo.blocks u none span v r h₁).reads)

    init_ok : (b n x : ℕ) (u : Option ℕ) (l f : ℕ) (span : Span) (r : ValueBlockResult) → terminal_at t b ≡ for n x u l f → ReadEnd n r
        → (a : Answers) → TermOn t seen_row none x n a (run_value seen_row (value_block_result_to_sequence t r span) false a)
    init_ok b n x u l f span r e rd a =
        let goes : GoesTo t r.block x = pl.inits b n x u l f rd.holder r.block e rd.ends in
        subst (λ (o : Valued). TermOn t seen_row none x n a o) (sym (run_flattened t seen_row r span rd.holder rd.placed (pl.init_load b n x u l f rd.holder r.block e rd.ends) a))
        (arm t seen_row r.block x n a (run_value seen_row r.value false a) goes
        (value_leads t seen_row pv rd.reads none (si.quiet b n x u l f rd.holder r.block e rd.ends) (goto_unowned t seen_row r.block x goes) a))

    for_ok : {F : List Frame} {c₀ c : Context} (o : Around) → Suits rule o F → (b n x : ℕ) (u : Option ℕ) (l f : ℕ) (k : Block) (s : TerminalResult)
        → Entered t b F c₀ c → terminal_at t b ≡ for n x u l f
        → visit_terminal t values inner o (for n x u l f) b k c ≡ ok s → StepOk F b c.stack s
    unfolding visit_terminal traverse_loop BlockOk with_visits
    for_ok {F} {c₀} {c} o su b n x u l f k s p e h =
        let (c₁, h₁, k₁) = bind_ok (schedule (target_loop f (continue_block_of u x) l) c) _ s h in
        let (i, h₂, k₂) = bind_ok (values n none k.span c₁.visits) _ s k₁ in
        let (v, h₃, k₃) = bind_ok (values x none k.span i.visits) _ s k₂ in
        let (z, h₄, k₄) = bind_ok (visit_update values u k.span v.visits) _ s k₃ in
        let (w, h₅, k₅) = bind_ok (refuse_if (loop_is_taken c l f) 16 b z.visits) _ s k₄ in
        let (r, h₆, k₆) = bind_ok (inner (within (a_loop (unless_scheduled c f)) o) l (with_visits z.visits c₁)) _ s k₅ in
        let (c₂, h₇, k₇) = bind_ok (unschedule c.next_id r.context) _ s k₆ in
        finish (unless_scheduled c f) c₁ i v z r c₂ (untaken_free t c f (fallthrough_free t pl b f p (ap fallthrough_of e))) h₁ h₂ h₃ h₄ h₆ h₇ k₇
      where
        it : loop_of (terminal_at t b) ≡ some (new_loop x l f (continue_block_of u x))
        it = ap loop_of e

        parts : Fit l × Fit f
        parts =
            let w : All (Reached t) (wide_entered_by (for n x u l f)) = subst (λ (m : Terminal). All (Reached t) (wide_entered_by m)) e (pl.entered b) in
            (w.1.0, end_reached pl b f (for n x u l f) e refl refl)

        finish : (g : Option ℕ) (c₁ : Context) (i v : ValueBlockResult) (z : OptionalValue) (r : BlockResult) (c₂ : Context) → g ≡ some f → schedule (target_loop f (continue_block_of u x) l) c ≡ ok c₁
            → values n none k.span c₁.visits ≡ ok i → values x none k.span i.visits ≡ ok v → visit_update values u k.span v.visits ≡ ok z
            → inner (within (a_loop g) o) l (with_visits z.visits c₁) ≡ ok r → unschedule c.next_id r.context ≡ ok c₂
            → ok (record { statement = some (FOR k.id g (value_block_result_to_sequence t i k.span) v.value z.value r.statements); next = g; context = c₂ }) ≡ ok s → StepOk F b c.stack s
        finish g c₁ i v z r c₂ q h₁ h₂ h₃ h₄ h₆ h₇ k₇ =
            let z₁ : Opened (in_loop f (continue_block_of u x)) F c c₁ = opened_loop b x l f (continue_block_of u x) p.state it (fallthrough_of_lem b p.new (ap fallthrough_of e)) h₁ in
            let m : Made (in_loop f (continue_block_of u x) ∷ F) l c₁.stack r =
            inside_loop o f (continue_block_of u x) (not_exit b f (for n x u l f) e refl refl) (again_not_exit b x l f (continue_block_of u x) it) su l (with_visits z.visits c₁) r (with_visits_ok t z.visits z₁.state) parts.0 (rw q at h₆) in
            let rd : ReadEnd x v = vo.blocks x none k.span i.visits v h₃ in
            let (y, e₁) = pl.tests b x l f (continue_block_of u x) rd.holder v.block it rd.ends in
            let ri : ReadEnd n i = vo.blocks n none k.span c₁.visits i h₂ in
            subst (λ (w' : TerminalResult). StepOk F b c.stack w') (ok_eq k₇)
            (rw q (goes_on f refl parts.1
            (λ r' p'. built_for n x u l f (continue_block_of u x) v.block y k.id (value_block_result_to_sequence t i k.span) v.value z.value e e₁
            (init_ok b n x u l f k.span i e ri) (test_leads su b x l f (continue_block_of u x) y v rd it e₁ r' p') (update_ok b n x u l f k.span v.visits z e h₄)
            (λ nv. (straight_sequence t i k.span (straight_read t nv ri.reads), straight_read t nv rd.reads, update_straight nv u k.span v.visits z h₄)) m.tree p' refl)
            (unschedule_ok t c.next_id z₁.top c.stack r.context c₂ refl m.left.state (m.left.same ∙ z₁.stack) h₇)))

    -- ---- Switch

    -- a case block of the Switch with the fallthrough f
    abbrev CaseOk : ℕ → ℕ → Type 0
    CaseOk f k = IsProper t k × Fit k × (k ≡ f → ⊥)

    abbrev AllCases : (ℕ → Type 0) → List Case → Type 0
    AllCases P [] = Unit {0}
    AllCases P (k ∷ ks) = P k.block × AllCases P ks

    every_case : (P : ℕ → Type 0) (ks : List Case) → ((k : ℕ) → contains (blocks_of ks) k ≡ true → P k) → AllCases P ks
    every_case P [] h = tt
    every_case P (k ∷ ks) h = (h k.block (here (contains (blocks_of ks) k.block)), every_case P ks (λ j q. h j (there (eqb k.block j) (contains (blocks_of ks) j) q)))
      where
        here : (y : Bool) → eqb k.block k.block || y ≡ true
        here y = ap (λ (z : Bool). z || y) (eq-eqb k.block k.block refl)

        there : (x y : Bool) → y ≡ true → x || y ≡ true
        there true y q = refl
        there false y q = q

    cases_known : (b x i n f : ℕ) → terminal_at t b ≡ switch x i n f → AllCases (CaseOk f) (drop_own f (cases_last_first t i n))
    cases_known b x i n f e = every_case (CaseOk f) (drop_own f (cases_last_first t i n)) (λ k h. known k (among k h))
      where
        among : (k : ℕ) → contains (blocks_of (drop_own f (cases_last_first t i n))) k ≡ true → IsProper t k
        among k h = record { of = b; among = ap (λ (m : Terminal). contains (proper_blocks_of t m) k) e ∙ h }

        known : (k : ℕ) → IsProper t k → CaseOk f k
        known k c = (c, pl.case_reached k c, λ q. pl.case_fallthrough b k (ap fallthrough_of e ∙ ap some (sym q)) c)

    -- the last cases, where they are the fallthrough, are skipped
    skip_own : (o : Around) (b f : ℕ) (ks : List Case) (ids : List ℕ) (c : Context) → is_scheduled c f ≡ true
        → traverse_cases (inner o) b f ks ids c ≡ traverse_cases (inner o) b f (drop_own f ks) ids c
    unfolding traverse_cases refuse_if ◌>>=◌
    skip_own o b f [] ids c h = refl
    skip_own o b f (k ∷ ks) ids c h = at (eqb k.block f) refl (skip_own o b f ks ids c h)
      where
        rest : Result CasesResult
        rest = traverse_cases (inner o) b f ks ids c

        other : Result CasesResult
        other = inner o k.block c >>= λ r. schedule (target_case k.block) r.context >>= λ c1.
            traverse_cases (inner o) b f ks (r.context.next_id ∷ ids) c1 >>= λ z. ok (record { cases = CASE k.test r.statements z.cases; ids = z.ids; context = z.context })

        at : (y : Bool) → eqb k.block f ≡ y → traverse_cases (inner o) b f ks ids c ≡ traverse_cases (inner o) b f (drop_own f ks) ids c
            → traverse_cases (inner o) b f (k ∷ ks) ids c ≡ traverse_cases (inner o) b f (cond y (drop_own f ks) (k ∷ ks)) ids c
        at true e ih =
            ap (λ (z : Bool). elim z [ true ↦ refuse_if (not (eqb k.block f)) 14 b c.visits >>= λ _. rest | false ↦ other ]) (ap (is_scheduled c) (eqb-true k.block f e) ∙ h)
            ∙ ap (λ (z : Bool). refuse_if (not z) 14 b c.visits >>= λ _. rest) e ∙ ih
        at false e ih = refl

    -- targets pushed over a stack, with their ids
    data Stacked (F : List Frame) (S : List Entry) : List ℕ → List Frame → List Entry → Type 0 where
      at_base : Stacked F S [] F S
      on_top : {G : List Frame} {E : List Entry} {ids : List ℕ} (i : ℕ) (x : Frame) (e : Entry) → is_open x ≡ false → Stacked F S ids G E → Stacked F S (i ∷ ids) (x ∷ G) (e ∷ E)

    unschedule_all_ok : {F : List Frame} {S : List Entry} {ids : List ℕ} {G : List Frame} {E : List Entry} → Stacked F S ids G E → (c c₂ : Context) → StateOk t G c → c.stack ≡ E
        → unschedule_all ids c ≡ ok c₂ → Closed t F S c₂
    unfolding unschedule_all
    unschedule_all_ok {F} {S} at_base c c₂ p h e = subst (λ (z : Context). Closed t F S z) (ok_eq e) (record { state = p; same = h })
    unschedule_all_ok (on_top {G} {E} {ids} i x w real s) c c₂ p h e =
        let (c₁, h₁, e₁) = bind_ok (unschedule i c) _ c₂ e in
        let q : Closed t G E c₁ = unschedule_ok t i w E c c₁ real p h h₁ in
        unschedule_all_ok s c₁ c₂ q.state q.same e₁

    record CasesMade (F : List Frame) (S : List Entry) (G : List Frame) (ks : List Case) (r : CasesResult) : Type 0 where
      tree : BuiltCases t seen_row G ks r.cases
      above : List Frame
      state : StateOk t above r.context
      stacked : Stacked F S r.ids above r.context.stack

    opened_case : {G : List Frame} {c c₁ : Context} (k : ℕ) → StateOk t G c → IsProper t k → schedule (target_case k) c ≡ ok c₁ → Opened (in_case k) G c c₁
    unfolding pushed
    opened_case {G} {c} {c₁} k p h e =
        subst (λ (d : Context). Opened (in_case k) G c d) (schedule_ok t (target_case k) c c₁ e)
        (record { state = push_case_ok t k p h; real = refl; top = record { id = c.next_id; target = target_case k; owns_loop = false }; stack = refl })

    opened_switch : {F : List Frame} {c c₁ : Context} (b x i n f : ℕ) → StateOk t F c → terminal_at t b ≡ switch x i n f → Known t c.emitted f → schedule_switch (some f) c ≡ ok c₁
        → Opened (in_switch f) F c c₁
    unfolding schedule_switch pushed
    opened_switch {F} {c} {c₁} b x i n f p h k e =
        subst (λ (d : Context). Opened (in_switch f) F c d) (schedule_ok t (target_switch f) c c₁ e)
        (record { state = push_switch_ok t b x i n f p h k; real = refl; top = record { id = c.next_id; target = target_switch f; owns_loop = false }; stack = refl })

    not_false : (y : Bool) → not y ≡ false → y ≡ true
    not_false true e = refl
    not_false false e = absurd (true_false e)

    module _ (F : List Frame) (S : List Entry) (o : Around) (b f : ℕ) where
      -- the cases from the last on, within the switch and the blocks of the later ones
      cases_ok : (ks : List Case) (G : List Frame) (ids : List ℕ) (c : Context) (r : CasesResult) → Suits rule o G → StateOk t G c → Stacked F S ids G c.stack → AllCases (CaseOk f) ks
          → traverse_cases (inner o) b f ks ids c ≡ ok r → CasesMade F S G ks r
      unfolding traverse_cases WalkOk BlockOk
      cases_ok [] G ids c r su p s a e =
          subst (λ (z : CasesResult). CasesMade F S G [] z) (ok_eq e) (record { tree = built_none; above = G; state = p; stacked = s })
      cases_ok (k ∷ ks) G ids c r su p s (a, rest) e = at (is_scheduled c k.block) (λ G' ids' c' r' su' p' s' e'. cases_ok ks G' ids' c' r' su' p' s' rest e') e
        where
          at : (y : Bool)
              → ((G' : List Frame) (ids' : List ℕ) (c' : Context) (r' : CasesResult) → Suits rule o G' → StateOk t G' c' → Stacked F S ids' G' c'.stack
              → traverse_cases (inner o) b f ks ids' c' ≡ ok r'
              → CasesMade F S G' ks r')
              → elim y [
                | true ↦ refuse_if (not (eqb k.block f)) 14 b c.visits >>= λ _. traverse_cases (inner o) b f ks ids c
                | false ↦ inner o k.block c >>= λ r. schedule (target_case k.block) r.context >>= λ c1.
                    traverse_cases (inner o) b f ks (r.context.next_id ∷ ids) c1 >>= λ z. ok (record { cases = CASE k.test r.statements z.cases; ids = z.ids; context = z.context })
              ] ≡ ok r
              → CasesMade F S G (k ∷ ks) r
          at true ih h =
              let (u, h₁, e₁) = bind_ok (refuse_if (not (eqb k.block f)) 14 b c.visits) _ r h in
              absurd (a.2 (eqb-true k.block f (not_false (eqb k.block f) (unless_ok (not (eqb k.block f)) 14 b c.visits u h₁))))
          at false ih h =
              let (r₁, h₁, e₁) = bind_ok (inner o k.block c) _ r h in
              let (c₁, h₂, e₂) = bind_ok (schedule (target_case k.block) r₁.context) _ r e₁ in
              let (z, h₃, e₃) = bind_ok (traverse_cases (inner o) b f ks (r₁.context.next_id ∷ ids) c₁) _ r e₂ in
              made r₁ c₁ z h₁ h₂ h₃ e₃
            where
              made : (r₁ : BlockResult) (c₁ : Context) (z : CasesResult) → inner o k.block c ≡ ok r₁ → schedule (target_case k.block) r₁.context ≡ ok c₁
                  → traverse_cases (inner o) b f ks (r₁.context.next_id ∷ ids) c₁ ≡ ok z → ok (record { cases = CASE k.test r₁.statements z.cases; ids = z.ids; context = z.context }) ≡ ok r
                  → CasesMade F S G (k ∷ ks) r
              made r₁ c₁ z h₁ h₂ h₃ e₃ =
                  let m : Made G k.block c.stack r₁ = wo o G su k.block c r₁ p a.1 h₁ in
                  let z₁ : Opened (in_case k.block) G r₁.context c₁ = opened_case k.block m.left.state a.0 h₂ in
                  let s₁ : Stacked F S (r₁.context.next_id ∷ ids) (in_case k.block ∷ G) c₁.stack =
                  subst (λ (E : List Entry). Stacked F S (r₁.context.next_id ∷ ids) (in_case k.block ∷ G) E)
                  (sym (z₁.stack ∙ ap (λ (E : List Entry). z₁.top ∷ E) m.left.same)) (on_top r₁.context.next_id (in_case k.block) z₁.top refl s) in
                  let q : CasesMade F S (in_case k.block ∷ G) ks z =
                  ih (in_case k.block ∷ G) (r₁.context.next_id ∷ ids) c₁ z (record { by_rule = su.by_rule; fits = fits_case k.block su.fits; free = (case_not_exit k.block a.0, su.free) }) z₁.state s₁ h₃ in
                  subst (λ (w : CasesResult). CasesMade F S G (k ∷ ks) w) (ok_eq e₃)
                  (record { tree = built_case k k.test m.tree q.tree; above = q.above; state = q.state; stacked = q.stacked })

    no_switch_scheduled : (c c₁ : Context) → schedule_switch none c ≡ ok c₁ → c ≡ c₁
    unfolding schedule_switch
    no_switch_scheduled c c₁ e = ok_eq e

    switch_ok : {F : List Frame} {c₀ c : Context} (o : Around) → Suits rule o F → (b x i n f : ℕ) (k : Block) (s : TerminalResult) → Entered t b F c₀ c → terminal_at t b ≡ switch x i n f
        → visit_terminal t values inner o (switch x i n f) b k c ≡ ok s → StepOk F b c.stack s
    unfolding visit_terminal
    switch_ok {F} {c₀} {c} o su b x i n f k s p e h =
        let (g, h₁, k₁) = bind_ok (unless_unreachable t c f) _ s h in
        let (c₁, h₂, k₂) = bind_ok (schedule_switch g c) _ s k₁ in
        let (r, h₃, k₃) = bind_ok (traverse_cases (inner (within (a_switch g) o)) b f (cases_last_first t i n) (schedule_ids g c.next_id) c₁) _ s k₂ in
        let (c₂, h₄, k₄) = bind_ok (unschedule_all r.ids r.context) _ s k₃ in
        by_reach f (λ z. finish z g c₁ r c₂ (reached_ok c f g z (fallthrough_free t pl b f p (ap fallthrough_of e)) h₁) h₂ h₃ h₄ k₄)
        (λ z. opened z g c₁ r c₂ (open_ok c f g z h₁) h₂ h₃ h₄ k₄)
      where
        taken : (c₁ : Context) → schedule_switch (some f) c ≡ ok c₁ → is_scheduled c₁ f ≡ true
        taken c₁ h =
            ap (λ (d : Context). is_scheduled d f) (sym (schedule_ok t (target_switch f) c c₁ (unfold schedule_switch in h)))
            ∙ switch_scheduled t f (omega (arith, rg.fallthroughs b f (ap fallthrough_of e), rg.few)) p.state

        finish : Reached t f → (g : Option ℕ) (c₁ : Context) (r : CasesResult) (c₂ : Context) → g ≡ some f → schedule_switch g c ≡ ok c₁
            → traverse_cases (inner (within (a_switch g) o)) b f (cases_last_first t i n) (schedule_ids g c.next_id) c₁ ≡ ok r → unschedule_all r.ids r.context ≡ ok c₂
            → ok (record { statement = some (SWITCH x k.id g r.cases); next = g; context = c₂ }) ≡ ok s → StepOk F b c.stack s
        finish rf g c₁ r c₂ q h₂ h₃ h₄ k₄ =
            let z₁ : Opened (in_switch f) F c c₁ = opened_switch b x i n f p.state e (fallthrough_of_lem b p.new (ap fallthrough_of e)) (rw q at h₂) in
            let m : CasesMade F c.stack (in_switch f ∷ F) (drop_own f (cases_last_first t i n)) r =
            cases_ok F c.stack (within (a_switch (some f)) o) b f (drop_own f (cases_last_first t i n)) (in_switch f ∷ F) (c.next_id ∷ []) c₁ r
            (suits_in (a_switch (some f)) (in_switch f) su (λ z. fits_switch f z) (λ z. (not_exit b f (switch x i n f) e refl refl, z))) z₁.state
            (subst (λ (E : List Entry). Stacked F c.stack (c.next_id ∷ []) (in_switch f ∷ F) E) (sym z₁.stack) (on_top c.next_id (in_switch f) z₁.top refl at_base))
            (cases_known b x i n f e)
            (sym (skip_own (within (a_switch (some f)) o) b f (cases_last_first t i n) (c.next_id ∷ []) c₁ (taken c₁ (rw q at h₂))) ∙ (rw q at h₃)) in
            subst (λ (v : TerminalResult). StepOk F b c.stack v) (ok_eq k₄)
            (rw q (goes_on f refl rf (λ r' p'. built_switch x i n f k.id e m.tree p' refl) (unschedule_all_ok m.stacked r.context c₂ m.state refl h₄)))

        opened : is_unreachable (terminal_at t f) ≡ true → (g : Option ℕ) (c₁ : Context) (r : CasesResult) (c₂ : Context) → g ≡ none → schedule_switch g c ≡ ok c₁
            → traverse_cases (inner (within (a_switch g) o)) b f (cases_last_first t i n) (schedule_ids g c.next_id) c₁ ≡ ok r → unschedule_all r.ids r.context ≡ ok c₂
            → ok (record { statement = some (SWITCH x k.id g r.cases); next = g; context = c₂ }) ≡ ok s → StepOk F b c.stack s
        opened u g c₁ r c₂ q h₂ h₃ h₄ k₄ =
            let d : c ≡ c₁ = no_switch_scheduled c c₁ (rw q at h₂) in
            let m : CasesMade (in_open ∷ F) c₁.stack (in_open ∷ F) (cases_last_first t i n) r =
            cases_ok (in_open ∷ F) c₁.stack (within (a_switch none) o) b f (cases_last_first t i n) (in_open ∷ F) [] c₁ r
            (record { by_rule = su.by_rule; fits = fits_open_switch su.fits; free = su.free })
            (open_state t b x i n f e (subst (λ (d : Context). StateOk t F d) d p.state)) at_base
            (subst (λ (ks : List Case). AllCases (CaseOk f) ks) (pl.open_cases b x i n f e u) (cases_known b x i n f e)) (rw q at h₃) in
            let v : Closed t (in_open ∷ F) c₁.stack c₂ = unschedule_all_ok m.stacked r.context c₂ m.state refl h₄ in
            subst (λ (v : TerminalResult). StepOk F b c.stack v) (ok_eq k₄)
            (rw q (ends_here refl (built_switch_open x i n f k.id e m.tree refl)
            (record { state = close_state t v.state; same = v.same ∙ ap (λ (d : Context). d.stack) (sym d) })))

    -- ---- Goto

    -- a jump's rows end as it goes
    pub data JumpOk (F : List Frame) (g : ℕ) (s : Option Statement) : Type 0 where
      goes_as : (e : Completion) → target F e ≡ some g → ((answers : Answers) → wide_statements seen_row (followed_by s done) answers ≡ completed [] e answers) → Runnable (followed_by s done)
          → JumpOk F g s

    run_break : (g i : ℕ) (k : Kind) (n : ℕ) (answers : Answers) → wide_statements seen_row (BREAK g i k n ▸ done) answers ≡ completed [] (jump_completion k g i break) answers
    unfolding wide_statements wide_statement then then_on prefix completed jump_completion
    run_break g i implicit n answers = refl
    run_break g i labeled n answers = refl
    run_break g i unlabeled n answers = refl

    run_done : (g : ℕ) (answers : Answers) → wide_statements seen_row done answers ≡ completed [] (jump_completion implicit g 0 break) answers
    unfolding wide_statements wide_statement jump_completion
    run_done g answers = refl

    -- under M-102's rule a break's kind stays, or becomes Labeled
    kind_in : (o : Around) (k : Kind) → (break_kind_in o k ≡ k) ⊎ (break_kind_in o k ≡ labeled)
    unfolding break_kind_in
    kind_in o k = at o.rule (is_switch_inside o.statements) k
      where
        at : (rule : Rule) (y : Bool) (k : Kind) → (kind_by rule y k ≡ k) ⊎ (kind_by rule y k ≡ labeled)
        at rust y k = unfold kind_by in inl refl
        at language y implicit = unfold kind_by in inl refl
        at language y labeled = unfold kind_by in inl refl
        at language true unlabeled = unfold kind_by in inr refl
        at language false unlabeled = unfold kind_by in inl refl

    -- a break that comes out Unlabeled has no switch before its loop
    clear_of : {F : List Frame} {c : Context} (o : Around) → Suits rule o F → StateOk t F c → break_kind_in o unlabeled ≡ unlabeled → Clear t F
    unfolding break_kind_in
    clear_of {F} {c} o su p h = at rule width covers pl (is_switch_inside o.statements) refl (ap (λ (z : Rule). kind_by z (is_switch_inside o.statements) unlabeled) (sym su.by_rule) ∙ h)
      where
        at : (rule : Rule) (width : Width) → Covers rule width → WideLoops width t → (y : Bool) → is_switch_inside o.statements ≡ y
            → kind_by rule (is_switch_inside o.statements) unlabeled ≡ unlabeled → Clear t F
        at rust paper_01 k pl y e h = clear_paper t p.framed pl
        at rust with_switch k pl y e h = absurd k
        at language width k pl false e h = clear_around t su.fits e
        at language width k pl true e h = absurd (other (ap (λ (z : Bool). kind_by language z unlabeled) (sym e) ∙ h))
          where
            other : kind_by language true unlabeled ≡ unlabeled → ⊥
            other q = unfold kind_by in (let z : ◌≡◌ {A = ℕ} 0 1 = cc q in omega arith)

    -- and one that comes out Labeled names a statement around: in the language entry by 29, in the first as there is no Switch
    label_of : {F : List Frame} {c : Context} (o : Around) → Suits rule o F → (g : ℕ) (r : Resolution) → StateOk t F c
        → break_target_from c.stack g true 0 ≡ some r → r.target ≡ g → has c.scope_fallthroughs g ≡ false → break_unnamed o r ≡ false
        → break_kind_in o r.kind ≡ labeled → break_at F g ≡ some g
    unfolding break_unnamed
    label_of {F} {c} o su g r p e q n h k = at rule width covers pl su.by_rule
      where
        at : (rule : Rule) (width : Width) → Covers rule width → WideLoops width t → o.rule ≡ rule → break_at F g ≡ some g
        at rust paper_01 cv pl z = break_at_lem t p.framed g true 0 r (λ d. no_case t pl g d) n e
        at rust with_switch cv pl z = absurd cv
        at language width cv pl z =
            named_at t su.fits g (not_false (names_statement o.statements g) (unfold unnamed in
            (ap (λ (m : ℕ). unnamed language labeled (names_statement o.statements m)) (sym q)
            ∙ ap (λ (w : Kind). unnamed language w (names_statement o.statements r.target)) (sym k)
            ∙ ap (λ (u : Rule). unnamed u (break_kind_in o r.kind) (names_statement o.statements r.target)) (sym z) ∙ h)))

    break_in : {F : List Frame} {c : Context} (o : Around) → Suits rule o F → (g : ℕ) (r : Resolution) → StateOk t F c
        → break_target_from c.stack g true 0 ≡ some r → r.target ≡ g → has c.scope_fallthroughs g ≡ false → break_unnamed o r ≡ false
        → (i : ℕ) → target F (jump_completion (break_kind_in o r.kind) g i break) ≡ some g
    break_in {F} o su g r p e q n u i = elim (kind_in o r.kind) [
      | inl h ↦ rw h (break_target t p.framed g r e r.kind refl (λ w. clear_of o su p (ap (break_kind_in o) (sym w) ∙ h ∙ w)) (λ w. label_of o su g r p e q n u (h ∙ w)) i)
      | inr h ↦ rw h (unfold jump_completion in label_of o su g r p e q n u h)
    ]

    broke : {F : List Frame} {c : Context} (o : Around) → Suits rule o F
        → (b v g i : ℕ) (r : Resolution) (s : Option Statement) (y : Bool) (x : Result (Option Statement)) → StateOk t F c
        → break_target_from c.stack g true 0 ≡ some r → r.target ≡ g → has c.scope_fallthroughs g ≡ y
        → elim y [ true ↦ x | false ↦ refuse_if (break_unnamed o r) 29 b v >>= λ _. ok (some (BREAK g i (break_kind_in o r.kind) r.loops)) ] ≡ ok s
        → (x ≡ ok s → JumpOk F g s) → JumpOk F g s
    broke o su b v g i r s true x p e q n h z = z h
    broke {F} {c} o su b v g i r s false x p e q n h z =
        let (u, h₁, h₂) = bind_ok (refuse_if (break_unnamed o r) 29 b v) _ s h in
        subst (λ (w : Option Statement). JumpOk F g w) (ok_eq h₂)
        (goes_as (jump_completion (break_kind_in o r.kind) g i break)
        (break_in o su g r p e q n (unless_ok (break_unnamed o r) 29 b v u h₁) i) (run_break g i (break_kind_in o r.kind) r.loops) (tt, tt))

    -- to a scope: no row, as good as an Implicit one
    to_scope : {F : List Frame} (c : Context) (b g : ℕ) (r : Resolution) (s : Option Statement) (k : Kind) → StateOk t F c → break_target_from c.stack g true 0 ≡ some r → r.kind ≡ k
        → break_to_scope k b c.visits ≡ ok s → JumpOk F g s
    unfolding break_to_scope jump_completion
    to_scope {F} c b g r s implicit p e k h =
        subst (λ (w : Option Statement). JumpOk F g w) (ok_eq h) (goes_as (jump_completion implicit g 0 break) (break_exit t p.framed g true 0 r e k) (run_done g) tt)
    to_scope c b g r s labeled p e k h = absurd (refused_ok h)
    to_scope c b g r s unlabeled p e k h = absurd (refused_ok h)

    break_ok : {F : List Frame} (o : Around) → Suits rule o F → (c : Context) (b g i : ℕ) (r : Option Resolution) (s : Option Statement)
        → StateOk t F c → break_target_from c.stack g true 0 ≡ r
        → break_resolved o b g i c r ≡ ok s → JumpOk F g s
    unfolding break_resolved
    break_ok o su c b g i none s p e h = absurd (refused_ok h)
    break_ok o su c b g i (some r) s p e h =
        let q : r.target ≡ g = break_names t c.stack g true 0 r e in
        broke o su b c.visits g i r s (has c.scope_fallthroughs g) (break_to_scope r.kind b c.visits) p e q refl (named q h) (λ z. to_scope c b g r s r.kind p e refl z)
      where
        named : {n : ℕ} → n ≡ g → elim (has c.scope_fallthroughs n) [
          | true ↦ break_to_scope r.kind b c.visits
          | false ↦ refuse_if (break_unnamed o r) 29 b c.visits >>= λ _. ok (some (BREAK n i (break_kind_in o r.kind) r.loops))
        ] ≡ ok s
            → elim (has c.scope_fallthroughs g) [
              | true ↦ break_to_scope r.kind b c.visits
              | false ↦ refuse_if (break_unnamed o r) 29 b c.visits >>= λ _. ok (some (BREAK g i (break_kind_in o r.kind) r.loops))
            ] ≡ ok s
        named z k =
            subst (λ (n : ℕ). elim (has c.scope_fallthroughs n) [
              | true ↦ break_to_scope r.kind b c.visits
              | false ↦ refuse_if (break_unnamed o r) 29 b c.visits >>= λ _. ok (some (BREAK n i (break_kind_in o r.kind) r.loops))
            ] ≡ ok s) z k

    run_continue : (f i : ℕ) (k : Kind) (n : ℕ) (answers : Answers) → wide_statements seen_row (CONTINUE f i k n ▸ done) answers ≡ completed [] (jump_completion k f i continue) answers
    unfolding wide_statements wide_statement then then_on prefix completed jump_completion
    run_continue f i implicit n answers = refl
    run_continue f i labeled n answers = refl
    run_continue f i unlabeled n answers = refl

    continue_ok : {F : List Frame} (o : Around) (c : Context) (b g i : ℕ) (k : Option Resolution) (s : Statement) → StateOk t F c → continue_target_from c.stack g true 0 ≡ k
        → continue_resolved o b g i c k ≡ ok s → JumpOk F g (some s)
    unfolding continue_resolved
    continue_ok o c b g i none s p e h = absurd (refused_ok h)
    continue_ok {F} o c b g i (some k) s p e h =
        let (u, h₁, h₂) = bind_ok (refuse_if (continue_unnamed o k) 29 b c.visits) _ s h in
        subst (λ (z : Statement). JumpOk F g (some z)) (ok_eq h₂)
        (goes_as (jump_completion k.kind k.target i continue) (continue_target t pl p.framed g k.target k.kind k.loops e i) (run_continue k.target i k.kind k.loops) (tt, tt))

    jump_built : {F : List Frame} (b g : ℕ) (v : Variant) (s : Option Statement) → terminal_at t b ≡ goto g v → JumpOk F g s
        → Built t seen_row F b (instruction_statements t (instruction_rows_at t b) (followed_by s done))
    jump_built b g v s e (goes_as z q r w) = built_jump g v z (followed_by s done) e q r w refl

    jump_ok : {F : List Frame} {c₀ c : Context} (o : Around) → Suits rule o F → (b g i : ℕ) (v : Variant) (s : TerminalResult) → Entered t b F c₀ c → terminal_at t b ≡ goto g v
        → visit_goto o v b g i c ≡ ok s → StepOk F b c.stack s
    unfolding visit_goto visit_break visit_continue get_break_target get_continue_target
    jump_ok {F} {c₀} {c} o su b g i Break s p e h =
        let (z, h₁, k₁) = bind_ok (break_resolved o b g i c (break_target_from c.stack g true 0)) _ s h in
        subst (λ (w : TerminalResult). StepOk F b c.stack w) (ok_eq k₁)
        (ends_here refl (jump_built b g Break z e
        (break_ok o su c b g i (break_target_from c.stack g true 0) z p.state refl h₁))
        (record { state = p.state; same = refl }))
    jump_ok {F} {c₀} {c} o su b g i Continue s p e h =
        let (z, h₁, k₁) = bind_ok (continue_resolved o b g i c (continue_target_from c.stack g true 0)) _ s h in
        subst (λ (w : TerminalResult). StepOk F b c.stack w) (ok_eq k₁)
        (ends_here refl (jump_built b g Continue (some z) e (continue_ok o c b g i (continue_target_from c.stack g true 0) z p.state refl h₁)) (record { state = p.state; same = refl }))
    jump_ok o su b g i Try s p e h = absurd (pl.no_goto_try b g e)

    -- ---- every end

    all_codes : (width : Width) (code : ℕ) → contains (wide_codes width) code ≡ true → contains (wide_codes with_switch) code ≡ true
    all_codes paper_01 code h = skip (eqb 13 code) _ _ h (λ h₁. skip (eqb 14 code) _ _ h₁ (λ h₂. skip (eqb 15 code) _ _ h₂ (λ h₃. skip (eqb 17 code) _ _ h₃ (λ h₄. skip (eqb 18 code) _ _ h₄ (λ h₅. or (eqb 7 code) h₅)))))
      where
        skip : (y a b : Bool) → y || a ≡ true → (a ≡ true → b ≡ true) → y || b ≡ true
        skip true a b h k = refl
        skip false a b h k = k h

        or : (y : Bool) → contains (loop_codes paper_01) code ≡ true → y || contains (loop_codes paper_01) code ≡ true
        or true h = refl
        or false h = h
    all_codes with_switch code h = h

    -- ---- values, MaybeThrow and Branch as statements

    value_ok : {F : List Frame} {c₀ c : Context} (o : Around) → Suits rule o F → (b : ℕ) (m : Terminal) (f : ℕ) (k : Block) (s : TerminalResult) → Entered t b F c₀ c → terminal_at t b ≡ m
        → value_fallthrough m ≡ some f → fallthrough_of m ≡ some f → may_be_open m ≡ false → visit_value_statement t values m b k f c ≡ ok s → StepOk F b c.stack s
    unfolding visit_value_statement with_visits
    value_ok {F} {c₀} {c} o su b m f k s p e vf ff mo h =
        let (c₁, h₁, k₁) = bind_ok (schedule_if (unless_scheduled c f) c) _ s h in
        let (r, h₂, k₂) = bind_ok (visit_value_block_terminal t values m k.id k.span c₁.visits b) _ s k₁ in
        let (c₂, h₃, k₃) = bind_ok (unschedule_if (unless_scheduled c f) c.next_id (with_visits r.visits c₁)) _ s k₂ in
        finish (unless_scheduled c f) c₁ r c₂ (untaken_free t c f (fallthrough_free t pl b f p (ap fallthrough_of e ∙ ff))) h₁ h₂ h₃ k₃
      where
        finish : (g : Option ℕ) (c₁ : Context) (r : ValueTerminalResult) (c₂ : Context) → g ≡ some f → schedule_if g c ≡ ok c₁
            → visit_value_block_terminal t values m k.id k.span c₁.visits b ≡ ok r → unschedule_if g c.next_id (with_visits r.visits c₁) ≡ ok c₂
            → ok (record { statement = some (INSTR r.id r.place k.span r.value); next = g; context = c₂ }) ≡ ok s → StepOk F b c.stack s
        finish g c₁ r c₂ q h₁ h₂ h₃ k₃ =
            let z₁ : Opened (in_label f) F c c₁ = opened_label f p.state (fallthrough_of_lem b p.new (ap fallthrough_of e ∙ ff)) (rw q at h₁) in
            let reads : ReadsTerminal t m r.value r.fallthrough = vo.terminals m k.id k.span c₁.visits b r h₂ in
            let same : r.fallthrough ≡ f = some_eq (sym (reads_fallthrough reads) ∙ vf) in
            let reads' : ReadsTerminal t m r.value f = subst (λ (z : ℕ). ReadsTerminal t m r.value z) same reads in
            let left : Closed t F c.stack c₂ = closed_ok f z₁ (record { state = with_visits_ok t r.visits z₁.state; same = refl }) (rw q at h₃) in
            subst (λ (z : TerminalResult). StepOk F b c.stack z) (ok_eq k₃)
            (rw q (goes_on f refl (end_reached pl b f m e ff mo) (λ r' p'. made r reads' r' p') left))
          where
            made : (r : ValueTerminalResult) → ReadsTerminal t m r.value f → (r' : Statements) → Built t seen_row F f r'
                → Built t seen_row F b (instruction_statements t (instruction_rows_at t b) (INSTR r.id r.place k.span r.value ▸ r'))
            made r reads r' p' =
                let (start, moves, leads) = terminal_leads t seen_row pv reads b e none (λ _. refl) (λ opt. unlinked su b m f reads e opt r' p') in
                built_value m start f r.id r.place k.span r.value (value_code t seen_row reads) e moves leads p' refl

    throw_ok : {F : List Frame} {c₀ c : Context} (b n : ℕ) (s : TerminalResult) → Entered t b F c₀ c → terminal_at t b ≡ maybe_throw n
        → ok (record { statement = none; next = unless_scheduled c n; context = c }) ≡ ok s → StepOk F b c.stack s
    throw_ok {F} {c₀} {c} b n s p e h = at (unless_scheduled c n) (untaken_free t c n free) h
      where
        not_known : Known t c.emitted n → ⊥
        not_known (fallthrough_of_lem d h' e') = pl.throw_fallthrough b d n e e'
        not_known (loop_of_lem w y g k e') = pl.throw_loop b n w y g k e e'
        not_known (again_of w y l g e') = pl.throw_again b n w y l g e e'
        not_known (a_case h') = pl.throw_case b n e h'

        both : (x y : Bool) → (x ≡ true → ⊥) → y ≡ false → x || y ≡ false
        both true y k h' = absurd (k refl)
        both false y k h' = h'

        free : is_scheduled c n ≡ false
        free = unfold is_scheduled in both (has c.scheduled n) (has c.catch_handlers n) (λ h'. not_known (p.state.known n h')) (p.state.no_catch n)

        into : All (Reached t) (wide_entered_by (maybe_throw n))
        into = subst (λ (m : Terminal). All (Reached t) (wide_entered_by m)) e (pl.entered b)

        at : (g : Option ℕ) → g ≡ some n → ok (record { statement = none; next = g; context = c }) ≡ ok s → StepOk F b c.stack s
        at g q h' =
            subst (λ (z : TerminalResult). StepOk F b c.stack z) (ok_eq h')
            (rw q (goes_on n refl into.0 (λ r' p'. built_throws n e p' refl) (record { state = p.state; same = refl })))

    branch_ok : {F : List Frame} {c₀ c : Context} (o : Around) → Suits rule o F → (b x y a : ℕ) (k : Block) (s : TerminalResult) → Entered t b F c₀ c → terminal_at t b ≡ branch x y a
        → visit_terminal t values inner o (branch x y a) b k c ≡ ok s → StepOk F b c.stack s
    unfolding visit_terminal traverse_consequent visit_break get_break_target BlockOk
    branch_ok {F} {c₀} {c} o su b x y a k s p e h =
        let (r, h₁, k₁) = bind_ok (traverse_consequent o (inner (within (another none) o)) b y k.id c) _ s h in
        let (w, h₂, k₂) = bind_ok (traverse_unscheduled (inner (within (another none) o)) a 19 b r.context) _ s k₁ in
        at (is_scheduled c y) r w h₁ h₂ k₂
      where
        into : All (Reached t) (wide_entered_by (branch x y a))
        into = subst (λ (m : Terminal). All (Reached t) (wide_entered_by m)) e (pl.entered b)

        at : (z : Bool) (r w : BlockResult)
            → elim z [
              | true ↦ visit_break o b y k.id c >>= λ statement. ok (record { statements = followed_by statement done; context = c })
              | false ↦ inner (within (another none) o) y c
            ] ≡ ok r
            → traverse_unscheduled (inner (within (another none) o)) a 19 b r.context ≡ ok w
            → ok (record { statement = some (IF x k.id none r.statements true w.statements); next = none; context = w.context }) ≡ ok s → StepOk F b c.stack s
        at false r w h₁ h₂ k₂ =
            let m : Made F y c.stack r = inside_open o su y c r p.state into.0 h₁ in
            let m₂ : Made F a r.context.stack w = unscheduled_ok (inner (within (another none) o)) F (inside_open o su) a 19 b r.context w m.left.state into.1.0 h₂ in
            subst (λ (z : TerminalResult). StepOk F b c.stack z) (ok_eq k₂)
            (ends_here refl (built_branch x y a k.id e m.tree m₂.tree refl) (and_then m₂.left m.left.same))
        at true r w h₁ h₂ k₂ =
            let (st, h₃, k₃) = bind_ok (break_resolved o b y k.id c (break_target_from c.stack y true 0)) _ r h₁ in
            out st (break_ok o su c b y k.id (break_target_from c.stack y true 0) st p.state refl h₃) r w (ok_eq k₃) h₂ k₂
          where
            out : (st : Option Statement) → JumpOk F y st → (r w : BlockResult) → record { statements = followed_by st done; context = c } ≡ r
                → traverse_unscheduled (inner (within (another none) o)) a 19 b r.context ≡ ok w
                → ok (record { statement = some (IF x k.id none r.statements true w.statements); next = none; context = w.context }) ≡ ok s → StepOk F b c.stack s
            out st (goes_as e' q u v) r w i h₂ k₂ =
                let h₄ : traverse_unscheduled (inner (within (another none) o)) a 19 b c ≡ ok w =
                subst (λ (z : BlockResult). traverse_unscheduled (inner (within (another none) o)) a 19 b z.context ≡ ok w) (sym i) h₂ in
                let m₂ : Made F a c.stack w = unscheduled_ok (inner (within (another none) o)) F (inside_open o su) a 19 b c w p.state into.1.0 h₄ in
                subst (λ (z : TerminalResult). StepOk F b c.stack z)
                (ap (λ (z : BlockResult). record { statement = some (IF x k.id none z.statements true w.statements); next = none; context = w.context }) i ∙ ok_eq k₂)
                (ends_here refl (built_branch_out x y a k.id e' (followed_by st done) e q u v m₂.tree refl) m₂.left)

    -- a terminal that no plain table has
    not_plain : {m : Terminal} (b : ℕ) → terminal_at t b ≡ m → contains (wide_codes with_switch) (code_of m) ≡ false → ⊥
    not_plain b e h = true_false (sym (all_codes width (code_of (terminal_at t b)) (pl.ends b)) ∙ ap (λ (m : Terminal). contains (wide_codes with_switch) (code_of m)) e ∙ h)

    terminal_ok : {F : List Frame} {c₀ c : Context} (o : Around) → Suits rule o F → (b : ℕ) (m : Terminal) (s : TerminalResult) → Entered t b F c₀ c → Fit b → terminal_at t b ≡ m
        → visit_terminal t values inner o m b (block_at t b) c ≡ ok s → StepOk F b c.stack s
    unfolding visit_terminal
    terminal_ok o su b absent s p nb e h = absurd (refused_ok h)
    terminal_ok o su b unreachable s p nb e h = absurd (true_false (sym (ap is_unreachable e) ∙ nb))
    terminal_ok {F} {c₀} {c} o su b (throw v) s p nb e h =
        subst (λ (z : TerminalResult). StepOk F b c.stack z) (ok_eq h) (ends_here refl (built_throw v e refl) (record { state = p.state; same = refl }))
    terminal_ok {F} {c₀} {c} o su b (return v) s p nb e h =
        subst (λ (z : TerminalResult). StepOk F b c.stack z) (ok_eq h) (ends_here refl (built_return v e refl) (record { state = p.state; same = refl }))
    terminal_ok o su b (goto g v) s p nb e h = jump_ok o su b g (block_at t b).id v s p e h
    terminal_ok o su b (if x y a f) s p nb e h = if_ok o su b x y a f (block_at t b) s p e h
    terminal_ok o su b (branch x y a) s p nb e h = branch_ok o su b x y a (block_at t b) s p e h
    terminal_ok o su b (switch x i n f) s p nb e h = switch_ok o su b x i n f (block_at t b) s p e h
    terminal_ok o su b (do_while l x f) s p nb e h = do_while_ok o su b l x f (block_at t b) s p e h
    terminal_ok o su b (while x l f) s p nb e h = while_ok o su b x l f (block_at t b) s p e h
    terminal_ok o su b (for i x u l f) s p nb e h = for_ok o su b i x u l f (block_at t b) s p e h
    terminal_ok o su b (for_of i x l f) s p nb e h = absurd (not_plain b e refl)
    terminal_ok o su b (for_in i l f) s p nb e h = absurd (not_plain b e refl)
    terminal_ok o su b (logical op x f) s p nb e h = value_ok o su b (logical op x f) f (block_at t b) s p e refl refl refl h
    terminal_ok o su b (ternary x f) s p nb e h = value_ok o su b (ternary x f) f (block_at t b) s p e refl refl refl h
    terminal_ok o su b (optional g x f) s p nb e h = value_ok o su b (optional g x f) f (block_at t b) s p e refl refl refl h
    terminal_ok o su b (label x f) s p nb e h = label_ok o su b x f (block_at t b) s p e h
    terminal_ok o su b (sequence x f) s p nb e h = value_ok o su b (sequence x f) f (block_at t b) s p e refl refl refl h
    terminal_ok o su b (maybe_throw n) s p nb e h = throw_ok b n s p e h
    terminal_ok o su b (try x h' f n) s p nb e h = absurd (not_plain b e refl)
    terminal_ok o su b (scope pr x f n) s p nb e h = scope_ok o su b pr x f n (block_at t b) s p e h

    -- at an Unreachable block the list ends
    open_end : (o : Around) (b : ℕ) (m : Terminal) (k : Block) (c : Context) (s : TerminalResult) → is_unreachable m ≡ true → visit_terminal t values inner o m b k c ≡ ok s
        → record { statement = none; next = none; context = c } ≡ s
    unfolding visit_terminal
    open_end o b absent k c s z e = absurd (true_false (sym z))
    open_end o b unreachable k c s z e = ok_eq e
    open_end o b (throw v) k c s z e = absurd (true_false (sym z))
    open_end o b (return v) k c s z e = absurd (true_false (sym z))
    open_end o b (goto g v) k c s z e = absurd (true_false (sym z))
    open_end o b (if x y a f) k c s z e = absurd (true_false (sym z))
    open_end o b (branch x y a) k c s z e = absurd (true_false (sym z))
    open_end o b (switch x i n f) k c s z e = absurd (true_false (sym z))
    open_end o b (do_while l x f) k c s z e = absurd (true_false (sym z))
    open_end o b (while x l f) k c s z e = absurd (true_false (sym z))
    open_end o b (for i x u l f) k c s z e = absurd (true_false (sym z))
    open_end o b (for_of i x l f) k c s z e = absurd (true_false (sym z))
    open_end o b (for_in i l f) k c s z e = absurd (true_false (sym z))
    open_end o b (logical op x f) k c s z e = absurd (true_false (sym z))
    open_end o b (ternary x f) k c s z e = absurd (true_false (sym z))
    open_end o b (optional g x f) k c s z e = absurd (true_false (sym z))
    open_end o b (label x f) k c s z e = absurd (true_false (sym z))
    open_end o b (sequence x f) k c s z e = absurd (true_false (sym z))
    open_end o b (maybe_throw n) k c s z e = absurd (true_false (sym z))
    open_end o b (try x y f n) k c s z e = absurd (true_false (sym z))
    open_end o b (scope false x f n) k c s z e = absurd (true_false (sym z))
    open_end o b (scope true x f n) k c s z e = absurd (true_false (sym z))

    visit_open_ok : (o : Around) (F : List Frame) (n : ℕ) → OpenOk F (visit_block t values inner o n)
    unfolding OpenOk visit_block then_next
    visit_open_ok o F zero b c r p z e = absurd (refused_ok e)
    visit_open_ok o F (suc n) b c r p z e =
        let (c₁, h₁, k₁) = bind_ok (enter_block t b c) _ r e in
        let (s, h₂, k₂) = bind_ok (visit_terminal t values inner o (terminal_at t b) b (block_at t b) c₁) _ r k₁ in
        let q : Entered t b F c c₁ = enter_ok t rg b c₁ p h₁ in
        ended c₁ s q (open_end o b (terminal_at t b) (block_at t b) c₁ s z h₂) k₂
      where
        ended : (c₁ : Context) (s : TerminalResult) → Entered t b F c c₁ → record { statement = none; next = none; context = c₁ } ≡ s
            → then_next t b (visit_block t values inner o n) s.statement s.next s.context ≡ ok r → Made F b c.stack r
        ended c₁ s q u k =
            subst (λ (v : BlockResult). Made F b c.stack v)
            (ok_eq (subst (λ (v : TerminalResult). then_next t b (visit_block t values inner o n) v.statement v.next v.context ≡ ok r) (sym u) k))
            (record { tree = built_unreached z refl; left = record { state = q.state; same = q.same } })

    visit_block_ok : (o : Around) (F : List Frame) → Suits rule o F → (n : ℕ) → BlockOk F (visit_block t values inner o n)
    unfolding BlockOk visit_block
    visit_block_ok o F su zero b c r p nb e = absurd (refused_ok e)
    visit_block_ok o F su (suc n) b c r p nb e =
        let (c₁, h₁, k₁) = bind_ok (enter_block t b c) _ r e in
        let (s, h₂, k₂) = bind_ok (visit_terminal t values inner o (terminal_at t b) b (block_at t b) c₁) _ r k₁ in
        let q : Entered t b F c c₁ = enter_ok t rg b c₁ p h₁ in
        let m : Made F b c₁.stack r = next_ok F b c₁.stack (visit_block t values inner o n) s r
        (visit_block_ok o F su n) (visit_open_ok o F n) (terminal_ok o su b (terminal_at t b) s q nb refl h₂) k₂ in
        record { tree = m.tree; left = and_then m.left q.same }

  module _ (rule : Rule) {width : Width} (covers : Covers rule width) (pl : WideLoops width t) (rg : Ranged t) (pv : SeenValues t seen_row) (si : SeenInits t seen_row) where
    pub walk_ok : (d : ℕ) → d ≤ most_depth → WalkOk rule (traverse_block t d)
    unfolding WalkOk BlockOk traverse_block
    walk_ok zero h o F su b c r p nb e = absurd (refused_ok e)
    walk_ok (suc d) h o F su b c r p nb e =
        visit_block_ok rule covers pl rg pv si (visit_value_block t d) (values_ok d (omega (arith, h))) (traverse_block t d) (walk_ok d (omega (arith, h))) o F su 8193 b c r p nb e
