-- From `Built`, a description of the tree that a wide plain table gives: the block run goes where the tree run goes. A loop's test and update, a For's init and a value
-- statement are runs of values (proofs/ValueLead). For proofs/Structure, which gives `Built`, and proofs/LawOfValues.
use mathlib.Core.Path.{◌≡◌, refl, sym, ap, ◌∙◌, subst}
use Prim.Native.Nat.{ℕ, zero, suc, ◌≤◌, suc-le-suc}
use native.Mathlib.Nat.{le_refl, le_trans, le_of_suc-le-suc, not-suc-le-zero, le_step}
use mathlib.Core.Logic.{◌⊎◌, inl, inr}
use mathlib.Core.List.{List, [], ◌∷◌, ◌++◌, append_assoc, append-nil, reverse_aux, reverse-reverse}
use mathlib.Core.Option.{Option, none, some}
use mathlib.Core.Bool.{Bool, true, false, ◌||◌, cond}
use lib.ListN.{length, take, drop}
use lib.Dec.{eqb}
use Rattle.table.specs.declared.columns.Span.{Span}
use Rattle.table.specs.Table.{code_of, Table, Case, Terminal, throw, return, goto, if, branch, switch, do_while, while, for, label, maybe_throw, scope, Variant, is_unreachable, block_at, terminal_at, instruction_rows_at}
use Rattle.definition.specs.Tree.{Value, INSTR, IF, SWITCH, DOWHILE, WHILE, FOR, LABEL, SCOPE, RETURN, THROW, Statements, done, ◌▸◌, Cases, no_cases, CASE}
use Rattle.definition.specs.Statement.{cases_last_first, instruction_statements}
use Rattle.definition.specs.Run.{Answers, Reason, returned, threw, no_answer_left, no_such_case, is_good}
use Rattle.definition.specs.BlockRun.{go, halt, by_answer, case_list, at_place, by_place, move}
use Rattle.definition.specs.Completion.{contains, Completion, normal, break, continue, stop, loop_continues, breakable, labelled}
use Rattle.definition.specs.TreeRun.{Completed, completed, completing, prefix, then_on, then, choose, after_body, loop, switch_ends, entry_at, choose_place}
use Rattle.definition.specs.PlainLoops.{drop_own, Reached}
use Rattle.definition.proofs.Steps.{true_false, none_some, some_eq}
use Rattle.definition.proofs.Frames.{Frame, in_label, in_scope, in_loop, in_switch, in_open, in_case, exit, break_at, continue_at, target}
use borrow.Author.Tests.{eqb-true}
use Rattle.definition.specs.ValueEnds.{seen_rows}
use Rattle.definition.specs.WideRun.{wide_move}
use Rattle.definition.specs.ValueRun.{Ending, in_whole, in_short, stopping, Valued, valued, then_value, run_value}
use Rattle.definition.specs.WideTreeRun.{after_value_on, after_value, wide_rounds, wide_while, wide_for, wide_do_while, run_update, wide_statement, wide_statements, wide_entries}
use Rattle.definition.proofs.Arrive.{rows_at, move_at, move_of, Stops, NoneLost, Onward, Arrives, arrives_here, onward_from, stops_from, onward_go, onward_here, onward_onward, ValueOn, TermOn}
use Rattle.definition.proofs.Arrive.{On, value_then}
use Rattle.definition.proofs.ValueLead.{seen_append}
use Rattle.definition.proofs.Runnable.{Straight, StraightUpdate, Runnable, RunnableCases}
use Rattle.definition.proofs.StraightValues.{value_codes, NoValues}

stops_halt : (t : Table) (seen_row : ℕ → Bool) (b : ℕ) (answers : Answers) (r : Reason) → move_at t seen_row b answers ≡ halt r → Stops t seen_row b answers (rows_at t seen_row b ++ []) answers r
stops_halt t seen_row b answers r e = stops_from t seen_row r (arrives_here t seen_row b answers) e

-- the cases in source order, from the last first
pub in_whole_order : (t : Table) (i n : ℕ) → reverse_aux (cases_last_first t i n) [] ≡ case_list t i n
unfolding cases_last_first case_list
in_whole_order t i n = reverse-reverse (take n (drop i t.cases))

module _ (t : Table) (seen_row : ℕ → Bool) where
  -- the block run comes to an answer that is the place of no case: such a list is not spoken of; or to an Unreachable block, to which none leads
  pub data Beyond (b : ℕ) (answers : Answers) : Type 0 where
    no_case : (rows : List ℕ) (left : Answers) → Stops t seen_row b answers rows left no_such_case → Beyond b answers
    lost : (NoneLost t seen_row → Reached t b → ⊥) → Beyond b answers

  -- a completion leads to a block, with the answers left, or it is a stop
  abbrev pub LeadsOn : List Frame → ℕ → Answers → List ℕ → Completion → Answers → Type 0
  LeadsOn F b answers rows normal left = (b' : ℕ) × (exit F ≡ some b') × Onward t seen_row b answers rows b' left
  LeadsOn F b answers rows (break x j) left = (b' : ℕ) × (target F (break x j) ≡ some b') × Onward t seen_row b answers rows b' left
  LeadsOn F b answers rows (continue x j) left = (b' : ℕ) × (target F (continue x j) ≡ some b') × Onward t seen_row b answers rows b' left
  LeadsOn F b answers rows (stop r) left = (is_good r ≡ true) × Stops t seen_row b answers rows left r

  abbrev pub Leads : List Frame → ℕ → Answers → Completed → Type 0
  Leads F b answers o = Beyond b answers ⊎ LeadsOn F b answers o.rows o.completion o.left

  -- the same of a statement whose normal completion leads to the block f
  abbrev pub EndsOn : List Frame → ℕ → ℕ → Answers → List ℕ → Completion → Answers → Type 0
  EndsOn F f b answers rows normal left = Onward t seen_row b answers rows f left
  EndsOn F f b answers rows (break x j) left = LeadsOn F b answers rows (break x j) left
  EndsOn F f b answers rows (continue x j) left = LeadsOn F b answers rows (continue x j) left
  EndsOn F f b answers rows (stop r) left = (is_good r ≡ true) × Stops t seen_row b answers rows left r

  abbrev pub Ends : List Frame → ℕ → ℕ → Answers → Completed → Type 0
  Ends F f b answers o = Beyond b answers ⊎ EndsOn F f b answers o.rows o.completion o.left

  -- the same of a loop's rounds: the loop and its label take their breaks
  abbrev pub LoopEnds : List Frame → ℕ → ℕ → Answers → Completed → Type 0
  LoopEnds F f b answers o = Beyond b answers ⊎ EndsOn F f b answers o.rows (labelled (some f) (breakable o.completion)) o.left

  -- and of one round of the loop with the fallthrough f and the test x: whether the loop continues
  abbrev pub RoundOn : List Frame → ℕ → ℕ → ℕ → Answers → List ℕ → Completion → Bool → Answers → Type 0
  RoundOn F f x b answers rows e true left = Onward t seen_row b answers rows x left
  RoundOn F f x b answers rows e false left = EndsOn F f b answers rows (labelled (some f) (breakable e)) left

  beyond_after : {b : ℕ} {answers : Answers} {rows : List ℕ} {b₁ : ℕ} {a₁ : Answers} → Onward t seen_row b answers rows b₁ a₁ → Beyond b₁ a₁ → Beyond b answers
  beyond_after {rows = rows} p (no_case rows₁ left s) = no_case (rows ++ rows₁) left (p.and_on rows₁ left no_such_case s)
  beyond_after p (lost f) = lost (λ w k. f w (p.stays w k))

  leads_after : {b : ℕ} {answers : Answers} {rows : List ℕ} {b₁ : ℕ} {a₁ : Answers} (F : List Frame) (rows₁ : List ℕ) (e : Completion) (left : Answers)
      → Onward t seen_row b answers rows b₁ a₁ → LeadsOn F b₁ a₁ rows₁ e left → LeadsOn F b answers (rows ++ rows₁) e left
  leads_after F rows₁ normal left p (b', h, q) = (b', h, onward_onward t seen_row p q)
  leads_after F rows₁ (break x j) left p (b', h, q) = (b', h, onward_onward t seen_row p q)
  leads_after F rows₁ (continue x j) left p (b', h, q) = (b', h, onward_onward t seen_row p q)
  leads_after F rows₁ (stop r) left p (g, q) = (g, p.and_on rows₁ left r q)

  ends_after : {b : ℕ} {answers : Answers} {rows : List ℕ} {b₁ : ℕ} {a₁ : Answers} (F : List Frame) (f : ℕ) (rows₁ : List ℕ) (e : Completion) (left : Answers)
      → Onward t seen_row b answers rows b₁ a₁ → EndsOn F f b₁ a₁ rows₁ e left → EndsOn F f b answers (rows ++ rows₁) e left
  ends_after F f rows₁ normal left p q = onward_onward t seen_row p q
  ends_after F f rows₁ (break x j) left p (b', h, q) = (b', h, onward_onward t seen_row p q)
  ends_after F f rows₁ (continue x j) left p (b', h, q) = (b', h, onward_onward t seen_row p q)
  ends_after F f rows₁ (stop r) left p (g, q) = (g, p.and_on rows₁ left r q)

  -- the same over a whole part
  pub leads_prefix : {b : ℕ} {answers : Answers} {rows : List ℕ} {b₁ : ℕ} {a₁ : Answers} (F : List Frame) (o : Completed)
      → Onward t seen_row b answers rows b₁ a₁ → Leads F b₁ a₁ o → Leads F b answers (prefix rows o)
  unfolding prefix completed
  leads_prefix F o p (inl q) = inl (beyond_after p q)
  leads_prefix F o p (inr q) = inr (leads_after F o.rows o.completion o.left p q)

  ends_prefix : {b : ℕ} {answers : Answers} {rows : List ℕ} {b₁ : ℕ} {a₁ : Answers} (F : List Frame) (f : ℕ) (o : Completed)
      → Onward t seen_row b answers rows b₁ a₁ → Ends F f b₁ a₁ o → Ends F f b answers (prefix rows o)
  unfolding prefix completed
  ends_prefix F f o p (inl q) = inl (beyond_after p q)
  ends_prefix F f o p (inr q) = inr (ends_after F f o.rows o.completion o.left p q)

  loop_prefix : {b : ℕ} {answers : Answers} {rows : List ℕ} {b₁ : ℕ} {a₁ : Answers} (F : List Frame) (f : ℕ) (o : Completed)
      → Onward t seen_row b answers rows b₁ a₁ → LoopEnds F f b₁ a₁ o → LoopEnds F f b answers (prefix rows o)
  unfolding prefix completed
  loop_prefix F f o p (inl q) = inl (beyond_after p q)
  loop_prefix F f o p (inr q) = inr (ends_after F f o.rows (labelled (some f) (breakable o.completion)) o.left p q)

  -- ---- a statement and what comes after it

  then_on_lem : (F : List Frame) (f b : ℕ) (answers : Answers) (rows : List ℕ) (e : Completion) (left : Answers) (k : Answers → Completed)
      → EndsOn F f b answers rows e left → ((a : Answers) → Leads F f a (k a)) → Leads F b answers (then_on e (completed rows e left) k)
  unfolding then_on completed
  then_on_lem F f b answers rows normal left k p q = leads_prefix F (k left) p (q left)
  then_on_lem F f b answers rows (break x j) left k p q = inr p
  then_on_lem F f b answers rows (continue x j) left k p q = inr p
  then_on_lem F f b answers rows (stop r) left k p q = inr p

  pub leads_then : (F : List Frame) (f b : ℕ) (answers : Answers) (o : Completed) (k : Answers → Completed)
      → Ends F f b answers o → ((a : Answers) → Leads F f a (k a)) → Leads F b answers (then o k)
  unfolding then completed
  leads_then F f b answers o k (inl p) q = inl p
  leads_then F f b answers o k (inr p) q = then_on_lem F f b answers o.rows o.completion o.left k p q

  -- ---- the statements around: what is taken there, and what is handed on

  at : {b : ℕ} {answers : Answers} {rows : List ℕ} {left : Answers} (x y : ℕ) → some x ≡ some y → Onward t seen_row b answers rows y left → Onward t seen_row b answers rows x left
  at {b} {answers} {rows} {left} x y e p = subst (λ (z : ℕ). Onward t seen_row b answers rows z left) (sym (some_eq e)) p

  -- a label
  label_break : (F : List Frame) (f b : ℕ) (answers : Answers) (rows : List ℕ) (x j : ℕ) (left : Answers) (y : Bool) (b' : ℕ)
      → cond y (some f) (break_at F x) ≡ some b' → Onward t seen_row b answers rows b' left
      → EndsOn F f b answers rows (elim (y || false) [ true ↦ normal | false ↦ break (some x) j ]) left
  label_break F f b answers rows x j left true b' h p = at f b' h p
  label_break F f b answers rows x j left false b' h p = (b', h, p)

  label_on : (F : List Frame) (f b : ℕ) (answers : Answers) (rows : List ℕ) (e : Completion) (left : Answers)
      → LeadsOn (in_label f ∷ F) b answers rows e left → EndsOn F f b answers rows (labelled (some f) e) left
  unfolding labelled
  label_on F f b answers rows normal left (b', h, p) = at f b' h p
  label_on F f b answers rows (break none j) left p = p
  label_on F f b answers rows (break (some x) j) left (b', h, p) = label_break F f b answers rows x j left (eqb f x) b' h p
  label_on F f b answers rows (continue none j) left p = p
  label_on F f b answers rows (continue (some x) j) left p = p
  label_on F f b answers rows (stop r) left p = p

  pub ends_label : (F : List Frame) (f b : ℕ) (answers : Answers) (o : Completed) → Leads (in_label f ∷ F) b answers o → Ends F f b answers (completing (labelled (some f)) o)
  unfolding completing completed
  ends_label F f b answers o (inl p) = inl p
  ends_label F f b answers o (inr p) = inr (label_on F f b answers o.rows o.completion o.left p)

  -- a scope
  scope_on : (F : List Frame) (f b : ℕ) (answers : Answers) (rows : List ℕ) (e : Completion) (left : Answers)
      → LeadsOn (in_scope f ∷ F) b answers rows e left → EndsOn F f b answers rows e left
  scope_on F f b answers rows normal left (b', h, p) = at f b' h p
  scope_on F f b answers rows (break none j) left p = p
  scope_on F f b answers rows (break (some x) j) left p = p
  scope_on F f b answers rows (continue none j) left p = p
  scope_on F f b answers rows (continue (some x) j) left p = p
  scope_on F f b answers rows (stop r) left p = p

  pub ends_scope : (F : List Frame) (f b : ℕ) (answers : Answers) (o : Completed) → Leads (in_scope f ∷ F) b answers o → Ends F f b answers o
  ends_scope F f b answers o (inl p) = inl p
  ends_scope F f b answers o (inr p) = inr (scope_on F f b answers o.rows o.completion o.left p)

  -- a round of a loop
  loop_continue : (F : List Frame) (f x b : ℕ) (answers : Answers) (rows : List ℕ) (z j : ℕ) (left : Answers) (y : Bool) (b' : ℕ)
      → cond y (some x) (continue_at F z) ≡ some b' → Onward t seen_row b answers rows b' left
      → RoundOn F f x b answers rows (continue (some z) j) (y || false) left
  unfolding labelled breakable
  loop_continue F f x b answers rows z j left true b' h p = at x b' h p
  loop_continue F f x b answers rows z j left false b' h p = (b', h, p)

  loop_on : (F : List Frame) (f x b : ℕ) (answers : Answers) (rows : List ℕ) (e : Completion) (left : Answers)
      → LeadsOn (in_loop f x ∷ F) b answers rows e left → RoundOn F f x b answers rows e (loop_continues e (f ∷ [])) left
  unfolding loop_continues labelled breakable
  loop_on F f x b answers rows normal left (b', h, p) = at x b' h p
  loop_on F f x b answers rows (break none j) left (b', h, p) = at f b' h p
  loop_on F f x b answers rows (break (some z) j) left (b', h, p) = label_break F f b answers rows z j left (eqb f z) b' h p
  loop_on F f x b answers rows (continue none j) left (b', h, p) = at x b' h p
  loop_on F f x b answers rows (continue (some z) j) left (b', h, p) = loop_continue F f x b answers rows z j left (eqb f z) b' h p
  loop_on F f x b answers rows (stop r) left p = p

  after_round : (F : List Frame) (f x b : ℕ) (answers : Answers) (rows : List ℕ) (m : Bool) (e : Completion) (left : Answers) (k : Answers → Completed)
      → RoundOn F f x b answers rows e m left → ((a : Answers) → length a ≤ length answers → LoopEnds F f x a (k a))
      → LoopEnds F f b answers (elim m [ true ↦ prefix rows (k left) | false ↦ completed rows e left ])
  unfolding completed
  after_round F f x b answers rows true e left k p q = loop_prefix F f (k left) p (q left p.fewer)
  after_round F f x b answers rows false e left k p q = inr p

  ends_round : (F : List Frame) (f x b : ℕ) (answers : Answers) (o : Completed) (k : Answers → Completed)
      → Leads (in_loop f x ∷ F) b answers o → ((a : Answers) → length a ≤ length answers → LoopEnds F f x a (k a)) → LoopEnds F f b answers (after_body (f ∷ []) o k)
  unfolding after_body completed
  ends_round F f x b answers o k (inl p) q = inl p
  ends_round F f x b answers o k (inr p) q =
      after_round F f x b answers o.rows (loop_continues o.completion (f ∷ [])) o.completion o.left k (loop_on F f x b answers o.rows o.completion o.left p) q

  -- the rounds, from where the loop continues, k: a test's value up to the Branch y to the loop block l and the fallthrough f. What is done where the test ends in whole
  loop_value_on : (F : List Frame) (f y k : ℕ) (answers : Answers) (rows : List ℕ) (ending : Ending) (left : Answers) (next : Answers → Completed)
      → On t seen_row (λ r l. Arrives t seen_row k answers r y l) none k answers rows ending left
      → (Arrives t seen_row k answers rows y left → LoopEnds F f k answers (prefix rows (next left)))
      → LoopEnds F f k answers (after_value_on ending (valued rows ending left) next)
  unfolding after_value_on valued completed labelled breakable
  loop_value_on F f y k answers rows in_whole left next p h = h p
  loop_value_on F f y k answers rows in_short left next p h = absurd p
  loop_value_on F f y k answers rows (stopping r) left next p h = inr p

  loop_value : (F : List Frame) (f y k : ℕ) (answers : Answers) (o : Valued) (next : Answers → Completed) → ValueOn t seen_row none y k answers o
      → ((rows : List ℕ) (left : Answers) → Arrives t seen_row k answers rows y left → LoopEnds F f k answers (prefix rows (next left)))
      → LoopEnds F f k answers (after_value o next)
  unfolding after_value valued
  loop_value F f y k answers o next p h = loop_value_on F f y k answers o.rows o.ending o.left next p (λ q. h o.rows o.left q)

  -- one answer at the Branch
  ends_asked : (F : List Frame) (p f k y l b : ℕ) (body again : Answers → Completed) → terminal_at t y ≡ branch p l f
      → ((a : Answers) → Leads (in_loop f k ∷ F) l a (body a)) → (answers : Answers) (rows : List ℕ) (left : Answers) → Arrives t seen_row b answers rows y left
      → ((a : Answers) → suc (length a) ≤ length left → LoopEnds F f k a (again a))
      → LoopEnds F f b answers (prefix rows (choose (λ a. after_body (f ∷ []) (body a) again) (λ a. completed [] normal a) left))
  unfolding choose prefix completed wide_move move by_answer labelled breakable
  ends_asked F p f k y l b body again e ih answers rows [] arr q =
      inr (refl, stops_from t seen_row no_answer_left arr (move_of t seen_row y (branch p l f) [] (halt no_answer_left) e refl))
  ends_asked F p f k y l b body again e ih answers rows (suc m ∷ a) arr q =
      loop_prefix F f (after_body (f ∷ []) (body a) again)
      (onward_from t seen_row l a arr (move_of t seen_row y (branch p l f) (suc m ∷ a) (go l a) e refl) (le_step (le_refl (length a))))
      (ends_round F f k l a (body a) again (ih a) (λ a' h. q a' (suc-le-suc h)))
  ends_asked F p f k y l b body again e ih answers rows (zero ∷ a) arr q =
      loop_prefix F f (completed [] normal a)
      (onward_from t seen_row f a arr (move_of t seen_row y (branch p l f) (zero ∷ a) (go f a) e refl) (le_step (le_refl (length a))))
      (inr (onward_here t seen_row f a))

  no_more : (F : List Frame) (p f k y l : ℕ) (a : Answers) (rows : List ℕ) → terminal_at t y ≡ branch p l f → Arrives t seen_row k a rows y []
      → LoopEnds F f k a (prefix rows (completed [] (stop no_answer_left) []))
  unfolding prefix completed wide_move move by_answer labelled breakable
  no_more F p f k y l a rows e arr = inr (refl, stops_from t seen_row no_answer_left arr (move_of t seen_row y (branch p l f) [] (halt no_answer_left) e refl))

  ends_rounds : (F : List Frame) (p f k y l : ℕ) (test : Answers → Valued) (body : Answers → Completed) → terminal_at t y ≡ branch p l f
      → ((a : Answers) → ValueOn t seen_row none y k a (test a)) → ((a : Answers) → Leads (in_loop f k ∷ F) l a (body a))
      → (n : ℕ) (a : Answers) → length a ≤ n → LoopEnds F f k a (wide_rounds (f ∷ []) test body n a)
  unfolding wide_rounds
  ends_rounds F p f k y l test body e leads ih zero a h =
      loop_value F f y k a (test a) (λ left. completed [] (stop no_answer_left) left) (leads a) (λ rows left arr. none_left rows left arr)
    where
      none_left : (rows : List ℕ) (left : Answers) → Arrives t seen_row k a rows y left → LoopEnds F f k a (prefix rows (completed [] (stop no_answer_left) left))
      none_left rows [] arr = no_more F p f k y l a rows e arr
      none_left rows (m ∷ left) arr = absurd (not-suc-le-zero (le_trans arr.fewer h))
  ends_rounds F p f k y l test body e leads ih (suc n) a h =
      loop_value F f y k a (test a) (λ a'. choose (λ b. after_body (f ∷ []) (body b) (λ c. wide_rounds (f ∷ []) test body n c)) (λ b. completed [] normal b) a') (leads a)
      (λ rows left arr. ends_asked F p f k y l k body (λ c. wide_rounds (f ∷ []) test body n c) e ih a rows left arr
      (λ c q. ends_rounds F p f k y l test body e leads ih n c (le_of_suc-le-suc (le_trans q (le_trans arr.fewer h)))))

  ends_loop : (F : List Frame) (f x : ℕ) (a : Answers) (o : Completed) → LoopEnds F f x a o → Ends F f x a (loop (some f) o)
  unfolding loop completing completed
  ends_loop F f x a o p = p

  -- ---- what the build makes of a plain table

  -- `Built F b s`: the statements s stand for the blocks from b on, inside the statements F
  mutual
    pub data Built : List Frame → ℕ → Statements → Type 0 where
      built_return : {F : List Frame} {b : ℕ} {s₀ : Statements} (v : ℕ) → terminal_at t b ≡ return v
          → s₀ ≡ instruction_statements t (instruction_rows_at t b) (RETURN v (block_at t b).id ▸ done) → Built F b s₀
      built_throw : {F : List Frame} {b : ℕ} {s₀ : Statements} (v : ℕ) → terminal_at t b ≡ throw v
          → s₀ ≡ instruction_statements t (instruction_rows_at t b) (THROW v (block_at t b).id ▸ done) → Built F b s₀
      -- the jump's rows, if any, complete as `e`, which leads to the Goto's block
      built_jump : {F : List Frame} {b : ℕ} {s₀ : Statements} (g : ℕ) (v : Variant) (e : Completion) (s : Statements) → terminal_at t b ≡ goto g v → target F e ≡ some g
          → ((answers : Answers) → wide_statements seen_row s answers ≡ completed [] e answers) → Runnable s → s₀ ≡ instruction_statements t (instruction_rows_at t b) s → Built F b s₀
      built_if : {F : List Frame} {b : ℕ} {s₀ : Statements} (x c a f i : ℕ) {s₁ s₂ r : Statements} → terminal_at t b ≡ if x c a f
          → Built (in_label f ∷ F) c s₁ → Built (in_label f ∷ F) a s₂ → Built F f r
          → s₀ ≡ instruction_statements t (instruction_rows_at t b) (IF x i (some f) s₁ true s₂ ▸ r) → Built F b s₀
      built_if_only : {F : List Frame} {b : ℕ} {s₀ : Statements} (x c f i : ℕ) {s₁ r : Statements} → terminal_at t b ≡ if x c f f
          → Built (in_label f ∷ F) c s₁ → Built F f r
          → s₀ ≡ instruction_statements t (instruction_rows_at t b) (IF x i (some f) s₁ false done ▸ r) → Built F b s₀
      built_label : {F : List Frame} {b : ℕ} {s₀ : Statements} (c f i : ℕ) {s r : Statements} → terminal_at t b ≡ label c f
          → Built (in_label f ∷ F) c s → Built F f r → s₀ ≡ instruction_statements t (instruction_rows_at t b) (LABEL i (some f) s ▸ r) → Built F b s₀
      -- their ends are not reached: nothing comes after, and a normal completion leads on where the list's does
      built_if_open : {F : List Frame} {b : ℕ} {s₀ : Statements} (x c a f i : ℕ) {s₁ s₂ : Statements} → terminal_at t b ≡ if x c a f → Built F c s₁ → Built F a s₂
          → s₀ ≡ instruction_statements t (instruction_rows_at t b) (IF x i none s₁ true s₂ ▸ done) → Built F b s₀
      built_label_open : {F : List Frame} {b : ℕ} {s₀ : Statements} (c f i : ℕ) {s : Statements} → terminal_at t b ≡ label c f → Built F c s
          → s₀ ≡ instruction_statements t (instruction_rows_at t b) (LABEL i none s ▸ done) → Built F b s₀
      -- a scope visits its fallthrough though it is Unreachable
      built_unreached : {F : List Frame} {b : ℕ} {s₀ : Statements} → is_unreachable (terminal_at t b) ≡ true
          → s₀ ≡ instruction_statements t (instruction_rows_at t b) done → Built F b s₀
      built_scope : {F : List Frame} {b : ℕ} {s₀ : Statements} (p : Bool) (c f n : ℕ) {s r : Statements} → terminal_at t b ≡ scope p c f n
          → Built (in_scope f ∷ F) c s → Built F f r → s₀ ≡ instruction_statements t (instruction_rows_at t b) (SCOPE p n s ▸ r) → Built F b s₀
      -- a Logical, Ternary, Optional or Sequence as a statement: it goes to `start`, and its value on to the fallthrough
      built_value : {F : List Frame} {b : ℕ} {s₀ : Statements} (m : Terminal) (start f i l : ℕ) (sp : Span) (w : Value) {r : Statements}
          → contains (13 ∷ 14 ∷ 15 ∷ 17 ∷ []) (code_of m) ≡ true → terminal_at t b ≡ m → ((id : ℕ) (a : Answers) → wide_move t m id a ≡ go start a) → ((a : Answers) → TermOn t seen_row none f start a (run_value seen_row w false a)) → Built F f r
          → s₀ ≡ instruction_statements t (instruction_rows_at t b) (INSTR i l sp w ▸ r) → Built F b s₀
      -- a MaybeThrow goes on to its continuation
      built_throws : {F : List Frame} {b : ℕ} {s₀ : Statements} (n : ℕ) {r : Statements} → terminal_at t b ≡ maybe_throw n → Built F n r
          → s₀ ≡ instruction_statements t (instruction_rows_at t b) r → Built F b s₀
      -- a Branch as a statement; its consequent is built, or is a jump
      built_branch : {F : List Frame} {b : ℕ} {s₀ : Statements} (p c d i : ℕ) {s₁ s₂ : Statements} → terminal_at t b ≡ branch p c d → Built F c s₁ → Built F d s₂
          → s₀ ≡ instruction_statements t (instruction_rows_at t b) (IF p i none s₁ true s₂ ▸ done) → Built F b s₀
      built_branch_out : {F : List Frame} {b : ℕ} {s₀ : Statements} (p c d i : ℕ) (e : Completion) (s₁ : Statements) {s₂ : Statements} → terminal_at t b ≡ branch p c d → target F e ≡ some c
          → ((answers : Answers) → wide_statements seen_row s₁ answers ≡ completed [] e answers) → Runnable s₁ → Built F d s₂
          → s₀ ≡ instruction_statements t (instruction_rows_at t b) (IF p i none s₁ true s₂ ▸ done) → Built F b s₀
      -- a test is a value from x up to a Branch to the loop block and the fallthrough
      built_while : {F : List Frame} {b : ℕ} {s₀ : Statements} (x l f y p i : ℕ) (v : Value) {s r : Statements} → terminal_at t b ≡ while x l f → terminal_at t y ≡ branch p l f
          → ((a : Answers) → ValueOn t seen_row none y x a (run_value seen_row v false a)) → (NoValues t → Straight v) → Built (in_loop f x ∷ F) l s → Built F f r
          → s₀ ≡ instruction_statements t (instruction_rows_at t b) (WHILE i (some f) v s ▸ r) → Built F b s₀
      built_do_while : {F : List Frame} {b : ℕ} {s₀ : Statements} (l x f y p i : ℕ) (v : Value) {s r : Statements} → terminal_at t b ≡ do_while l x f → terminal_at t y ≡ branch p l f
          → ((a : Answers) → ValueOn t seen_row none y x a (run_value seen_row v false a)) → (NoValues t → Straight v) → Built (in_loop f x ∷ F) l s → Built F f r
          → s₀ ≡ instruction_statements t (instruction_rows_at t b) (DOWHILE i (some f) s v ▸ r) → Built F b s₀
      -- k is where it continues, the update or the test; the way from there to the test performs the update
      built_for : {F : List Frame} {b : ℕ} {s₀ : Statements} (n x : ℕ) (u : Option ℕ) (l f k y p i : ℕ) (vn vx : Value) (vu : Option Value) {s r : Statements}
          → terminal_at t b ≡ for n x u l f → terminal_at t y ≡ branch p l f → ((a : Answers) → TermOn t seen_row none x n a (run_value seen_row vn false a))
          → ((a : Answers) → ValueOn t seen_row none y x a (run_value seen_row vx false a)) → ((a : Answers) → TermOn t seen_row none x k a (run_update seen_row vu a))
          → (NoValues t → Straight vn × Straight vx × StraightUpdate vu) → Built (in_loop f k ∷ F) l s → Built F f r
          → s₀ ≡ instruction_statements t (instruction_rows_at t b) (FOR i (some f) vn vx vu s ▸ r) → Built F b s₀
      built_switch : {F : List Frame} {b : ℕ} {s₀ : Statements} (x i n f d : ℕ) {cs : Cases} {r : Statements} → terminal_at t b ≡ switch x i n f
          → BuiltCases (in_switch f ∷ F) (drop_own f (cases_last_first t i n)) cs → Built F f r
          → s₀ ≡ instruction_statements t (instruction_rows_at t b) (SWITCH x d (some f) cs ▸ r) → Built F b s₀
      built_switch_open : {F : List Frame} {b : ℕ} {s₀ : Statements} (x i n f d : ℕ) {cs : Cases} → terminal_at t b ≡ switch x i n f
          → BuiltCases (in_open ∷ F) (cases_last_first t i n) cs → s₀ ≡ instruction_statements t (instruction_rows_at t b) (SWITCH x d none cs ▸ done) → Built F b s₀

    -- the cases of a switch, the last first: each is built above the blocks of the later ones
    pub data BuiltCases : List Frame → List Case → Cases → Type 0 where
      built_none : {G : List Frame} → BuiltCases G [] no_cases
      built_case : {G : List Frame} (k : Case) (x : ℕ) {ks : List Case} {s : Statements} {cs : Cases} → Built G k.block s → BuiltCases (in_case k.block ∷ G) ks cs
          → BuiltCases G (k ∷ ks) (CASE x s cs)

  -- a value that ends at g, and then a part of the tree from there
  value_part_on : (F : List Frame) (g f b : ℕ) (answers : Answers) (rows : List ℕ) (ending : Ending) (left : Answers) (k : Answers → Completed)
      → On t seen_row (λ r l. Onward t seen_row b answers r g l) none b answers rows ending left → ((a : Answers) → Ends F f g a (k a))
      → Ends F f b answers (after_value_on ending (valued rows ending left) k)
  unfolding after_value_on valued completed
  value_part_on F g f b answers rows in_whole left k p q = ends_prefix F f (k left) p (q left)
  value_part_on F g f b answers rows in_short left k p q = absurd p
  value_part_on F g f b answers rows (stopping r) left k p q = inr p

  value_part : (F : List Frame) (g f b : ℕ) (answers : Answers) (o : Valued) (k : Answers → Completed) → TermOn t seen_row none g b answers o
      → ((a : Answers) → Ends F f g a (k a)) → Ends F f b answers (after_value o k)
  unfolding after_value valued
  value_part F g f b answers o k p q = value_part_on F g f b answers o.rows o.ending o.left k p q

  run_instructions : (rs : List ℕ) (k : Statements) (answers : Answers)
      → wide_statements seen_row (instruction_statements t rs k) answers ≡ prefix (seen_rows seen_row rs) (wide_statements seen_row k answers)
  unfolding instruction_statements wide_statements wide_statement after_value after_value_on run_value valued prefix completed then then_on
  run_instructions [] k answers = refl
  run_instructions (r ∷ rs) k answers =
      ap (λ (o : Completed). prefix (seen_rows seen_row (r ∷ []) ++ []) o) (run_instructions rs k answers)
      ∙ ap (λ (z : List ℕ). completed z (wide_statements seen_row k answers).completion (wide_statements seen_row k answers).left)
      (ap (λ (z : List ℕ). z ++ (seen_rows seen_row rs ++ (wide_statements seen_row k answers).rows)) (append-nil (seen_rows seen_row (r ∷ [])))
      ∙ sym (append_assoc (seen_rows seen_row (r ∷ [])) (seen_rows seen_row rs) (wide_statements seen_row k answers).rows)
      ∙ ap (λ (z : List ℕ). z ++ (wide_statements seen_row k answers).rows) (sym (seen_append seen_row (r ∷ []) rs)))

  leads_instructions : (F : List Frame) (b : ℕ) (k : Statements) (answers : Answers) (s₀ : Statements) → s₀ ≡ instruction_statements t (instruction_rows_at t b) k
      → Leads F b answers (prefix (rows_at t seen_row b) (wide_statements seen_row k answers)) → Leads F b answers (wide_statements seen_row s₀ answers)
  leads_instructions F b k answers s₀ q p =
      subst (λ (z : Statements). Leads F b answers (wide_statements seen_row z answers)) (sym q)
      (subst (λ (o : Completed). Leads F b answers o) (sym (run_instructions (instruction_rows_at t b) k answers)) p)

  jump_on : (F : List Frame) (b g : ℕ) (answers : Answers) (rows : List ℕ) (e : Completion) (left : Answers) → target F e ≡ some g → Onward t seen_row b answers rows g left
      → LeadsOn F b answers rows e left
  jump_on F b g answers rows normal left h p = (g, h, p)
  jump_on F b g answers rows (break x j) left h p = (g, h, p)
  jump_on F b g answers rows (continue x j) left h p = (g, h, p)
  jump_on F b g answers rows (stop r) left h p = absurd (none_some h)

  -- a statement whose part stands at the block c
  leads_part : (F : List Frame) (b c f : ℕ) (answers a : Answers) (o : Completed) (k : Answers → Completed) → move_at t seen_row b answers ≡ go c a → length a ≤ length answers
      → Ends F f c a o → ((a' : Answers) → Leads F f a' (k a')) → Leads F b answers (prefix (rows_at t seen_row b) (then o k))
  leads_part F b c f answers a o k e h p q = leads_prefix F (then o k) (onward_go t seen_row b answers c a e h) (leads_then F f c a o k p q)

  wants : (F : List Frame) (b f : ℕ) (l : Option ℕ) (k : Answers → Completed) → move_at t seen_row b [] ≡ halt no_answer_left
      → Leads F b [] (prefix (rows_at t seen_row b) (then (completing (labelled l) (completed [] (stop no_answer_left) [])) k))
  unfolding prefix completed then then_on completing labelled
  wants F b f l k e = inr (refl, stops_halt t seen_row b [] no_answer_left e)

  wants_place : (F : List Frame) (b f : ℕ) (k : Answers → Completed) → move_at t seen_row b [] ≡ halt no_answer_left
      → Leads F b [] (prefix (rows_at t seen_row b) (then (switch_ends (some f) (completed [] (stop no_answer_left) [])) k))
  unfolding prefix completed then then_on switch_ends completing labelled breakable
  wants_place F b f k e = inr (refl, stops_halt t seen_row b [] no_answer_left e)

  -- an If whose answer no runs `ifNo`, from the block a
  if_leads : (F : List Frame) (b x c a f : ℕ) (s₁ : Statements) (if_no : Answers → Completed) (r : Statements) → terminal_at t b ≡ if x c a f
      → ((y : Answers) → Leads (in_label f ∷ F) c y (wide_statements seen_row s₁ y)) → ((y : Answers) → Ends F f a y (completing (labelled (some f)) (if_no y)))
      → ((y : Answers) → Leads F f y (wide_statements seen_row r y)) → (answers : Answers)
      → Leads F b answers (prefix (rows_at t seen_row b) (then (completing (labelled (some f)) (choose (λ y. wide_statements seen_row s₁ y) if_no answers)) (λ y. wide_statements seen_row r y)))
  unfolding choose wide_move move by_answer
  if_leads F b x c a f s₁ if_no r e h₁ h₂ h₃ [] = wants F b f (some f) (λ y. wide_statements seen_row r y) (move_of t seen_row b (if x c a f) [] (halt no_answer_left) e refl)
  if_leads F b x c a f s₁ if_no r e h₁ h₂ h₃ (suc n ∷ y) =
      leads_part F b c f (suc n ∷ y) y (completing (labelled (some f)) (wide_statements seen_row s₁ y)) (λ a'. wide_statements seen_row r a')
      (move_of t seen_row b (if x c a f) (suc n ∷ y) (go c y) e refl) (le_step (le_refl (length y)))
      (ends_label F f c y (wide_statements seen_row s₁ y) (h₁ y)) h₃
  if_leads F b x c a f s₁ if_no r e h₁ h₂ h₃ (zero ∷ y) =
      leads_part F b a f (zero ∷ y) y (completing (labelled (some f)) (if_no y)) (λ a'. wide_statements seen_row r a')
      (move_of t seen_row b (if x c a f) (zero ∷ y) (go a y) e refl) (le_step (le_refl (length y)))
      (h₂ y) h₃

  return_leads : (F : List Frame) (b v i : ℕ) (answers : Answers) → move_at t seen_row b answers ≡ halt (returned v i)
      → Leads F b answers (prefix (rows_at t seen_row b) (wide_statements seen_row (RETURN v i ▸ done) answers))
  unfolding prefix completed then then_on wide_statements wide_statement
  return_leads F b v i answers e = inr (refl, stops_halt t seen_row b answers (returned v i) e)

  throw_leads : (F : List Frame) (b v i : ℕ) (answers : Answers) → move_at t seen_row b answers ≡ halt (threw v i)
      → Leads F b answers (prefix (rows_at t seen_row b) (wide_statements seen_row (THROW v i ▸ done) answers))
  unfolding prefix completed then then_on wide_statements wide_statement
  throw_leads F b v i answers e = inr (refl, stops_halt t seen_row b answers (threw v i) e)

  jump_out : (F : List Frame) (g : ℕ) (answers : Answers) (e : Completion) → target F e ≡ some g → Leads F g answers (completed [] e answers)
  unfolding completed
  jump_out F g answers e h = inr (jump_on F g g answers [] e answers h (onward_here t seen_row g answers))

  ends_nothing : (F : List Frame) (f : ℕ) (answers : Answers) → Ends F f f answers (completing (labelled (some f)) (completed [] normal answers))
  unfolding completed completing labelled
  ends_nothing F f answers = inr (onward_here t seen_row f answers)

  -- ---- an If or a Label whose end is not reached

  open_on : (F : List Frame) (c : ℕ) (a : Answers) (rows : List ℕ) (e : Completion) (left : Answers) → LeadsOn F c a rows e left
      → Leads F c a (then_on (labelled none e) (completed rows (labelled none e) left) (λ y. wide_statements seen_row done y))
  unfolding then_on labelled completed prefix wide_statements wide_statement
  open_on F c a rows normal left p = inr (subst (λ (z : List ℕ). LeadsOn F c a z normal left) (sym (append-nil rows)) p)
  open_on F c a rows (break none j) left p = inr p
  open_on F c a rows (break (some x) j) left p = inr p
  open_on F c a rows (continue none j) left p = inr p
  open_on F c a rows (continue (some x) j) left p = inr p
  open_on F c a rows (stop r) left p = inr p

  open_leads : (F : List Frame) (c : ℕ) (a : Answers) (o : Completed) → Leads F c a o → Leads F c a (then (completing (labelled none) o) (λ y. wide_statements seen_row done y))
  unfolding then completing completed
  open_leads F c a o (inl p) = inl p
  open_leads F c a o (inr p) = open_on F c a o.rows o.completion o.left p

  if_open_leads : (F : List Frame) (b x c a f : ℕ) (s₁ s₂ : Statements) → terminal_at t b ≡ if x c a f
      → ((y : Answers) → Leads F c y (wide_statements seen_row s₁ y)) → ((y : Answers) → Leads F a y (wide_statements seen_row s₂ y)) → (answers : Answers)
      → Leads F b answers (prefix (rows_at t seen_row b) (then (completing (labelled none) (choose (λ y. wide_statements seen_row s₁ y) (λ y. wide_statements seen_row s₂ y) answers)) (λ y. wide_statements seen_row done y)))
  unfolding choose wide_move move by_answer
  if_open_leads F b x c a f s₁ s₂ e h₁ h₂ [] = wants F b f none (λ y. wide_statements seen_row done y) (move_of t seen_row b (if x c a f) [] (halt no_answer_left) e refl)
  if_open_leads F b x c a f s₁ s₂ e h₁ h₂ (suc n ∷ y) =
      leads_prefix F (then (completing (labelled none) (wide_statements seen_row s₁ y)) (λ z. wide_statements seen_row done z))
      (onward_go t seen_row b (suc n ∷ y) c y (move_of t seen_row b (if x c a f) (suc n ∷ y) (go c y) e refl) (le_step (le_refl (length y)))) (open_leads F c y (wide_statements seen_row s₁ y) (h₁ y))
  if_open_leads F b x c a f s₁ s₂ e h₁ h₂ (zero ∷ y) =
      leads_prefix F (then (completing (labelled none) (wide_statements seen_row s₂ y)) (λ z. wide_statements seen_row done z))
      (onward_go t seen_row b (zero ∷ y) a y (move_of t seen_row b (if x c a f) (zero ∷ y) (go a y) e refl) (le_step (le_refl (length y)))) (open_leads F a y (wide_statements seen_row s₂ y) (h₂ y))

  branch_leads : (F : List Frame) (b x c a : ℕ) (s₁ s₂ : Statements) → terminal_at t b ≡ branch x c a
      → ((y : Answers) → Leads F c y (wide_statements seen_row s₁ y)) → ((y : Answers) → Leads F a y (wide_statements seen_row s₂ y)) → (answers : Answers)
      → Leads F b answers (prefix (rows_at t seen_row b) (then (completing (labelled none) (choose (λ y. wide_statements seen_row s₁ y) (λ y. wide_statements seen_row s₂ y) answers)) (λ y. wide_statements seen_row done y)))
  unfolding choose wide_move move by_answer
  branch_leads F b x c a s₁ s₂ e h₁ h₂ [] = wants F b b none (λ y. wide_statements seen_row done y) (move_of t seen_row b (branch x c a) [] (halt no_answer_left) e refl)
  branch_leads F b x c a s₁ s₂ e h₁ h₂ (suc n ∷ y) =
      leads_prefix F (then (completing (labelled none) (wide_statements seen_row s₁ y)) (λ z. wide_statements seen_row done z))
      (onward_go t seen_row b (suc n ∷ y) c y (move_of t seen_row b (branch x c a) (suc n ∷ y) (go c y) e refl) (le_step (le_refl (length y)))) (open_leads F c y (wide_statements seen_row s₁ y) (h₁ y))
  branch_leads F b x c a s₁ s₂ e h₁ h₂ (zero ∷ y) =
      leads_prefix F (then (completing (labelled none) (wide_statements seen_row s₂ y)) (λ z. wide_statements seen_row done z))
      (onward_go t seen_row b (zero ∷ y) a y (move_of t seen_row b (branch x c a) (zero ∷ y) (go a y) e refl) (le_step (le_refl (length y)))) (open_leads F a y (wide_statements seen_row s₂ y) (h₂ y))

  -- ---- switches

  -- G stands above the switch with the fallthrough f within F, and has the cases that were built before on top; a normal completion leads to m
  data Over (f : ℕ) (F : List Frame) : List Frame → ℕ → Type 0 where
    last_case : Over f F (in_switch f ∷ F) f
    earlier_case : {G : List Frame} {m : ℕ} (k : ℕ) → Over f F G m → Over f F (in_case k ∷ G) k

  over_on : {f : ℕ} {F G : List Frame} {m : ℕ} → Over f F G m → (b : ℕ) (answers : Answers) (rows : List ℕ) (e : Completion) (left : Answers)
      → LeadsOn G b answers rows e left → EndsOn (in_switch f ∷ F) m b answers rows e left
  over_on {f} last_case b answers rows normal left (b', h, p) = at f b' h p
  over_on last_case b answers rows (break x j) left p = p
  over_on last_case b answers rows (continue x j) left p = p
  over_on last_case b answers rows (stop r) left p = p
  over_on (earlier_case k o) b answers rows normal left (b', h, p) = at k b' h p
  over_on (earlier_case k o) b answers rows (break none j) left p = over_on o b answers rows (break none j) left p
  over_on (earlier_case k o) b answers rows (break (some x) j) left p = over_on o b answers rows (break (some x) j) left p
  over_on (earlier_case k o) b answers rows (continue none j) left p = over_on o b answers rows (continue none j) left p
  over_on (earlier_case k o) b answers rows (continue (some x) j) left p = over_on o b answers rows (continue (some x) j) left p
  over_on (earlier_case k o) b answers rows (stop r) left p = p

  ends_over : {f : ℕ} {F G : List Frame} {m : ℕ} → Over f F G m → (b : ℕ) (answers : Answers) (o : Completed) → Leads G b answers o → Ends (in_switch f ∷ F) m b answers o
  ends_over v b answers o (inl p) = inl p
  ends_over v b answers o (inr p) = inr (over_on v b answers o.rows o.completion o.left p)

  -- a part whose normal completion leads to m, and what is entered at m
  ends_then_on : (H : List Frame) (f m b : ℕ) (answers : Answers) (rows : List ℕ) (e : Completion) (left : Answers) (k : Answers → Completed)
      → EndsOn H m b answers rows e left → ((a : Answers) → Ends H f m a (k a)) → Ends H f b answers (then_on e (completed rows e left) k)
  unfolding then_on completed
  ends_then_on H f m b answers rows normal left k p q = ends_prefix H f (k left) p (q left)
  ends_then_on H f m b answers rows (break x j) left k p q = inr p
  ends_then_on H f m b answers rows (continue x j) left k p q = inr p
  ends_then_on H f m b answers rows (stop r) left k p q = inr p

  ends_then : (H : List Frame) (f m b : ℕ) (answers : Answers) (o : Completed) (k : Answers → Completed)
      → Ends H m b answers o → ((a : Answers) → Ends H f m a (k a)) → Ends H f b answers (then o k)
  unfolding then completed
  ends_then H f m b answers o k (inl p) q = inl p
  ends_then H f m b answers o k (inr p) q = ends_then_on H f m b answers o.rows o.completion o.left k p q

  -- each entry, from its case's block, completes as the switch's frame says
  -- the cases that are the switch's own fallthrough have none
  abbrev AllOwn : ℕ → List Case → Type 0
  AllOwn f [] = Unit {0}
  AllOwn f (k ∷ ks) = (k.block ≡ f) × AllOwn f ks

  data EntriesOk (H : List Frame) (f : ℕ) : List Case → List (Answers → Completed) → Type 0 where
    no_entries : {ks : List Case} → AllOwn f ks → EntriesOk H f ks []
    an_entry : {k : Case} {e : Answers → Completed} {ks : List Case} {es : List (Answers → Completed)} → ((a : Answers) → Ends H f k.block a (e a)) → EntriesOk H f ks es
        → EntriesOk H f (k ∷ ks) (e ∷ es)

  switch_on : (F : List Frame) (f b : ℕ) (answers : Answers) (rows : List ℕ) (e : Completion) (left : Answers)
      → EndsOn (in_switch f ∷ F) f b answers rows e left → EndsOn F f b answers rows (labelled (some f) (breakable e)) left
  unfolding labelled breakable
  switch_on F f b answers rows normal left p = p
  switch_on F f b answers rows (break none j) left (b', h, p) = at f b' h p
  switch_on F f b answers rows (break (some x) j) left (b', h, p) = label_break F f b answers rows x j left (eqb f x) b' h p
  switch_on F f b answers rows (continue none j) left p = p
  switch_on F f b answers rows (continue (some x) j) left p = p
  switch_on F f b answers rows (stop r) left p = p

  ends_switch : (F : List Frame) (f b : ℕ) (answers : Answers) (o : Completed) → Ends (in_switch f ∷ F) f b answers o → Ends F f b answers (switch_ends (some f) o)
  unfolding switch_ends completing completed
  ends_switch F f b answers o (inl p) = inl p
  ends_switch F f b answers o (inr p) = inr (switch_on F f b answers o.rows o.completion o.left p)

  place_leads : (F : List Frame) (f b k₀ : ℕ) {ks : List Case} {es : List (Answers → Completed)} (next : Answers → Completed) → EntriesOk (in_switch f ∷ F) f ks es → (k : ℕ) (a : Answers)
      → move_at t seen_row b (k₀ ∷ a) ≡ at_place ks k a → ((y : Answers) → Leads F f y (next y))
      → Leads F b (k₀ ∷ a) (prefix (rows_at t seen_row b) (then (switch_ends (some f) (entry_at es k a)) next))
  unfolding at_place entry_at
  place_leads F f b k₀ next (no_entries {ks = []} p) k a e q = inl (no_case (rows_at t seen_row b ++ []) (k₀ ∷ a) (stops_halt t seen_row b (k₀ ∷ a) no_such_case e))
  place_leads F f b k₀ next (no_entries {ks = c ∷ ks} (p, ps)) zero a e q =
      leads_part F b f f (k₀ ∷ a) a (switch_ends (some f) (completed [] normal a)) next (e ∙ ap (λ (z : ℕ). go z a) p) (le_step (le_refl (length a)))
      (unfold switch_ends completing completed labelled breakable in inr (onward_here t seen_row f a)) q
  place_leads F f b k₀ next (no_entries {ks = c ∷ ks} (p, ps)) (suc k) a e q = place_leads F f b k₀ next (no_entries {ks = ks} ps) k a e q
  place_leads F f b k₀ next (an_entry {k} {e = en} p ps) zero a e q =
      leads_part F b k.block f (k₀ ∷ a) a (switch_ends (some f) (en a)) next e (le_step (le_refl (length a))) (ends_switch F f k.block a (en a) (p a)) q
  place_leads F f b k₀ next (an_entry p ps) (suc k) a e q = place_leads F f b k₀ next ps k a e q

  switch_leads : (F : List Frame) (b x i n f : ℕ) (es : List (Answers → Completed)) (next : Answers → Completed) → terminal_at t b ≡ switch x i n f
      → EntriesOk (in_switch f ∷ F) f (case_list t i n) es → ((y : Answers) → Leads F f y (next y)) → (answers : Answers)
      → Leads F b answers (prefix (rows_at t seen_row b) (then (switch_ends (some f) (choose_place es answers)) next))
  unfolding choose_place wide_move move by_place
  switch_leads F b x i n f es next e p q [] = wants_place F b f next (move_of t seen_row b (switch x i n f) [] (halt no_answer_left) e refl)
  switch_leads F b x i n f es next e p q (k ∷ a) = place_leads F f b k next p k a (move_of t seen_row b (switch x i n f) (k ∷ a) (at_place (case_list t i n) k a) e refl) q

  -- the cases left out, in order
  abbrev owns : (f : ℕ) → List Case → List Case → List Case
  owns f [] later = later
  owns f (k ∷ ks) later = cond (eqb k.block f) (owns f ks (k ∷ later)) later

  all_own : (f : ℕ) (ks later : List Case) → AllOwn f later → AllOwn f (owns f ks later)
  all_own f [] later p = p
  all_own f (k ∷ ks) later p = at (eqb k.block f) refl (λ q. all_own f ks (k ∷ later) (q, p))
    where
      at : (y : Bool) → eqb k.block f ≡ y → (k.block ≡ f → AllOwn f (owns f ks (k ∷ later))) → AllOwn f (cond y (owns f ks (k ∷ later)) later)
      at true e ih = ih (eqb-true k.block f e)
      at false e ih = p

  with_own : (f : ℕ) (ks later : List Case) → reverse_aux (drop_own f ks) (owns f ks later) ≡ reverse_aux ks later
  with_own f [] later = refl
  with_own f (k ∷ ks) later = at (eqb k.block f) (with_own f ks (k ∷ later))
    where
      at : (y : Bool) → reverse_aux (drop_own f ks) (owns f ks (k ∷ later)) ≡ reverse_aux ks (k ∷ later)
          → reverse_aux (cond y (drop_own f ks) (k ∷ ks)) (cond y (owns f ks (k ∷ later)) later) ≡ reverse_aux ks (k ∷ later)
      at true ih = ih
      at false ih = refl

  in_order : (f i n : ℕ) → reverse_aux (drop_own f (cases_last_first t i n)) (owns f (cases_last_first t i n) []) ≡ case_list t i n
  unfolding cases_last_first case_list
  in_order f i n = with_own f (reverse_aux (take n (drop i t.cases)) []) [] ∙ reverse-reverse (take n (drop i t.cases))

  -- ---- a switch whose end is not reached

  data OpenEntries (F : List Frame) : List Case → List (Answers → Completed) → Type 0 where
    no_open : OpenEntries F [] []
    an_open : {k : Case} {e : Answers → Completed} {ks : List Case} {es : List (Answers → Completed)} → ((a : Answers) → Leads (in_open ∷ F) k.block a (e a)) → OpenEntries F ks es
        → OpenEntries F (k ∷ ks) (e ∷ es)

  -- the last case: nothing comes after
  nothing_on : (H : List Frame) (b : ℕ) (a : Answers) (rows : List ℕ) (e : Completion) (left : Answers) → LeadsOn H b a rows e left
      → Leads H b a (then_on e (completed rows e left) (λ y. completed [] normal y))
  unfolding then_on completed prefix
  nothing_on H b a rows normal left p = inr (subst (λ (z : List ℕ). LeadsOn H b a z normal left) (sym (append-nil rows)) p)
  nothing_on H b a rows (break x j) left p = inr p
  nothing_on H b a rows (continue x j) left p = inr p
  nothing_on H b a rows (stop r) left p = inr p

  nothing_after : (H : List Frame) (b : ℕ) (a : Answers) (o : Completed) → Leads H b a o → Leads H b a (then o (λ y. completed [] normal y))
  unfolding then completed
  nothing_after H b a o (inl p) = inl p
  nothing_after H b a o (inr p) = nothing_on H b a o.rows o.completion o.left p

  -- a case before the one at k
  abbrev Steps : List Frame → List Frame → (Answers → Completed) → Type 0
  Steps F G after = (b : ℕ) (a : Answers) (o : Completed) → Leads G b a o → Leads (in_open ∷ F) b a (then o after)

  earlier_on : (F G : List Frame) (k : ℕ) (after e : Answers → Completed) → Steps F G after → ((a : Answers) → Leads (in_open ∷ F) k a (e a))
      → (b : ℕ) (a : Answers) (rows : List ℕ) (c : Completion) (left : Answers) → LeadsOn (in_case k ∷ G) b a rows c left
      → Leads (in_open ∷ F) b a (then_on c (completed rows c left) e)
  unfolding then_on then completed
  earlier_on F G k after e step entry b a rows normal left (b', h, p) = leads_prefix (in_open ∷ F) (e left) (at k b' h p) (entry left)
  earlier_on F G k after e step entry b a rows (break none j) left p = step b a (completed rows (break none j) left) (inr p)
  earlier_on F G k after e step entry b a rows (break (some x) j) left p = step b a (completed rows (break (some x) j) left) (inr p)
  earlier_on F G k after e step entry b a rows (continue none j) left p = step b a (completed rows (continue none j) left) (inr p)
  earlier_on F G k after e step entry b a rows (continue (some x) j) left p = step b a (completed rows (continue (some x) j) left) (inr p)
  earlier_on F G k after e step entry b a rows (stop r) left p = inr p

  earlier_steps : (F G : List Frame) (k : ℕ) (after e : Answers → Completed) → Steps F G after → ((a : Answers) → Leads (in_open ∷ F) k a (e a)) → Steps F (in_case k ∷ G) e
  unfolding then completed
  earlier_steps F G k after e step entry b a o (inl p) = inl p
  earlier_steps F G k after e step entry b a o (inr p) = earlier_on F G k after e step entry b a o.rows o.completion o.left p

  open_switch_on : (F : List Frame) (b : ℕ) (a : Answers) (rows : List ℕ) (e : Completion) (left : Answers) → LeadsOn (in_open ∷ F) b a rows e left
      → Leads F b a (then_on (labelled none (breakable e)) (completed rows (labelled none (breakable e)) left) (λ y. wide_statements seen_row done y))
  unfolding then_on labelled breakable completed prefix wide_statements wide_statement
  open_switch_on F b a rows normal left p = inr (subst (λ (z : List ℕ). LeadsOn F b a z normal left) (sym (append-nil rows)) p)
  open_switch_on F b a rows (break none j) left (b', h, p) = absurd (none_some h)
  open_switch_on F b a rows (break (some x) j) left p = inr p
  open_switch_on F b a rows (continue none j) left p = inr p
  open_switch_on F b a rows (continue (some x) j) left p = inr p
  open_switch_on F b a rows (stop r) left p = inr p

  open_switch_leads : (F : List Frame) (b : ℕ) (a : Answers) (o : Completed) → Leads (in_open ∷ F) b a o → Leads F b a (then (switch_ends none o) (λ y. wide_statements seen_row done y))
  unfolding then switch_ends completing completed
  open_switch_leads F b a o (inl p) = inl p
  open_switch_leads F b a o (inr p) = open_switch_on F b a o.rows o.completion o.left p

  wants_open : (F : List Frame) (b : ℕ) → move_at t seen_row b [] ≡ halt no_answer_left
      → Leads F b [] (prefix (rows_at t seen_row b) (then (switch_ends none (completed [] (stop no_answer_left) [])) (λ y. wide_statements seen_row done y)))
  unfolding prefix completed then then_on switch_ends completing labelled breakable
  wants_open F b e = inr (refl, stops_halt t seen_row b [] no_answer_left e)

  open_place_leads : (F : List Frame) (b k₀ : ℕ) {ks : List Case} {es : List (Answers → Completed)} → OpenEntries F ks es → (k : ℕ) (a : Answers)
      → move_at t seen_row b (k₀ ∷ a) ≡ at_place ks k a → Leads F b (k₀ ∷ a) (prefix (rows_at t seen_row b) (then (switch_ends none (entry_at es k a)) (λ y. wide_statements seen_row done y)))
  unfolding at_place entry_at
  open_place_leads F b k₀ no_open k a e = inl (no_case (rows_at t seen_row b ++ []) (k₀ ∷ a) (stops_halt t seen_row b (k₀ ∷ a) no_such_case e))
  open_place_leads F b k₀ (an_open {k} {e = en} p ps) zero a e =
      leads_prefix F (then (switch_ends none (en a)) (λ y. wide_statements seen_row done y)) (onward_go t seen_row b (k₀ ∷ a) k.block a e (le_step (le_refl (length a))))
      (open_switch_leads F k.block a (en a) (p a))
  open_place_leads F b k₀ (an_open p ps) (suc k) a e = open_place_leads F b k₀ ps k a e

  switch_open_leads : (F : List Frame) (b x i n f : ℕ) (es : List (Answers → Completed)) → terminal_at t b ≡ switch x i n f → OpenEntries F (case_list t i n) es → (answers : Answers)
      → Leads F b answers (prefix (rows_at t seen_row b) (then (switch_ends none (choose_place es answers)) (λ y. wide_statements seen_row done y)))
  unfolding choose_place wide_move move by_place
  switch_open_leads F b x i n f es e p [] = wants_open F b (move_of t seen_row b (switch x i n f) [] (halt no_answer_left) e refl)
  switch_open_leads F b x i n f es e p (k ∷ a) = open_place_leads F b k p k a (move_of t seen_row b (switch x i n f) (k ∷ a) (at_place (case_list t i n) k a) e refl)

  -- ---- the law, for what is built

  mutual
    unfolding wide_statements wide_statement wide_move move wide_while wide_for wide_do_while completed

    pub runs : {F : List Frame} {b : ℕ} {s : Statements} → Built F b s → (answers : Answers) → Leads F b answers (wide_statements seen_row s answers)
    runs {F} {b} (built_return {s₀} v e q₀) answers =
        leads_instructions F b (RETURN v (block_at t b).id ▸ done) answers s₀ q₀
        (return_leads F b v (block_at t b).id answers (move_of t seen_row b (return v) answers (halt (returned v (block_at t b).id)) e refl))
    runs {F} {b} (built_throw {s₀} v e q₀) answers =
        leads_instructions F b (THROW v (block_at t b).id ▸ done) answers s₀ q₀
        (throw_leads F b v (block_at t b).id answers (move_of t seen_row b (throw v) answers (halt (threw v (block_at t b).id)) e refl))
    runs {F} {b} (built_jump {s₀} g v e s h k q _ q₀) answers =
        leads_instructions F b s answers s₀ q₀ (subst (λ (o : Completed). Leads F b answers (prefix (rows_at t seen_row b) o)) (sym (q answers))
        (leads_prefix F (completed [] e answers) (onward_go t seen_row b answers g answers (move_of t seen_row b (goto g v) answers (go g answers) h refl) (le_refl (length answers))) (jump_out F g answers e k)))
    runs {F} {b} (built_if {s₀} x c a f i {s₁} {s₂} {r} e h₁ h₂ h₃ q₀) answers =
        leads_instructions F b (IF x i (some f) s₁ true s₂ ▸ r) answers s₀ q₀
        (if_leads F b x c a f s₁ (λ y. wide_statements seen_row s₂ y) r e (λ y. runs h₁ y) (λ y. ends_label F f a y (wide_statements seen_row s₂ y) (runs h₂ y)) (λ y. runs h₃ y) answers)
    runs {F} {b} (built_if_only {s₀} x c f i {s₁} {r} e h₁ h₃ q₀) answers =
        leads_instructions F b (IF x i (some f) s₁ false done ▸ r) answers s₀ q₀
        (if_leads F b x c f f s₁ (λ y. completed [] normal y) r e (λ y. runs h₁ y) (λ y. ends_nothing F f y) (λ y. runs h₃ y) answers)
    runs {F} {b} (built_label {s₀} c f i {s} {r} e h₁ h₃ q₀) answers =
        leads_instructions F b (LABEL i (some f) s ▸ r) answers s₀ q₀
        (leads_part F b c f answers answers (completing (labelled (some f)) (wide_statements seen_row s answers)) (λ a'. wide_statements seen_row r a')
        (move_of t seen_row b (label c f) answers (go c answers) e refl) (le_refl (length answers))
        (ends_label F f c answers (wide_statements seen_row s answers) (runs h₁ answers)) (λ y. runs h₃ y))
    runs {F} {b} (built_if_open {s₀} x c a f i {s₁} {s₂} e h₁ h₂ q₀) answers =
        leads_instructions F b (IF x i none s₁ true s₂ ▸ done) answers s₀ q₀ (if_open_leads F b x c a f s₁ s₂ e (λ y. runs h₁ y) (λ y. runs h₂ y) answers)
    runs {F} {b} (built_label_open {s₀} c f i {s} e h₁ q₀) answers =
        leads_instructions F b (LABEL i none s ▸ done) answers s₀ q₀
        (leads_prefix F (then (completing (labelled none) (wide_statements seen_row s answers)) (λ y. wide_statements seen_row done y))
        (onward_go t seen_row b answers c answers (move_of t seen_row b (label c f) answers (go c answers) e refl) (le_refl (length answers))) (open_leads F c answers (wide_statements seen_row s answers) (runs h₁ answers)))
    runs {F} {b} (built_unreached e q₀) answers = inl (lost (λ w k. true_false (sym e ∙ k)))
    runs {F} {b} (built_scope {s₀} p c f n {s} {r} e h₁ h₃ q₀) answers =
        leads_instructions F b (SCOPE p n s ▸ r) answers s₀ q₀
        (leads_part F b c f answers answers (wide_statements seen_row s answers) (λ a'. wide_statements seen_row r a') (move_of t seen_row b (scope p c f n) answers (go c answers) e refl) (le_refl (length answers))
        (ends_scope F f c answers (wide_statements seen_row s answers) (runs h₁ answers)) (λ y. runs h₃ y))
    runs {F} {b} (built_throws {s₀} n {r} e h q₀) answers =
        leads_instructions F b r answers s₀ q₀
        (leads_prefix F (wide_statements seen_row r answers)
        (onward_go t seen_row b answers n answers (move_of t seen_row b (maybe_throw n) answers (go n answers) e refl) (le_refl (length answers))) (runs h answers))
    runs {F} {b} (built_branch {s₀} p c d i {s₁} {s₂} e h₁ h₂ q₀) answers =
        leads_instructions F b (IF p i none s₁ true s₂ ▸ done) answers s₀ q₀ (branch_leads F b p c d s₁ s₂ e (λ y. runs h₁ y) (λ y. runs h₂ y) answers)
    runs {F} {b} (built_branch_out {s₀} p c d i o s₁ {s₂} e k q _ h₂ q₀) answers =
        leads_instructions F b (IF p i none s₁ true s₂ ▸ done) answers s₀ q₀
        (branch_leads F b p c d s₁ s₂ e (λ y. subst (λ (z : Completed). Leads F c y z) (sym (q y)) (jump_out F c y o k)) (λ y. runs h₂ y) answers)
    runs {F} {b} (built_value {s₀} m start f i l sp w {r} _ e moves leads h₃ q₀) answers =
        leads_instructions F b (INSTR i l sp w ▸ r) answers s₀ q₀
        (leads_part F b start f answers answers (after_value (run_value seen_row w false answers) (λ left. completed [] normal left)) (λ a'. wide_statements seen_row r a')
        (move_of t seen_row b m answers (go start answers) e (moves (block_at t b).id answers)) (le_refl (length answers))
        (value_part F f f start answers (run_value seen_row w false answers) (λ left. completed [] normal left) (leads answers) (λ left. inr (onward_here t seen_row f left))) (λ y. runs h₃ y))
    runs {F} {b} (built_while {s₀} x l f y p i v {s} {r} e e₁ leads _ h₁ h₃ q₀) answers =
        leads_instructions F b (WHILE i (some f) v s ▸ r) answers s₀ q₀
        (leads_part F b x f answers answers (loop (some f) (wide_while (f ∷ []) (λ z. run_value seen_row v false z) (λ a'. wide_statements seen_row s a') answers)) (λ a'. wide_statements seen_row r a')
        (move_of t seen_row b (while x l f) answers (go x answers) e refl) (le_refl (length answers))
        (ends_loop F f x answers (wide_while (f ∷ []) (λ z. run_value seen_row v false z) (λ a'. wide_statements seen_row s a') answers)
        (ends_rounds F p f x y l (λ z. run_value seen_row v false z) (λ a'. wide_statements seen_row s a') e₁ leads (λ a'. runs h₁ a') (length answers) answers (le_refl (length answers))))
        (λ y'. runs h₃ y'))
    runs {F} {b} (built_do_while {s₀} l x f y p i v {s} {r} e e₁ leads _ h₁ h₃ q₀) answers =
        leads_instructions F b (DOWHILE i (some f) s v ▸ r) answers s₀ q₀
        (leads_part F b l f answers answers (loop (some f) (wide_do_while (f ∷ []) (λ z. run_value seen_row v false z) (λ a'. wide_statements seen_row s a') answers)) (λ a'. wide_statements seen_row r a')
        (move_of t seen_row b (do_while l x f) answers (go l answers) e refl) (le_refl (length answers))
        (ends_loop F f l answers (wide_do_while (f ∷ []) (λ z. run_value seen_row v false z) (λ a'. wide_statements seen_row s a') answers)
        (ends_round F f x l answers (wide_statements seen_row s answers) (λ a'. wide_while (f ∷ []) (λ z. run_value seen_row v false z) (λ z. wide_statements seen_row s z) a') (runs h₁ answers)
        (λ a' h'. ends_rounds F p f x y l (λ z. run_value seen_row v false z) (λ z. wide_statements seen_row s z) e₁ leads (λ z. runs h₁ z) (length a') a' (le_refl (length a')))))
        (λ y'. runs h₃ y'))
    runs {F} {b} (built_for {s₀} n x u l f k y p i vn vx vu {s} {r} e e₁ init leads update _ h₁ h₃ q₀) answers =
        leads_instructions F b (FOR i (some f) vn vx vu s ▸ r) answers s₀ q₀
        (leads_part F b n f answers answers
        (after_value (run_value seen_row vn false answers) (λ a. loop (some f)
        (wide_for (f ∷ []) (λ z. run_value seen_row vx false z) (λ z. run_update seen_row vu z) (λ z. wide_statements seen_row s z) a)))
        (λ a'. wide_statements seen_row r a')
        (move_of t seen_row b (for n x u l f) answers (go n answers) e refl) (le_refl (length answers))
        (value_part F x f n answers (run_value seen_row vn false answers) (λ a. loop (some f)
        (wide_for (f ∷ []) (λ z. run_value seen_row vx false z) (λ z. run_update seen_row vu z) (λ z. wide_statements seen_row s z) a)) (init answers)
        (λ a. ends_loop F f x a (wide_for (f ∷ []) (λ z. run_value seen_row vx false z) (λ z. run_update seen_row vu z) (λ z. wide_statements seen_row s z) a)
        (loop_value F f y x a (run_value seen_row vx false a) (λ a₁. choose (λ a₂. after_body (f ∷ []) (wide_statements seen_row s a₂)
        (λ a₃. wide_while (f ∷ []) (λ z. then_value (run_update seen_row vu z) (λ z'. run_value seen_row vx false z')) (λ z. wide_statements seen_row s z) a₃)) (λ a₂. completed [] normal a₂) a₁) (leads a)
        (λ rows left arr. ends_asked F p f k y l x (λ z. wide_statements seen_row s z)
        (λ a₃. wide_while (f ∷ []) (λ z. then_value (run_update seen_row vu z) (λ z'. run_value seen_row vx false z')) (λ z. wide_statements seen_row s z) a₃) e₁ (λ z. runs h₁ z) a rows left arr
        (λ a₃ _. ends_rounds F p f k y l (λ z. then_value (run_update seen_row vu z) (λ z'. run_value seen_row vx false z')) (λ z. wide_statements seen_row s z) e₁
        (λ z. value_then t seen_row none x y k z (run_update seen_row vu z) (λ z'. run_value seen_row vx false z') (update z) leads) (λ z. runs h₁ z) (length a₃) a₃ (le_refl (length a₃)))))))
        (λ y'. runs h₃ y'))
    runs {F} {b} (built_switch {s₀} x i n f d {cs} {r} e h₁ h₃ q₀) answers =
        leads_instructions F b (SWITCH x d (some f) cs ▸ r) answers s₀ q₀
        (switch_leads F b x i n f (wide_entries seen_row cs (λ a'. completed [] normal a') []) (λ a'. wide_statements seen_row r a') e
        (subst (λ (z : List Case). EntriesOk (in_switch f ∷ F) f z (wide_entries seen_row cs (λ a'. completed [] normal a') [])) (in_order f i n)
        (runs_cases h₁ f F f last_case (λ a'. completed [] normal a') (λ a'. inr (onward_here t seen_row f a')) (owns f (cases_last_first t i n) []) [] (no_entries (all_own f (cases_last_first t i n) [] tt))))
        (λ y. runs h₃ y) answers)
    runs {F} {b} (built_switch_open {s₀} x i n f d {cs} e h₁ q₀) answers =
        leads_instructions F b (SWITCH x d none cs ▸ done) answers s₀ q₀
        (switch_open_leads F b x i n f (wide_entries seen_row cs (λ a'. completed [] normal a') []) e
        (subst (λ (z : List Case). OpenEntries F z (wide_entries seen_row cs (λ a'. completed [] normal a') [])) (in_whole_order t i n)
        (runs_open_cases h₁ F (λ a'. completed [] normal a') (λ b' a' o p. nothing_after (in_open ∷ F) b' a' o p) [] [] no_open)) answers)

    runs_open_cases : {G : List Frame} {ks : List Case} {cs : Cases} → BuiltCases G ks cs → (F : List Frame) (after : Answers → Completed) → Steps F G after
        → (later_ks : List Case) (later : List (Answers → Completed)) → OpenEntries F later_ks later → OpenEntries F (reverse_aux ks later_ks) (wide_entries seen_row cs after later)
    runs_open_cases built_none F after step later_ks later p = p
    runs_open_cases {G} (built_case k x {ks} {s} {cs} p₁ p₂) F after step later_ks later p =
        runs_open_cases p₂ F (λ a'. then (wide_statements seen_row s a') after)
        (earlier_steps F G k.block after (λ a'. then (wide_statements seen_row s a') after) step (λ a. step k.block a (wide_statements seen_row s a) (runs p₁ a)))
        (k ∷ later_ks) ((λ a'. then (wide_statements seen_row s a') after) ∷ later) (an_open (λ a. step k.block a (wide_statements seen_row s a) (runs p₁ a)) p)

    -- the cases from the last on: what comes after them is entered at m
    runs_cases : {G : List Frame} {ks : List Case} {cs : Cases} → BuiltCases G ks cs → (f : ℕ) (F : List Frame) (m : ℕ) → Over f F G m → (after : Answers → Completed)
        → ((a : Answers) → Ends (in_switch f ∷ F) f m a (after a)) → (later_ks : List Case) (later : List (Answers → Completed)) → EntriesOk (in_switch f ∷ F) f later_ks later
        → EntriesOk (in_switch f ∷ F) f (reverse_aux ks later_ks) (wide_entries seen_row cs after later)
    runs_cases built_none f F m v after h later_ks later p = p
    runs_cases (built_case k x {ks} {s} {cs} p₁ p₂) f F m v after h later_ks later p =
        runs_cases p₂ f F k.block (earlier_case k.block v) (λ a'. then (wide_statements seen_row s a') after)
        (λ a. ends_then (in_switch f ∷ F) f m k.block a (wide_statements seen_row s a) after (ends_over v k.block a (wide_statements seen_row s a) (runs p₁ a)) h)
        (k ∷ later_ks) ((λ a'. then (wide_statements seen_row s a') after) ∷ later)
        (an_entry (λ a. ends_then (in_switch f ∷ F) f m k.block a (wide_statements seen_row s a) after (ends_over v k.block a (wide_statements seen_row s a) (runs p₁ a)) h) p)

  -- ---- of a table without value terminals what is built is run as it stands: it is one of the trees that have no new statement or value

  instructions_runnable : (rs : List ℕ) (k : Statements) → Runnable k → Runnable (instruction_statements t rs k)
  unfolding instruction_statements
  instructions_runnable [] k h = h
  instructions_runnable (r ∷ rs) k h = (tt, instructions_runnable rs k h)

  from_block : (b : ℕ) (s₀ k : Statements) → s₀ ≡ instruction_statements t (instruction_rows_at t b) k → Runnable k → Runnable s₀
  from_block b s₀ k q h = subst (λ (z : Statements). Runnable z) (sym q) (instructions_runnable (instruction_rows_at t b) k h)

  mutual
    pub runnable : NoValues t → {F : List Frame} {b : ℕ} {s : Statements} → Built F b s → Runnable s
    runnable nv {F} {b} (built_return {s₀} v e q₀) = from_block b s₀ (RETURN v (block_at t b).id ▸ done) q₀ (tt, tt)
    runnable nv {F} {b} (built_throw {s₀} v e q₀) = from_block b s₀ (THROW v (block_at t b).id ▸ done) q₀ (tt, tt)
    runnable nv {F} {b} (built_jump {s₀} g v e s h k q w q₀) = from_block b s₀ s q₀ w
    runnable nv {F} {b} (built_if {s₀} x c a f i {s₁} {s₂} {r} e h₁ h₂ h₃ q₀) =
        from_block b s₀ (IF x i (some f) s₁ true s₂ ▸ r) q₀ ((runnable nv h₁, runnable nv h₂), runnable nv h₃)
    runnable nv {F} {b} (built_if_only {s₀} x c f i {s₁} {r} e h₁ h₃ q₀) = from_block b s₀ (IF x i (some f) s₁ false done ▸ r) q₀ ((runnable nv h₁, tt), runnable nv h₃)
    runnable nv {F} {b} (built_label {s₀} c f i {s} {r} e h₁ h₃ q₀) = from_block b s₀ (LABEL i (some f) s ▸ r) q₀ (runnable nv h₁, runnable nv h₃)
    runnable nv {F} {b} (built_if_open {s₀} x c a f i {s₁} {s₂} e h₁ h₂ q₀) = from_block b s₀ (IF x i none s₁ true s₂ ▸ done) q₀ ((runnable nv h₁, runnable nv h₂), tt)
    runnable nv {F} {b} (built_label_open {s₀} c f i {s} e h₁ q₀) = from_block b s₀ (LABEL i none s ▸ done) q₀ (runnable nv h₁, tt)
    runnable nv {F} {b} (built_unreached {s₀} e q₀) = from_block b s₀ done q₀ tt
    runnable nv {F} {b} (built_scope {s₀} p c f n {s} {r} e h₁ h₃ q₀) = from_block b s₀ (SCOPE p n s ▸ r) q₀ (runnable nv h₁, runnable nv h₃)
    runnable nv {F} {b} (built_value m start f i l sp w h e moves leads h₃ q₀) = absurd (true_false (sym h ∙ ap (λ (z : Terminal). contains value_codes (code_of z)) (sym e) ∙ nv b))
    runnable nv {F} {b} (built_throws {s₀} n {r} e h q₀) = from_block b s₀ r q₀ (runnable nv h)
    runnable nv {F} {b} (built_branch {s₀} p c d i {s₁} {s₂} e h₁ h₂ q₀) = from_block b s₀ (IF p i none s₁ true s₂ ▸ done) q₀ ((runnable nv h₁, runnable nv h₂), tt)
    runnable nv {F} {b} (built_branch_out {s₀} p c d i o s₁ {s₂} e k q w h₂ q₀) = from_block b s₀ (IF p i none s₁ true s₂ ▸ done) q₀ ((w, runnable nv h₂), tt)
    runnable nv {F} {b} (built_while {s₀} x l f y p i v {s} {r} e e₁ leads w h₁ h₃ q₀) = from_block b s₀ (WHILE i (some f) v s ▸ r) q₀ ((w nv, runnable nv h₁), runnable nv h₃)
    runnable nv {F} {b} (built_do_while {s₀} l x f y p i v {s} {r} e e₁ leads w h₁ h₃ q₀) = from_block b s₀ (DOWHILE i (some f) s v ▸ r) q₀ ((runnable nv h₁, w nv), runnable nv h₃)
    runnable nv {F} {b} (built_for {s₀} n x u l f k y p i vn vx vu {s} {r} e e₁ init leads update w h₁ h₃ q₀) =
        let (wn, wx, wu) = w nv in from_block b s₀ (FOR i (some f) vn vx vu s ▸ r) q₀ ((wn, wx, wu, runnable nv h₁), runnable nv h₃)
    runnable nv {F} {b} (built_switch {s₀} x i n f d {cs} {r} e h₁ h₃ q₀) = from_block b s₀ (SWITCH x d (some f) cs ▸ r) q₀ (runnable_cases nv h₁, runnable nv h₃)
    runnable nv {F} {b} (built_switch_open {s₀} x i n f d {cs} e h₁ q₀) = from_block b s₀ (SWITCH x d none cs ▸ done) q₀ (runnable_cases nv h₁, tt)

    runnable_cases : NoValues t → {G : List Frame} {ks : List Case} {cs : Cases} → BuiltCases G ks cs → RunnableCases cs
    runnable_cases nv built_none = tt
    runnable_cases nv (built_case k x p₁ p₂) = (runnable nv p₁, runnable_cases nv p₂)
