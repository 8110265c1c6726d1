-- The run law of wide plain tables, proved. For whoever calls the build, and for proofs/Law, which has the laws of the tables without values from it.
use mathlib.Core.Path.{◌≡◌, refl, sym, ap, ◌∙◌, subst}
use Prim.Native.Nat.{ℕ, zero, suc, ◌+◌}
use mathlib.Core.Logic.{inl, inr}
use mathlib.Core.List.{List, [], ◌∷◌, ◌++◌, append_assoc}
use mathlib.Core.Option.{none, some}
use native.Mathlib.Nat.{zero-add, suc-add, le_refl}
use native.Mathlib.Omega.{arith}
use mathlib.Core.Bool.{Bool, true, false}
use Rattle.table.specs.Table.{Table, Case, Terminal, absent, unreachable, throw, return, goto, if, branch, switch, do_while, while, for, for_of, for_in, logical}
use Rattle.table.specs.Table.{ternary, optional, label, sequence, maybe_throw, try, scope, code_of, table_of, block_at, terminal_at, instruction_rows_at}
use Rattle.definition.specs.Tree.{Statements}
use Rattle.definition.specs.Build.{built}
use Rattle.definition.specs.Around.{Rule, rust, language, outermost}
use Rattle.definition.specs.Result.{ok}
use Rattle.definition.specs.Context.{start}
use Rattle.definition.specs.Statement.{BlockResult, build_tree}
use Rattle.definition.specs.Reading.{OneTree}
use Rattle.definition.specs.Run.{Answers, Reason, returned, threw, no_answer_left, not_plain, no_target, end_of_tree, no_such_case, Run, unfinished, stopped}
use Rattle.definition.specs.BlockRun.{Move, go, halt, by_answer, at_place, by_place, case_list, move, performing}
use Rattle.definition.specs.Completion.{contains, Completion, normal, break, continue, stop}
use Rattle.definition.specs.TreeRun.{reason_of}
use Rattle.definition.specs.Plain.{Width, paper_01, with_switch}
use Rattle.definition.specs.PlainLoops.{Reached}
use Rattle.definition.proofs.Ranged.{Ranged}
use Rattle.definition.proofs.Checked.{ranged}
use Rattle.definition.proofs.Accepted.{Accepted, accepted_of}
use Rattle.definition.proofs.TreeInBuffer.{one_tree, tree_is_built}
use Rattle.definition.proofs.Steps.{true_false, none_some}
use Rattle.definition.specs.ValueEnds.{seen, seen_rows}
use Rattle.definition.specs.WideRun.{wide_move, wide_run}
use Rattle.definition.specs.WideTreeRun.{wide_statements, wide_tree_run}
use Rattle.definition.specs.WideLoops.{wide_codes, WideLoops}
use Rattle.definition.specs.ValueLaw.{WidePlain, WideAgree, WideSpoken, WideRunLaw, WideSwitchLaw, LawOfValues, LawOfValuesAndSwitches}
use Rattle.definition.proofs.SeenConditions.{SeenValues, SeenInits}
use Rattle.definition.proofs.Arrive.{NoneLost}
use Rattle.definition.proofs.Semantics.{Built, LeadsOn, Beyond, no_case, lost, runs}
use Rattle.definition.proofs.NoneLost.{none_lost}
use Rattle.definition.proofs.State.{start_ok}
use Rattle.definition.proofs.Resolve.{fits_none}
use Rattle.definition.proofs.SeenRows.{seen_values, seen_inits}
use Rattle.definition.proofs.Structure.{Covers, BlockOk, WalkOk, walk_ok}

-- ---- more steps change nothing: there is one block run

unfinished_stopped : {performed : List ℕ} {a : Answers} {r : Reason} → unfinished ≡ stopped performed a r → ⊥
unfinished_stopped e = let z : ◌≡◌ {A = ℕ} 0 1 = cc in omega arith

abbrev Still : Run → Run → Type 0
Still x y = (performed : List ℕ) (a : Answers) (r : Reason) → x ≡ stopped performed a r → y ≡ stopped performed a r

performing_still : (rs : List ℕ) (x y : Run) → Still x y → Still (performing rs x) (performing rs y)
unfolding performing
performing_still rs unfinished y f performed a r e = absurd (unfinished_stopped e)
performing_still rs (stopped performed' a' r') y f performed a r e = ap (λ (z : Run). performing rs z) (f performed' a' r' refl) ∙ e

one_more : (t : Table) (seen_row : ℕ → Bool) (n b : ℕ) (answers : Answers) → Still (wide_run t seen_row n b answers) (wide_run t seen_row (suc n) b answers)
unfolding wide_run
one_more t seen_row zero b answers = λ performed a r e. absurd (unfinished_stopped e)
one_more t seen_row (suc n) b answers =
    performing_still (seen_rows seen_row (instruction_rows_at t b)) _ _ (at (wide_move t (terminal_at t b) (block_at t b).id answers) (λ b' a'. one_more t seen_row n b' a'))
  where
    at : (m : Move) → ((b' : ℕ) (a' : Answers) → Still (wide_run t seen_row n b' a') (wide_run t seen_row (suc n) b' a'))
        → Still (elim m [ go x y ↦ wide_run t seen_row n x y | halt e ↦ stopped [] answers e ]) (elim m [ go x y ↦ wide_run t seen_row (suc n) x y | halt e ↦ stopped [] answers e ])
    at (go x y) f = f x y
    at (halt q) f = λ performed a r e. e

more_steps : (t : Table) (seen_row : ℕ → Bool) (more n b : ℕ) (answers : Answers) (performed : List ℕ) (left : Answers) (r : Reason)
    → wide_run t seen_row n b answers ≡ stopped performed left r → wide_run t seen_row (more + n) b answers ≡ stopped performed left r
more_steps t seen_row zero n b answers performed left r e = rw zero-add e
more_steps t seen_row (suc more) n b answers performed left r e =
    rw suc-add (one_more t seen_row (more + n) b answers performed left r (more_steps t seen_row more n b answers performed left r e))

-- ---- a run takes answers from the front

abbrev Takes : Answers → Answers → Type 0
Takes answers left = (taken : Answers) × (taken ++ left ≡ answers)

go_left : {b b' : ℕ} {a a' : Answers} → go b a ≡ go b' a' → a ≡ a'
go_left e = cc

halt_goes : {b : ℕ} {a : Answers} {r : Reason} → halt r ≡ go b a → ⊥
halt_goes e = let z : ◌≡◌ {A = ℕ} 0 1 = cc in omega arith

same : (x : ℕ) (a : Answers) (b : ℕ) (left : Answers) → go x a ≡ go b left → Takes a left
same x a b left e = ([], sym (go_left e))

by_answer_takes : (c d : ℕ) (a : Answers) (b : ℕ) (left : Answers) → by_answer c d a ≡ go b left → Takes a left
unfolding by_answer
by_answer_takes c d [] b left e = absurd (halt_goes e)
by_answer_takes c d (zero ∷ a) b left e = (zero ∷ [], ap (λ (z : Answers). zero ∷ z) (sym (go_left e)))
by_answer_takes c d (suc n ∷ a) b left e = (suc n ∷ [], ap (λ (z : Answers). suc n ∷ z) (sym (go_left e)))

at_place_takes : (cases : List Case) (k : ℕ) (a : Answers) (b : ℕ) (left : Answers) → at_place cases k a ≡ go b left → a ≡ left
unfolding at_place
at_place_takes [] k a b left e = absurd (halt_goes e)
at_place_takes (c ∷ cs) zero a b left e = go_left e
at_place_takes (c ∷ cs) (suc k) a b left e = at_place_takes cs k a b left e

by_place_takes : (cases : List Case) (a : Answers) (b : ℕ) (left : Answers) → by_place cases a ≡ go b left → Takes a left
unfolding by_place
by_place_takes cases [] b left e = absurd (halt_goes e)
by_place_takes cases (k ∷ a) b left e = (k ∷ [], ap (λ (z : Answers). k ∷ z) (sym (at_place_takes cases k a b left e)))

move_takes : (t : Table) (m : Terminal) (id : ℕ) (a : Answers) (b : ℕ) (left : Answers) → wide_move t m id a ≡ go b left → Takes a left
unfolding wide_move move
move_takes t absent id a b left e = absurd (halt_goes e)
move_takes t unreachable id a b left e = absurd (halt_goes e)
move_takes t (throw value) id a b left e = absurd (halt_goes e)
move_takes t (return value) id a b left e = absurd (halt_goes e)
move_takes t (goto block variant) id a b left e = same _ a b left e
move_takes t (if test consequent alternate fallthrough) id a b left e = by_answer_takes consequent alternate a b left e
move_takes t (branch test consequent alternate) id a b left e = by_answer_takes consequent alternate a b left e
move_takes t (switch test first number fallthrough) id a b left e = by_place_takes (case_list t first number) a b left e
move_takes t (do_while loop test fallthrough) id a b left e = same _ a b left e
move_takes t (while test loop fallthrough) id a b left e = same _ a b left e
move_takes t (for init test update loop fallthrough) id a b left e = same _ a b left e
move_takes t (for_of init test loop fallthrough) id a b left e = absurd (halt_goes e)
move_takes t (for_in init loop fallthrough) id a b left e = absurd (halt_goes e)
move_takes t (logical operator test fallthrough) id a b left e = same _ a b left e
move_takes t (ternary test fallthrough) id a b left e = same _ a b left e
move_takes t (optional flag test fallthrough) id a b left e = same _ a b left e
move_takes t (label block fallthrough) id a b left e = same _ a b left e
move_takes t (sequence block fallthrough) id a b left e = same _ a b left e
move_takes t (maybe_throw continuation) id a b left e = same _ a b left e
move_takes t (try block handler fallthrough binding) id a b left e = absurd (halt_goes e)
move_takes t (scope pruned block fallthrough number) id a b left e = same _ a b left e

stopped_left : {rows rows' : List ℕ} {a a' : Answers} {r r' : Reason} → stopped rows a r ≡ stopped rows' a' r' → a ≡ a'
stopped_left e = cc

performed : {a : Answers} (rs : List ℕ) (x : Run) (rows : List ℕ) (left : Answers) (r : Reason)
    → ((rows : List ℕ) (l : Answers) (r : Reason) → x ≡ stopped rows l r → Takes a l) → performing rs x ≡ stopped rows left r → Takes a left
unfolding performing
performed rs unfinished rows left r h e = absurd (unfinished_stopped e)
performed {a} rs (stopped rows' left' r') rows left r h e = subst (λ (z : Answers). Takes a z) (stopped_left e) (h rows' left' r' refl)

run_takes : (t : Table) (seen_row : ℕ → Bool) (n b : ℕ) (a : Answers) (rows : List ℕ) (left : Answers) (r : Reason) → wide_run t seen_row n b a ≡ stopped rows left r → Takes a left
unfolding wide_run
run_takes t seen_row zero b a rows left r e = absurd (unfinished_stopped e)
run_takes t seen_row (suc n) b a rows left r e =
    performed (seen_rows seen_row (instruction_rows_at t b)) _ rows left r
    (at (wide_move t (terminal_at t b) (block_at t b).id a) (move_takes t (terminal_at t b) (block_at t b).id a) (λ b' a' rows' l r' h. run_takes t seen_row n b' a' rows' l r' h)) e
  where
    at : (m : Move) → ((b : ℕ) (l : Answers) → m ≡ go b l → Takes a l)
        → ((b' : ℕ) (a' : Answers) (rows : List ℕ) (l : Answers) (r : Reason) → wide_run t seen_row n b' a' ≡ stopped rows l r → Takes a' l)
        → (rows : List ℕ) (l : Answers) (r : Reason) → elim m [ go x y ↦ wide_run t seen_row n x y | halt q ↦ stopped [] a q ] ≡ stopped rows l r → Takes a l
    at (go x y) h k rows l r e' =
        let (taken, q) = h x y refl in
        let (taken', q') = k x y rows l r e' in
        (taken ++ taken', append_assoc taken taken' l ∙ ap (λ (z : Answers). taken ++ z) q' ∙ q)
    at (halt q) h k rows l r e' = ([], sym (stopped_left e'))

-- ---- what the build makes agrees with the table

module _ (t : Table) (seen_row : ℕ → Bool) where
  agree_on : (s : Statements) (answers : Answers) (e : Completion) → (wide_statements seen_row s answers).completion ≡ e
      → LeadsOn t seen_row [] t.entry answers (wide_statements seen_row s answers).rows e (wide_statements seen_row s answers).left → WideAgree t seen_row s answers
  unfolding wide_tree_run reason_of
  agree_on s answers normal h (b, k, p) = absurd (none_some k)
  agree_on s answers (break none j) h (b, k, p) = absurd (none_some k)
  agree_on s answers (break (some x) j) h (b, k, p) = absurd (none_some k)
  agree_on s answers (continue none j) h (b, k, p) = absurd (none_some k)
  agree_on s answers (continue (some x) j) h (b, k, p) = absurd (none_some k)
  agree_on s answers (stop r) h (g, p) =
      let takes : Takes answers (wide_statements seen_row s answers).left =
      run_takes t seen_row p.steps t.entry answers (wide_statements seen_row s answers).rows (wide_statements seen_row s answers).left r p.runs in
      record {
        steps = p.steps;
        performed = (wide_statements seen_row s answers).rows;
        taken = takes.0;
        left = (wide_statements seen_row s answers).left;
        reason = r;
        block_stops = λ more. more_steps t seen_row more p.steps t.entry answers (wide_statements seen_row s answers).rows (wide_statements seen_row s answers).left r p.runs;
        tree_stops = ap (λ (e : Completion). stopped (wide_statements seen_row s answers).rows (wide_statements seen_row s answers).left (reason_of e)) h;
        answers_taken = takes.1;
        good = g;
      }

  not_beyond : (answers : Answers) → NoneLost t seen_row → Reached t t.entry → WideSpoken t seen_row answers → Beyond t seen_row t.entry answers → ⊥
  not_beyond answers w h spoken (no_case rows left s) = spoken s.steps rows left s.runs
  not_beyond answers w h spoken (lost f) = f w h

  built_agrees : (s : Statements) → NoneLost t seen_row → Reached t t.entry → Built t seen_row [] t.entry s → (answers : Answers) → WideSpoken t seen_row answers → WideAgree t seen_row s answers
  built_agrees s w h b answers spoken = elim (runs t seen_row b answers) [
    | inl z ↦ absurd (not_beyond answers w h spoken z)
    | inr z ↦ agree_on s answers (wide_statements seen_row s answers).completion refl z
  ]

  module _ (rule : Rule) {width : Width} (covers : Covers rule width) (pl : WideLoops width t) (rg : Ranged t) (pv : SeenValues t seen_row) (si : SeenInits t seen_row) where
    pub tree_built : (r : BlockResult) → build_tree rule t ≡ ok r → Built t seen_row [] t.entry r.statements
    unfolding build_tree WalkOk BlockOk
    tree_built r e =
        (walk_ok t seen_row rule covers pl rg pv si 128 (le_refl 128) (outermost rule) [] (record { by_rule = refl; fits = fits_none; free = tt }) t.entry start r (start_ok t) pl.entry_reached e).tree

    -- at any table, and whatever rows are seen, under the conditions
    pub table_agrees : (r : BlockResult) → build_tree rule t ≡ ok r → (answers : Answers) → WideSpoken t seen_row answers → WideAgree t seen_row r.statements answers
    table_agrees r e = built_agrees r.statements (none_lost t pl seen_row) pl.entry_reached (tree_built r e)

-- ---- a table without Switch comes to no answer that is the place of no case

abbrev pub is_beyond : Reason → Bool
is_beyond (returned value id) = false
is_beyond (threw value id) = false
is_beyond no_answer_left = false
is_beyond not_plain = false
is_beyond (no_target id) = false
is_beyond end_of_tree = false
is_beyond no_such_case = true

abbrev moves_beyond : Move → Bool
moves_beyond (go block left) = false
moves_beyond (halt reason) = is_beyond reason

abbrev pub runs_beyond : Run → Bool
runs_beyond unfinished = false
runs_beyond (stopped performed left reason) = is_beyond reason

answer_within : (x y : ℕ) (answers : Answers) → moves_beyond (by_answer x y answers) ≡ false
unfolding by_answer
answer_within x y [] = refl
answer_within x y (zero ∷ a) = refl
answer_within x y (suc n ∷ a) = refl

move_within : (t : Table) (m : Terminal) (i : ℕ) (answers : Answers) → contains (wide_codes paper_01) (code_of m) ≡ true → moves_beyond (wide_move t m i answers) ≡ false
unfolding wide_move move
move_within t absent i a h = refl
move_within t unreachable i a h = refl
move_within t (throw v) i a h = refl
move_within t (return v) i a h = refl
move_within t (goto g v) i a h = refl
move_within t (if x y z f) i a h = answer_within y z a
move_within t (branch x y z) i a h = answer_within y z a
move_within t (switch x k n f) i a h = absurd (true_false (sym h))
move_within t (do_while l x f) i a h = refl
move_within t (while x l f) i a h = refl
move_within t (for k x u l f) i a h = refl
move_within t (for_of k x l f) i a h = refl
move_within t (for_in k l f) i a h = refl
move_within t (logical o x f) i a h = refl
move_within t (ternary x f) i a h = refl
move_within t (optional g x f) i a h = refl
move_within t (label x f) i a h = refl
move_within t (sequence x f) i a h = refl
move_within t (maybe_throw n) i a h = refl
move_within t (try x y f n) i a h = refl
move_within t (scope q x f n) i a h = refl

performing_within : (rows : List ℕ) (x : Run) → runs_beyond (performing rows x) ≡ runs_beyond x
unfolding performing
performing_within rows unfinished = refl
performing_within rows (stopped performed left r) = refl

run_within : (t : Table) (seen_row : ℕ → Bool) → WideLoops paper_01 t → (n b : ℕ) (answers : Answers) → runs_beyond (wide_run t seen_row n b answers) ≡ false
unfolding wide_run
run_within t seen_row pl zero b a = refl
run_within t seen_row pl (suc n) b a =
    performing_within (seen_rows seen_row (instruction_rows_at t b)) _
    ∙ at (wide_move t (terminal_at t b) (block_at t b).id a) (move_within t (terminal_at t b) (block_at t b).id a (pl.ends b)) (λ b' a'. run_within t seen_row pl n b' a')
  where
    at : (m : Move) → moves_beyond m ≡ false → ((b' : ℕ) (a' : Answers) → runs_beyond (wide_run t seen_row n b' a') ≡ false)
        → runs_beyond (elim m [ go next left ↦ wide_run t seen_row n next left | halt reason ↦ stopped [] a reason ]) ≡ false
    at (go b' a') h f = f b' a'
    at (halt r) h f = h

-- every list of answers is spoken of
pub all_spoken : (t : Table) (seen_row : ℕ → Bool) → WideLoops paper_01 t → (answers : Answers) → WideSpoken t seen_row answers
all_spoken t seen_row pl answers n performed left e = true_false (sym (ap runs_beyond e) ∙ run_within t seen_row pl n t.entry answers)

-- ---- the laws

pub covers_paper : (rule : Rule) → Covers rule paper_01
covers_paper rust = tt
covers_paper language = tt

module _ (rule : Rule) {width : Width} (words : List ℕ) (lent lent_index : ℕ)
    (covers : Covers rule width) (h : (built rule words lent lent_index).code ≡ 0) (pl : WidePlain width (table_of words)) where
  -- the tree in the buffer stands for the blocks
  pub root_built : Built (table_of words) (seen (table_of words)) [] (table_of words).entry (one_tree rule words lent lent_index h).tree
  root_built =
      let a : Accepted rule words lent lent_index = accepted_of rule words lent lent_index h in
      let one : OneTree (built rule words lent lent_index) = one_tree rule words lent lent_index h in
      subst (λ (s : Statements). Built (table_of words) (seen (table_of words)) [] (table_of words).entry s) (sym (tree_is_built rule words lent lent_index a one))
      (tree_built (table_of words) (seen (table_of words)) rule covers pl.loops (ranged words a.checks) (seen_values (table_of words) pl.loops.one_fallthrough pl.values) (seen_inits (table_of words))
      a.root a.builds)

  pub root_agrees : (answers : Answers) → WideSpoken (table_of words) (seen (table_of words)) answers
      → WideAgree (table_of words) (seen (table_of words)) (one_tree rule words lent lent_index h).tree answers
  root_agrees =
      built_agrees (table_of words) (seen (table_of words)) (one_tree rule words lent lent_index h).tree (none_lost (table_of words) pl.loops (seen (table_of words))) pl.loops.entry_reached root_built

pub values_law : LawOfValues
values_law rule words lent lent_index h pl = record {
  one = one_tree rule words lent lent_index h;
  agree = λ answers. root_agrees rule words lent lent_index (covers_paper rule) h pl answers (all_spoken (table_of words) (seen (table_of words)) pl.loops answers);
}

pub values_and_switches_law : LawOfValuesAndSwitches
values_and_switches_law words lent lent_index h pl =
    record { one = one_tree language words lent lent_index h; agree = root_agrees language words lent lent_index tt h pl }
