-- M-103: a tree with none of the rows that 64 speaks of stops for a return, a throw, no answer left, a jump without target, or the end of the tree. So the
-- arms of `ran` that would give 64 after running are never reached: 64 comes "before running" alone. For Requests.
use mathlib.Core.Path.{◌≡◌, refl, sym, ap, ◌∙◌}
use Prim.Native.Nat.{ℕ, zero, suc}
use native.Mathlib.Omega.{arith}
use mathlib.Core.List.{List, [], ◌∷◌}
use mathlib.Core.Option.{Option, none, some}
use mathlib.Core.Bool.{Bool, true, false}
use lib.ListN.{length, get_or}
use lib.Dec.{leb}
use Rattle.definition.specs.Tree.{Value, PLAIN, LOAD, UNDEF, SEQ, LOGICAL, COND, OPTIONAL, Instructions, no_instructions, instruction, Statement, INSTR, IF}
use Rattle.definition.specs.Tree.{SWITCH, DOWHILE, WHILE, FOR, FOROF, FORIN, LABEL, TRY, SCOPE, RETURN, THROW, BREAK, CONTINUE, Statements, done, ◌▸◌, Cases}
use Rattle.definition.specs.Tree.{no_cases, CASE, Kind, implicit, labeled, unlabeled, Row, row}
use Rattle.definition.specs.Tree.{rows, value_rows, instructions_rows, update_rows, statement_rows, statements_rows, block_rows, cases_rows}
use Rattle.definition.specs.Run.{Answers, Reason, returned, threw, no_answer_left, not_plain, no_target, end_of_tree, no_such_case, Run, unfinished, stopped}
use Rattle.definition.specs.Completion.{Completion, normal, break, continue, stop, label_set, contains, loop_continues, breakable, labelled}
use Rattle.definition.specs.TreeRun.{Completed, completed, completing, prefix, then_on, then, choose, performs, performs_update, jump_completion, after_body}
use Rattle.definition.specs.TreeRun.{while_rounds, while_loop, for_loop, do_while_loop, loop, switch_ends, entry_at, choose_place, run_statement, run_statements, entries_from, reason_of, tree_run}
use Rattle.tree_runs.specs.Numbered.{numbered_statement, numbered, numbered_cases}
use Rattle.tree_runs.specs.Ran.{Outcome, refusal, not_run, first_not_run, performed_all, ended, given, after_sorts, ran}
use Rattle.theorems.specs.Stops.{stops_a_tree, Stops}

-- ---- the statements that a run is asked of

abbrev Present : Bool → Type 0 → Type 0
Present true claim = claim
Present false claim = Unit {0}

abbrev mutual
  Runs : Statement → Type 0
  Runs (INSTR id lvalue span value) = Unit {0}
  Runs (IF test id label consequent present alternate) = RunsAll consequent × Present present (RunsAll alternate)
  Runs (SWITCH test id label cases) = RunsCases cases
  Runs (DOWHILE id label body test) = RunsAll body
  Runs (WHILE id label test body) = RunsAll body
  Runs (FOR id label init test update body) = RunsAll body
  Runs (FOROF id label span init test body) = ⊥
  Runs (FORIN id label span init body) = ⊥
  Runs (LABEL id label body) = RunsAll body
  Runs (TRY id label binding body handler) = ⊥
  Runs (SCOPE pruned scope body) = RunsAll body
  Runs (RETURN value id) = Unit {0}
  Runs (THROW value id) = Unit {0}
  Runs (BREAK target id kind loops) = Unit {0}
  Runs (CONTINUE target id kind loops) = Unit {0}

  RunsAll : Statements → Type 0
  RunsAll done = Unit {0}
  RunsAll (statement ▸ rest) = Runs statement × RunsAll rest

  RunsCases : Cases → Type 0
  RunsCases no_cases = Unit {0}
  RunsCases (CASE test body rest) = RunsAll body × RunsCases rest

-- ---- from the rows: none of them is one that 64 speaks of

abbrev AllRun : List Row → Type 0
AllRun [] = Unit {0}
AllRun (row op a b c d e ∷ list) = (not_run op ≡ false) × AllRun list

none_some : {A : Type 0} {a : A} → some a ≡ none → ⊥
none_some e = let z : ◌≡◌ {A = ℕ} 0 1 = cc in omega arith

all_run : (list : List Row) (i : ℕ) → first_not_run list i ≡ none → AllRun list
unfolding first_not_run
all_run [] i h = tt
all_run (row op a b c d e ∷ list) i h = at (not_run op) refl h (all_run list (suc i))
  where
    at : (y : Bool) → not_run op ≡ y → ◌≡◌ {A = Option ℕ} (elim y [ true ↦ some i | false ↦ first_not_run list (suc i) ]) none → (first_not_run list (suc i) ≡ none → AllRun list)
        → (not_run op ≡ false) × AllRun list
    at true q h rest = absurd (none_some h)
    at false q h rest = (q, rest h)

true_false : true ≡ false → ⊥
true_false e = let z : ◌≡◌ {A = ℕ} 0 1 = cc in omega arith

mutual
  after_value : (v : Value) (after : List Row) → AllRun (value_rows v after) → AllRun after
  after_value (PLAIN r) after h = h.1
  after_value (LOAD p) after h = h.1
  after_value (UNDEF s) after h = h.1
  after_value (SEQ is i v) after h = (after_value v _ (after_instructions is _ h)).1
  after_value (LOGICAL o l r) after h = (after_value r _ (after_value l _ h)).1
  after_value (COND x y z) after h = (after_value z _ (after_value y _ (after_value x _ h))).1
  after_value (OPTIONAL f v) after h = (after_value v _ h).1

  after_instructions : (is : Instructions) (after : List Row) → AllRun (instructions_rows is after) → AllRun after
  after_instructions no_instructions after h = h
  after_instructions (instruction i l s v rest) after h = after_instructions rest after (after_value v _ h).1

after_update : (u : Option Value) (after : List Row) → AllRun (update_rows u after) → AllRun after
after_update none after h = h
after_update (some v) after h = after_value v after h

mutual
  statement_runs : (s : Statement) (after : List Row) → AllRun (statement_rows s after) → Runs s × AllRun after
  statement_runs (INSTR i l s v) after h = (tt, (after_value v _ h).1)
  statement_runs (IF x i l c true a) after h =
      let first = block_runs c _ h in let second = block_runs a _ first.1 in ((first.0, second.0), second.1.1)
  statement_runs (IF x i l c false a) after h = let first = block_runs c _ h in ((first.0, tt), first.1.1)
  statement_runs (SWITCH x i l cs) after h = let r = cases_run cs _ h in (r.0, r.1.1)
  statement_runs (DOWHILE i l b v) after h = let r = block_runs b _ h in (r.0, (after_value v _ r.1).1)
  statement_runs (WHILE i l v b) after h = let r = block_runs b _ (after_value v _ h) in (r.0, r.1.1)
  statement_runs (FOR i l n v u b) after h = let r = block_runs b _ (after_update u _ (after_value v _ (after_value n _ h))) in (r.0, r.1.1)
  statement_runs (FOROF i l s n v b) after h = absurd (true_false (block_runs b _ (after_value v _ (after_value n _ h))).1.0)
  statement_runs (FORIN i l s n b) after h = absurd (true_false (block_runs b _ (after_value n _ h)).1.0)
  statement_runs (LABEL i l b) after h = let r = block_runs b _ h in (r.0, r.1.1)
  statement_runs (TRY i l n b c) after h = absurd (true_false (block_runs c _ (block_runs b _ h).1).1.0)
  statement_runs (SCOPE true n b) after h = let r = block_runs b _ h in (r.0, r.1.1)
  statement_runs (SCOPE false n b) after h = let r = block_runs b _ h in (r.0, r.1.1)
  statement_runs (RETURN v i) after h = (tt, h.1)
  statement_runs (THROW v i) after h = (tt, h.1)
  statement_runs (BREAK t i k n) after h = (tt, h.1)
  statement_runs (CONTINUE t i k n) after h = (tt, h.1)

  list_runs : (ss : Statements) (after : List Row) → AllRun (statements_rows ss after) → RunsAll ss × AllRun after
  list_runs done after h = (tt, h)
  list_runs (s ▸ rest) after h = let first = statement_runs s _ h in let more = list_runs rest after first.1 in ((first.0, more.0), more.1)

  block_runs : (ss : Statements) (after : List Row) → AllRun (block_rows ss after) → RunsAll ss × AllRun after
  block_runs done after h = (tt, h.1)
  block_runs (s ▸ rest) after h = let first = statement_runs s _ h in let more = list_runs rest _ first.1 in ((first.0, more.0), more.1.1)

  cases_run : (cs : Cases) (after : List Row) → AllRun (cases_rows cs after) → RunsCases cs × AllRun after
  cases_run no_cases after h = (tt, h)
  cases_run (CASE x b rest) after h = let first = block_runs b _ h in let more = cases_run rest after first.1.1 in ((first.0, more.0), more.1)

-- the tree with row numbers has the same statements
mutual
  unfolding numbered

  numbered_runs : (f : ℕ) (s : Statement) → Runs s → Runs (numbered_statement f s)
  numbered_runs f (INSTR i l s v) h = tt
  numbered_runs f (IF x i l c true a) h = (numbered_all f c h.0, numbered_all _ a h.1)
  numbered_runs f (IF x i l c false a) h = (numbered_all f c h.0, tt)
  numbered_runs f (SWITCH x i l cs) h = numbered_case f cs h
  numbered_runs f (DOWHILE i l b v) h = numbered_all f b h
  numbered_runs f (WHILE i l v b) h = numbered_all _ b h
  numbered_runs f (FOR i l n v u b) h = numbered_all _ b h
  numbered_runs f (FOROF i l s n v b) h = h
  numbered_runs f (FORIN i l s n b) h = h
  numbered_runs f (LABEL i l b) h = numbered_all f b h
  numbered_runs f (TRY i l n b c) h = h
  numbered_runs f (SCOPE p n b) h = numbered_all f b h
  numbered_runs f (RETURN v i) h = tt
  numbered_runs f (THROW v i) h = tt
  numbered_runs f (BREAK t i k n) h = tt
  numbered_runs f (CONTINUE t i k n) h = tt

  numbered_all : (f : ℕ) (ss : Statements) → RunsAll ss → RunsAll (numbered f ss)
  numbered_all f done h = tt
  numbered_all f (s ▸ rest) h = (numbered_runs f s h.0, numbered_all _ rest h.1)

  numbered_case : (f : ℕ) (cs : Cases) → RunsCases cs → RunsCases (numbered_cases f cs)
  numbered_case f no_cases h = tt
  numbered_case f (CASE x b rest) h = (numbered_all f b h.0, numbered_case _ rest h.1)

-- ---- the run: a completion that stops, stops for one of the five

abbrev Ends : Completion → Type 0
Ends normal = Unit {0}
Ends (break target id) = Unit {0}
Ends (continue target id) = Unit {0}
Ends (stop reason) = stops_a_tree reason ≡ true

abbrev Goes : Completed → Type 0
Goes part = Ends part.completion

abbrev GoesOn : (Answers → Completed) → Type 0
GoesOn run = (answers : Answers) → Goes (run answers)

ends_breakable : (c : Completion) → Ends c → Ends (breakable c)
unfolding breakable
ends_breakable normal h = tt
ends_breakable (break none id) h = tt
ends_breakable (break (some target) id) h = tt
ends_breakable (continue target id) h = tt
ends_breakable (stop reason) h = h

ends_labelled : (l : Option ℕ) (c : Completion) → Ends c → Ends (labelled l c)
unfolding labelled
ends_labelled l normal h = tt
ends_labelled l (break none id) h = tt
ends_labelled l (break (some target) id) h = by (contains (label_set l) target)
  where
    by : (y : Bool) → Ends (elim y [ true ↦ normal | false ↦ break (some target) id ])
    by true = tt
    by false = tt
ends_labelled l (continue target id) h = tt
ends_labelled l (stop reason) h = h

goes_completing : (change : Completion → Completion) (part : Completed) → ((c : Completion) → Ends c → Ends (change c)) → Goes part → Goes (completing change part)
unfolding completing completed
goes_completing change part over h = over part.completion h

goes_then : (part : Completed) (next : Answers → Completed) → Goes part → GoesOn next → Goes (then part next)
unfolding then then_on prefix completed
goes_then part next h k = at part.completion h
  where
    at : (c : Completion) → Ends c → Goes (then_on c part next)
    at normal h' = k part.left
    at (break target id) h' = h
    at (continue target id) h' = h
    at (stop reason) h' = h

goes_choose : (if_yes if_no : Answers → Completed) → GoesOn if_yes → GoesOn if_no → GoesOn (choose if_yes if_no)
unfolding choose completed
goes_choose if_yes if_no h k [] = refl
goes_choose if_yes if_no h k (zero ∷ left) = k left
goes_choose if_yes if_no h k (suc n ∷ left) = h left

goes_after : (labels : List ℕ) (body : Completed) (again : Answers → Completed) → Goes body → GoesOn again → Goes (after_body labels body again)
unfolding after_body prefix completed
goes_after labels body again h k = by (loop_continues body.completion labels)
  where
    by : (y : Bool) → Goes (elim y [ true ↦ prefix body.rows (again body.left) | false ↦ body ])
    by true = k body.left
    by false = h

goes_rounds : (labels test : List ℕ) (body : Answers → Completed) → GoesOn body → (count : ℕ) → GoesOn (while_rounds labels test body count)
unfolding while_rounds prefix completed
goes_rounds labels test body h zero answers = refl
goes_rounds labels test body h (suc count) answers =
    goes_choose _ _ (λ left. goes_after labels (body left) _ (h left) (goes_rounds labels test body h count)) (λ left. tt) answers

goes_while : (labels test : List ℕ) (body : Answers → Completed) → GoesOn body → GoesOn (while_loop labels test body)
unfolding while_loop
goes_while labels test body h answers = goes_rounds labels test body h (length answers) answers

goes_for : (labels test update : List ℕ) (body : Answers → Completed) → GoesOn body → GoesOn (for_loop labels test update body)
unfolding for_loop prefix completed
goes_for labels test update body h answers =
    goes_choose _ _ (λ left. goes_after labels (body left) _ (h left) (goes_while labels _ body h)) (λ left. tt) answers

goes_do : (labels test : List ℕ) (body : Answers → Completed) → GoesOn body → GoesOn (do_while_loop labels test body)
unfolding do_while_loop
goes_do labels test body h answers = goes_after labels (body answers) _ (h answers) (goes_while labels test body h)

goes_loop : (l : Option ℕ) (part : Completed) → Goes part → Goes (loop l part)
unfolding loop
goes_loop l part h = goes_completing _ part (λ c e. ends_labelled l (breakable c) (ends_breakable c e)) h

goes_switch : (l : Option ℕ) (part : Completed) → Goes part → Goes (switch_ends l part)
unfolding switch_ends
goes_switch l part h = goes_completing _ part (λ c e. ends_labelled l (breakable c) (ends_breakable c e)) h

goes_jump : (k : Kind) (label id : ℕ) (jump : Option ℕ → ℕ → Completion) → ((target : Option ℕ) (id : ℕ) → Ends (jump target id)) → Ends (jump_completion k label id jump)
unfolding jump_completion
goes_jump implicit label id jump h = tt
goes_jump labeled label id jump h = h (some label) id
goes_jump unlabeled label id jump h = h none id

abbrev Entries : List (Answers → Completed) → Type 0
Entries [] = Unit {0}
Entries (entry ∷ entries) = GoesOn entry × Entries entries

goes_entry : (entries : List (Answers → Completed)) → Entries entries → (place : ℕ) → GoesOn (entry_at entries place)
unfolding entry_at completed
goes_entry [] h place left = tt
goes_entry (entry ∷ entries) h zero left = h.0 left
goes_entry (entry ∷ entries) h (suc place) left = goes_entry entries h.1 place left

goes_place : (entries : List (Answers → Completed)) → Entries entries → GoesOn (choose_place entries)
unfolding choose_place completed
goes_place entries h [] = refl
goes_place entries h (place ∷ left) = goes_entry entries h place left

mutual
  unfolding run_statement completed prefix

  run_goes : (s : Statement) → Runs s → GoesOn (run_statement s)
  run_goes (INSTR i l s v) h answers = tt
  run_goes (IF x i l c true a) h answers = goes_completing (labelled l) _ (ends_labelled l) (goes_choose _ _ (λ left. all_goes c h.0 left) (λ left. all_goes a h.1 left) answers)
  run_goes (IF x i l c false a) h answers = goes_completing (labelled l) _ (ends_labelled l) (goes_choose _ _ (λ left. all_goes c h.0 left) (λ left. tt) answers)
  run_goes (SWITCH x i l cs) h answers = goes_switch l _ (goes_place _ (cases_go cs h _ [] (λ left. tt) tt) answers)
  run_goes (DOWHILE i l b v) h answers = goes_loop l _ (goes_do (label_set l) (performs v) _ (λ left. all_goes b h left) answers)
  run_goes (WHILE i l v b) h answers = goes_loop l _ (goes_while (label_set l) (performs v) _ (λ left. all_goes b h left) answers)
  run_goes (FOR i l n v u b) h answers = goes_loop l _ (goes_for (label_set l) (performs v) (performs_update u) _ (λ left. all_goes b h left) answers)
  run_goes (FOROF i l s n v b) h answers = absurd h
  run_goes (FORIN i l s n b) h answers = absurd h
  run_goes (LABEL i l b) h answers = goes_completing (labelled l) _ (ends_labelled l) (all_goes b h answers)
  run_goes (TRY i l n b c) h answers = absurd h
  run_goes (SCOPE p n b) h answers = all_goes b h answers
  run_goes (RETURN v i) h answers = refl
  run_goes (THROW v i) h answers = refl
  run_goes (BREAK t i k n) h answers = goes_jump k t i break (λ _ _. tt)
  run_goes (CONTINUE t i k n) h answers = goes_jump k t i continue (λ _ _. tt)

  all_goes : (ss : Statements) → RunsAll ss → GoesOn (run_statements ss)
  all_goes done h answers = tt
  all_goes (s ▸ rest) h answers = goes_then _ _ (run_goes s h.0 answers) (λ left. all_goes rest h.1 left)

  cases_go : (cs : Cases) → RunsCases cs → (after : Answers → Completed) (later : List (Answers → Completed)) → GoesOn after → Entries later → Entries (entries_from cs after later)
  cases_go no_cases h after later k e = e
  cases_go (CASE x b rest) h after later k e =
      cases_go rest h.1 _ _ (λ left. goes_then _ after (all_goes b h.0 left) k) ((λ left. goes_then _ after (all_goes b h.0 left) k), e)

reason_stops : (c : Completion) → Ends c → stops_a_tree (reason_of c) ≡ true
unfolding reason_of
reason_stops normal h = refl
reason_stops (break target id) h = refl
reason_stops (continue target id) h = refl
reason_stops (stop reason) h = h

run_stops : (root : Statements) → RunsAll root → (answers : Answers) → Stops (tree_run root answers)
unfolding tree_run
run_stops root h answers = reason_stops (run_statements root answers).completion (all_goes root h answers)

-- ---- of every tree that 64 does not refuse, and of that tree with row numbers, by which 63 and 65 are told

pub tree_stops : (root : Statements) (answers : Answers) → first_not_run (rows root) 0 ≡ none → Stops (tree_run root answers) × Stops (tree_run (numbered 0 root) answers)
tree_stops root answers h =
    let runs : RunsAll root = (block_runs root [] (all_run (rows root) 0 h)).0 in (run_stops root runs answers, run_stops (numbered 0 root) (numbered_all 0 root runs) answers)

ended_not_64 : (performed : List ℕ) (lent : ℕ) (reason : Reason) → stops_a_tree reason ≡ true → (ended performed lent reason).code ≡ 64 → ⊥
unfolding ended performed_all refusal
ended_not_64 performed lent (returned v i) h e = omega (arith, e)
ended_not_64 performed lent (threw v i) h e = omega (arith, e)
ended_not_64 performed lent no_answer_left h e = omega (arith, e)
ended_not_64 performed lent (no_target i) h e = omega (arith, e)
ended_not_64 performed lent end_of_tree h e = omega (arith, e)
ended_not_64 performed lent not_plain h e = true_false (sym h)
ended_not_64 performed lent no_such_case h e = true_false (sym h)

-- what is given, where the reached rows fit and where they do not
abbrev outcome : (performed reached : List ℕ) (reason : Reason) (lent : ℕ) → Bool → Outcome
outcome performed reached reason lent y = elim y [ true ↦ ended performed lent reason | false ↦ refusal 65 (get_or reached lent 0) lent ]

outcome_not_64 : (performed reached : List ℕ) (reason : Reason) (lent : ℕ) (y : Bool) → stops_a_tree reason ≡ true → (outcome performed reached reason lent y).code ≡ 64 → ⊥
unfolding refusal
outcome_not_64 performed reached reason lent true s e = ended_not_64 performed lent reason s e
outcome_not_64 performed reached reason lent false s e = omega (arith, e)

given_not_64 : (run numbered_run : Run) (lent : ℕ) → Stops run → Stops numbered_run → (given lent run numbered_run).code ≡ 64 → ⊥
unfolding given
given_not_64 unfinished numbered_run lent h k e = absurd h
given_not_64 (stopped performed left reason) unfinished lent h k e = absurd k
given_not_64 (stopped performed left reason) (stopped reached left' numbered_reason) lent h k e =
    outcome_not_64 performed reached numbered_reason lent (leb (length reached) lent) k e

-- "64, before running": only where a row of its sorts stands, and at the first
pub only_before_running : (root : Statements) (answers : Answers) (lent : ℕ) → (ran root answers lent).code ≡ 64
    → (i : ℕ) × (first_not_run (rows root) 0 ≡ some i) × (ran root answers lent ≡ refusal 64 i lent)
unfolding ran after_sorts
only_before_running root answers lent = at (first_not_run (rows root) 0) refl
  where
    at : (first : Option ℕ) → first_not_run (rows root) 0 ≡ first → (ran root answers lent).code ≡ 64
        → (i : ℕ) × (first_not_run (rows root) 0 ≡ some i) × (ran root answers lent ≡ refusal 64 i lent)
    at (some i) e h = (i, e, ap (λ (z : Option ℕ). after_sorts z root answers lent) e)
    at none e h =
        let two = tree_stops root answers e in
        let same : (given lent (tree_run root answers) (tree_run (numbered 0 root) answers)).code ≡ 64 = sym (ap (λ (z : Option ℕ). (after_sorts z root answers lent).code) e) ∙ h in
        absurd (given_not_64 (tree_run root answers) (tree_run (numbered 0 root) answers) lent two.0 two.1 same)
