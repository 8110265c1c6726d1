-- The tree run with values: as TreeRun, but a value's run asks, and a loop's test is a run and no list of rows.
use Rattle.std.specs.Prelude.{ℕ, zero, suc, List, [], ◌∷◌, Bool, true, false, length}
use Rattle.std.proofs.Math.Option.{Option, none, some}
use Rattle.definition.specs.Tree.{Value}
use Rattle.definition.specs.Tree.{Statement, INSTR, IF, SWITCH, DOWHILE, WHILE, FOR, FOROF, FORIN, LABEL, TRY, SCOPE, RETURN, THROW, BREAK, CONTINUE, Statements, done, ◌▸◌, Cases, no_cases, CASE}
use Rattle.definition.specs.Run.{Answers, returned, threw, no_answer_left, not_plain, Run, stopped}
use Rattle.definition.specs.Completion.{normal, break, continue, stop, label_set, labelled}
use Rattle.definition.specs.TreeRun.{Completed, completed, completing, prefix, then, choose, jump_completion, after_body, loop, switch_ends, choose_place, reason_of}
use Rattle.definition.specs.ValueRun.{Ending, in_whole, in_short, stopping, Valued, valued, then_value, run_value}

-- a value, and then a part of the tree. Only what is tested ends short
unfoldable pub after_value_on : Ending → Valued → (Answers → Completed) → Completed
after_value_on in_whole value next = prefix value.rows (next value.left)
after_value_on in_short value next = prefix value.rows (next value.left)
after_value_on (stopping reason) value next = completed value.rows (stop reason) value.left

unfoldable pub after_value : Valued → (Answers → Completed) → Completed
after_value value next = after_value_on value.ending value next

unfoldable pub wide_rounds : (label_set : List ℕ) → (test : Answers → Valued) → (body : Answers → Completed) → (count : ℕ) → Answers → Completed
wide_rounds labels test body zero answers = after_value (test answers) (λ left. completed [] (stop no_answer_left) left)
wide_rounds labels test body (suc count) answers =
    after_value (test answers)
    (λ a. choose (λ left. after_body labels (body left) (λ left'. wide_rounds labels test body count left')) (λ left. completed [] normal left) a)

unfoldable pub wide_while : (label_set : List ℕ) → (test : Answers → Valued) → (body : Answers → Completed) → Answers → Completed
wide_while labels test body answers = wide_rounds labels test body (length answers) answers

unfoldable pub wide_for : (label_set : List ℕ) → (test update : Answers → Valued) → (body : Answers → Completed) → Answers → Completed
wide_for labels test update body answers =
    after_value (test answers)
    (λ a. choose (λ left. after_body labels (body left) (λ left'. wide_while labels (λ l. then_value (update l) test) body left')) (λ left. completed [] normal left) a)

unfoldable pub wide_do_while : (label_set : List ℕ) → (test : Answers → Valued) → (body : Answers → Completed) → Answers → Completed
wide_do_while labels test body answers = after_body labels (body answers) (λ left. wide_while labels test body left)

abbrev pub run_update : (seen_row : ℕ → Bool) → Option Value → Answers → Valued
run_update seen_row none answers = valued [] in_whole answers
run_update seen_row (some update) answers = run_value seen_row update false answers

unfoldable mutual
  pub wide_statement : (seen_row : ℕ → Bool) → Statement → Answers → Completed
  wide_statement seen_row (INSTR id lvalue span value) answers = after_value (run_value seen_row value false answers) (λ left. completed [] normal left)
  wide_statement seen_row (IF test id label consequent present alternate) answers =
      completing (labelled label)
      (choose (λ left. wide_statements seen_row consequent left) (λ left. elim present [ true ↦ wide_statements seen_row alternate left | false ↦ completed [] normal left ]) answers)
  wide_statement seen_row (WHILE id label test body) answers =
      loop label (wide_while (label_set label) (λ left. run_value seen_row test false left) (λ left. wide_statements seen_row body left) answers)
  wide_statement seen_row (LABEL id label body) answers = completing (labelled label) (wide_statements seen_row body answers)
  wide_statement seen_row (SCOPE pruned scope body) answers = wide_statements seen_row body answers
  wide_statement seen_row (RETURN value id) answers = completed [] (stop (returned value id)) answers
  wide_statement seen_row (THROW value id) answers = completed [] (stop (threw value id)) answers
  wide_statement seen_row (BREAK target id kind loops) answers = completed [] (jump_completion kind target id break) answers
  wide_statement seen_row (CONTINUE target id kind loops) answers = completed [] (jump_completion kind target id continue) answers
  wide_statement seen_row (SWITCH test id label cases) answers = switch_ends label (choose_place (wide_entries seen_row cases (λ left. completed [] normal left) []) answers)
  wide_statement seen_row (DOWHILE id label body test) answers =
      loop label (wide_do_while (label_set label) (λ left. run_value seen_row test false left) (λ left. wide_statements seen_row body left) answers)
  wide_statement seen_row (FOR id label init test update body) answers =
      after_value (run_value seen_row init false answers) (λ a.
      loop label (wide_for (label_set label) (λ left. run_value seen_row test false left) (λ left. run_update seen_row update left) (λ left. wide_statements seen_row body left) a))
  wide_statement seen_row (FOROF id label span init test body) answers = completed [] (stop not_plain) answers
  wide_statement seen_row (FORIN id label span init body) answers = completed [] (stop not_plain) answers
  wide_statement seen_row (TRY id label binding body handler) answers = completed [] (stop not_plain) answers

  pub wide_statements : (seen_row : ℕ → Bool) → Statements → Answers → Completed
  wide_statements seen_row done answers = completed [] normal answers
  wide_statements seen_row (statement ▸ rest) answers = then (wide_statement seen_row statement answers) (λ left. wide_statements seen_row rest left)

  pub wide_entries : (seen_row : ℕ → Bool) → Cases → (after : Answers → Completed) → (later : List (Answers → Completed)) → List (Answers → Completed)
  wide_entries seen_row no_cases after later = later
  wide_entries seen_row (CASE test body earlier) after later =
      wide_entries seen_row earlier (λ left. then (wide_statements seen_row body left) after) ((λ left. then (wide_statements seen_row body left) after) ∷ later)

unfoldable pub wide_tree_run : (seen_row : ℕ → Bool) → Statements → Answers → Run
wide_tree_run seen_row root answers =
    stopped (wide_statements seen_row root answers).rows (wide_statements seen_row root answers).left (reason_of (wide_statements seen_row root answers).completion)
