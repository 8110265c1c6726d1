-- Paper 01, "Plain tables": the tree run. Break, continue and loops go "as in ECMA-262": specs/Completion.
use Rattle.std.specs.Prelude.{ℕ, zero, suc, List, [], ◌∷◌, ◌++◌, true, false, length}
use Rattle.std.proofs.Math.Option.{Option, none, some}
use Rattle.definition.specs.Tree.{Kind, implicit, labeled, unlabeled, Value, PLAIN, LOAD, UNDEF, SEQ, LOGICAL, COND, OPTIONAL, Instructions, no_instructions, instruction}
use Rattle.definition.specs.Tree.{Statement, INSTR, IF, SWITCH, DOWHILE, WHILE, FOR, FOROF, FORIN, LABEL, TRY, SCOPE, RETURN, THROW, BREAK, CONTINUE, Statements, done, ◌▸◌, Cases, no_cases, CASE}
use Rattle.definition.specs.Run.{Answers, Reason, returned, threw, no_answer_left, not_plain, no_target, end_of_tree, Run, stopped}
use Rattle.definition.specs.Completion.{Completion, normal, break, continue, stop, label_set, loop_continues, breakable, labelled}

-- what a part of the tree came to: the rows it performed, its completion, and the answers left
pub record Completed : Type 0 where
  pub rows : List ℕ
  pub completion : Completion
  pub left : Answers

unfoldable pub completed : List ℕ → Completion → Answers → Completed
completed rows completion left = record { rows = rows; completion = completion; left = left }

-- the same with another completion
unfoldable pub completing : (Completion → Completion) → Completed → Completed
completing change part = completed part.rows (change part.completion) part.left

-- some rows are performed, and then a part
unfoldable pub prefix : List ℕ → Completed → Completed
prefix rows part = completed (rows ++ part.rows) part.completion part.left

-- "parts run in order": a part and, if it completed normally, the next
unfoldable pub then_on : Completion → Completed → (Answers → Completed) → Completed
then_on normal part next = prefix part.rows (next part.left)
then_on (break target id) part next = part
then_on (continue target id) part next = part
then_on (stop reason) part next = part

unfoldable pub then : Completed → (Answers → Completed) → Completed
then part next = then_on part.completion part next

-- "by one answer": the part for yes, or the part for no
unfoldable pub choose : (if_yes if_no : Answers → Completed) → Answers → Completed
choose if_yes if_no [] = completed [] (stop no_answer_left) []
choose if_yes if_no (zero ∷ left) = if_no left
choose if_yes if_no (suc n ∷ left) = if_yes left

-- "parts run in order; PLAIN performs its row, LOAD none": the rows that a value performs
abbrev mutual
  pub performs : Value → List ℕ
  performs (PLAIN instruction_row) = instruction_row ∷ []
  performs (LOAD place) = []
  performs (UNDEF span) = []
  performs (SEQ instructions id value) = performs_all instructions ++ performs value
  performs (LOGICAL operator left right) = performs left ++ performs right
  performs (COND test consequent alternate) = performs test ++ performs consequent ++ performs alternate
  performs (OPTIONAL flag value) = performs value

  pub performs_all : Instructions → List ℕ
  performs_all no_instructions = []
  performs_all (instruction id lvalue span value rest) = performs value ++ performs_all rest

-- "Implicit jumps do nothing. An Unlabeled one acts on the nearest loop around it .., a Labeled one on the statement with that label"
unfoldable pub jump_completion : Kind → (label id : ℕ) → (Option ℕ → ℕ → Completion) → Completion
jump_completion implicit label id jump = normal
jump_completion unlabeled label id jump = jump none id
jump_completion labeled label id jump = jump (some label) id

-- the body's completion decides: LoopContinues, or the loop completes as the body did
unfoldable pub after_body : (label_set : List ℕ) → Completed → (Answers → Completed) → Completed
after_body labels body again = elim (loop_continues body.completion labels) [ true ↦ prefix body.rows (again body.left) | false ↦ body ]

-- WhileLoopEvaluation: the test; by one answer the body and the loop again (yes), or a normal completion (no)
unfoldable pub while_rounds : (label_set test : List ℕ) → (body : Answers → Completed) → (count : ℕ) → Answers → Completed
while_rounds labels test body zero answers = completed test (stop no_answer_left) answers
while_rounds labels test body (suc count) answers =
    prefix test (choose (λ left. after_body labels (body left) (λ left'. while_rounds labels test body count left')) (λ left. completed [] normal left) answers)

-- Each round takes an answer, so that as many rounds as there are answers are enough: proofs/Loops has the equation, which needs no count
unfoldable pub while_loop : (label_set test : List ℕ) → (body : Answers → Completed) → Answers → Completed
while_loop labels test body answers = while_rounds labels test body (length answers) answers

-- ForBodyEvaluation: the test; by one answer the body and then, unless the body ended the loop, the update and the test again (yes), or a normal completion (no).
-- From its second round on a FOR is a WHILE whose test is the update and the test. M-103: "FOR runs its update after the body and after a continue."
unfoldable pub for_loop : (label_set test update : List ℕ) → (body : Answers → Completed) → Answers → Completed
for_loop labels test update body answers =
    prefix test (choose (λ left. after_body labels (body left) (λ left'. while_loop labels (update ++ test) body left')) (λ left. completed [] normal left) answers)

-- DoWhileLoopEvaluation: the body, and then, unless it ended the loop, a WHILE
unfoldable pub do_while_loop : (label_set test : List ℕ) → (body : Answers → Completed) → Answers → Completed
do_while_loop labels test body answers = after_body labels (body answers) (λ left. while_loop labels test body left)

-- a FOR without update performs none
abbrev pub performs_update : Option Value → List ℕ
performs_update none = []
performs_update (some update) = performs update

-- a loop with its label: LoopEvaluation within the two LabelledEvaluations
unfoldable pub loop : (label : Option ℕ) → Completed → Completed
loop label rounds = completing (λ c. labelled label (breakable c)) rounds

-- a switch with its label: the same two LabelledEvaluations
unfoldable pub switch_ends : (label : Option ℕ) → Completed → Completed
switch_ends label cases = completing (λ c. labelled label (breakable c)) cases

-- M-103: "For SWITCH it is the place of the case in source order, from 0, and a place beyond the last runs no case."
unfoldable pub entry_at : (entries : List (Answers → Completed)) → (place : ℕ) → (left : Answers) → Completed
entry_at [] place left = completed [] normal left
entry_at (entry ∷ entries) zero left = entry left
entry_at (entry ∷ entries) (suc place) left = entry_at entries place left

unfoldable pub choose_place : (entries : List (Answers → Completed)) → Answers → Completed
choose_place entries [] = completed [] (stop no_answer_left) []
choose_place entries (place ∷ left) = entry_at entries place left

-- "IF by one answer runs its consequent (yes) or alternate, if any (no)". FOROF, FORIN and TRY, which no run is asked of, stop it
unfoldable mutual
  pub run_statement : Statement → Answers → Completed
  run_statement (INSTR id lvalue span value) answers = completed (performs value) normal answers
  run_statement (IF test id label consequent present alternate) answers =
      completing (labelled label)
      (choose (λ left. run_statements consequent left) (λ left. elim present [ true ↦ run_statements alternate left | false ↦ completed [] normal left ]) answers)
  run_statement (WHILE id label test body) answers = loop label (while_loop (label_set label) (performs test) (λ left. run_statements body left) answers)
  run_statement (LABEL id label body) answers = completing (labelled label) (run_statements body answers)
  run_statement (SCOPE pruned scope body) answers = run_statements body answers
  run_statement (RETURN value id) answers = completed [] (stop (returned value id)) answers
  run_statement (THROW value id) answers = completed [] (stop (threw value id)) answers
  run_statement (BREAK target id kind loops) answers = completed [] (jump_completion kind target id break) answers
  run_statement (CONTINUE target id kind loops) answers = completed [] (jump_completion kind target id continue) answers
  run_statement (SWITCH test id label cases) answers = switch_ends label (choose_place (entries_from cases (λ left. completed [] normal left) []) answers)
  run_statement (DOWHILE id label body test) answers = loop label (do_while_loop (label_set label) (performs test) (λ left. run_statements body left) answers)
  run_statement (FOR id label init test update body) answers =
      prefix (performs init) (loop label (for_loop (label_set label) (performs test) (performs_update update) (λ left. run_statements body left) answers))
  run_statement (FOROF id label span init test body) answers = completed [] (stop not_plain) answers
  run_statement (FORIN id label span init body) answers = completed [] (stop not_plain) answers
  run_statement (TRY id label binding body handler) answers = completed [] (stop not_plain) answers

  pub run_statements : Statements → Answers → Completed
  run_statements done answers = completed [] normal answers
  run_statements (statement ▸ rest) answers = then (run_statement statement answers) (λ left. run_statements rest left)

  -- where the cases are entered, in source order: before the entries `later` come those of these cases, the last first.
  -- M-103: "A case that ends normally goes on into the next one in source order", or after the last to `after`
  pub entries_from : Cases → (after : Answers → Completed) → (later : List (Answers → Completed)) → List (Answers → Completed)
  entries_from no_cases after later = later
  entries_from (CASE test body earlier) after later =
      entries_from earlier (λ left. then (run_statements body left) after) ((λ left. then (run_statements body left) after) ∷ later)

-- why the whole tree's run stops
unfoldable pub reason_of : Completion → Reason
reason_of normal = end_of_tree
reason_of (break target id) = no_target id
reason_of (continue target id) = no_target id
reason_of (stop reason) = reason

unfoldable pub tree_run : Statements → Answers → Run
tree_run root answers = stopped (run_statements root answers).rows (run_statements root answers).left (reason_of (run_statements root answers).completion)
