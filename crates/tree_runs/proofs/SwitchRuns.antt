-- M-113: the runner of M-103 does what the law's tree run does, on the trees of plain tables with switches; neither 63 nor 64 comes there, and 65 only where
-- the lent buffer is short. For whoever runs the tree of such a table (crates/tree_run).
use mathlib.Core.Path.{◌≡◌, refl, sym, ap, ◌∙◌, subst}
use Prim.Native.Nat.{ℕ, suc, ◌*◌, ◌≤◌, ◌<◌}
use native.Mathlib.Omega.{arith}
use mathlib.Core.List.{List, [], ◌∷◌}
use mathlib.Core.Logic.{◌⊎◌, inl, inr}
use mathlib.Core.Option.{Option, none, some}
use mathlib.Core.Bool.{Bool, true, false}
use lib.ListN.{length, get_or, take}
use lib.Dec.{leb}
use borrow.Author.Tests.{le-leb, lt-leb, leb-true, leb-false}
use Rattle.table.specs.Table.{table_of}
use Rattle.definition.specs.Tree.{Value, PLAIN, LOAD, UNDEF, SEQ, LOGICAL, COND, OPTIONAL, Instructions, no_instructions, instruction, Statement, INSTR, IF, SWITCH}
use Rattle.definition.specs.Tree.{DOWHILE, WHILE, FOR, FOROF, FORIN, LABEL, TRY, SCOPE, RETURN, THROW, BREAK, CONTINUE, Statements, done, ◌▸◌, Cases, no_cases}
use Rattle.definition.specs.Tree.{CASE, Row, row, instr_row, or_none, update_present, count_instructions, count_statements, count_cases, value_rows, instructions_rows}
use Rattle.definition.specs.Tree.{update_rows, statement_rows, statements_rows, block_rows, cases_rows, rows}
use Rattle.definition.specs.Reading.{WellFormed}
use Rattle.definition.specs.Around.{language}
use Rattle.definition.specs.Build.{built}
use Rattle.definition.specs.Run.{Answers, Reason, returned, threw, no_answer_left, not_plain, no_target, end_of_tree, no_such_case, is_good, Run, unfinished, stopped}
use Rattle.definition.specs.Completion.{Completion}
use Rattle.definition.specs.TreeRun.{run_statements, reason_of, tree_run}
use Rattle.definition.specs.Plain.{with_switch, Plain}
use Rattle.definition.specs.RunLaw.{Agree, Spoken, SwitchLaw}
use Rattle.definition.proofs.Steps.{true_false}
use Rattle.definition.proofs.Runnable.{Straight, StraightAll, StraightUpdate, RunnableStatement, Runnable, RunnableCases}
use Rattle.definition.proofs.PlainEnough.{plain_enough}
use Rattle.definition.proofs.Readings.{one_reading}
use Rattle.definition.proofs.Law.{switch_law, tree_runnable}
use Rattle.tree_grammar.specs.Grammar.{Answer}
use Rattle.tree_grammar.proofs.Words.{words_answer_is}
use Rattle.tree_runs.specs.Numbered.{numbered}
use Rattle.tree_runs.specs.Ran.{Outcome, refusal, first_not_run, performed_all, ended, given, after_sorts, ran}
use Rattle.tree_runs.specs.Given.{RunGives, refused, runs}
use Rattle.tree_runs.proofs.Images.{AlikeEnds, both_normal, both_break, both_continue, both_stop, numbered_alike}
use Rattle.tree_runs.proofs.OneOutcome.{words_inj}

-- ---- no row is refused 64

abbrev NoneNotRun : List Row → Type 0
NoneNotRun list = (i : ℕ) → first_not_run list i ≡ none

mutual
  unfolding first_not_run

  value_none : (v : Value) → Straight v → (after : List Row) → NoneNotRun after → NoneNotRun (value_rows v after)
  value_none (PLAIN n) s after h = λ i. h (suc i)
  value_none (LOAD n) s after h = λ i. h (suc i)
  value_none (UNDEF n) s after h = λ i. h (suc i)
  value_none (SEQ is k v) (p, q) after h =
      instructions_none is p (value_rows v (row 5 (count_instructions is) k 0 0 0 ∷ after)) (value_none v q (row 5 (count_instructions is) k 0 0 0 ∷ after) (λ i. h (suc i)))
  value_none (LOGICAL o l r) s after h = absurd s
  value_none (COND x y z) s after h = absurd s
  value_none (OPTIONAL g v) s after h = absurd s

  instructions_none : (is : Instructions) → StraightAll is → (after : List Row) → NoneNotRun after → NoneNotRun (instructions_rows is after)
  instructions_none no_instructions s after h = h
  instructions_none (instruction k l sp v r) (p, q) after h =
      value_none v p (instr_row k l sp ∷ instructions_rows r after) (λ i. instructions_none r q after h (suc i))

update_none : (u : Option Value) → StraightUpdate u → (after : List Row) → NoneNotRun after → NoneNotRun (update_rows u after)
update_none none s after h = h
update_none (some v) s after h = value_none v s after h

mutual
  unfolding first_not_run

  statement_none : (s : Statement) → RunnableStatement s → (after : List Row) → NoneNotRun after → NoneNotRun (statement_rows s after)
  statement_none (INSTR k l sp v) p after h = value_none v p (instr_row k l sp ∷ after) (λ i. h (suc i))
  statement_none (IF x k l c true a) (p, q) after h =
      block_none c p (block_rows a (row 10 x 1 k (or_none l) 0 ∷ after)) (block_none a q (row 10 x 1 k (or_none l) 0 ∷ after) (λ i. h (suc i)))
  statement_none (IF x k l c false a) (p, q) after h = block_none c p (row 10 x 0 k (or_none l) 0 ∷ after) (λ i. h (suc i))
  statement_none (SWITCH x k l cs) p after h = cases_none cs p (row 12 x (count_cases cs) k (or_none l) 0 ∷ after) (λ i. h (suc i))
  statement_none (DOWHILE k l b v) (p, q) after h =
      block_none b p (value_rows v (row 13 k (or_none l) 0 0 0 ∷ after)) (value_none v q (row 13 k (or_none l) 0 0 0 ∷ after) (λ i. h (suc i)))
  statement_none (WHILE k l v b) (p, q) after h =
      value_none v p (block_rows b (row 14 k (or_none l) 0 0 0 ∷ after)) (block_none b q (row 14 k (or_none l) 0 0 0 ∷ after) (λ i. h (suc i)))
  statement_none (FOR k l n x u b) (p, q, r, s) after h =
      let e = row 15 k (or_none l) (update_present u) 0 0 ∷ after in
      value_none n p (value_rows x (update_rows u (block_rows b e)))
      (value_none x q (update_rows u (block_rows b e)) (update_none u r (block_rows b e) (block_none b s e (λ i. h (suc i)))))
  statement_none (FOROF k l sp n x b) p after h = absurd p
  statement_none (FORIN k l sp n b) p after h = absurd p
  statement_none (LABEL k l b) p after h = block_none b p (row 18 k (or_none l) 0 0 0 ∷ after) (λ i. h (suc i))
  statement_none (TRY k l n b c) p after h = absurd p
  statement_none (SCOPE true n b) p after h = block_none b p (row 21 n 0 0 0 0 ∷ after) (λ i. h (suc i))
  statement_none (SCOPE false n b) p after h = block_none b p (row 20 n 0 0 0 0 ∷ after) (λ i. h (suc i))
  statement_none (RETURN v k) p after h = λ i. h (suc i)
  statement_none (THROW v k) p after h = λ i. h (suc i)
  statement_none (BREAK x k kind n) p after h = λ i. h (suc i)
  statement_none (CONTINUE x k kind n) p after h = λ i. h (suc i)

  statements_none : (ss : Statements) → Runnable ss → (after : List Row) → NoneNotRun after → NoneNotRun (statements_rows ss after)
  statements_none done p after h = h
  statements_none (s ▸ r) (p, q) after h = statement_none s p (statements_rows r after) (statements_none r q after h)

  block_none : (ss : Statements) → Runnable ss → (after : List Row) → NoneNotRun after → NoneNotRun (block_rows ss after)
  block_none done p after h = λ i. h (suc i)
  block_none (s ▸ r) (p, q) after h =
      statement_none s p (statements_rows r (row 9 (suc (count_statements r)) 0 0 0 0 ∷ after)) (statements_none r q (row 9 (suc (count_statements r)) 0 0 0 0 ∷ after) (λ i. h (suc i)))

  cases_none : (cs : Cases) → RunnableCases cs → (after : List Row) → NoneNotRun after → NoneNotRun (cases_rows cs after)
  cases_none no_cases p after h = h
  cases_none (CASE x b r) (p, q) after h = block_none b p (row 11 x 0 0 0 0 ∷ cases_rows r after) (λ i. cases_none r q after h (suc i))

rows_none : (root : Statements) → Runnable root → first_not_run (rows root) 0 ≡ none
unfolding first_not_run
rows_none root p = block_none root p [] (λ i. refl) 0

-- ---- the outcome from the tree's own run

-- a good reason is the numbered tree's too: only a jump without target is told by its row
reason_same : {c c' : Completion} → AlikeEnds c c' → is_good (reason_of c) ≡ true → reason_of c' ≡ reason_of c
unfolding reason_of
reason_same both_normal h = refl
reason_same both_break h = absurd (true_false (sym h))
reason_same both_continue h = absurd (true_false (sym h))
reason_same both_stop h = refl

-- what a run that stops well gives: its rows, then zeros, and its reason; or 65 where the buffer is too short for them
pub record RunsAs (root : Statements) (answers : Answers) (lent : ℕ) (performed : List ℕ) (reason : Reason) : Type 0 where
  pub fits : length performed ≤ lent → ran root answers lent ≡ ended performed lent reason
  pub short : lent < length performed → (ran root answers lent).code ≡ 65

module _ (root : Statements) (w : WellFormed root) (p : Runnable root) (answers : Answers) (lent : ℕ) where
  outcome : Bool → Outcome
  outcome y =
      elim y [
        | true ↦ ended (run_statements root answers).rows lent (reason_of (run_statements (numbered 0 root) answers).completion)
        | false ↦ refusal 65 (get_or (run_statements (numbered 0 root) answers).rows lent 0) lent
      ]

  ran_is : ran root answers lent ≡ outcome (leb (length (run_statements (numbered 0 root) answers).rows) lent)
  unfolding ran tree_run after_sorts given outcome
  ran_is = ap (λ (z : Option ℕ). after_sorts z root answers lent) (rows_none root p)

  as_many : length (run_statements (numbered 0 root) answers).rows ≡ length (run_statements root answers).rows
  as_many = (numbered_alike root w answers).rows.same

  outcome_fits : is_good (reason_of (run_statements root answers).completion) ≡ true → length (run_statements root answers).rows ≤ lent
      → ran root answers lent ≡ ended (run_statements root answers).rows lent (reason_of (run_statements root answers).completion)
  unfolding outcome
  outcome_fits g h =
      ran_is ∙ (ap outcome (le-leb (length (run_statements (numbered 0 root) answers).rows) lent (omega (arith, as_many, h)))
      ∙ ap (λ (r : Reason). ended (run_statements root answers).rows lent r) (reason_same (numbered_alike root w answers).ends g))

  outcome_short : lent < length (run_statements root answers).rows → (ran root answers lent).code ≡ 65
  unfolding outcome refusal
  outcome_short h =
      ap (λ (o : Outcome). o.code) (ran_is ∙ ap outcome (lt-leb (length (run_statements (numbered 0 root) answers).rows) lent (omega (arith, as_many, h))))

ended_good : (performed : List ℕ) (lent : ℕ) (reason : Reason) → is_good reason ≡ true → (ended performed lent reason).code ≡ 0
unfolding ended performed_all
ended_good performed lent (returned v i) g = refl
ended_good performed lent (threw v i) g = refl
ended_good performed lent no_answer_left g = refl
ended_good performed lent not_plain g = absurd (true_false (sym g))
ended_good performed lent (no_target i) g = absurd (true_false (sym g))
ended_good performed lent end_of_tree g = absurd (true_false (sym g))
ended_good performed lent no_such_case g = absurd (true_false (sym g))

module _ {root : Statements} {answers : Answers} {lent : ℕ} {performed : List ℕ} {reason : Reason} (p : RunsAs root answers lent performed reason) where
  by_room : {R : Type 0} → (length performed ≤ lent → R) → (lent < length performed → R) → R
  by_room {R} f g = at (leb (length performed) lent) refl
    where
      at : (y : Bool) → leb (length performed) lent ≡ y → R
      at true e = f (leb-true (length performed) lent e)
      at false e = g (leb-false (length performed) lent e)

  -- "where none of 63, 64 and 65 is given": where 65 is not
  pub unless_65 : ((ran root answers lent).code ≡ 65 → ⊥) → ran root answers lent ≡ ended performed lent reason
  unless_65 f = by_room p.fits (λ h. absurd (f (p.short h)))

  -- 63 and 64 never come
  pub nought_or_65 : is_good reason ≡ true → ((ran root answers lent).code ≡ 0) ⊎ ((ran root answers lent).code ≡ 65)
  nought_or_65 g = by_room (λ h. inl (ap (λ (o : Outcome). o.code) (p.fits h) ∙ ended_good performed lent reason g)) (λ h. inr (p.short h))

-- the parts of a run that stopped
abbrev rows_in : Run → List ℕ
rows_in unfinished = []
rows_in (stopped performed left reason) = performed

abbrev good_in : Run → Bool
good_in unfinished = false
good_in (stopped performed left reason) = is_good reason

pub runs_as : (root : Statements) → WellFormed root → Runnable root → (answers : Answers) (lent : ℕ) (performed : List ℕ) (left : Answers) (reason : Reason)
    → tree_run root answers ≡ stopped performed left reason → is_good reason ≡ true → RunsAs root answers lent performed reason
unfolding tree_run
runs_as root w p answers lent performed left reason e g =
    let rs : (run_statements root answers).rows ≡ performed = ap rows_in e in
    let gs : is_good (reason_of (run_statements root answers).completion) ≡ true = ap good_in e ∙ g in
    record {
      fits = λ h. outcome_fits root w p answers lent gs (subst (λ (z : List ℕ). length z ≤ lent) (sym rs) h) ∙ ap (λ (z : Run). ended_in z) e;
      short = λ h. outcome_short root w p answers lent (subst (λ (z : List ℕ). lent < length z) (sym rs) h);
    }
  where
    ended_in : Run → Outcome
    ended_in unfinished = refusal 64 0 lent
    ended_in (stopped performed left reason) = ended performed lent reason

-- ---- the trees of plain tables with switches

module _ (words : List ℕ) (lent lent_index : ℕ) (h : (built language words lent lent_index).code ≡ 0) (pl : Plain with_switch (table_of words)) where
  pub the_law : SwitchLaw words (built language words lent lent_index)
  the_law = switch_law words lent lent_index h pl

  -- "The runner of M-103 is proved to do what this law's tree run does": for a list spoken of both runs agree, and the runner gives the rows that they perform and
  -- the reason, or 65; so that 63 and 64 never come
  pub runner_runs : (answers : Answers) (spoken : Spoken (table_of words) answers) (room : ℕ)
      → RunsAs the_law.one.tree answers room (the_law.agree answers spoken).performed (the_law.agree answers spoken).reason
  runner_runs answers spoken room =
      let a : Agree (table_of words) the_law.one.tree answers = the_law.agree answers spoken in
      runs_as the_law.one.tree the_law.one.held.well_formed (tree_runnable language words lent lent_index tt h (plain_enough (table_of words) pl) the_law.one) answers room
      a.performed a.left a.reason a.tree_stops a.good

  pub runner_does : (answers : Answers) (spoken : Spoken (table_of words) answers) (room : ℕ) → ((ran the_law.one.tree answers room).code ≡ 65 → ⊥)
      → ran the_law.one.tree answers room ≡ ended (the_law.agree answers spoken).performed room (the_law.agree answers spoken).reason
  runner_does answers spoken room f = unless_65 (runner_runs answers spoken room) f

  pub never_63_64 : (answers : Answers) → Spoken (table_of words) answers → (room : ℕ)
      → ((ran the_law.one.tree answers room).code ≡ 0) ⊎ ((ran the_law.one.tree answers room).code ≡ 65)
  never_63_64 answers spoken room = nought_or_65 (runner_runs answers spoken room) (the_law.agree answers spoken).good

  -- "on trees of such tables that M-100's check accepts": what the runner gives for the words in the buffer is what is said of the tree
  pub runner_gives : (answers : Answers) (room at : ℕ) (o : Outcome) → Answer (take ((built language words lent lent_index).rows * 6) (built language words lent lent_index).buffer) 0 at
      → RunGives (take ((built language words lent lent_index).rows * 6) (built language words lent lent_index).buffer) answers room o → o ≡ ran the_law.one.tree answers room
  runner_gives answers room at o q (refused code at' p f) =
      absurd (f ((words_answer_is (take ((built language words lent lent_index).rows * 6) (built language words lent lent_index).buffer) p).0
      ∙ sym (words_answer_is (take ((built language words lent lent_index).rows * 6) (built language words lent lent_index).buffer) q).0))
  runner_gives answers room at o q (runs list w l m r root d) =
      let s : list ≡ rows the_law.one.tree = words_inj list (rows the_law.one.tree) (w ∙ sym the_law.one.held.held) in
      ap (λ (z : Statements). ran z answers room)
      (one_reading list root the_law.one.tree d (record { well_formed = the_law.one.held.well_formed; same_rows = sym s }))
