-- Demand 3, the claim: on a plain table that the build accepts, the block run and the tree run agree; and M-113, the same of wider tables.
-- proofs/Law proves both.
use Rattle.std.specs.Prelude.{◌≡◌, ℕ, ◌+◌, List, ◌++◌, true}
use Rattle.table.specs.Table.{Table, table_of}
use Rattle.definition.specs.Tree.{Statements}
use Rattle.definition.specs.Around.{language}
use Rattle.definition.specs.Build.{Outcome, built}
use Rattle.definition.specs.Reading.{OneTree}
use Rattle.definition.specs.Run.{Answers, Reason, no_such_case, is_good, stopped}
use Rattle.definition.specs.BlockRun.{block_run}
use Rattle.definition.specs.TreeRun.{tree_run}
use Rattle.definition.specs.Plain.{with_switch, Plain}

-- over these answers both runs stop: the same rows performed in the same order, the same answers taken, and the same reason, which is
-- a return or a throw, with its value and id, or no answer left
pub record Agree (t : Table) (root : Statements) (answers : Answers) : Type 0 where
  pub performed : List ℕ
  pub taken : Answers
  pub left : Answers
  pub reason : Reason
  -- the block run stops after so many steps, and more steps change nothing
  pub steps : ℕ
  pub block_stops : (more : ℕ) → block_run t (more + steps) t.entry answers ≡ stopped performed left reason
  pub tree_stops : tree_run root answers ≡ stopped performed left reason
  pub answers_taken : taken ++ left ≡ answers
  pub good : is_good reason ≡ true

-- of words and what their build gave: the rows in the lent buffer are read as one tree, and over every finite list of answers its run agrees
-- with the run of the blocks
pub record RunLaw (words : List ℕ) (outcome : Outcome) : Type 0 where
  pub one : OneTree outcome
  pub agree : (answers : Answers) → Agree (table_of words) one.tree answers

-- M-113: "only lists whose answers name an existing case are spoken of": the block run comes to no other answer
abbrev pub Spoken : Table → Answers → Type 0
Spoken t answers = (steps : ℕ) (performed : List ℕ) (left : Answers) → block_run t steps t.entry answers ≡ stopped performed left no_such_case → ⊥

-- "For an accepted table both runs then agree as in the run law."
pub record SwitchLaw (words : List ℕ) (outcome : Outcome) : Type 0 where
  pub one : OneTree outcome
  pub agree : (answers : Answers) → Spoken (table_of words) answers → Agree (table_of words) one.tree answers

-- M-113, the claim: "Widen plain tables, for the language entry of M-102, by Switch"
abbrev pub LawOfSwitches : Type 0
LawOfSwitches =
    (words : List ℕ) (lent lent_index : ℕ) → (built language words lent lent_index).code ≡ 0 → Plain with_switch (table_of words)
    → SwitchLaw words (built language words lent lent_index)
