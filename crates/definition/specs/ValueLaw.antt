-- The run law of tables with values, the claims: on a wide plain table that the build accepts, the block run and the tree run perform the same seen rows in the same
-- order, take the same answers and stop for the same reason. proofs/LawOfValues proves both; the laws of specs/RunLaw and specs/LoopLaw follow (proofs/Law).
use Rattle.std.specs.Prelude.{◌≡◌, ℕ, ◌+◌, List, ◌++◌, Bool, true}
use Rattle.table.specs.Table.{Table, table_of}
use Rattle.definition.specs.Tree.{Statements}
use Rattle.definition.specs.Around.{Rule, language}
use Rattle.definition.specs.Build.{Outcome, built}
use Rattle.definition.specs.Reading.{OneTree}
use Rattle.definition.specs.Run.{Answers, Reason, no_such_case, is_good, stopped}
use Rattle.definition.specs.Plain.{Width, with_switch}
use Rattle.definition.specs.PlainLoops.{without_switch}
use Rattle.definition.specs.ValueEnds.{seen}
use Rattle.definition.specs.WideRun.{wide_run}
use Rattle.definition.specs.WideTreeRun.{wide_tree_run}
use Rattle.definition.specs.PlainValue.{PlainValues}
use Rattle.definition.specs.WideLoops.{WideLoops}

-- a wide plain table: the conditions on its statements and loops, and on its values
pub record WidePlain (width : Width) (t : Table) : Type 0 where
  pub loops : WideLoops width t
  pub values : PlainValues t

-- over these answers both runs stop: the same seen rows performed in the same order, the same answers taken, and the same reason
pub record WideAgree (t : Table) (seen_row : ℕ → Bool) (root : Statements) (answers : Answers) : Type 0 where
  pub performed : List ℕ
  pub taken : Answers
  pub left : Answers
  pub reason : Reason
  -- the block run stops after so many steps, and more steps change nothing
  pub steps : ℕ
  pub block_stops : (more : ℕ) → wide_run t seen_row (more + steps) t.entry answers ≡ stopped performed left reason
  pub tree_stops : wide_tree_run seen_row root answers ≡ stopped performed left reason
  pub answers_taken : taken ++ left ≡ answers
  pub good : is_good reason ≡ true

-- no answer at a Switch is the place of no case
abbrev pub WideSpoken : Table → (seen_row : ℕ → Bool) → Answers → Type 0
WideSpoken t seen_row answers = (steps : ℕ) (performed : List ℕ) (left : Answers) → wide_run t seen_row steps t.entry answers ≡ stopped performed left no_such_case → ⊥

-- of words and what their build gave
pub record WideRunLaw (words : List ℕ) (outcome : Outcome) : Type 0 where
  pub one : OneTree outcome
  pub agree : (answers : Answers) → WideAgree (table_of words) (seen (table_of words)) one.tree answers

pub record WideSwitchLaw (words : List ℕ) (outcome : Outcome) : Type 0 where
  pub one : OneTree outcome
  pub agree : (answers : Answers) → WideSpoken (table_of words) (seen (table_of words)) answers → WideAgree (table_of words) (seen (table_of words)) one.tree answers

-- in both entries without Switch, and with it in the language entry
abbrev pub LawOfValues : Type 0
LawOfValues =
    (rule : Rule) (words : List ℕ) (lent lent_index : ℕ) → (built rule words lent lent_index).code ≡ 0 → WidePlain without_switch (table_of words)
    → WideRunLaw words (built rule words lent lent_index)

abbrev pub LawOfValuesAndSwitches : Type 0
LawOfValuesAndSwitches =
    (words : List ℕ) (lent lent_index : ℕ) → (built language words lent lent_index).code ≡ 0 → WidePlain with_switch (table_of words)
    → WideSwitchLaw words (built language words lent lent_index)
