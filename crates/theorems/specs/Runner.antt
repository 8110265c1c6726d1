-- The runner beside the block run.
use Rattle.std.specs.Prelude.{ℕ, ◌+◌, ◌*◌, ◌<◌, ◌≤◌, ◌≡◌, List, length, take}
use Rattle.table.specs.Table.{Table}
use Rattle.definition.specs.BlockRun.{block_run}
use Rattle.definition.specs.Build as definition
use Rattle.definition.specs.Run.{Answers, Reason, IsGood, stopped}
use Rattle.tree_runs.specs.Given.{run_of}
use Rattle.tree_runs.specs.Ran.{ended}

-- the rows in the lent buffer
abbrev pub tree_words : definition.Outcome → List ℕ
tree_words outcome = take (outcome.rows * 6) outcome.buffer

-- The block run of a table stops after so many steps, and more change nothing. Over the rows of a tree the runner gives the rows that it
-- performs, then zeros, and its reason; or 65 where the lent buffer does not take them
pub record RunsAsBlocks (t : Table) (tree : List ℕ) (answers : Answers) : Type 0 where
  pub performed : List ℕ
  pub left : Answers
  pub reason : Reason
  pub steps : ℕ
  pub block_stops : (more : ℕ) → block_run t (more + steps) t.entry answers ≡ stopped performed left reason
  pub good : IsGood reason
  pub fits : (room : ℕ) → length performed ≤ room → run_of tree answers room ≡ ended performed room reason
  pub short : (room : ℕ) → room < length performed → (run_of tree answers room).code ≡ 65
