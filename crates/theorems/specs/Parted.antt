-- M-102, "differs only as follows", of the outcomes that a caller sees: the first entry's, and the language entry's for the same words and lent buffers.
use Rattle.std.specs.Prelude.{◌≡◌, ℕ, ◌≤◌, []}
use Rattle.definition.specs.Tree.{Statements}
use Rattle.definition.specs.Tree as tree
use Rattle.definition.specs.Index.{lines}
use Rattle.definition.specs.Build.{Outcome, refusal, placed}
use Rattle.definition.specs.Relabeled.{relabeled}
use Rattle.definition.specs.RelabeledRows.{RelabeledRows}
use Rattle.theorems.specs.Answered.{acceptance}

pub data Parted (lent lent_index : ℕ) : Outcome → Outcome → Type 0 where
  -- refused alike
  refused_alike : (outcome : Outcome) → (outcome.code ≡ 0 → ⊥) → Parted lent lent_index outcome outcome
  -- 29, whatever the first entry gives, with no more visits
  unnamed : (outcome : Outcome) (at visits : ℕ) → visits ≤ outcome.visits → Parted lent lent_index outcome (refusal 29 at 0 visits lent lent_index)
  -- both accept, after the same visits: the second gives the first's tree relabeled. It differs only in BREAKs that are Labeled in place of Unlabeled, because a
  -- switch is between. There are as many rows, and they differ only so. The lines are the same. (Both may still be 40 or 41)
  relabeled_alike : (first : Statements) (visits : ℕ) → RelabeledRows (tree.rows first) (tree.rows (relabeled [] first))
      → Parted lent lent_index (placed lent lent_index (tree.rows first) (lines first) visits) (placed lent lent_index (tree.rows (relabeled [] first)) (lines first) visits)

-- "29 in the new entry", with no more visits than the first entry's outcome has
pub record Unnamed (first second : Outcome) : Type 0 where
  pub code : second.code ≡ 29
  pub fewer : second.visits ≤ first.visits

-- both accept, after the same visits: the rows of a tree and of that tree relabeled, then zeros; and the same lines
pub record AcceptedAlike (lent lent_index : ℕ) (first second : Outcome) : Type 0 where
  pub root : Statements
  pub visits : ℕ
  pub rows : RelabeledRows (tree.rows root) (tree.rows (relabeled [] root))
  pub is : first ≡ acceptance lent lent_index (tree.rows root) (lines root) visits
  pub is' : second ≡ acceptance lent lent_index (tree.rows (relabeled [] root)) (lines root) visits
