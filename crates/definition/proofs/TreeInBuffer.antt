-- The rows of any accepted table are read as one tree, the build's own. For the run laws (proofs/LawOfValues, proofs/Law) and for whoever calls the build.
use mathlib.Core.Path.{◌≡◌, refl, sym, ◌∙◌}
use Prim.Native.Nat.{ℕ}
use mathlib.Core.List.{List}
use Rattle.table.specs.Table.{table_of}
use Rattle.definition.specs.Tree.{Statements, rows}
use Rattle.definition.specs.Build.{built}
use Rattle.definition.specs.Around.{Rule}
use Rattle.definition.specs.Reading.{TreeOf, OneTree}
use Rattle.definition.proofs.Checked.{ranged}
use Rattle.definition.proofs.Accepted.{Accepted, accepted_of, rows_of_buffer, words_rows}
use Rattle.definition.proofs.Formed.{tree_formed}
use Rattle.definition.proofs.Readings.{one_reading}

-- the build's own tree, and no other: one list of rows is read as one tree
module _ (rule : Rule) (words : List ℕ) (lent lent_index : ℕ) (a : Accepted rule words lent lent_index) where
  tree_held : TreeOf (built rule words lent lent_index) a.root.statements
  tree_held = record {
    well_formed = tree_formed (table_of words) (ranged words a.checks) rule a.root a.builds;
    number = sym a.number;
    held = sym (rows_of_buffer rule words lent lent_index a);
  }

  tree_only : (other : Statements) → TreeOf (built rule words lent lent_index) other → other ≡ a.root.statements
  tree_only other o =
      one_reading (rows a.root.statements) other a.root.statements
      (record { well_formed = o.well_formed; same_rows = words_rows (rows other) (rows a.root.statements) (o.held ∙ rows_of_buffer rule words lent lent_index a) })
      (record { well_formed = tree_held.well_formed; same_rows = refl })

  tree_one : OneTree (built rule words lent lent_index)
  tree_one = record { tree = a.root.statements; held = tree_held; only = tree_only }

-- whatever table was accepted, plain or not
pub one_tree : (rule : Rule) (words : List ℕ) (lent lent_index : ℕ) → (built rule words lent lent_index).code ≡ 0 → OneTree (built rule words lent lent_index)
one_tree rule words lent lent_index h = tree_one rule words lent lent_index (accepted_of rule words lent lent_index h)

-- it is the build's own
pub read_tree : (rule : Rule) (words : List ℕ) (lent lent_index : ℕ) (h : (built rule words lent lent_index).code ≡ 0) (root : Statements) → TreeOf (built rule words lent lent_index) root
    → root ≡ (accepted_of rule words lent lent_index h).root.statements
read_tree rule words lent lent_index h root held = tree_only rule words lent lent_index (accepted_of rule words lent lent_index h) root held

-- whoever says that there is one tree means the one that was built
pub tree_is_built : (rule : Rule) (words : List ℕ) (lent lent_index : ℕ) (a : Accepted rule words lent lent_index) (one : OneTree (built rule words lent lent_index)) → one.tree ≡ a.root.statements
tree_is_built rule words lent lent_index a one = sym (one.only a.root.statements (tree_held rule words lent lent_index a))
