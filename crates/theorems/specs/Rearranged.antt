-- What holds of the walking order of a table's words (renaming/specs/Order).
use Rattle.std.specs.Prelude.{ℕ, ◌≡◌, List, true, length}
use Rattle.table.specs.Check.{accepted, checked}
use Rattle.table.specs.Table.{table_of}
use Rattle.table.specs.Words.{entry_word, block_count}
use Rattle.definition.specs.Around.{Rule}
use Rattle.definition.specs.Build.{built}
use Rattle.renaming.specs.Renaming.{Renaming, renamed, renamed_outcome}
use Rattle.renaming.specs.Order.{AllNamed, is_permutation, new_number, walking_order, rearranged}
use Rattle.renaming.specs.Order.{Rearrangement, rearrangement, restoration}

-- into buffers of just the lengths needed
abbrev pub rearranging : List ℕ → Rearrangement
rearranging words = rearrangement words (length words) (block_count words)

pub record InWalkingOrder (words : List ℕ) : Type 0 where
  -- it is a renumbering, whose table is accepted and begins at 0
  pub permutation : is_permutation (block_count words) (walking_order (table_of words)) ≡ true
  pub checked : checked (rearranged words) ≡ accepted
  pub entry : entry_word (rearranged words) ≡ 0
  -- the rearranged table and the list give the first table again
  pub restored : restoration (rearranging words).table (rearranging words).list (length words) ≡ record { code = 0; at = 0; table = words }
  -- it builds the same, its blocks renumbered
  pub builds : (rule : Rule) (lent lent_index : ℕ)
      → built rule (rearranged words) lent lent_index
      ≡ renamed_outcome (new_number (walking_order (table_of words))) (built rule words lent lent_index)
  -- where the walk names every block, each renumbering of the table has this one rearrangement
  pub one : (new old : ℕ → ℕ) → Renaming (block_count words) new old → AllNamed (table_of words)
      → rearranged (renamed new old words) ≡ rearranged words
