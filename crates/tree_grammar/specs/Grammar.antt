-- M-100: which lists of rows read as one tree, and what is refused of any other. Nothing here reads a list: a reading is a forest whose rows are the list
-- (`ReadAsForest`, `ReadAs` of definition/specs/Reading).
use Rattle.std.specs.Prelude.{ℕ, suc, ◌<◌, ◌≤◌, ◌≡◌, List, true, false, length, get_or, take}
use Rattle.definition.specs.Tree.{Row, row, Statements}
use Rattle.definition.specs.Reading.{Forest, ReadAsForest, ReadAs}
use Rattle.definition.specs.Build.{words_of}
use Rattle.tree_grammar.specs.Ranges.{in_range, all_in_range}

-- rows that find their parts: there is a forest that they are read as
pub record Reads (list : List Row) : Type 0 where
  pub forest : Forest
  pub reading : ReadAsForest list forest

-- "accepts a list of at most 2,048 rows exactly when it reads as one tree"
pub record ReadsAsTree (list : List Row) : Type 0 where
  pub ranged : all_in_range list ≡ true
  pub root : Statements
  pub reading : ReadAs list root

-- the rows before row i are in range and find their parts
pub record GoodBefore (list : List Row) (i : ℕ) : Type 0 where
  pub inside : i < length list
  pub ranged : all_in_range (take i list) ≡ true
  pub reads : Reads (take i list)

abbrev pub no_row : Row
no_row = row 0 0 0 0 0 0

-- "60 for the first row, in row order, whose op or columns are out of range; 61 for the first row that doesn't find its parts, tested after 60 of the same row;
-- 62 .. for a wrong remainder, tested last". At is the row, or 0
pub data RowsAnswer (list : List Row) : (code at : ℕ) → Type 0 where
  one_tree : ReadsAsTree list → RowsAnswer list 0 0
  out_of_range : (i : ℕ) → GoodBefore list i → in_range (get_or list i no_row) ≡ false → RowsAnswer list 60 i
  no_parts : (i : ℕ) → GoodBefore list i → in_range (get_or list i no_row) ≡ true → (Reads (take (suc i) list) → ⊥) → RowsAnswer list 61 i
  remainder : all_in_range list ≡ true → Reads list → (ReadsAsTree list → ⊥) → RowsAnswer list 62 0

abbrev pub most_rows : ℕ
most_rows = 2048

-- "62 for a longer or empty list or words not a multiple of six, tested first"
pub data Answer (words : List ℕ) : (code at : ℕ) → Type 0 where
  no_list : ((list : List Row) → words_of list ≡ words → 1 ≤ length list → length list ≤ most_rows → ⊥) → Answer words 62 0
  of_rows : (list : List Row) → words_of list ≡ words → 1 ≤ length list → length list ≤ most_rows → (code at : ℕ) → RowsAnswer list code at → Answer words code at
