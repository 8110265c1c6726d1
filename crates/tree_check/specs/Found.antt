-- The check as the code does it, with what it finds: where the part that closes at each row begins. Rows are in postorder, so that the last part of
-- row k closes at row k - 1, and the part before a part at the row before that part's first. So the beginnings are all the stack that is needed.
use Rattle.std.specs.Prelude.{◌≡◌, ℕ, zero, suc, ◌+◌, ◌*◌, ◌-◌, ◌/◌, ◌<◌, ◌≤◌, List, [], ◌∷◌, Bool, true, false, ◌&&◌, length, get_or, set, replicate, eqb, leb}
use Rattle.std.specs.Prelude.{Option, None, Some, Result, Ok, Err}
use Rattle.definition.specs.Tree.{Row, row}
use Rattle.tree_grammar.specs.Ranges.{in_range}
use Rattle.tree_grammar.specs.Grammar.{most_rows}
use Rattle.tree_grammar.specs.Needs.{Sort, serves, parts_of, made_by, RowsVerdict, accepted, refused, tree_verdict, code_of, at_of}
use Rattle.tree_check.specs.declared.TreeError.{TreeError}
use Rattle.tree_check.specs.declared.TreeError.TheVariants.{RowOutOfRange, PartsMissing, NotOneTree}

-- ---- what the check's answers mean, by M-100's numbers

-- "60 for the first row .. whose op or columns are out of range; 61 for the first row that doesn't find its parts; 62 for a longer or empty list .."
abbrev pub verdict_of : TreeError → RowsVerdict
verdict_of (RowOutOfRange at) = refused 60 at
verdict_of (PartsMissing at) = refused 61 at
verdict_of NotOneTree = refused 62 0

-- of the check's result, whatever it gives of an accepted list
abbrev pub answer_of : {X : Type 0} → Result X TreeError → RowsVerdict
answer_of (Ok given) = accepted
answer_of (Err error) = verdict_of error

-- code (0 accepted) and at
pub record TreeChecked : Type 0 where
  pub code : ℕ
  pub at : ℕ

abbrev pub checked_of : {X : Type 0} → Result X TreeError → TreeChecked
checked_of result = record { code = code_of (answer_of result); at = at_of (answer_of result) }

-- ---- the rows

-- "Six words each: op, a to e"
unfoldable pub word_at : List ℕ → (i column : ℕ) → ℕ
word_at words i column = get_or words (i * 6 + column) 0

abbrev pub row_at : List ℕ → ℕ → Row
row_at words i = row (word_at words i 0) (word_at words i 1) (word_at words i 2) (word_at words i 3) (word_at words i 4) (word_at words i 5)

-- the row where the wanted parts begin; the latest of them closes just before the row `cursor`. None where they are not there
unfoldable pub parts_begin : (words begins : List ℕ) → (wanted : List Sort) → (cursor : ℕ) → Option ℕ
parts_begin words begins [] cursor = Some cursor
parts_begin words begins (sort ∷ wanted) zero = None
parts_begin words begins (sort ∷ wanted) (suc last) =
    elim (serves sort (made_by (word_at words last 0))) [ true ↦ parts_begin words begins wanted (get_or begins last 0) | false ↦ None ]

-- what the search for parts is given: the words of so many rows, and beginnings that never lie behind their closing row
pub record Ready (words begins : List ℕ) (rows : ℕ) : Type 0 where
  pub whole : rows * 6 ≤ length words
  pub few : rows ≤ most_rows
  pub size : length begins ≡ most_rows
  pub low : (k : ℕ) → get_or begins k 0 ≤ k

-- "and one root BLOCK is left at the end": the last row closes it, and it begins at row 0
unfoldable pub one_root : (words begins : List ℕ) → (rows : ℕ) → Bool
one_root words begins rows = eqb (get_or begins (rows - 1) 0) 0 && eqb (word_at words (rows - 1) 0) 9

-- what is answered, and where the part begins that closes at each row read, whether the list is accepted or not; zeros follow
pub record TreeRead : Type 0 where
  pub answer : Result (Unit {0}) TreeError
  pub begin : List ℕ

-- the check of the `count` rows from row i on
unfoldable pub read_from : (words begins : List ℕ) → (i count : ℕ) → TreeRead
read_from words begins i zero = record { answer = elim (one_root words begins i) [ true ↦ Ok tt | false ↦ Err NotOneTree ]; begin = begins }
read_from words begins i (suc count) =
    elim (in_range (row_at words i)) [
      | true ↦
          elim (parts_begin words begins (parts_of (row_at words i)) i) [
            | None ↦ record { answer = Err (PartsMissing i); begin = begins }
            | Some first ↦ read_from words (set begins i first) (suc i) count
          ]
      | false ↦ record { answer = Err (RowOutOfRange i); begin = begins }
    ]

unfoldable pub no_begins : List ℕ
no_begins = replicate 2048 0

-- words of no rows, of more than 2,048 or of a part of a row
abbrev pub no_list : TreeRead
no_list = record { answer = Err NotOneTree; begin = no_begins }

unfoldable pub tree_read : List ℕ → TreeRead
tree_read words =
    elim (eqb (length words) (length words / 6 * 6) && (leb 1 (length words / 6) && leb (length words / 6) most_rows)) [
      | true ↦ read_from words no_begins 0 (length words / 6)
      | false ↦ no_list
    ]

-- what is found of an accepted list: each row's parts begin where its beginning says
pub record Begun (words begins : List ℕ) (rows : ℕ) : Type 0 where
  pub begun : (k : ℕ) → k < rows → parts_begin words begins (parts_of (row_at words k)) k ≡ Some (get_or begins k 0)
  pub low : (k : ℕ) → get_or begins k 0 ≤ k

-- ---- the promise of the check

-- code and at as the machine of tree_grammar/specs/Needs computes them: the grammar's answer, and there is no other
-- (tree_grammar/proofs/Words, `words_answered`, `words_answer_is`)
abbrev pub tree_checked : (words : List ℕ) → TreeChecked
tree_checked words = record { code = code_of (tree_verdict words); at = at_of (tree_verdict words) }
