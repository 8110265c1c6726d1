-- What the runner gives of a file (M-103): rows as treebuild prints them, then the line `answer`, then an answer a line, to the file's end.
use Rattle.std.specs.Prelude.{◌≡◌, ℕ, suc, ◌+◌, ◌<◌, ◌≤◌, List, [], ◌∷◌, Bool, true, false, ◌&&◌, length, take, drop, eqb, leb}
use Rattle.text.specs.Ascii.{ascii}
use Rattle.tree_check.specs.Scan.{Scanned, words, table_words, file_words}
use Rattle.tree_check.specs.Scan as scan
use Rattle.tree_check.specs.Prints.{most_bytes}
use Rattle.tree_runs.specs.Ran.{Outcome, refusal}
use Rattle.tree_runs.specs.Given.{RunGives, run_of}

pub data Given : Type 0 where
  -- 50: the first byte no good file could have there, or the file's length if it is short
  stopped : (at : ℕ) → Given
  read : (rows answers : List ℕ) → Given

abbrev pub answer_names : List ℕ
answer_names = ascii "answer\n"

-- an `a` behind the rows' line of names, which has 13 bytes. No row has one
abbrev pub opens_answers : (at byte : ℕ) → Bool
opens_answers at byte = leb 13 at && eqb byte 97

-- the first such byte, from byte `at` on, or the file's length
unfoldable pub answers_from : (at : ℕ) → (bytes : List ℕ) → ℕ
answers_from at [] = at
answers_from at (byte ∷ bytes) = elim (opens_answers at byte) [ true ↦ at | false ↦ answers_from (suc at) bytes ]

-- both parts are read, or the first that is not tells the place
abbrev pub joined : (from : ℕ) → (rows answers : Scanned) → Given
joined from (scan.stopped at) answers = stopped at
joined from (words rows) (scan.stopped at) = stopped (from + at)
joined from (words rows) (words answers) = read rows answers

-- the rows before that byte, the answers from there on: each is a table's file (tree_check/specs/Scan)
abbrev pub given_from : (from : ℕ) → (file : List ℕ) → Given
given_from from file = joined from (file_words (take from file)) (table_words answer_names 0 (drop from file))

unfoldable pub file_given : (file : List ℕ) → Given
file_given file = given_from (answers_from 0 file) file

-- the run of the rows with the answers, or 50
unfoldable pub run_given : Given → (lent : ℕ) → Outcome
run_given (stopped at) lent = refusal 50 at lent
run_given (read rows answers) lent = run_of rows answers lent

-- "51 over .. bytes, at 0; then 50 not in the form"; then the run
unfoldable pub file_run : (file : List ℕ) → (lent : ℕ) → Outcome
file_run file lent = elim (leb (length file) most_bytes) [ true ↦ run_given (file_given file) lent | false ↦ refusal 51 0 lent ]

-- the same with no reader of trees in it; this outcome alone is allowed (proofs/OneRun)
pub data FileGives (file : List ℕ) (lent : ℕ) : Outcome → Type 0 where
  long : most_bytes < length file → FileGives file lent (refusal 51 0 lent)
  misread : length file ≤ most_bytes → (at : ℕ) → file_given file ≡ stopped at → FileGives file lent (refusal 50 at lent)
  runs : length file ≤ most_bytes → (rows answers : List ℕ) → file_given file ≡ read rows answers → {o : Outcome} → RunGives rows answers lent o → FileGives file lent o
