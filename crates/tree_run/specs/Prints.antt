-- What treerun prints of a file: `code at number reason` and the four numbers; of a run then `instruction` and the rows performed, one a line.
use Rattle.std.specs.Prelude.{◌≡◌, ℕ, zero, suc, ◌≤◌, List, [], ◌∷◌, ◌++◌, length, Result, Ok, Err}
use Rattle.text.specs.Ascii.{ascii}
use Rattle.text.specs.Line.{line, lines, cut}
use Rattle.tree_runs.specs.Ran.{Outcome}
use Rattle.tree_run.specs.declared.Run.{Run}
use Rattle.tree_run.specs.declared.RunError.{RunError}
use Rattle.tree_check.specs.declared.file.FileError.{FileError}
use Rattle.tree_run.specs.declared.RunError.{RunError}
use Rattle.tree_run.specs.Answer.{file_code, file_at}
use Rattle.tree_run.specs.Holds.{outcome_of}
use Rattle.tree_run.specs.Given.{answers_from, file_run}

abbrev pub run_names : List ℕ
run_names = ascii "code at number reason\n"

abbrev pub instruction_names : List ℕ
instruction_names = ascii "instruction\n"

-- the rows performed, if the code says that the tree was run
unfoldable pub performed_lines : (code number : ℕ) → (buffer : List ℕ) → List ℕ
performed_lines zero number buffer = instruction_names ++ lines (cut 1 1 number buffer)
performed_lines (suc code) number buffer = []

unfoldable pub printed_run : Outcome → List ℕ
printed_run o = run_names ++ (line (o.code ∷ o.at ∷ o.number ∷ o.reason ∷ []) ++ performed_lines o.code o.number o.buffer)

-- the program lends so many words: a run that performs more rows is refused 65
abbrev pub lent_rows : ℕ
lent_rows = 65536

-- two lines of names, four numbers, 65,536 lines of one
abbrev pub most_printed : ℕ
most_printed = 720974

-- what a file prints
abbrev pub run_text : (file : List ℕ) → List ℕ
run_text file = printed_run (file_run file lent_rows)

-- ---- the contracts of the functions below `run_file`

-- the outcome that a file's run tells, with what the buffer holds
abbrev pub file_outcome : Result Run (FileError RunError) → (buffer : List ℕ) → Outcome
file_outcome (Ok run) buffer = outcome_of (Ok run) buffer
file_outcome (Err error) buffer = record { code = file_code error; at = file_at error; number = 0; reason = 0; buffer = buffer }

-- where the answers begin
pub record AnswersAt (file : List ℕ) (r : ℕ) : Type 0 where
  pub is : r ≡ answers_from 0 file
  pub within : r ≤ length file
