-- The words of one table's file: its line of names, then lines of numbers, to the file's end. Rows as treebuild prints them are such a file, of six
-- numbers a line; so are answers (room tree_run), one a line. The names and the last column are parameters.
use Rattle.std.specs.Prelude.{ℕ, suc, ◌+◌, ◌-◌, ◌*◌, List, [], ◌∷◌, ◌++◌, true, false, not, ◌||◌, cond, Option, None, Some, is_some, option_to_list, length, drop, eqb}
use Rattle.text.specs.Form.{ending}
use Rattle.text.specs.Printed.{tree_names}
use Rattle.text.specs.Reading.{is_digit, may_follow}
use Rattle.tree_check.specs.declared.scan.Scan.{Scan}
use Rattle.tree_check.specs.declared.scan.Step.{Step}

pub data Scanned : Type 0 where
  -- 50: the first byte no good file could have there, or the file's length if it is short
  stopped : (at : ℕ) → Scanned
  words : List ℕ → Scanned

-- ---- one byte

-- columns count from 0 to the last
abbrev pub next_column : (last column : ℕ) → ℕ
next_column last column = cond (eqb column last) 0 (column + 1)

-- a number goes on
abbrev pub going_on : (column value : ℕ) → Step
going_on column value = record { scan = record { column = column; number = Some value }; ended = None }

-- a number has ended
abbrev pub gone_by : (last column value : ℕ) → Step
gone_by last column value = record { scan = record { column = next_column last column; number = None }; ended = Some value }

-- before a number: its first digit
unfoldable pub first_digit : (column byte : ℕ) → Option Step
first_digit column byte = cond (is_digit byte) (Some (going_on column (byte - 48))) None

-- in a number: its end, a space or after the last LF; or a digit more, with no leading zero and within 32 bits
unfoldable pub in_number : (last column value byte : ℕ) → Option Step
in_number last column value byte =
    cond (eqb byte (ending (eqb column last))) (Some (gone_by last column value)) (cond (may_follow value byte) (Some (going_on column (value * 10 + (byte - 48)))) None)

-- none where no good file has this byte
unfoldable pub stepped : (last : ℕ) → Scan → (byte : ℕ) → Option Step
stepped last scan byte = elim scan.number [ None ↦ first_digit scan.column byte | Some value ↦ in_number last scan.column value byte ]

-- ---- all bytes

abbrev pub with_words : List ℕ → Scanned → Scanned
with_words before (stopped at) = stopped at
with_words before (words list) = words (before ++ list)

-- the word that has ended, if one has
abbrev pub ended_word : Step → List ℕ
ended_word step = option_to_list step.ended

-- the bytes from byte `at` on; a file ends after a line
unfoldable pub scanned : (last : ℕ) → Scan → (at : ℕ) → List ℕ → Scanned
scanned last scan at [] = elim (is_some scan.number || not (eqb scan.column 0)) [ true ↦ stopped at | false ↦ words [] ]
scanned last scan at (byte ∷ bytes) =
    elim (stepped last scan byte) [ None ↦ stopped at | Some step ↦ with_words (ended_word step) (scanned last step.scan (suc at) bytes) ]

abbrev pub start_scan : Scan
start_scan = record { column = 0; number = None }

-- how many bytes the two begin with alike
unfoldable pub alike : (names file : List ℕ) → ℕ
alike [] file = 0
alike (name ∷ names) [] = 0
alike (name ∷ names) (byte ∷ file) = cond (eqb byte name) (suc (alike names file)) 0

unfoldable pub table_words : (names : List ℕ) → (last : ℕ) → List ℕ → Scanned
table_words names last file =
    elim (eqb (alike names file) (length names)) [ true ↦ scanned last start_scan (length names) (drop (length names) file) | false ↦ stopped (alike names file) ]

-- rows as treebuild prints them
abbrev pub file_words : List ℕ → Scanned
file_words file = table_words tree_names 5 file
