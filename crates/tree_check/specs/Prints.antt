-- What treecheck prints of a file: `code at` and the two numbers.
use Rattle.std.specs.Prelude.{ℕ, List, [], ◌∷◌, ◌++◌, true, false, Result, Ok, Err, length, leb}
use Rattle.text.specs.Ascii.{ascii}
use Rattle.text.specs.Line.{line}
use Rattle.tree_grammar.specs.Needs.{code_of, at_of}
use Rattle.tree_check.specs.declared.TreeError.{TreeError}
use Rattle.tree_check.specs.declared.file.FileError.{FileError}
use Rattle.tree_check.specs.declared.file.FileError.TheVariants.{TooLong, NotInForm, Refused}
use Rattle.tree_check.specs.Found.{verdict_of, TreeChecked, tree_checked}
use Rattle.tree_check.specs.Scan.{Scanned, stopped, words, file_words}

abbrev pub most_bytes : ℕ
most_bytes = 262144

abbrev pub scan_checked : Scanned → TreeChecked
scan_checked (stopped at) = record { code = 50; at = at }
scan_checked (words list) = tree_checked list

-- "51 over .. bytes, at 0; then 50 not in the form"; then the check of the rows
unfoldable pub file_checked : List ℕ → TreeChecked
file_checked file = elim (leb (length file) most_bytes) [ true ↦ scan_checked (file_words file) | false ↦ record { code = 51; at = 0 } ]

-- the numbers of a file's error, by those of an error of its rows
abbrev pub file_code : {E : Type 0} → (code : E → ℕ) → FileError E → ℕ
file_code code TooLong = 51
file_code code (NotInForm bad) = 50
file_code code (Refused error) = code error

abbrev pub file_at : {E : Type 0} → (at : E → ℕ) → FileError E → ℕ
file_at at TooLong = 0
file_at at (NotInForm bad) = bad.at
file_at at (Refused error) = at error

-- what the code's answers about a file mean
abbrev pub file_refusal : FileError TreeError → TreeChecked
file_refusal refused = record { code = file_code (λ error. code_of (verdict_of error)) refused; at = file_at (λ error. at_of (verdict_of error)) refused }

abbrev pub file_answer : {X : Type 0} → Result X (FileError TreeError) → TreeChecked
file_answer (Ok given) = record { code = 0; at = 0 }
file_answer (Err error) = file_refusal error

abbrev pub check_names : List ℕ
check_names = ascii "code at\n"

unfoldable pub printed_check : TreeChecked → List ℕ
printed_check checked = check_names ++ line (checked.code ∷ checked.at ∷ [])

-- what a file prints
abbrev pub check_text : (file : List ℕ) → List ℕ
check_text file = printed_check (file_checked file)
