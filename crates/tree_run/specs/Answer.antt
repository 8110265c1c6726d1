-- What the runner's own answer means, by the papers' numbers.
use Rattle.std.specs.Prelude.{ℕ}
use Rattle.tree_grammar.specs.Needs as check
use Rattle.tree_check.specs.Found.{verdict_of}
use Rattle.tree_check.specs.declared.file.FileError.{FileError}
use Rattle.tree_check.specs.Prints as file
use Rattle.tree_run.specs.declared.Reason.{Reason}
use Rattle.tree_run.specs.declared.Reason.TheVariants.{Return, Throw, End, NoAnswer}
use Rattle.tree_run.specs.declared.RunError.{RunError}
use Rattle.tree_run.specs.declared.RunError.TheVariants.{NotATree, NoTarget, NotRun, NoRoom}

-- "the reason for stopping: return, throw, end of the tree, or no answer left": 1 to 4
abbrev pub reason_number : Reason → ℕ
reason_number Return = 1
reason_number Throw = 2
reason_number End = 3
reason_number NoAnswer = 4

-- M-100's 60 to 62, and M-103's 63 to 65
abbrev pub code_of : RunError → ℕ
code_of (NotATree error) = check.code_of (verdict_of error)
code_of (NoTarget at) = 63
code_of (NotRun at) = 64
code_of (NoRoom at) = 65

-- "At is the row"
abbrev pub at_of : RunError → ℕ
at_of (NotATree error) = check.at_of (verdict_of error)
at_of (NoTarget at) = at
at_of (NotRun at) = at
at_of (NoRoom at) = at

-- of a file: "51 over .. bytes, at 0; then 50 not in the form", at the byte
abbrev pub file_code : FileError RunError → ℕ
file_code refused = file.file_code code_of refused

abbrev pub file_at : FileError RunError → ℕ
file_at refused = file.file_at at_of refused
