-- M-103, the whole: what the runner gives for any words, any answers and any lent buffer. "M-100's refusals come before these."
use Rattle.std.specs.Prelude.{◌≡◌, ℕ, ◌≤◌, List, [], ◌∷◌, true, length}
use Rattle.std.proofs.Math.Option.{Option, none, some}
use Rattle.definition.specs.Tree.{Row, Statements, done}
use Rattle.definition.specs.Reading.{ReadAs, value, statement, block, case, Forest}
use Rattle.definition.specs.Reader.{read}
use Rattle.definition.specs.Build.{words_of}
use Rattle.definition.specs.Run.{Answers}
use Rattle.tree_grammar.specs.Ranges.{all_in_range}
use Rattle.tree_grammar.specs.Grammar.{most_rows, Answer}
use Rattle.tree_grammar.specs.Needs.{RowsVerdict, rows_of_words, tree_verdict}
use Rattle.tree_grammar.specs.Needs as check
use Rattle.tree_runs.specs.Ran.{Outcome, refusal, ran}

-- words that the check refuses get its code and place; rows that read as a tree are run. There is one such outcome (proofs/OneOutcome)
pub data RunGives (words : List ℕ) (answers : Answers) (lent : ℕ) : Outcome → Type 0 where
  refused : (code at : ℕ) → Answer words code at → (code ≡ 0 → ⊥) → RunGives words answers lent (refusal code at lent)
  runs : (list : List Row) → words_of list ≡ words → 1 ≤ length list → length list ≤ most_rows → all_in_range list ≡ true → (root : Statements) → ReadAs list root
      → RunGives words answers lent (ran root answers lent)

-- ---- the same as a function: the check's verdict, and the tree that the reader reads

abbrev pub root_in : Option Forest → Statements
root_in none = done
root_in (some []) = done
root_in (some (value v ∷ parts)) = done
root_in (some (statement s ∷ parts)) = done
root_in (some (block root ∷ parts)) = root
root_in (some (case test body ∷ parts)) = done

abbrev pub root_of : Option (List Row) → Statements
root_of none = done
root_of (some list) = root_in (read list [])

unfoldable pub run_by : RowsVerdict → (words : List ℕ) → Answers → (lent : ℕ) → Outcome
run_by (check.refused code at) words answers lent = refusal code at lent
run_by check.accepted words answers lent = ran (root_of (rows_of_words words)) answers lent

unfoldable pub run_of : (words : List ℕ) → Answers → (lent : ℕ) → Outcome
run_of words answers lent = run_by (tree_verdict words) words answers lent
