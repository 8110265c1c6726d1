-- M-103: what the runner gives for rows that read as a tree, for every list of answers and every lent buffer.
use Rattle.std.specs.Prelude.{ℕ, suc, ◌-◌, List, [], ◌∷◌, ◌++◌, map, Bool, true, false, ◌||◌, length, get_or, replicate, eqb, leb}
use Rattle.std.proofs.Math.Option.{Option, none, some}
use Rattle.definition.specs.Tree.{Row, row, Statements, rows}
use Rattle.definition.specs.Run.{Answers, Reason, returned, threw, no_answer_left, not_plain, no_target, end_of_tree, no_such_case, Run, unfinished, stopped}
use Rattle.definition.specs.TreeRun.{tree_run}
use Rattle.tree_runs.specs.Numbered.{numbered}

-- the result's numbers, and every word of the lent buffer
pub record Outcome : Type 0 where
  pub code : ℕ
  pub at : ℕ
  pub number : ℕ
  pub reason : ℕ
  pub buffer : List ℕ

-- "A refused run leaves zeros and gives the number 0."
unfoldable pub refusal : (code at lent : ℕ) → Outcome
refusal code at lent = record { code = code; at = at; number = 0; reason = 0; buffer = replicate lent 0 }

-- "64, before running, at the first LOGICAL, COND, OPTIONAL, TRY, FOROF or FORIN"
abbrev pub not_run : (op : ℕ) → Bool
not_run op = eqb op 6 || (eqb op 7 || (eqb op 8 || (eqb op 16 || (eqb op 17 || eqb op 19))))

unfoldable pub first_not_run : List Row → (i : ℕ) → Option ℕ
first_not_run [] i = none
first_not_run (row op a b c d e ∷ list) i = elim (not_run op) [ true ↦ some i | false ↦ first_not_run list (suc i) ]

-- "the reason for stopping: return, throw, end of the tree, or no answer left": 1 to 4
unfoldable pub performed_all : (performed : List ℕ) → (reason lent : ℕ) → Outcome
performed_all performed reason lent =
    record { code = 0; at = 0; number = length performed; reason = reason; buffer = performed ++ replicate (lent - length performed) 0 }

-- "63 at a jump reached that has no target of its sort around it". No tree's run stops for `no_such_case`: "a place beyond the last runs no case"
unfoldable pub ended : (performed : List ℕ) → (lent : ℕ) → (numbered_reason : Reason) → Outcome
ended performed lent (returned value id) = performed_all performed 1 lent
ended performed lent (threw value id) = performed_all performed 2 lent
ended performed lent end_of_tree = performed_all performed 3 lent
ended performed lent no_answer_left = performed_all performed 4 lent
ended performed lent (no_target at) = refusal 63 at lent
ended performed lent not_plain = refusal 64 0 lent
ended performed lent no_such_case = refusal 64 0 lent

-- "65 at the first PLAIN reached that the buffer can't take": the rows reached are those that the tree with row numbers performs
unfoldable pub given : (lent : ℕ) → (run numbered_run : Run) → Outcome
given lent (stopped performed left reason) (stopped reached left' numbered_reason) =
    elim (leb (length reached) lent) [
      | true ↦ ended performed lent numbered_reason
      | false ↦ refusal 65 (get_or reached lent 0) lent
    ]
given lent unfinished numbered_run = refusal 64 0 lent
given lent (stopped performed left reason) unfinished = refusal 64 0 lent

unfoldable pub after_sorts : Option ℕ → (root : Statements) → Answers → (lent : ℕ) → Outcome
after_sorts (some i) root answers lent = refusal 64 i lent
after_sorts none root answers lent = given lent (tree_run root answers) (tree_run (numbered 0 root) answers)

-- the tree that the rows are read as, the answers, and the number of words lent
unfoldable pub ran : (root : Statements) → Answers → (lent : ℕ) → Outcome
ran root answers lent = after_sorts (first_not_run (rows root) 0) root answers lent

-- ---- the same from the end of the walk

-- what is given where the run of the tree with row numbers ends so, and `instruction` is what a row performs
unfoldable pub from_reached : (instruction : ℕ → ℕ) → (lent : ℕ) → (reached : List ℕ) → Reason → Outcome
from_reached instruction lent reached reason =
    elim (leb (length reached) lent) [
      | true ↦ ended (map instruction reached) lent reason
      | false ↦ refusal 65 (get_or reached lent 0) lent
    ]
