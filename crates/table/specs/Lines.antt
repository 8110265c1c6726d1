-- M-110: the lines of a table's graph, "one line .. for each time a present row names a block". M-111 walks along them.
use Rattle.std.specs.Prelude.{ℕ, zero, suc, List, [], ◌∷◌, ◌++◌, length, take, drop}
use Rattle.std.proofs.Math.Option.{Option, none, some}
use Rattle.table.specs.Table.{Table, Case, Terminal, absent, unreachable, throw, return, goto, if, branch, switch, do_while, while, for, for_of, for_in}
use Rattle.table.specs.Table.{logical, ternary, optional, label, sequence, maybe_throw, try, scope, terminal_at}

abbrev pub case_blocks : List Case → List ℕ
case_blocks [] = []
case_blocks (case ∷ cases) = case.block ∷ case_blocks cases

-- "an update of none gives no line"
abbrev pub unless_no : Option ℕ → List ℕ → List ℕ
unless_no none more = more
unless_no (some block) more = block ∷ more

-- the blocks that a row names, "by column; a Switch lists its cases in table order before its fallthrough". An absent row names none
unfoldable pub named_by : Table → Terminal → List ℕ
named_by t absent = []
named_by t unreachable = []
named_by t (throw value) = []
named_by t (return value) = []
named_by t (goto block variant) = block ∷ []
named_by t (if test consequent alternate fallthrough) = consequent ∷ alternate ∷ fallthrough ∷ []
named_by t (branch test consequent alternate) = consequent ∷ alternate ∷ []
named_by t (switch test first number fallthrough) = case_blocks (take number (drop first t.cases)) ++ (fallthrough ∷ [])
named_by t (do_while loop test fallthrough) = loop ∷ test ∷ fallthrough ∷ []
named_by t (while test loop fallthrough) = test ∷ loop ∷ fallthrough ∷ []
named_by t (for init test update loop fallthrough) = init ∷ test ∷ unless_no update (loop ∷ fallthrough ∷ [])
named_by t (for_of init test loop fallthrough) = init ∷ test ∷ loop ∷ fallthrough ∷ []
named_by t (for_in init loop fallthrough) = init ∷ loop ∷ fallthrough ∷ []
named_by t (logical operator test fallthrough) = test ∷ fallthrough ∷ []
named_by t (ternary test fallthrough) = test ∷ fallthrough ∷ []
named_by t (optional flag test fallthrough) = test ∷ fallthrough ∷ []
named_by t (label block fallthrough) = block ∷ fallthrough ∷ []
named_by t (sequence block fallthrough) = block ∷ fallthrough ∷ []
named_by t (maybe_throw continuation) = continuation ∷ []
named_by t (try block handler fallthrough binding) = block ∷ handler ∷ fallthrough ∷ []
named_by t (scope pruned block fallthrough number) = block ∷ fallthrough ∷ []

abbrev pub named_at : Table → (row : ℕ) → List ℕ
named_at t row = named_by t (terminal_at t row)

pub record Line : Type 0 where
  pub from : ℕ
  pub to : ℕ

abbrev pub lines_to : (from : ℕ) → (blocks : List ℕ) → List Line
lines_to from [] = []
lines_to from (to ∷ blocks) = record { from = from; to = to } ∷ lines_to from blocks

-- of `count` rows, from a row on
unfoldable pub lines_from : Table → (row count : ℕ) → List Line
lines_from t row zero = []
lines_from t row (suc count) = lines_to row (named_at t row) ++ lines_from t (suc row) count

-- "Lines go by row, then by column"
unfoldable pub lines : Table → List Line
lines t = lines_from t 0 (length t.blocks)
