-- Where a value ends, by the walk's own way without its nested values; and the rows that the law speaks of.
use Rattle.std.specs.Prelude.{ℕ, zero, suc, List, [], ◌∷◌, ◌++◌, Bool, true, false, not, eqb, cond}
use Rattle.std.proofs.Math.Option.{Option, none, some}
use Rattle.table.specs.Table.{Table, Terminal, absent, unreachable, throw, return, goto, if, branch, switch, do_while, while, for, for_of, for_in}
use Rattle.table.specs.Table.{logical, ternary, optional, label, sequence, maybe_throw, try, scope, block_at, terminal_at, instruction_at, instruction_rows_at}
use Rattle.table.specs.Table.{Block}
use Rattle.definition.specs.Completion.{contains}
use Rattle.definition.specs.Value.{most_depth, Ways, branch_ways, is_empty_goto, stored_to_named, last}

-- the block whose last row is the value, and the Goto or Branch block that ends it
pub record ValueEnd : Type 0 where
  pub holder : ℕ
  pub end : ℕ

abbrev pub ends_at : (holder end : ℕ) → ValueEnd
ends_at holder end = record { holder = holder; end = end }

-- the fallthrough of a value terminal
abbrev pub value_fallthrough : Terminal → Option ℕ
value_fallthrough absent = none
value_fallthrough unreachable = none
value_fallthrough (throw value) = none
value_fallthrough (return value) = none
value_fallthrough (goto block variant) = none
value_fallthrough (if test consequent alternate fallthrough) = none
value_fallthrough (branch test consequent alternate) = none
value_fallthrough (switch test first number fallthrough) = none
value_fallthrough (do_while loop test fallthrough) = none
value_fallthrough (while test loop fallthrough) = none
value_fallthrough (for init test update loop fallthrough) = none
value_fallthrough (for_of init test loop fallthrough) = none
value_fallthrough (for_in init loop fallthrough) = none
value_fallthrough (logical operator test fallthrough) = some fallthrough
value_fallthrough (ternary test fallthrough) = some fallthrough
value_fallthrough (optional flag test fallthrough) = some fallthrough
value_fallthrough (label block fallthrough) = none
value_fallthrough (sequence block fallthrough) = some fallthrough
value_fallthrough (maybe_throw continuation) = none
value_fallthrough (try block handler fallthrough binding) = none
value_fallthrough (scope pruned block fallthrough number) = none

-- `next` is this function one step further
unfoldable pub value_end_at : Table → (next : ℕ → Option ValueEnd) → (block : ℕ) → Terminal → Option ValueEnd
value_end_at t next at absent = none
value_end_at t next at unreachable = none
value_end_at t next at (throw value) = none
value_end_at t next at (return value) = none
value_end_at t next at (goto block variant) = some (ends_at at at)
value_end_at t next at (if test consequent alternate fallthrough) = none
value_end_at t next at (branch test consequent alternate) = some (ends_at at at)
value_end_at t next at (switch test first number fallthrough) = none
value_end_at t next at (do_while loop test fallthrough) = none
value_end_at t next at (while test loop fallthrough) = none
value_end_at t next at (for init test update loop fallthrough) = none
value_end_at t next at (for_of init test loop fallthrough) = none
value_end_at t next at (for_in init loop fallthrough) = none
value_end_at t next at (logical operator test fallthrough) = next fallthrough
value_end_at t next at (ternary test fallthrough) = next fallthrough
value_end_at t next at (optional flag test fallthrough) = next fallthrough
value_end_at t next at (label block fallthrough) = none
value_end_at t next at (sequence block fallthrough) = next fallthrough
value_end_at t next at (maybe_throw continuation) = elim (is_empty_goto (block_at t continuation)) [ true ↦ some (ends_at at continuation) | false ↦ next continuation ]
value_end_at t next at (try block handler fallthrough binding) = none
value_end_at t next at (scope pruned block fallthrough number) = none

unfoldable pub value_end : Table → (steps start : ℕ) → Option ValueEnd
value_end t zero start = none
value_end t (suc steps) start = value_end_at t (λ next. value_end t steps next) start (terminal_at t start)

-- no accepted value is deeper than this
unfoldable pub end_of : Table → (start : ℕ) → Option ValueEnd
end_of t start = value_end t most_depth start

-- the ways of the Branch that ends a test
abbrev pub ways_after : Table → Option ValueEnd → Option Ways
ways_after t none = none
ways_after t (some at) = branch_ways (terminal_at t at.end)

unfoldable pub ways_of_test : Table → (test : ℕ) → Option Ways
ways_of_test t test = ways_after t (end_of t test)

-- ---- seen rows

-- the last of some rows, where it is a store to an unnamed identifier
abbrev pub store_at_end : Table → List ℕ → List ℕ
store_at_end t [] = []
store_at_end t (row ∷ rows) = cond (eqb (stored_to_named t (instruction_at t (last row rows)).operation) 0) (last row rows ∷ []) []

abbrev pub store_of_end : Table → Option ValueEnd → List ℕ
store_of_end t none = []
store_of_end t (some at) = store_at_end t (instruction_rows_at t at.holder)

abbrev pub store_of : Table → (start : ℕ) → List ℕ
store_of t start = store_of_end t (end_of t start)

-- the rows of a straight way to a Goto
abbrev pub straight_rows_at : Table → (next : ℕ → List ℕ) → (block : ℕ) → Terminal → List ℕ
straight_rows_at t next at absent = []
straight_rows_at t next at unreachable = []
straight_rows_at t next at (throw value) = []
straight_rows_at t next at (return value) = []
straight_rows_at t next at (goto block variant) = instruction_rows_at t at
straight_rows_at t next at (if test consequent alternate fallthrough) = []
straight_rows_at t next at (branch test consequent alternate) = []
straight_rows_at t next at (switch test first number fallthrough) = []
straight_rows_at t next at (do_while loop test fallthrough) = []
straight_rows_at t next at (while test loop fallthrough) = []
straight_rows_at t next at (for init test update loop fallthrough) = []
straight_rows_at t next at (for_of init test loop fallthrough) = []
straight_rows_at t next at (for_in init loop fallthrough) = []
straight_rows_at t next at (logical operator test fallthrough) = []
straight_rows_at t next at (ternary test fallthrough) = []
straight_rows_at t next at (optional flag test fallthrough) = []
straight_rows_at t next at (label block fallthrough) = []
straight_rows_at t next at (sequence block fallthrough) = []
straight_rows_at t next at (maybe_throw continuation) = instruction_rows_at t at ++ next continuation
straight_rows_at t next at (try block handler fallthrough binding) = []
straight_rows_at t next at (scope pruned block fallthrough number) = []

abbrev pub straight_rows : Table → (steps start : ℕ) → List ℕ
straight_rows t zero start = []
straight_rows t (suc steps) start = straight_rows_at t (λ next. straight_rows t steps next) start (terminal_at t start)

abbrev pub stores_of_ways : Table → Option Ways → List ℕ
stores_of_ways t none = []
stores_of_ways t (some ways) = store_of t ways.consequent ++ store_of t ways.alternate

abbrev pub unseen_of_optional : Table → Option Ways → List ℕ
unseen_of_optional t none = []
unseen_of_optional t (some ways) = store_of t ways.consequent ++ straight_rows t most_depth ways.alternate

-- a value's store: at the end of an arm, of a For's init (and of ForOf's init and test and ForIn's init); and the rows of an Optional's alternate
abbrev pub unseen_of : Table → Terminal → List ℕ
unseen_of t absent = []
unseen_of t unreachable = []
unseen_of t (throw value) = []
unseen_of t (return value) = []
unseen_of t (goto block variant) = []
unseen_of t (if test consequent alternate fallthrough) = []
unseen_of t (branch test consequent alternate) = []
unseen_of t (switch test first number fallthrough) = []
unseen_of t (do_while loop test fallthrough) = []
unseen_of t (while test loop fallthrough) = []
unseen_of t (for init test update loop fallthrough) = store_of t init
unseen_of t (for_of init test loop fallthrough) = store_of t init ++ store_of t test
unseen_of t (for_in init loop fallthrough) = store_of t init
unseen_of t (logical operator test fallthrough) = stores_of_ways t (ways_of_test t test)
unseen_of t (ternary test fallthrough) = stores_of_ways t (ways_of_test t test)
unseen_of t (optional flag test fallthrough) = unseen_of_optional t (ways_of_test t test)
unseen_of t (label block fallthrough) = []
unseen_of t (sequence block fallthrough) = store_of t block
unseen_of t (maybe_throw continuation) = []
unseen_of t (try block handler fallthrough binding) = []
unseen_of t (scope pruned block fallthrough number) = []

abbrev pub unseen_of_all : Table → List Block → List ℕ
unseen_of_all t [] = []
unseen_of_all t (block ∷ blocks) = unseen_of t block.terminal ++ unseen_of_all t blocks

unfoldable pub seen : Table → (row : ℕ) → Bool
seen t row = not (contains (unseen_of_all t t.blocks) row)

abbrev pub seen_rows : (seen_row : ℕ → Bool) → List ℕ → List ℕ
seen_rows seen_row [] = []
seen_rows seen_row (row ∷ rows) = cond (seen_row row) (row ∷ seen_rows seen_row rows) (seen_rows seen_row rows)
