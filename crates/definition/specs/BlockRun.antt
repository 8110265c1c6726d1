-- Paper 01, "Plain tables": the block run.
use Rattle.std.specs.Prelude.{ℕ, zero, suc, List, [], ◌∷◌, ◌++◌, take, drop}
use Rattle.table.specs.Table.{Table, Case, Terminal, absent, unreachable, throw, return, goto, if, branch, switch, do_while, while, for, for_of, for_in, logical}
use Rattle.table.specs.Table.{ternary, optional, label, sequence, maybe_throw, try, scope, block_at, terminal_at, instruction_rows_at}
use Rattle.definition.specs.Run.{Answers, Reason, returned, threw, no_answer_left, not_plain, no_such_case, Run, unfinished, stopped}

-- where a block leads after its rows: to another block, with the answers left, or nowhere
pub data Move : Type 0 where
  go : (block : ℕ) → (left : Answers) → Move
  halt : Reason → Move

-- "by one answer to the consequent (yes) or alternate (no)"
unfoldable pub by_answer : (consequent alternate : ℕ) → Answers → Move
by_answer consequent alternate [] = halt no_answer_left
by_answer consequent alternate (zero ∷ left) = go alternate left
by_answer consequent alternate (suc n ∷ left) = go consequent left

-- a Switch's cases, in source order
unfoldable pub case_list : Table → (first number : ℕ) → List Case
case_list t first number = take number (drop first t.cases)

-- M-113: "An answer at a Switch is a place in its case list"
unfoldable pub at_place : List Case → (place : ℕ) → (left : Answers) → Move
at_place [] place left = halt no_such_case
at_place (case ∷ cases) zero left = go case.block left
at_place (case ∷ cases) (suc place) left = at_place cases place left

unfoldable pub by_place : List Case → Answers → Move
by_place cases [] = halt no_answer_left
by_place cases (place ∷ left) = at_place cases place left

-- "then While goes to its test, Label, scopes and Goto to their block, If and Branch by one answer .."; `id` is the block's
unfoldable pub move : Table → Terminal → (id : ℕ) → Answers → Move
move t (while test loop fallthrough) id answers = go test answers
move t (label block fallthrough) id answers = go block answers
move t (scope pruned block fallthrough number) id answers = go block answers
move t (goto block variant) id answers = go block answers
move t (if test consequent alternate fallthrough) id answers = by_answer consequent alternate answers
move t (branch test consequent alternate) id answers = by_answer consequent alternate answers
move t (return value) id answers = halt (returned value id)
move t (throw value) id answers = halt (threw value id)
move t absent id answers = halt not_plain
move t unreachable id answers = halt not_plain
move t (switch test first number fallthrough) id answers = by_place (case_list t first number) answers
move t (do_while loop test fallthrough) id answers = go loop answers
move t (for init test update loop fallthrough) id answers = go init answers
move t (for_of init test loop fallthrough) id answers = halt not_plain
move t (for_in init loop fallthrough) id answers = halt not_plain
move t (logical operator test fallthrough) id answers = halt not_plain
move t (ternary test fallthrough) id answers = halt not_plain
move t (optional flag test fallthrough) id answers = halt not_plain
move t (sequence block fallthrough) id answers = halt not_plain
move t (maybe_throw continuation) id answers = halt not_plain
move t (try block handler fallthrough binding) id answers = halt not_plain

-- some rows are performed, and then a run
unfoldable pub performing : List ℕ → Run → Run
performing rows unfinished = unfinished
performing rows (stopped performed left reason) = stopped (rows ++ performed) left reason

-- "a block performs its instruction rows in order; then ..": from a block on, with a bound on the blocks
unfoldable pub block_run : Table → (steps block : ℕ) → Answers → Run
block_run t zero block answers = unfinished
block_run t (suc steps) block answers =
    performing (instruction_rows_at t block)
    (elim (move t (terminal_at t block) (block_at t block).id answers) [ go next left ↦ block_run t steps next left | halt reason ↦ stopped [] answers reason ])
