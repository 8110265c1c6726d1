-- The block run with values: a value terminal goes to its test, a Sequence and a MaybeThrow on to their block. All else is as before.
use Rattle.std.specs.Prelude.{ℕ, zero, suc, [], Bool}
use Rattle.table.specs.Table.{Table, Terminal, absent, unreachable, throw, return, goto, if, branch, switch, do_while, while, for, for_of, for_in}
use Rattle.table.specs.Table.{logical, ternary, optional, label, sequence, maybe_throw, try, scope, block_at, terminal_at, instruction_rows_at}
use Rattle.definition.specs.Run.{Answers, Run, unfinished, stopped}
use Rattle.definition.specs.BlockRun.{Move, go, halt, move, performing}
use Rattle.definition.specs.ValueEnds.{seen_rows}

unfoldable pub wide_move : Table → Terminal → (id : ℕ) → Answers → Move
wide_move t absent id answers = move t absent id answers
wide_move t unreachable id answers = move t unreachable id answers
wide_move t (throw value) id answers = move t (throw value) id answers
wide_move t (return value) id answers = move t (return value) id answers
wide_move t (goto block variant) id answers = move t (goto block variant) id answers
wide_move t (if test consequent alternate fallthrough) id answers = move t (if test consequent alternate fallthrough) id answers
wide_move t (branch test consequent alternate) id answers = move t (branch test consequent alternate) id answers
wide_move t (switch test first number fallthrough) id answers = move t (switch test first number fallthrough) id answers
wide_move t (do_while loop test fallthrough) id answers = move t (do_while loop test fallthrough) id answers
wide_move t (while test loop fallthrough) id answers = move t (while test loop fallthrough) id answers
wide_move t (for init test update loop fallthrough) id answers = move t (for init test update loop fallthrough) id answers
wide_move t (for_of init test loop fallthrough) id answers = move t (for_of init test loop fallthrough) id answers
wide_move t (for_in init loop fallthrough) id answers = move t (for_in init loop fallthrough) id answers
wide_move t (logical operator test fallthrough) id answers = go test answers
wide_move t (ternary test fallthrough) id answers = go test answers
wide_move t (optional flag test fallthrough) id answers = go test answers
wide_move t (label block fallthrough) id answers = move t (label block fallthrough) id answers
wide_move t (sequence block fallthrough) id answers = go block answers
wide_move t (maybe_throw continuation) id answers = go continuation answers
wide_move t (try block handler fallthrough binding) id answers = move t (try block handler fallthrough binding) id answers
wide_move t (scope pruned block fallthrough number) id answers = move t (scope pruned block fallthrough number) id answers

unfoldable pub wide_run : Table → (seen_row : ℕ → Bool) → (steps block : ℕ) → Answers → Run
wide_run t seen_row zero block answers = unfinished
wide_run t seen_row (suc steps) block answers =
    performing (seen_rows seen_row (instruction_rows_at t block))
    (elim (wide_move t (terminal_at t block) (block_at t block).id answers) [ go next left ↦ wide_run t seen_row steps next left | halt reason ↦ stopped [] answers reason ])
