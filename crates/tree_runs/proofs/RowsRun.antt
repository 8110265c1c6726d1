-- The walk over rows with right links gives the run of the tree that they are read as, with row numbers in it.
use Prim.Native.Nat.{ℕ, suc, ◌+◌, ◌*◌, ◌≤◌}
use lib.ListN.{length, get_or}
use Rattle.tree_runs.specs.Layout.{turns_in}
use native.Mathlib.Omega.{arith}
use Rattle.tree_runs.proofs.Turns.{block_turns}
use mathlib.Core.Path.{◌≡◌, sym, ap, ◌∙◌}
use mathlib.Core.List.{List, []}
use mathlib.Core.Option.{Option, none}
use mathlib.Core.Bool.{true, false}
use lib.Dec.{leb}
use Rattle.definition.specs.Tree.{Row, Statements, rows}
use Rattle.definition.specs.Reading.{WellFormed}
use Rattle.definition.specs.Run.{Answers}
use Rattle.definition.specs.TreeRun.{run_statements, reason_of, tree_run}
use Rattle.tree_runs.specs.Numbered.{end_statements, numbered}
use Rattle.tree_runs.specs.Links.{Links, layout_of}
use Rattle.tree_runs.specs.Machine.{enter, state, Completes}
use Rattle.tree_runs.proofs.Lays.{Stand, root_laid}
use Rattle.tree_runs.proofs.Walk.{walk_runs}
use Rattle.tree_runs.proofs.Images.{instruction_at, block_alike}
use Rattle.tree_runs.specs.Ran.{first_not_run, ended, refusal, given, after_sorts, ran, from_reached}

-- within three turns and one for each row, and as many more for each answer
pub rows_run : (row_at : ℕ → Row) (t : Links) (number : ℕ) (root : Statements) → WellFormed root → Stand row_at t number 0 (rows root) → (answers : Answers)
    → Completes (layout_of row_at t number) (suc (length answers) * suc (3 * number)) (state (enter (end_statements 0 root)) [] answers) (run_statements (numbered 0 root) answers)
rows_run row_at t number root w h answers =
    let p = root_laid row_at t number root w h in
    let q : turns_in (numbered 0 root) + 3 * 0 ≤ 3 * suc (end_statements 0 root) = block_turns root 0 in
    let e : suc (end_statements 0 root) ≡ number = p.2 in
    walk_runs (layout_of row_at t number) (numbered 0 root) (end_statements 0 root) p.0 p.1 (suc (3 * number)) (omega (arith, q, e)) answers

-- and where no row is refused 64, the outcome is what that end gives
pub rows_ran : (row_at : ℕ → Row) (t : Links) (number : ℕ) (root : Statements) → WellFormed root → Stand row_at t number 0 (rows root)
    → first_not_run (rows root) 0 ≡ none → (answers : Answers) (lent : ℕ)
    → ran root answers lent
    ≡ from_reached (instruction_at row_at t number) lent (run_statements (numbered 0 root) answers).rows (reason_of (run_statements (numbered 0 root) answers).completion)
unfolding ran tree_run from_reached after_sorts given
rows_ran row_at t number root w h e answers lent =
    ap (λ (z : Option ℕ). after_sorts z root answers lent) e
    ∙ ap (λ (p : List ℕ). elim (leb (length (run_statements (numbered 0 root) answers).rows) lent) [
      | true ↦ ended p lent (reason_of (run_statements (numbered 0 root) answers).completion)
      | false ↦ refusal 65 (get_or (run_statements (numbered 0 root) answers).rows lent 0) lent
    ]) (sym (block_alike row_at t number root 0 [] w h answers).rows.same)
