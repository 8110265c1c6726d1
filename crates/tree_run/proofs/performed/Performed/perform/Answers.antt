-- `perform` puts the instructions of the PLAINs among the rows into the buffer. A row that finds no room ends it (`performing_full`), any other keeps the
-- invariant (`performing_next`), and after the last row all are performed (`performing_end`).
use Rattle.std.proofs.Common.{arith, ◌<◌, ◌≤◌, ◌∙◌}
use Rattle.tree_run.proofs.PerformLaws.{err_same, performing_full, performing_next, performing_end}
use Rattle.tree_run.proofs.performed.Performed.perform.Goals as goal

pub loop-row-preserved : goal.loop-row-preserved
loop-row-preserved c =
    let I = c.loop-row.invariant in
    let s = c.in-Some.ensures.steps in
    let on : c.loop-row.row-iterator.start < c.args.rows.end = omega (arith, s.1.0, I.end) in
    record {
      can = tt;
      finite = tt;
      end = s.0 ∙ I.end;
      doing = rw s.1.2 (performing_next _ I.doing on (rw s.1.1 at c.perform_row.ensures) c.in_ok-perform_row.was);
    }

pub returns-in_err-perform_row : goal.returns-in_err-perform_row
returns-in_err-perform_row c =
    let I = c.loop-row.invariant in
    let s = c.in-Some.ensures.steps in
    let on : c.loop-row.row-iterator.start < c.args.rows.end = omega (arith, s.1.0, I.end) in
    rw (err_same c.from_residual.ensures.1) (performing_full _ I.doing on (rw s.1.1 at c.perform_row.ensures) c.in_err-perform_row.was)

pub returns : goal.returns
returns c =
    let I = c.loop-row.invariant in
    let off : c.args.rows.end ≤ c.loop-row.row-iterator.start = omega (arith, c.in-None.ensures.steps.1.0, I.end) in
    performing_end _ I.doing off
