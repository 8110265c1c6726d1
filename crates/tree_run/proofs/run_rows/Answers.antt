-- Four ends: the check refuses, a row is not run (64), the walk refuses, or the run is given. One law of EntryLaws for each of the first two, and one for the walk; the
-- others say that the links and the walk are asked only what holds of an accepted list.
use Rattle.std.proofs.Common.{arith, refl, sym, length, ◌∙◌}
use Rattle.tree_runs.proofs.OneOutcome.{given_is}
use Rattle.tree_run.specs.Abstraction.{links_of}
use Rattle.tree_run.proofs.PerformLaws.{err_same}
use Rattle.tree_run.proofs.EntryLaws.{accepted, check_refused, begun, rows_most, rows_least, kept_none, run_other, walks, run_fits, run_given}
use Rattle.tree_run.proofs.run_rows.Goals as goal

pub returns-in_err-read_tree-clause-run : goal.returns-in_err-read_tree-clause-run
returns-in_err-read_tree-clause-run c =
    let a = c.args in
    rw (err_same c.from_residual.ensures.1)
    (given_is _ _ _ (check_refused a.words.now a.answers.now (length a.performed.now) c.in_err-read_tree.ensures (kept_none _ _ a.performed.now)))

pub overflow_cast-rows : goal.overflow_cast-rows
overflow_cast-rows c =
    let words = c.args.words.now in
    let read = accepted words c.in_ok-read_tree.ensures in
    omega (arith, rows_most words read)

pub returns-in-Some-clause-run : goal.returns-in-Some-clause-run
returns-in-Some-clause-run c =
    let a = c.args in
    let read = accepted a.words.now c.in_ok-read_tree.ensures in
    given_is _ _ _ (run_other a.words.now read a.answers.now (length a.performed.now) (sym c.in-Some.is ∙ c.first_not_run.ensures) (kept_none _ _ a.performed.now))

pub link_rows-requires-clause-rows_bound : goal.link_rows-requires-clause-rows_bound
link_rows-requires-clause-rows_bound c = rows_most c.args.words.now (accepted c.args.words.now c.in_ok-read_tree.ensures)

pub link_rows-requires-clause-by_index : goal.link_rows-requires-clause-by_index
link_rows-requires-clause-by_index c = (begun c.args.words.now c.in_ok-read_tree.ensures).low

pub walk-requires-clause-le_rows : goal.walk-requires-clause-le_rows
walk-requires-clause-le_rows c = rows_least c.args.words.now (accepted c.args.words.now c.in_ok-read_tree.ensures)

pub walk-requires-clause-walks : goal.walk-requires-clause-walks
walk-requires-clause-walks c =
    let words = c.args.words.now in
    let found = c.in_ok-read_tree.ensures in
    walks words (accepted words found) (links_of c.read_tree.new.begin c.link_rows.new.links) refl (c.link_rows.ensures words (begun words found)) c.args.answers.now

pub returns-clause-number : goal.returns-clause-number
returns-clause-number c =
    let words = c.args.words.now in
    let found = c.in_ok-read_tree.ensures in
    run_fits words (accepted words found) (links_of c.read_tree.new.begin c.link_rows.new.links) refl (c.link_rows.ensures words (begun words found))
    c.args.answers.now (sym c.in_default.is ∙ c.first_not_run.ensures) c.walk.ensures

pub returns-clause-run : goal.returns-clause-run
returns-clause-run c =
    let words = c.args.words.now in
    let found = c.in_ok-read_tree.ensures in
    given_is _ _ _ (run_given words (accepted words found) (links_of c.read_tree.new.begin c.link_rows.new.links) refl (c.link_rows.ensures words (begun words found))
    c.args.answers.now (sym c.in_default.is ∙ c.first_not_run.ensures) c.walk.ensures (length c.args.performed.now) (omega (arith, c.walk.auto.performed)))
