use Rattle.std.proofs.Common.{rules, arith, sym, ap, ◌∙◌, ℕ, take}
use Rattle.std.proofs.lemmas.Result.{MatchResult-weaker}
use Rattle.std.specs.Prelude.{Result}
use Rattle.tree_runs.specs.Given.{run_of}
use Rattle.tree_run.specs.declared.Run.{Run}
use Rattle.tree_run.specs.declared.RunError.{RunError}
use Rattle.tree_run.specs.Holds.{outcome_of}
use Rattle.tree_check.proofs.FileLaws.{no_part, part_held}
use Rattle.tree_run.proofs.PerformLaws.{err_same}
use Rattle.tree_run.proofs.EntryLaws.{kept_none}
use Rattle.tree_run.proofs.FileLaws.{part_is, part_few, file_long, rows_refused, answers_refused, file_runs, answers_read, answers_misread, words_too_many, words_run}
use Rattle.tree_run.proofs.file.run_bytes.Goals as goal

pub returns-then-file-gt262144 : goal.returns-then-file-gt262144
returns-then-file-gt262144 c = file_long _ _ c.if-file-gt262144.true (rw c.clear.ensures (kept_none 51 0 c.args.performed.now))

pub returns-in_err-count : goal.returns-in_err-count
returns-in_err-count c =
    rw (err_same c.from_residual.ensures.1)
    (rows_refused _ _ c.if-file-gt262144.false c.answers_at-from.ensures (rw c.in_err-count.was at c.read_table.ensures) (rw c.clear.ensures (kept_none 50 _ c.args.performed.now)))

pub returns-in_err-given : goal.returns-in_err-given
returns-in_err-given c =
    let m = answers_misread c.answers_at-from.result _ _ (MatchResult-weaker c.read_table-2.result c.in_err-given.ensures.cases (λ x p. p) (λ e k. search rules)) in
    rw (err_same c.from_residual-in_err-given.ensures.1, m.2)
    (answers_refused _ _ c.if-file-gt262144.false c.answers_at-from.ensures (rw c.in_ok-count.was at c.read_table.ensures) (part_is c.args.file.now c.answers_at-from.result)
    (rw m.1 at c.read_table-2.ensures) (rw c.clear.ensures (kept_none 50 _ c.args.performed.now)))

-- more words than were lent
pub returns-in_err-rows : goal.returns-in_err-rows
returns-in_err-rows c =
    let few = part_few c.args.file.now c.answers_at-from.result in
    let s = rw (answers_read _ c.in_ok-given.ensures.cases) at c.read_table-2.ensures in
    let none = no_part _ _ _ c.get.ensures.lookup _ c.in_err-rows.ensures.value in
    rw (err_same c.from_residual-in_err-rows.ensures.1, none.0)
    (file_runs _ _ c.if-file-gt262144.false c.answers_at-from.ensures (rw c.in_ok-count.was at c.read_table.ensures) (part_is c.args.file.now c.answers_at-from.result)
    s (omega (arith, s.few, c.read_table-2.auto.words, c.zeros-answers.ensures, few, c.if-file-gt262144.false))
    (λ list h. words_too_many h _ _ (c.read_table.auto.words ∙ sym c.zeros-words.ensures) none.1 (rw c.clear.ensures (kept_none 62 0 c.args.performed.now))))

pub returns-in_err-run : goal.returns-in_err-run
returns-in_err-run c =
    let few = part_few c.args.file.now c.answers_at-from.result in
    let s = rw (answers_read _ c.in_ok-given.ensures.cases) at c.read_table-2.ensures in
    let part = part_held _ _ _ c.get.ensures.lookup _ c.in_ok-rows.ensures.value in
    rw (err_same c.from_residual-in_err-run.ensures.1)
    (file_runs _ _ c.if-file-gt262144.false c.answers_at-from.ensures (rw c.in_ok-count.was at c.read_table.ensures) (part_is c.args.file.now c.answers_at-from.result)
    s (omega (arith, s.few, c.read_table-2.auto.words, c.zeros-answers.ensures, few, c.if-file-gt262144.false))
    (λ list h. ap (λ (r : Result Run RunError). outcome_of r c.run_tree.new.performed) (sym c.in_err-run.was) ∙ words_run h _ _ part.0 (rw part.1 at c.run_tree.ensures)
    ∙ ap (λ (n : ℕ). run_of list (take c.in_ok-given.given c.read_table-2.new.words) n) (omega (arith, c.clear.auto.buffer))))

pub returns : goal.returns
returns c =
    let few = part_few c.args.file.now c.answers_at-from.result in
    let s = rw (answers_read _ c.in_ok-given.ensures.cases) at c.read_table-2.ensures in
    let part = part_held _ _ _ c.get.ensures.lookup _ c.in_ok-rows.ensures.value in
    file_runs _ _ c.if-file-gt262144.false c.answers_at-from.ensures (rw c.in_ok-count.was at c.read_table.ensures) (part_is c.args.file.now c.answers_at-from.result)
    s (omega (arith, s.few, c.read_table-2.auto.words, c.zeros-answers.ensures, few, c.if-file-gt262144.false))
    (λ list h. ap (λ (r : Result Run RunError). outcome_of r c.run_tree.new.performed) (sym c.in_ok-run.was) ∙ words_run h _ _ part.0 (rw part.1 at c.run_tree.ensures)
    ∙ ap (λ (n : ℕ). run_of list (take c.in_ok-given.given c.read_table-2.new.words) n) (omega (arith, c.clear.auto.buffer)))
