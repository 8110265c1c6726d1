-- `read_table` reads the words behind the line of names. A byte that is scanned keeps the invariant, with a word stored (`scan_keeps`) or without (`scan_on`).
-- Other names, a bad byte and a last line that is not whole are refused at their place; else the words are read (`scan_ends`).
use Rattle.std.proofs.Common.{rules}
use Rattle.std.proofs.lemmas.Result.{err_from_is_err_and}
use Rattle.tree_check.proofs.FileLaws.{names_end, names_refused, scanning_start, scan_refused, scan_on, scan_keeps, cut_short, scan_ends}
use Rattle.tree_check.proofs.file.read_table.Goals as goal
use Rattle.tree_check.proofs.file.read_table.Goals.{in-Some, in_default}

pub overflow_cast-result : goal.overflow_cast-result
overflow_cast-result c = let n = names_end c.args.columns.names.now c.args.file.now c.names_end-start.ensures in search rules

pub returns-then-start-columns : goal.returns-then-start-columns
returns-then-start-columns c = names_refused _ _ (names_end _ _ c.names_end-start.ensures) c.if-start-columns.true

pub loop-at-init : goal.loop-at-init
loop-at-init c = scanning_start _ _ _ (names_end _ _ c.names_end-start.ensures) c.if-start-columns.false

pub returns-in_err-next : goal.returns-in_err-next
returns-in_err-next c =
    let p = err_from_is_err_and c.from_residual.result c.from_residual.ensures.1 in
    rw (p.1, p.2, ← c.saturating_sub-last.ensures) (scan_refused _ _ _ c.loop-at.invariant c.loop-at-test.true c.step.ensures c.in_err-next.ensures.value)

pub loop-at-preserved : goal.loop-at-preserved
loop-at-preserved c =
    elim c.match-next.branch [
      | in-Some w ↦
          rw (w.words-is, w.count-is)
          (scan_keeps _ _ _ c.loop-at.invariant c.loop-at-test.true c.step.ensures _ c.in_ok-next.ensures.value w.in-Some.is w.put.ensures)
      | in_default w ↦ rw (w.words-is, w.count-is) (scan_on _ _ _ c.loop-at.invariant c.loop-at-test.true c.step.ensures _ c.in_ok-next.ensures.value w.in_default.is)
    ]

pub returns-then-is_some : goal.returns-then-is_some
returns-then-is_some c = rw (← c.saturating_sub-last.ensures) (cut_short _ _ _ c.loop-at.invariant c.loop-at-test.false c.is_some.ensures c.then-is_some.either)

pub returns : goal.returns
returns c = rw (← c.saturating_sub-last.ensures) (scan_ends _ _ _ c.loop-at.invariant c.loop-at-test.false c.is_some.ensures c.if-is_some.false c.if-scan-ne0.false)
