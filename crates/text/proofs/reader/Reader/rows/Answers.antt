-- `rows` reads `lines` lines. A line's stop is the answer; a line that was read is one more (`rows_open`); after the last line the form goes on (`rows_done`).
use Rattle.std.proofs.Common.{refl, ◌∙◌, [], ◌++◌}
use Rattle.std.proofs.lemmas.Result.{err_from_is_err_and}
use mathlib.Core.List.{append-nil, append_assoc}
use native.Mathlib.Nat.{sub-zero}
use Rattle.text.proofs.PartLaws.{rows_open, rows_done}
use Rattle.text.proofs.reader.Reader.rows.Goals as goal

pub loop-init : goal.loop-init
loop-init c = record { file = refl; lent = refl; here = λ root before next h. ([], rw (append-nil before, sub-zero c.args.lines) h) }

pub returns-in_err-row-clause-read : goal.returns-in_err-row-clause-read
returns-in_err-row-clause-read c =
    let p = err_from_is_err_and c.from_residual.result c.from_residual.ensures.1 in
    let I = c.loop.invariant in
    rw (p.1, p.2) (λ root before next h.
    let (new, a) = I.here root before next h in
    rw (← I.file) (c.in_err-row.ensures.read root (before ++ new) _ (rw (rows_open _ _ c.loop.counter next c.loop-test.true) at a)))

pub loop-preserved : goal.loop-preserved
loop-preserved c =
    let I = c.loop.invariant in
    let R = c.in_ok-row.ensures in
    record {
      file = R.file ∙ I.file;
      lent = R.lent ∙ I.lent;
      here = λ root before next h.
          let (new, a) = I.here root before next h in
          let e = R.read.reached root (before ++ new) _ (rw (rows_open _ _ c.loop.counter next c.loop-test.true) at a) in
          (new ++ e.numbers, rw (append_assoc before new e.numbers) at e.at);
    }

pub returns-clause-read : goal.returns-clause-read
returns-clause-read c =
    let I = c.loop.invariant in
    record { reached = λ root before next h. rw (rows_done _ _ c.loop.counter next c.loop-test.false) at (I.here root before next h) }
