-- `apart_in` gives the place of the first span whose two ends differ, or none. A row whose ends agree leaves the answer to the rows behind it (`row_agrees`);
-- a row whose ends differ has the answer (`row_apart`); where no row is left, there is none (`rows_agree`).
use Rattle.std.proofs.Common.{refl, sym, ◌∙◌, arith}
use Rattle.std.proofs.lemmas.List.{length-append}
use Rattle.convert.proofs.SpanLaws.{row_agrees, row_apart, rows_agree}
use Rattle.convert.proofs.spans.apart_in.Goals as goal

pub loop-row-init : goal.loop-row-init
loop-row-init c = rw (c.into_iter-row-iterator.ensures.into_iter_gives, c.chunks_exact-row-items.ensures.rest, c.chunks_exact-row-items.ensures.size) (refl, (refl, refl))

pub loop-row-preserved : goal.loop-row-preserved
loop-row-preserved c =
    let (size, (long, I)) = c.loop-row.invariant in
    let step = c.in-Some.ensures.steps in
    let row = step.1.1 ∙ size in
    (step.0 ∙ size, (omega (arith, rw (step.1.0, length-append) at long, row), sym (row_agrees _ _ _ _ c.requires.le_width row c.if-row-width.false) ∙ rw step.1.0 at I))

pub returns-then-row-width : goal.returns-then-row-width
returns-then-row-width c =
    let (size, (long, I)) = c.loop-row.invariant in
    let step = c.in-Some.ensures.steps in
    sym (row_apart _ _ _ _ c.requires.le_width (step.1.1 ∙ size) c.if-row-width.true) ∙ rw step.1.0 at I

pub returns : goal.returns
returns c =
    let (size, (long, I)) = c.loop-row.invariant in
    sym (rows_agree _ _ _ (rw size at c.in-None.ensures.steps.1.0)) ∙ I
