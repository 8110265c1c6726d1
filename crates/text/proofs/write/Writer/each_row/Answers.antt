use Rattle.std.proofs.Common.{refl, sym, ◌∙◌, ◌<◌, arith}
use Rattle.text.proofs.WriterLaws.{rows_more, rows_end, rows_absent, written_full}
use Rattle.text.proofs.write.Writer.each_row.Goals as goal

pub returns-then-stride-eq0 : goal.returns-then-stride-eq0
returns-then-stride-eq0 c = sym (rows_absent _ _ _ _ c.if-stride-eq0.true)

pub loop-row-init : goal.loop-row-init
loop-row-init c = rw (c.into_iter-row-iterator.ensures.into_iter_gives, c.chunks_exact-row-items.ensures.rest, c.chunks_exact-row-items.ensures.size) (refl, refl)

pub returns-then-is_none : goal.returns-then-is_none
returns-then-is_none c = let (_, I) = c.loop-row.invariant in sym (written_full _ _ c.if-is_none.ensures) ∙ I

pub loop-row-preserved : goal.loop-row-preserved
loop-row-preserved c =
    let (size, I) = c.loop-row.invariant in
    let step = c.in-Some.ensures.steps in
    let some : 0 < c.args.stride = omega (arith, c.if-stride-eq0.false) in
    (step.0 ∙ size, rw c.line.ensures (sym (rows_more _ _ _ _ _ some c.requires (step.1.1 ∙ size)) ∙ rw step.1.0 at I))

pub returns : goal.returns
returns c =
    let (size, I) = c.loop-row.invariant in
    let few = rw size at c.in-None.ensures.steps.1.0 in
    sym (rows_end _ _ _ _ few) ∙ I
