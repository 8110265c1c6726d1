use Rattle.text.proofs.WriteLaws.{printed_refused, printed_accepted}
use Rattle.text.proofs.WriterLaws.{written_append}
use Rattle.text.proofs.write.write_result.Goals as goal

pub returns-then-code-ne0 : goal.returns-then-code-ne0
returns-then-code-ne0 c = rw (printed_refused _ _ _ _ c.args.tree.now c.if-code-ne0.true, written_append, c.line.ensures, c.bytes.ensures)

pub returns : goal.returns
returns c =
    rw (printed_accepted _ _ _ _ c.args.tree.now c.if-code-ne0.false, written_append, written_append, written_append, ← c.bytes.ensures, ← c.line.ensures, ← c.bytes-2.ensures)
    c.rows.ensures
