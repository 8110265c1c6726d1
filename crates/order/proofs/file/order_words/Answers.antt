-- `order_words` writes `ordered_text`: the rearranged table's text where the check accepts (`accepted_printed`), else its refusal (`refused_printed`).
-- A refusal's code is not 0 (`refused_some`), as `write_refusal` asks.
use Rattle.std.proofs.Common.{refl, arith}
use Rattle.text.proofs.PrintsLaws.{written_as}
use Rattle.order.proofs.OrderedLaws.{accepted_printed, refused_printed, refused_some}
use Rattle.order.proofs.file.order_words.Goals as goal

pub order_table-requires : goal.order_table-requires
order_table-requires c = rw c.in-Ok.ensures.same c.requires

pub returns-in-Ok : goal.returns-in-Ok
returns-in-Ok c = accepted_printed _ c.in-Ok.ensures.verdict (rw c.in-Ok.ensures.same at c.order_table.ensures)

pub write_refusal-requires : goal.write_refusal-requires
write_refusal-requires c = refused_some c.in-Err.refusal

pub returns-in-Err : goal.returns-in-Err
returns-in-Err c = refused_printed _ c.in-Err.ensures.verdict (written_as refl (omega arith) c.write_refusal.ensures)
