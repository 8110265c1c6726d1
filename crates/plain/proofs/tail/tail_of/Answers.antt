use Rattle.plain.proofs.TailLaws.{tail_other, tail_load, tail_store}
use Rattle.plain.proofs.tail.tail_of.Goals as goal

pub returns-in-Other : goal.returns-in-Other
returns-in-Other c = tail_other (rw c.in-Other.is at c.operation.ensures)

pub returns-in-LoadLocal : goal.returns-in-LoadLocal
returns-in-LoadLocal c = tail_load c.instruction-head.ensures (rw c.in-LoadLocal.is at c.operation.ensures) c.identifier.ensures c.identifier-in-LoadLocal.ensures

pub returns-in-StoreLocal : goal.returns-in-StoreLocal
returns-in-StoreLocal c =
    tail_store c.args.table.promise (rw c.in-StoreLocal.is at c.operation.ensures) c.identifier-identifier.ensures c.is_named.ensures
