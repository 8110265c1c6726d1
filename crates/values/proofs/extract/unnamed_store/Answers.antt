use Rattle.values.proofs.ExtractLaws.{stores_unnamed, other_stores}
use Rattle.values.proofs.extract.unnamed_store.Goals as goal

pub returns-in-StoreLocal : goal.returns-in-StoreLocal
returns-in-StoreLocal c = rw (c.in-StoreLocal.is, c.then_some.ensures) (stores_unnamed c.args.table.promise (rw c.in-StoreLocal.is at c.requires) c.identifier.ensures c.is_named-unnamed.ensures)

pub returns-in_default : goal.returns-in_default
returns-in_default c = other_stores _ c.args.operation c.in_default.not-StoreLocal
