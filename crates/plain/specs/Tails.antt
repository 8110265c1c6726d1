-- What the conditions ask of the last of some instruction rows.
use Rattle.std.specs.Prelude.{◌≡◌, ℕ, List, Bool, true, false, eqb}
use Rattle.table.specs.Table.{Table, Instruction}
use Rattle.definition.specs.Value.{stored_to_named, same_identifier, loaded_by}
use Rattle.definition.specs.Plain.{is_store, ends_in_store}
use Rattle.definition.specs.PlainLoops.{ends_in_unnamed, ends_in_own_load}
use Rattle.plain.specs.declared.tail.Tail.{Tail}
use Rattle.plain.specs.declared.tail.Tail.TheVariants.{Other, Load, Store}

-- it is a StoreLocal; it is one to an unnamed identifier; it is a LoadLocal of its own lvalue's identifier
abbrev pub stores : Tail → Bool
stores Other = false
stores (Load _) = false
stores (Store _) = true

abbrev pub stores_unnamed : Tail → Bool
stores_unnamed Other = false
stores_unnamed (Load _) = false
stores_unnamed (Store unnamed) = unnamed

abbrev pub loads_own : Tail → Bool
loads_own Other = false
loads_own (Load own) = own
loads_own (Store _) = false

pub record IsTail (t : Table) (instruction : Instruction) (tail : Tail) : Type 0 where
  pub store : stores tail ≡ is_store instruction.operation
  pub unnamed : stores_unnamed tail ≡ eqb (stored_to_named t instruction.operation) 0
  pub own : loads_own tail ≡ same_identifier t instruction.lvalue (loaded_by instruction.operation)

pub record EndsIn (t : Table) (rows : List ℕ) (tail : Tail) : Type 0 where
  pub store : stores tail ≡ ends_in_store t rows
  pub unnamed : stores_unnamed tail ≡ ends_in_unnamed t rows
  pub own : loads_own tail ≡ ends_in_own_load t rows
