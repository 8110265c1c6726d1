-- The invariant: k columns of the row have been written.
use Rattle.std.proofs.Common.{ℕ, ◌≡◌, ◌<◌, get_or, length}
use Rattle.renaming.specs.Renaming.{renamed_block_row}
use Rattle.order.specs.Write.{number_in}
use Rattle.order.proofs.write.write_row.Given as goal

abbrev pub invariant-loop-k : goal.invariant-loop-k
invariant-loop-k l = (length l.row ≡ 11) × ((j : ℕ) → j < l.k → get_or l.row j 0 ≡ get_or (renamed_block_row (number_in l.names) l.table.words.now l.block) j 0)
