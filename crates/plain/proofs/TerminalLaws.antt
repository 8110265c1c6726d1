-- A block beyond the table is absent.
use Rattle.std.proofs.Common.{◌≡◌, ℕ, ◌≤◌, List, ap, arith}
use lib.ListN.{get_or-eq_default}
use Rattle.table.specs.Words.{block_count}
use Rattle.table.specs.Table.{Block, no_block, absent, table_of, block_at}
use Rattle.table.specs.Promise.{Promise, Ends}
use Rattle.table.proofs.TableLaws.{length_blocks}

pub beyond_block : {ws : List ℕ} → Promise ws → (b : ℕ) → block_count ws ≤ b → block_at (table_of ws) b ≡ no_block
beyond_block {ws} _ b h = get_or-eq_default (table_of ws).blocks no_block (omega (arith, length_blocks ws, h))

pub beyond_ends : {ws : List ℕ} → Promise ws → (b : ℕ) → block_count ws ≤ b → Ends ws b absent
beyond_ends p b h = record { few = p.sized.limited.blocks; is = ap (λ (k : Block). k.terminal) (beyond_block p b h); named = tt }
