-- A test of every block and of some block, asked block by block; and conditions one after the other.
use mathlib.Core.Path.{◌≡◌, refl, ◌∙◌, ap}
use Prim.Native.Nat.{ℕ, suc, ◌<◌, ◌+◌}
use native.Mathlib.Omega.{arith}
use mathlib.Core.List.{List, [], ◌∷◌}
use mathlib.Core.Bool.{Bool}
use lib.ListN.{length, get_or}
use Rattle.std.specs.List.{range_with_len, list_all, list_any}
use Rattle.table.specs.Words.{block_count}
use Rattle.table.specs.Table.{Block, no_block, Terminal, table_of, terminal_at}
use Rattle.table.proofs.TableLaws.{length_blocks}
use Rattle.definition.specs.PlainTest.{every_of, some_of}

-- from the block k on
every_from : (bs : List Block) (p : ℕ → Terminal → Bool) (k : ℕ) (q : ℕ → Bool) → ((c : ℕ) → c < length bs → q (k + c) ≡ p c (get_or bs c no_block).terminal)
    → list_all q (range_with_len k (length bs)) ≡ every_of bs p
every_from [] p k q h = refl
every_from (b ∷ bs) p k q h =
    let first : q k ≡ p 0 b.terminal = ap q (omega arith) ∙ h 0 (omega arith) in
    let rest = every_from bs (λ n. p (suc n)) (k + 1) q (λ c l. ap q (omega arith) ∙ h (suc c) (omega arith)) in
    rw (first, rest) refl

some_from : (bs : List Block) (p : ℕ → Terminal → Bool) (k : ℕ) (q : ℕ → Bool) → ((c : ℕ) → c < length bs → q (k + c) ≡ p c (get_or bs c no_block).terminal)
    → list_any q (range_with_len k (length bs)) ≡ some_of bs p
some_from [] p k q h = refl
some_from (b ∷ bs) p k q h =
    let first : q k ≡ p 0 b.terminal = ap q (omega arith) ∙ h 0 (omega arith) in
    let rest = some_from bs (λ n. p (suc n)) (k + 1) q (λ c l. ap q (omega arith) ∙ h (suc c) (omega arith)) in
    rw (first, rest) refl

module _ (ws : List ℕ) (p : ℕ → Terminal → Bool) where
  -- what is asked of a block by its number
  abbrev pub asked : ℕ → Bool
  asked b = p b (terminal_at (table_of ws) b)

  pub every_block : {n : ℕ} → n ≡ block_count ws → list_all asked (range_with_len 0 n) ≡ every_of (table_of ws).blocks p
  every_block e = rw (e, ← (length_blocks ws)) (every_from (table_of ws).blocks p 0 asked (λ c l. ap asked (omega arith)))

  pub some_block : {n : ℕ} → n ≡ block_count ws → list_any asked (range_with_len 0 n) ≡ some_of (table_of ws).blocks p
  some_block e = rw (e, ← (length_blocks ws)) (some_from (table_of ws).blocks p 0 asked (λ c l. ap asked (omega arith)))
