-- A block's terminal, as `Table::terminal` and `Table::is_absent` (src/terminals.rt) read it.
use mathlib.Core.Path.{◌≡◌, sym, ap, subst, ◌∙◌}
use mathlib.Core.List.{List}
use Prim.Native.Nat.{ℕ, ◌<◌}
use lib.Dec.{eqb}
use Rattle.table.specs.Words.{block_count, place_count, case_count, block_word, code_at}
use Rattle.table.specs.Table.{Terminal, terminal_of, terminal_at, table_of, is_absent}
use Rattle.table.specs.Promise.{Promise, InRange, Ends}
use Rattle.table.proofs.RangeLaws.{in_range_lem}
use Rattle.table.proofs.BlockLaws.{end_at, code_at_lem}

module _ {ws : List ℕ} {row : ℕ} (p : Promise ws) (inside : row < block_count ws) where
  -- what the columns make of a code is the block's terminal
  pub ends_by : {end : Terminal} {code a b c d e : ℕ} → end ≡ terminal_of code a b c d e → code ≡ block_word ws row 2 → a ≡ block_word ws row 3 → b ≡ block_word ws row 4
      → c ≡ block_word ws row 5 → d ≡ block_word ws row 6 → e ≡ block_word ws row 7 → Ends ws row end
  ends_by made ecode ea eb ec ed ee =
      let q = end_at ws row inside ∙ sym (rw (ecode, ea, eb, ec, ed, ee) at made) in
      record { few = p.sized.limited.blocks; is = q; named = subst (InRange (block_count ws) (place_count ws) (case_count ws)) q (in_range_lem ws p row inside) }

  pub absent_by : {code : ℕ} → code ≡ code_at ws row → eqb code 0 ≡ is_absent (terminal_at (table_of ws) row)
  absent_by known = ap (λ (k : ℕ). eqb k 0) (known ∙ sym (code_at_lem ws row p inside))
